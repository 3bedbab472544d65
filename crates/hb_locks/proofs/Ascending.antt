-- The modes in which a transaction holds its paths, gathered path by path, and as locks that ascend.
use Rattle.std.proofs.Common.{◌≡◌, ◌<◌, ◌+◌, ℕ, Bool, true, false, cond, if◌then◌else◌, List, [], ◌∷◌, ◌++◌, Some, None, Option, refl, ap, sym, ◌∙◌, map, take, get_or, length, is_some}
use Rattle.std.specs.Prelude.{◌||◌, IfOk, Result, Ok, Err}
use Rattle.std.specs.Option.{option_map, option_or}
use Rattle.std.specs.List.{find, AllByRecursion}
use Rattle.std.specs.List.Sorted.{IsStrictlySortedBy}
use Rattle.std.specs.Map.{keys_of, lookup}
use Rattle.std.specs.BTreeMap.{is_at}
use Rattle.std.specs.declared.cmp.Ordering.TheVariants.{Less}
use Rattle.std.proofs.lemmas.Bool.{true≢false}
use Rattle.std.proofs.lemmas.List.Folds.{list_any-append}
use Rattle.std.proofs.lemmas.List.{take_more}
use Rattle.hb_types.specs.declared.lock.Held.{Held}
use Rattle.hb_types.specs.declared.lock.Mode.{Mode}
use Rattle.hb_types.specs.declared.names.Tx.{Tx}
use Rattle.hb_types.specs.declared.places.Path.{Path}
use Rattle.hb_types.specs.declared.places.Path.TheVariants.{Whole, Group, Key}
use Rattle.hb_types.specs.Lists.{Ascends}
use Rattle.hb_types.specs.Places.{path_cmp, same_path}
use Rattle.hb_locks.specs.Index.{has_path, holds}
use Rattle.hb_locks.specs.Locks.{Locks, held_as, held_at, holders_at, lock_cmp, mode_at}
use Rattle.hb_locks.proofs.Lists.{is_some-mode_of}
use Rattle.hb_locks.proofs.Order.{lookup_is, order, order_is, same_path-eq}

-- a mode for each path
abbrev pub Modes : Type 0
Modes = List (Path × Mode)

abbrev pub lock_of : Path × Mode → Held
lock_of e = held_as e.0 e.1

-- ---- as locks

order-cmp : (p q : Path) → order p q ≡ path_cmp p q
order-cmp (Whole s) (Whole t) = refl
order-cmp (Whole s) (Group t h) = refl
order-cmp (Whole s) (Key q) = refl
order-cmp (Group s g) (Whole t) = refl
order-cmp (Group s g) (Group t h) = refl
order-cmp (Group s g) (Key q) = refl
order-cmp (Key p) (Whole t) = refl
order-cmp (Key p) (Group t h) = refl
order-cmp (Key p) (Key q) = refl

ascends-cons : (e : Path × Mode) (es : Modes) → AllByRecursion (λ q. order e.0 q ≡ Less) (keys_of es) → Ascends lock_cmp (map lock_of es) → Ascends lock_cmp (lock_of e ∷ map lock_of es)
ascends-cons e [] all up = tt
ascends-cons e (f ∷ fs) all up = (sym (order-cmp e.0 f.0) ∙ all.0, up)

pub locks-ascend : (es : Modes) → IsStrictlySortedBy order (keys_of es) → Ascends lock_cmp (map lock_of es)
unfolding IsStrictlySortedBy
locks-ascend [] sorted = tt
locks-ascend (e ∷ es) sorted = ascends-cons e es sorted.0 (locks-ascend es sorted.1)

pub mode_at-locks : (es : Modes) (q : Path) → mode_at (map lock_of es) q ≡ lookup (same_path q) es
mode_at-locks [] q = refl
mode_at-locks (e ∷ es) q = by (same_path q e.0) (mode_at-locks es q)
  where
    by : (b : Bool) → mode_at (map lock_of es) q ≡ lookup (same_path q) es
        → option_map (λ h. h.mode) (cond b (Some (lock_of e)) (find (λ h. same_path q h.path) (map lock_of es))) ≡ cond b (Some e.1) (lookup (same_path q) es)
    by true rest = refl
    by false rest = rest

-- ---- path by path

-- a map in which one path has this mode
pub kept : (old new : Modes) (path : Path) (m : Mode) (q : Path) → lookup (is_at (order q)) new ≡ cond (is_at (order path) q) (Some m) (lookup (is_at (order q)) old)
    → lookup (same_path q) new ≡ (if same_path path q then Some m else lookup (same_path q) old)
kept old new path m q e =
    sym (lookup_is new q) ∙ e ∙ ap (λ t. cond t (Some m) (lookup (is_at (order q)) old)) (order_is path q)
    ∙ ap (cond (same_path path q) (Some m)) (lookup_is old q)

pub unkept : (b : Bool) (o : Option Mode) → o ≡ (if b then option_or None o else o)
unkept true o = refl
unkept false o = refl

-- one more path
pub mode_more : (locks : Locks) (old new : Modes) (ps : List Path) (i : ℕ) (d p : Path) (tx : Tx) (mode : Option Mode) → i < length ps → p ≡ get_or ps i d → mode ≡ held_at locks tx p
    → ((q : Path) → lookup (same_path q) old ≡ (if has_path (take i ps) q then held_at locks tx q else None))
    → ((q : Path) → lookup (same_path q) new ≡ (if same_path p q then option_or mode (lookup (same_path q) old) else lookup (same_path q) old))
    → (q : Path) → lookup (same_path q) new ≡ (if has_path (take (i + 1) ps) q then held_at locks tx q else None)
mode_more locks old new ps i d p tx mode within at is before after q =
    let more : has_path (take (i + 1) ps) q ≡ (has_path (take i ps) q || (same_path p q || false)) =
    ap (λ xs. has_path xs q) (take_more ps i d within ∙ ap (λ r. take i ps ++ r ∷ []) (sym at)) ∙ list_any-append (λ r. same_path r q) (take i ps) (p ∷ []) in
    after q ∙ ap (λ o. if same_path p q then option_or mode o else o) (before q) ∙ by (same_path p q) (has_path (take i ps) q) refl
    ∙ sym (ap (λ t. if t then held_at locks tx q else None) more)
  where
    same : (b : Bool) (o : Option Mode) → option_or o (if b then o else None) ≡ (if b || (true || false) then o else None)
    same true (Some m) = refl
    same true None = refl
    same false (Some m) = refl
    same false None = refl

    by : (a b : Bool) → same_path p q ≡ a → (if a then option_or mode (if b then held_at locks tx q else None) else (if b then held_at locks tx q else None)) ≡ (if b || (a || false) then held_at locks tx q else None)
    by true b e = ap (λ o. option_or o (if b then held_at locks tx q else None)) (is ∙ ap (held_at locks tx) (same_path-eq p q e)) ∙ same b (held_at locks tx q)
    by false true e = refl
    by false false e = refl

-- the paths that are kept for a transaction are all that it holds
pub all_kept : (locks : Locks) (ps : List Path) (tx : Tx) (q : Path) → (holds tx (holders_at locks q) ≡ true → has_path ps q ≡ true) → (if has_path ps q then held_at locks tx q else None) ≡ held_at locks tx q
all_kept locks ps tx q kept = by (has_path ps q) (held_at locks tx q) refl (λ e. kept (sym (is_some-mode_of tx (holders_at locks q)) ∙ e))
  where
    by : (b : Bool) (o : Option Mode) → has_path ps q ≡ b → (is_some o ≡ true → has_path ps q ≡ true) → (if b then o else None) ≡ o
    by true o e k = refl
    by false None e k = refl
    by false (Some m) e k = absurd (true≢false (sym (k refl) ∙ e))

-- ---- of a value, if there is one

pub if_ok_to : {T E : Type 0} (r : Result T E) (P Q : T → Type 0) → ((x : T) → P x → Q x) → IfOk r P → IfOk r Q
if_ok_to (Ok x) P Q f h = f x h
if_ok_to (Err e) P Q f h = tt
