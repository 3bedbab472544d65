-- Which lock a list by ascending path has on a path, and what covers it.
use Rattle.std.proofs.Common.{◌≡◌, Bool, true, false, cond, refl, sym, ◌∙◌, ap, subst, List, [], ◌∷◌, inl, inr, Option, Some, None}
use Rattle.std.specs.Prelude.{◌&&◌, ◌||◌, IsTrue}
use Rattle.std.specs.List.{find, list_any}
use Rattle.std.specs.Option.{option_map}
use Rattle.std.specs.Ordering.{is_eq}
use Rattle.std.specs.declared.cmp.Ordering.{Ordering}
use Rattle.std.specs.declared.cmp.Ordering.TheVariants.{Less, Equal}
use Rattle.std.specs.Cmp.{IsTotalOrder}
use Rattle.std.proofs.lemmas.Bool.{and_parts, and_from, true≢false, false≢true, or_cases}
use Rattle.hb_types.specs.declared.lock.Held.{Held}
use Rattle.hb_types.specs.declared.lock.Mode.{Mode}
use Rattle.hb_types.specs.declared.names.Tx.{Tx}
use Rattle.hb_types.specs.declared.places.Path.{Path}
use Rattle.hb_types.specs.declared.places.Path.TheVariants.{Whole, Group, Key}
use Rattle.hb_types.specs.Lists.{Ascends, Each, Has, IsIn}
use Rattle.hb_types.specs.Modes.{covers}
use Rattle.hb_types.specs.Places.{path_cmp, same_path}
use Rattle.hb_types.proofs.Ascending.{Ascends-tail, Ascends-first}
use Rattle.hb_types.proofs.PutLaws.{by_test}
use Rattle.hb_disks.specs.LogRules.{IsHeld}
use Rattle.hb_locks.specs.Locks.{Locks, held_at, lock_cmp, mode_at}
use Rattle.hb_locks.proofs.Order.{order, order_is, same_path-eq, same_path-refl}
use Rattle.hb_types.specs.contracts.places.PathOrd.TheImpl.Laws.{total-law}
use Rattle.std.proofs.lemmas.Cmp.{on_total}
use Rattle.hb_engine.specs.Covers.{is_as_strong, is_covered_at}

order-cmp : (p q : Path) → order p q ≡ path_cmp p q
order-cmp (Whole s) (Whole t) = refl
order-cmp (Whole s) (Group t h) = refl
order-cmp (Whole s) (Key q) = refl
order-cmp (Group s g) (Whole t) = refl
order-cmp (Group s g) (Group t h) = refl
order-cmp (Group s g) (Key q) = refl
order-cmp (Key p) (Whole t) = refl
order-cmp (Key p) (Group t h) = refl
order-cmp (Key p) (Key q) = refl

pub path_total : IsTotalOrder path_cmp
path_total = subst (λ (f : Path → Path → Ordering). IsTotalOrder f) (λ i p q. order-cmp p q i) total-law

pub lock_total : IsTotalOrder lock_cmp
lock_total = on_total (λ (l : Held). l.path) path_total

pub path_apart : (p q : Path) → path_cmp p q ≡ Less → same_path p q ≡ false
path_apart p q less = sym (order_is p q) ∙ ap is_eq (order-cmp p q ∙ less)

pub path_apart_back : (p q : Path) → path_cmp p q ≡ Less → same_path q p ≡ false
path_apart_back p q less =
    by_test (same_path q p)
    (λ t. absurd (true≢false (sym (same_path-refl p) ∙ ap (same_path p) (sym (same_path-eq q p t)) ∙ path_apart p q less)))
    (λ f. f)

pub same_path-sym : (p q : Path) → same_path p q ≡ true → same_path q p ≡ true
same_path-sym p q t = ap (same_path q) (same_path-eq p q t) ∙ same_path-refl q

is_equal : (o : Ordering) → o ≡ Equal → is_eq o ≡ true
is_equal o e = ap is_eq e

pub path_equal : (p q : Path) → path_cmp p q ≡ Equal → same_path q p ≡ true
path_equal p q e = same_path-sym p q (sym (order_is p q) ∙ is_equal (order p q) (order-cmp p q ∙ e))

each_in : {A : Type 0} (P : A → Type 0) (x : A) (xs : List A) → IsIn x xs → Each P xs → P x
each_in P x [] h e = absurd h
each_in P x (y ∷ ys) (inl q) e = subst P q e.0
each_in P x (y ∷ ys) (inr h) e = each_in P x ys h e.1

-- ---- the mode on a path

mode_first : (q : Path) (x : Held) (xs : List Held) → same_path q x.path ≡ true → mode_at (x ∷ xs) q ≡ Some x.mode
mode_first q x xs t = ap (λ b. option_map (λ (h : Held). h.mode) (cond b (Some x) (find (λ h. same_path q h.path) xs))) t

mode_skip : (q : Path) (x : Held) (xs : List Held) → same_path q x.path ≡ false → mode_at (x ∷ xs) q ≡ mode_at xs q
mode_skip q x xs f = ap (λ b. option_map (λ (h : Held). h.mode) (cond b (Some x) (find (λ h. same_path q h.path) xs))) f

pub mode_at-in : (q : Path) (l : Held) (ls : List Held) → Ascends lock_cmp ls → IsIn l ls → same_path q l.path ≡ true → mode_at ls q ≡ Some l.mode
mode_at-in q l [] a h t = absurd h
mode_at-in q l (x ∷ xs) a (inl e) t =
    mode_first q x xs (ap (λ (z : Held). same_path q z.path) e ∙ t) ∙ ap (λ (z : Held). Some z.mode) e
mode_at-in q l (x ∷ xs) a (inr h) t =
    let less : path_cmp x.path l.path ≡ Less = each_in (λ (y : Held). lock_cmp x y ≡ Less) l xs h (Ascends-first lock_cmp lock_total x xs a) in
    let other : same_path q x.path ≡ false = ap (λ z. same_path z x.path) (same_path-eq q l.path t) ∙ path_apart_back x.path l.path less in
    mode_skip q x xs other ∙ mode_at-in q l xs (Ascends-tail lock_cmp lock_total x xs a) h t

none_some : (m : Mode) → ◌≡◌ {A = Option Mode} None (Some m) → ⊥
none_some m e = cc

some_same : (a b : Mode) → ◌≡◌ {A = Option Mode} (Some a) (Some b) → a ≡ b
some_same a b e = cc

pub record FoundAt (q : Path) (m : Mode) (ls : List Held) : Type 0 where
  pub lock : Held
  pub within : IsIn lock ls
  pub there : same_path q lock.path ≡ true
  pub of_mode : lock.mode ≡ m

pub mode_at-found : (q : Path) (m : Mode) (ls : List Held) → mode_at ls q ≡ Some m → FoundAt q m ls
mode_at-found q m [] e = absurd (none_some m e)
mode_at-found q m (x ∷ xs) e =
    by_test (same_path q x.path)
    (λ t. record { lock = x; within = inl refl; there = t; of_mode = some_same x.mode m (sym (mode_first q x xs t) ∙ e) })
    (λ f. let r = mode_at-found q m xs (sym (mode_skip q x xs f) ∙ e) in record { lock = r.lock; within = inr r.within; there = r.there; of_mode = r.of_mode })

in_has : {A : Type 0} (P : A → Type 0) (x : A) (xs : List A) → IsIn x xs → P x → Has P xs
in_has P x [] h p = absurd h
in_has P x (y ∷ ys) (inl e) p = inl (subst P (sym e) p)
in_has P x (y ∷ ys) (inr h) p = inr (in_has P x ys h p)

has_in : {A : Type 0} (P : A → Type 0) (xs : List A) → Has P xs → (x : A) × IsIn x xs × P x
has_in P [] h = absurd h
has_in P (x ∷ xs) (inl p) = (x, inl refl, p)
has_in P (x ∷ xs) (inr h) = let r = has_in P xs h in (r.0, inr r.1, r.2)

-- ---- what is held

pub held_from : (q : Path) (m : Mode) (ls : List Held) → is_as_strong m (mode_at ls q) ≡ true → IsHeld ls m q
held_from q m ls t = by (mode_at ls q) refl
  where
    by : (o : Option Mode) → mode_at ls q ≡ o → IsHeld ls m q
    by None e = absurd (true≢false (sym t ∙ ap (is_as_strong m) e))
    by (Some h) e =
        let r = mode_at-found q h ls e in
        let strong : covers r.lock.mode m ≡ true = ap (λ z. covers z m) r.of_mode ∙ sym (ap (is_as_strong m) e) ∙ t in
        in_has (λ (l : Held). IsTrue (same_path l.path q && covers l.mode m)) r.lock ls r.within (and_from (same_path r.lock.path q) (covers r.lock.mode m) (same_path-sym q r.lock.path r.there) strong)

pub held_to : (q : Path) (m : Mode) (ls : List Held) → Ascends lock_cmp ls → IsHeld ls m q → is_as_strong m (mode_at ls q) ≡ true
held_to q m ls a h =
    let r = has_in (λ (l : Held). IsTrue (same_path l.path q && covers l.mode m)) ls h in
    let parts = and_parts (same_path r.0.path q) (covers r.0.mode m) r.2 in
    ap (is_as_strong m) (mode_at-in q r.0 ls a r.1 (same_path-sym r.0.path q parts.0)) ∙ parts.1

-- ---- what is covered

pub any_held : (locks : Locks) (tx : Tx) (m : Mode) (ls : List Held) (ps : List Path) → ((q : Path) → held_at locks tx q ≡ mode_at ls q)
    → list_any (is_covered_at locks tx m) ps ≡ true → Has (λ p. IsHeld ls m p) ps
any_held locks tx m ls [] same t = absurd (false≢true t)
any_held locks tx m ls (p ∷ ps) same t = elim (or_cases (is_covered_at locks tx m p) (list_any (is_covered_at locks tx m) ps) t) [
  | inl here ↦ inl (held_from p m ls (sym (ap (is_as_strong m) (same p)) ∙ here))
  | inr rest ↦ inr (any_held locks tx m ls ps same rest)
]

pub none_held : (locks : Locks) (tx : Tx) (m : Mode) (ls : List Held) (ps : List Path) → ((q : Path) → held_at locks tx q ≡ mode_at ls q) → Ascends lock_cmp ls
    → list_any (is_covered_at locks tx m) ps ≡ false → Has (λ p. IsHeld ls m p) ps → ⊥
none_held locks tx m ls [] same a f h = absurd h
none_held locks tx m ls (p ∷ ps) same a f h = by (is_covered_at locks tx m p) refl (none_held locks tx m ls ps same a) h
  where
    by : (b : Bool) → is_covered_at locks tx m p ≡ b → (list_any (is_covered_at locks tx m) ps ≡ false → Has (λ p. IsHeld ls m p) ps → ⊥) → Has (λ p. IsHeld ls m p) (p ∷ ps) → ⊥
    by true t g h = absurd (true≢false (sym (ap (λ b. b || list_any (is_covered_at locks tx m) ps) t) ∙ f))
    by false n g (inl here) = true≢false (sym (ap (is_as_strong m) (same p) ∙ held_to p m ls a here) ∙ n)
    by false n g (inr rest) = g (sym (ap (λ b. b || list_any (is_covered_at locks tx m) ps) n) ∙ f) rest
