-- The locks of a branch in doubt, taken one after another.
use Rattle.std.proofs.Common.{◌≡◌, ◌≢◌, ℕ, ◌+◌, ◌<◌, length, take, drop, get_or, Bool, true, false, refl, sym, ◌∙◌, ap, subst, cond, List, [], ◌∷◌, ◌++◌, inl, inr, if◌then◌else◌, ◌⊎◌, Option, Some, None}
use Rattle.std.specs.Prelude.{◌&&◌, IsTrue, IsSomeAnd}
use Rattle.std.specs.List.{find, list_all}
use Rattle.std.specs.Option.{option_map}
use Rattle.std.specs.declared.cmp.Ordering.TheVariants.{Less}
use Rattle.std.proofs.lemmas.Bool.{and_parts, and_from, true≢false, false≢true}
use Rattle.hb_types.specs.declared.lock.Held.{Held}
use Rattle.hb_types.specs.declared.lock.Holder.{Holder}
use Rattle.hb_types.specs.declared.lock.Mode.{Mode}
use Rattle.hb_types.specs.declared.names.Tx.{Tx}
use Rattle.hb_types.specs.declared.places.Path.{Path}
use Rattle.hb_types.specs.declared.places.Path.TheVariants.{Whole, Group, Key}
use Rattle.hb_types.specs.Lists.{Ascends, Each, Has, IsIn}
use Rattle.hb_types.specs.Modes.{covers}
use Rattle.hb_types.specs.Places.{path_cmp, same_path, ancestors, intention}
use Rattle.hb_types.proofs.Ascending.{Ascends-tail, Ascends-first, Each-append, Each-of, Has-front, Has-back, in_Each, irreflexive, asymmetric}
use Rattle.hb_types.proofs.PutLaws.{by_test}
use Rattle.hb_disks.specs.LogRules.{IsHeld, HasAncestors, AreClosed}
use Rattle.hb_locks.specs.Locks.{Locks, IsCompatible, blockers, granted, held_at, holders_at, lock_cmp, mode_at, mode_of, wanted_of}
use Rattle.hb_locks.specs.Takes.{wanted_at}
use Rattle.hb_locks.proofs.Order.{same_path-eq}
use Rattle.hb_engine.specs.Climbs.{Grants}
use Rattle.hb_engine.specs.Covers.{is_as_strong, is_covered_at}
use Rattle.hb_engine.specs.Restores.{Taken, TakesOne, TakesAll, holds_above}
use Rattle.std.proofs.lemmas.List.{get_or_default}
use Rattle.hb_engine.proofs.Branches.{in_has}
use Rattle.hb_engine.proofs.Covering.{held_from, held_to, lock_total, path_total, path_apart_back, same_path-sym}
use Rattle.hb_engine.proofs.Refilling.{next_taken, split_there}
use Rattle.hb_engine.proofs.Granting.{mode_of-granted_same, mode_of-granted_other}

-- ---- ascending locks in two parts

pub in_mid : (front back : List Held) (h : Held) → IsIn h (front ++ h ∷ back)
in_mid front back h = Has-back (λ y. y ≡ h) front (h ∷ back) (inl refl)

front_below : (front back : List Held) (h : Held) → Ascends lock_cmp (front ++ h ∷ back) → Each (λ l. lock_cmp l h ≡ Less) front
front_below [] back h a = tt
front_below (l ∷ ls) back h a = (
  in_Each (λ k. lock_cmp l k ≡ Less) h (ls ++ h ∷ back) (in_mid ls back h) (Ascends-first lock_cmp lock_total l (ls ++ h ∷ back) a),
  front_below ls back h (Ascends-tail lock_cmp lock_total l (ls ++ h ∷ back) a),
)

back_above : (front back : List Held) (h : Held) → Ascends lock_cmp (front ++ h ∷ back) → Each (λ l. lock_cmp h l ≡ Less) back
back_above [] back h a = Ascends-first lock_cmp lock_total h back a
back_above (l ∷ ls) back h a = back_above ls back h (Ascends-tail lock_cmp lock_total l (ls ++ h ∷ back) a)

pub front_ascends : (front back : List Held) → Ascends lock_cmp (front ++ back) → Ascends lock_cmp front
front_ascends [] back a = tt
front_ascends (l ∷ []) back a = tt
front_ascends (l ∷ k ∷ ks) back a = (a.0, front_ascends (k ∷ ks) back a.1)

-- ---- the mode on a path

mode_first : (q : Path) (x : Held) (xs : List Held) → same_path q x.path ≡ true → mode_at (x ∷ xs) q ≡ Some x.mode
mode_first q x xs t = ap (λ b. option_map (λ (h : Held). h.mode) (cond b (Some x) (find (λ h. same_path q h.path) xs))) t

mode_skip : (q : Path) (x : Held) (xs : List Held) → same_path q x.path ≡ false → mode_at (x ∷ xs) q ≡ mode_at xs q
mode_skip q x xs f = ap (λ b. option_map (λ (h : Held). h.mode) (cond b (Some x) (find (λ h. same_path q h.path) xs))) f

none_some : (m : Mode) → ◌≡◌ {A = Option Mode} None (Some m) → ⊥
none_some m e = cc

none_in : (ls : List Held) (h : Held) → Each (λ l. lock_cmp l h ≡ Less) ls → mode_at ls h.path ≡ None
none_in [] h e = refl
none_in (l ∷ ls) h e = mode_skip h.path l ls (path_apart_back l.path h.path e.0) ∙ none_in ls h e.1

more_other : (q : Path) (h : Held) (ls : List Held) → same_path q h.path ≡ false → mode_at (ls ++ h ∷ []) q ≡ mode_at ls q
more_other q h [] f = mode_skip q h [] f
more_other q h (l ∷ ls) f =
    by_test (same_path q l.path)
    (λ t. mode_first q l (ls ++ h ∷ []) t ∙ sym (mode_first q l ls t))
    (λ g. mode_skip q l (ls ++ h ∷ []) g ∙ more_other q h ls f ∙ sym (mode_skip q l ls g))

more_same : (q : Path) (h : Held) (ls : List Held) → same_path q h.path ≡ true → mode_at ls q ≡ None → mode_at (ls ++ h ∷ []) q ≡ Some h.mode
more_same q h [] t n = mode_first q h [] t
more_same q h (l ∷ ls) t n =
    by_test (same_path q l.path)
    (λ e. absurd (none_some l.mode (sym n ∙ mode_first q l ls e)))
    (λ g. mode_skip q l (ls ++ h ∷ []) g ∙ more_same q h ls t (sym (mode_skip q l ls g) ∙ n))

flip : (p q : Path) → same_path p q ≡ false → same_path q p ≡ false
flip p q e = by_test (same_path q p) (λ t. absurd (true≢false (sym (same_path-sym q p t) ∙ e))) (λ f. f)

-- ---- one lock more

pub taken_none : (old : Locks) (tx : Tx) → ((q : Path) → held_at old tx q ≡ None) → IsCompatible old → Taken old old tx []
taken_none old tx nothing compatible =
    record { own = nothing; others = λ t q n. refl; elsewhere = λ q e. refl; compatible = compatible; free = tt; closed = tt }

wider : (front : List Held) (h l : Held) → HasAncestors front l → HasAncestors (front ++ h ∷ []) l
wider front h l e = Each-of (IsHeld front (intention l.mode)) (IsHeld (front ++ h ∷ []) (intention l.mode)) (ancestors l.path)
    (λ a held. Has-front (λ k. IsTrue (same_path k.path a && covers k.mode (intention l.mode))) front (h ∷ []) held) e

ancestors_held : (locks : Locks) (tx : Tx) (m : Mode) (ls : List Held) (ps : List Path) → ((q : Path) → held_at locks tx q ≡ mode_at ls q)
    → Each (λ above. IsSomeAnd (held_at locks tx above) (λ held. covers held (intention m) ≡ true)) ps → Each (IsHeld ls (intention m)) ps
ancestors_held locks tx m ls [] same e = tt
ancestors_held locks tx m ls (p ∷ ps) same e = (held_from p (intention m) ls (strong (held_at locks tx p) (same p) e.0), ancestors_held locks tx m ls ps same e.1)
  where
    strong : (o : Option Mode) → o ≡ mode_at ls p → IsSomeAnd o (λ held. covers held (intention m) ≡ true) → is_as_strong (intention m) (mode_at ls p) ≡ true
    strong None q h = absurd h
    strong (Some x) q h = sym (ap (is_as_strong (intention m)) q) ∙ h

module _ (old mid : Locks) (tx : Tx) (front : List Held) (h : Held) (below : Each (λ l. lock_cmp l h ≡ Less) front) (taken : Taken old mid tx front) where
  free_path : mode_at front h.path ≡ None
  free_path = none_in front h below

  as_asked : wanted_at mid tx h.path h.mode ≡ h.mode
  as_asked = ap (λ o. wanted_of o h.mode) (taken.own h.path ∙ free_path)

  same_blockers : blockers tx (wanted_at mid tx h.path h.mode) (holders_at mid h.path) ≡ blockers tx h.mode (holders_at old h.path)
  same_blockers = ap (λ m. blockers tx m (holders_at mid h.path)) as_asked ∙ ap (blockers tx h.mode) (taken.elsewhere h.path free_path)

  module _ (new : Locks) (g : Grants tx h mid new) where
    there : (t : Tx) (q : Path) → same_path h.path q ≡ true → held_at new t q ≡ mode_of t (granted tx (wanted_at mid tx h.path h.mode) (holders_at mid h.path))
    there t q e = ap (mode_of t) (g.changes q ∙ ap (λ z. if z then granted tx (wanted_at mid tx h.path h.mode) (holders_at mid h.path) else holders_at mid q) e)

    apart : (t : Tx) (q : Path) → same_path h.path q ≡ false → held_at new t q ≡ held_at mid t q
    apart t q e = ap (mode_of t) (g.changes q ∙ ap (λ z. if z then granted tx (wanted_at mid tx h.path h.mode) (holders_at mid h.path) else holders_at mid q) e)

    own : (q : Path) → held_at new tx q ≡ mode_at (front ++ h ∷ []) q
    own q =
        by_test (same_path h.path q)
        (λ e. there tx q e ∙ mode_of-granted_same tx (wanted_at mid tx h.path h.mode) (holders_at mid h.path) ∙ ap (λ m. Some m) as_asked
        ∙ sym (more_same q h front (same_path-sym h.path q e) (ap (mode_at front) (sym (same_path-eq h.path q e)) ∙ free_path)))
        (λ e. apart tx q e ∙ taken.own q ∙ sym (more_other q h front (flip h.path q e)))

    others : (t : Tx) (q : Path) → t.0 ≢ tx.0 → held_at new t q ≡ held_at old t q
    others t q n =
        by_test (same_path h.path q)
        (λ e. there t q e ∙ mode_of-granted_other t tx (wanted_at mid tx h.path h.mode) (holders_at mid h.path) n ∙ ap (λ z. held_at mid t z) (same_path-eq h.path q e) ∙ taken.others t q n)
        (λ e. apart t q e ∙ taken.others t q n)

    elsewhere : (q : Path) → mode_at (front ++ h ∷ []) q ≡ None → holders_at new q ≡ holders_at old q
    elsewhere q none =
        by_test (same_path h.path q)
        (λ e. absurd (none_some (wanted_at mid tx h.path h.mode)
        (sym none ∙ sym (own q) ∙ there tx q e ∙ mode_of-granted_same tx (wanted_at mid tx h.path h.mode) (holders_at mid h.path))))
        (λ e. g.changes q ∙ ap (λ z. if z then granted tx (wanted_at mid tx h.path h.mode) (holders_at mid h.path) else holders_at mid q) e
        ∙ taken.elsewhere q (sym (more_other q h front (flip h.path q e)) ∙ none))

    pub taken_more : Taken old new tx (front ++ h ∷ [])
    taken_more = record {
      own = own;
      others = others;
      elsewhere = elsewhere;
      compatible = g.compatible;
      free = Each-append (λ (l : Held). blockers tx l.mode (holders_at old l.path) ≡ []) front (h ∷ []) taken.free (sym same_blockers ∙ g.free, tt);
      closed = Each-append (HasAncestors (front ++ h ∷ [])) front (h ∷ []) (Each-of (HasAncestors front) (HasAncestors (front ++ h ∷ [])) front (wider front h) taken.closed)
          (wider front h h (ancestors_held mid tx h.mode front (ancestors h.path) taken.own g.ancestors), tt);
    }

-- ---- a lock that isn't granted

above_less : (p : Path) → Each (λ a. path_cmp a p ≡ Less) (ancestors p)
above_less (Whole s) = tt
above_less (Group s g) = (refl, tt)
above_less (Key k) = (refl, (refl, tt))

-- a lock above this one stands in front of it
in_front : (front back : List Held) (h : Held) (a : Path) (m : Mode) → Ascends lock_cmp (front ++ h ∷ back) → path_cmp a h.path ≡ Less → IsHeld (front ++ h ∷ back) m a → IsHeld front m a
in_front [] back h a m asc less (inl t) =
    let e : h.path ≡ a = same_path-eq h.path a (and_parts (same_path h.path a) (covers h.mode m) t).0 in
    absurd (irreflexive path_cmp path_total a (subst (λ z. path_cmp a z ≡ Less) e less))
in_front [] back h a m asc less (inr k) = absurd (none back k (back_above [] back h asc))
  where
    none : (ls : List Held) → IsHeld ls m a → Each (λ l. lock_cmp h l ≡ Less) ls → ⊥
    none [] k e = k
    none (l ∷ ls) (inl t) e =
        let same : l.path ≡ a = same_path-eq l.path a (and_parts (same_path l.path a) (covers l.mode m) t).0 in
        asymmetric path_cmp path_total h.path a (subst (λ z. path_cmp h.path z ≡ Less) same e.0) less
    none (l ∷ ls) (inr k) e = none ls k e.1
in_front (l ∷ ls) back h a m asc less (inl t) = inl t
in_front (l ∷ ls) back h a m asc less (inr k) = inr (in_front ls back h a m (Ascends-tail lock_cmp lock_total l (ls ++ h ∷ back) asc) less k)

all_held : (mid : Locks) (tx : Tx) (front back : List Held) (h : Held) (m : Mode) (ps : List Path) → Ascends lock_cmp (front ++ h ∷ back) → ((q : Path) → held_at mid tx q ≡ mode_at front q)
    → Each (λ a. path_cmp a h.path ≡ Less) ps → Each (IsHeld (front ++ h ∷ back) m) ps → list_all (is_covered_at mid tx m) ps ≡ true
all_held mid tx front back h m [] asc own less held = refl
all_held mid tx front back h m (p ∷ ps) asc own less held =
    and_from (is_covered_at mid tx m p) (list_all (is_covered_at mid tx m) ps)
    (ap (is_as_strong m) (own p) ∙ held_to p m front (front_ascends front (h ∷ back) asc) (in_front front back h p m asc less.0 held.0))
    (all_held mid tx front back h m ps asc own less.1 held.1)

pub refused : (old mid new : Locks) (tx : Tx) (front back : List Held) (h : Held) → Ascends lock_cmp (front ++ h ∷ back) → Taken old mid tx front → TakesOne mid new tx h false
    → TakesAll old new tx (front ++ h ∷ back) false
refused old mid new tx front back h asc taken (inl lacks) =
    inl (λ closed. true≢false (sym (all_held mid tx front back h (intention h.mode) (ancestors h.path) asc taken.own (above_less h.path)
    (in_Each (HasAncestors (front ++ h ∷ back)) h (front ++ h ∷ back) (in_mid front back h) closed)) ∙ lacks))
refused old mid new tx front back h asc taken (inr blocked) =
    inr (in_has (λ (l : Held). blockers tx l.mode (holders_at old l.path) ≢ []) h (front ++ h ∷ back) (in_mid front back h)
    (λ e. blocked (same_blockers old mid tx front h (front_below front back h asc) taken ∙ e)))

pub taken_next : (old mid new : Locks) (tx : Tx) (front back : List Held) (h : Held) → Ascends lock_cmp (front ++ h ∷ back) → Taken old mid tx front → TakesOne mid new tx h true → Taken old new tx (front ++ h ∷ [])
taken_next old mid new tx front back h asc taken g = taken_more old mid tx front h (front_below front back h asc) taken new g

-- ---- as the list is gone over

pub step_taken : (old mid new : Locks) (tx : Tx) (asked : List Held) (i : ℕ) (d : Held) (fits : Bool) → fits ≡ true → i < length asked → Ascends lock_cmp asked → Taken old mid tx (take i asked)
    → TakesOne mid new tx (get_or asked i d) fits → Taken old new tx (take (i + 1) asked)
step_taken old mid new tx asked i d fits granted inside asc taken one =
    let is : get_or asked i d ≡ get_or asked i (get_or asked i d) = get_or_default asked i d (get_or asked i d) inside in
    subst (Taken old new tx) (sym (next_taken asked i (get_or asked i d) inside is))
    (taken_next old mid new tx (take i asked) (drop (i + 1) asked) (get_or asked i d) (subst (Ascends lock_cmp) (split_there asked i (get_or asked i d) inside is) asc) taken
    (subst (TakesOne mid new tx (get_or asked i d)) granted one))

pub step_refused : (old mid new : Locks) (tx : Tx) (asked : List Held) (i : ℕ) (d : Held) (fits : Bool) → fits ≡ false → i < length asked → Ascends lock_cmp asked → Taken old mid tx (take i asked)
    → TakesOne mid new tx (get_or asked i d) fits → TakesAll old new tx asked false
step_refused old mid new tx asked i d fits nope inside asc taken one =
    let is : get_or asked i d ≡ get_or asked i (get_or asked i d) = get_or_default asked i d (get_or asked i d) inside in
    subst (λ hs. TakesAll old new tx hs false) (sym (split_there asked i (get_or asked i d) inside is))
    (refused old mid new tx (take i asked) (drop (i + 1) asked) (get_or asked i d) (subst (Ascends lock_cmp) (split_there asked i (get_or asked i d) inside is) asc) taken
    (subst (TakesOne mid new tx (get_or asked i d)) nope one))
