-- The holders of one path: who is among them, and that they stay compatible.
use Rattle.std.proofs.Common.{◌≡◌, ℕ, Bool, true, false, cond, not, List, [], ◌∷◌, ◌++◌, Some, None, Option, refl, ap, sym, ◌∙◌, filter, if◌then◌else◌, ◌⊎◌, inl, inr, length, get_or, ◌<◌, ◌≤◌, set, ltb, is_some, position, append_assoc, append-nil, suc, zero, arith}
use Rattle.std.specs.Prelude.{◌&&◌, ◌||◌, ◌==◌}
use Rattle.std.specs.Option.{option_map, option_to_list}
use Rattle.std.specs.List.{find, cons_option, list_all, position_or_len}
use Rattle.std.proofs.lemmas.Bool.{and_parts, and_from, true≢false, false≢true, eqb-true, ne_eqb, eqb-false, not-false, or_cases, cases_Bool, ltb-false}
use Rattle.std.proofs.lemmas.List.Quantifiers.{position-Some}
use Rattle.std.proofs.lemmas.List.Sums.{fails_before_first}
use Rattle.hb_types.specs.declared.lock.Holder.{Holder}
use Rattle.hb_types.specs.declared.lock.Mode.{Mode}
use Rattle.hb_types.specs.declared.lock.Mode.TheVariants.{IS, IX, S, SIX, X}
use Rattle.hb_types.specs.declared.names.Tx.{Tx}
use Rattle.hb_types.specs.Modes.{compatible}
use Rattle.hb_locks.specs.Locks.{is_of, mode_of, blocks, blockers, granted, without, stands_beside, are_compatible}
use Rattle.hb_locks.specs.Index.{holds}

or_false : (a b : Bool) → (a || b) ≡ false → (a ≡ false) × (b ≡ false)
or_false true b e = absurd (true≢false e)
or_false false b e = (refl, e)

pub or_left : (a b : Bool) → a ≡ true → (a || b) ≡ true
or_left a b e = ap (λ t. t || b) e

pub or_right : (a b : Bool) → b ≡ true → (a || b) ≡ true
or_right true b e = refl
or_right false b e = e

-- ---- who is among the holders

pub is_some-mode_of : (tx : Tx) (hs : List Holder) → is_some (mode_of tx hs) ≡ holds tx hs
is_some-mode_of tx [] = refl
is_some-mode_of tx (h ∷ hs) =
    elim (cases_Bool (is_of tx h)) [
      | inl e ↦ ap (λ t. is_some (option_map (λ g. g.mode) (cond t (Some h) (find (is_of tx) hs)))) e ∙ sym (or_left (is_of tx h) (holds tx hs) e)
      | inr e ↦
          ap (λ t. is_some (option_map (λ g. g.mode) (cond t (Some h) (find (is_of tx) hs)))) e ∙ is_some-mode_of tx hs
          ∙ sym (ap (λ t. t || holds tx hs) e)
    ]

pub without-absent : (tx : Tx) (hs : List Holder) → holds tx hs ≡ false → without tx hs ≡ hs
without-absent tx [] e = refl
without-absent tx (h ∷ hs) e =
    let parts = or_false (is_of tx h) (holds tx hs) e in
    ap (λ t. cond (not t) (h ∷ without tx hs) (without tx hs)) parts.0 ∙ ap (λ xs. h ∷ xs) (without-absent tx hs parts.1)

pub holds-without_own : (tx : Tx) (hs : List Holder) → holds tx (without tx hs) ≡ false
holds-without_own tx [] = refl
holds-without_own tx (h ∷ hs) =
    elim (cases_Bool (is_of tx h)) [
      | inl e ↦ ap (λ t. holds tx (cond (not t) (h ∷ without tx hs) (without tx hs))) e ∙ holds-without_own tx hs
      | inr e ↦
          ap (λ t. holds tx (cond (not t) (h ∷ without tx hs) (without tx hs))) e
          ∙ ap (λ t. t || holds tx (without tx hs)) e ∙ holds-without_own tx hs
    ]

pub holds-without : (t tx : Tx) (hs : List Holder) → holds t (without tx hs) ≡ true → holds t hs ≡ true
holds-without t tx [] e = e
holds-without t tx (h ∷ hs) e =
    elim (cases_Bool (is_of tx h)) [
      | inl here ↦
          or_right (is_of t h) (holds t hs)
          (holds-without t tx hs (sym (ap (λ b. holds t (cond (not b) (h ∷ without tx hs) (without tx hs))) here) ∙ e))
      | inr there ↦
          elim (or_cases (is_of t h) (holds t (without tx hs)) (sym (ap (λ b. holds t (cond (not b) (h ∷ without tx hs) (without tx hs))) there) ∙ e)) [
            | inl first ↦ or_left (is_of t h) (holds t hs) first
            | inr rest ↦ or_right (is_of t h) (holds t hs) (holds-without t tx hs rest)
          ]
    ]

pub holds-granted : (t tx : Tx) (m : Mode) (hs : List Holder) → holds t (granted tx m hs) ≡ true → (t.0 ≡ tx.0) ⊎ (holds t hs ≡ true)
holds-granted t tx m [] e = elim (or_cases (tx.0 == t.0) false e) [ inl same ↦ inl (sym (eqb-true tx.0 t.0 same)) | inr none ↦ absurd (false≢true none) ]
holds-granted t tx m (h ∷ hs) e =
    elim (cases_Bool (is_of tx h)) [
      | inl here ↦
          elim (or_cases (tx.0 == t.0) (holds t hs) (sym (ap (λ b. holds t (if b then record { tx = tx; mode = m } ∷ hs else h ∷ granted tx m hs)) here) ∙ e)) [
            | inl same ↦ inl (sym (eqb-true tx.0 t.0 same))
            | inr rest ↦ inr (or_right (is_of t h) (holds t hs) rest)
          ]
      | inr there ↦
          elim (or_cases (is_of t h) (holds t (granted tx m hs)) (sym (ap (λ b. holds t (if b then record { tx = tx; mode = m } ∷ hs else h ∷ granted tx m hs)) there) ∙ e)) [
            | inl first ↦ inr (or_left (is_of t h) (holds t hs) first)
            | inr rest ↦ elim (holds-granted t tx m hs rest) [ inl same ↦ inl same | inr there' ↦ inr (or_right (is_of t h) (holds t hs) there') ]
          ]
    ]

-- ---- they stay compatible

pub compatible-flip : (a b : Mode) → compatible a b ≡ compatible b a
compatible-flip IS IS = refl
compatible-flip IS IX = refl
compatible-flip IS S = refl
compatible-flip IS SIX = refl
compatible-flip IS X = refl
compatible-flip IX IS = refl
compatible-flip IX IX = refl
compatible-flip IX S = refl
compatible-flip IX SIX = refl
compatible-flip IX X = refl
compatible-flip S IS = refl
compatible-flip S IX = refl
compatible-flip S S = refl
compatible-flip S SIX = refl
compatible-flip S X = refl
compatible-flip SIX IS = refl
compatible-flip SIX IX = refl
compatible-flip SIX S = refl
compatible-flip SIX SIX = refl
compatible-flip SIX X = refl
compatible-flip X IS = refl
compatible-flip X IX = refl
compatible-flip X S = refl
compatible-flip X SIX = refl
compatible-flip X X = refl

list_all-filter : (q p : Holder → Bool) (hs : List Holder) → list_all q hs ≡ true → list_all q (filter p hs) ≡ true
list_all-filter q p [] e = refl
list_all-filter q p (h ∷ hs) e =
    let parts : (q h ≡ true) × (list_all q hs ≡ true) = and_parts (q h) (list_all q hs) e in
    elim (cases_Bool (p h)) [
      | inl here ↦ ap (λ t. list_all q (cond t (h ∷ filter p hs) (filter p hs))) here ∙ and_from (q h) (list_all q (filter p hs)) parts.0 (list_all-filter q p hs parts.1)
      | inr there ↦ ap (λ t. list_all q (cond t (h ∷ filter p hs) (filter p hs))) there ∙ list_all-filter q p hs parts.1
    ]

pub are_compatible-filter : (p : Holder → Bool) (hs : List Holder) → are_compatible hs ≡ true → are_compatible (filter p hs) ≡ true
are_compatible-filter p [] e = refl
are_compatible-filter p (h ∷ hs) e =
    let parts : (list_all (stands_beside h) hs ≡ true) × (are_compatible hs ≡ true) = and_parts (list_all (stands_beside h) hs) (are_compatible hs) e in
    elim (cases_Bool (p h)) [
      | inl here ↦
          ap (λ t. are_compatible (cond t (h ∷ filter p hs) (filter p hs))) here
          ∙ and_from (list_all (stands_beside h) (filter p hs)) (are_compatible (filter p hs)) (list_all-filter (stands_beside h) p hs parts.0) (are_compatible-filter p hs parts.1)
      | inr there ↦ ap (λ t. are_compatible (cond t (h ∷ filter p hs) (filter p hs))) there ∙ are_compatible-filter p hs parts.1
    ]

-- nobody stands in the way: not the first, and none of the others
free_parts : (tx : Tx) (m : Mode) (h : Holder) (hs : List Holder) → blockers tx m (h ∷ hs) ≡ [] → (blocks tx m h ≡ false) × (blockers tx m hs ≡ [])
free_parts tx m h hs e = by (blocks tx m h) refl
  where
    by : (b : Bool) → blocks tx m h ≡ b → (blocks tx m h ≡ false) × (blockers tx m hs ≡ [])
    by true here = absurd (filled (blockers tx m hs) (sym (ap (λ t. cond t (h ∷ blockers tx m hs) (blockers tx m hs)) here) ∙ e))
      where
        filled : (xs : List Holder) → h ∷ xs ≡ [] → ⊥
        filled xs e = cc
    by false there = (there, sym (ap (λ t. cond t (h ∷ blockers tx m hs) (blockers tx m hs)) there) ∙ e)

-- who is another and doesn't block has a compatible mode
beside_free : (tx : Tx) (m : Mode) (h : Holder) → not (is_of tx h) ≡ true → blocks tx m h ≡ false → compatible h.mode m ≡ true
beside_free tx m h other free = not-false _ (sym (ap (λ t. t && not (compatible h.mode m)) other) ∙ free)

beside_new : (tx : Tx) (m : Mode) (h : Holder) (hs : List Holder) → h.tx.0 ≡ tx.0 → list_all (stands_beside h) hs ≡ true → blockers tx m hs ≡ [] → list_all (stands_beside (record { tx = tx; mode = m })) hs ≡ true
beside_new tx m h [] same all free = refl
beside_new tx m h (g ∷ gs) same all free =
    let parts = and_parts (stands_beside h g) (list_all (stands_beside h) gs) all in
    let here = and_parts (not (is_of h.tx g)) (compatible h.mode g.mode) parts.0 in
    let frees = free_parts tx m g gs free in
    let other : not (is_of tx g) ≡ true = ap (λ n. not (g.tx.0 == n)) (sym same) ∙ here.0 in
    and_from (not (is_of tx g) && compatible m g.mode) (list_all (stands_beside (record { tx = tx; mode = m })) gs)
    (and_from (not (is_of tx g)) (compatible m g.mode) other (compatible-flip m g.mode ∙ beside_free tx m g other frees.0))
    (beside_new tx m h gs same parts.1 frees.1)

list_all-granted : (q : Holder → Bool) (tx : Tx) (m : Mode) (hs : List Holder) → list_all q hs ≡ true → q (record { tx = tx; mode = m }) ≡ true → list_all q (granted tx m hs) ≡ true
list_all-granted q tx m [] all new = and_from (q (record { tx = tx; mode = m })) true new refl
list_all-granted q tx m (h ∷ hs) all new =
    let parts : (q h ≡ true) × (list_all q hs ≡ true) = and_parts (q h) (list_all q hs) all in
    elim (cases_Bool (is_of tx h)) [
      | inl here ↦ ap (λ t. list_all q (if t then record { tx = tx; mode = m } ∷ hs else h ∷ granted tx m hs)) here ∙ and_from (q (record { tx = tx; mode = m })) (list_all q hs) new parts.1
      | inr there ↦ ap (λ t. list_all q (if t then record { tx = tx; mode = m } ∷ hs else h ∷ granted tx m hs)) there ∙ and_from (q h) (list_all q (granted tx m hs)) parts.0 (list_all-granted q tx m hs parts.1 new)
    ]

pub are_compatible-granted : (tx : Tx) (m : Mode) (hs : List Holder) → are_compatible hs ≡ true → blockers tx m hs ≡ [] → are_compatible (granted tx m hs) ≡ true
are_compatible-granted tx m [] all free = refl
are_compatible-granted tx m (h ∷ hs) all free =
    let parts : (list_all (stands_beside h) hs ≡ true) × (are_compatible hs ≡ true) = and_parts (list_all (stands_beside h) hs) (are_compatible hs) all in
    let frees : (blocks tx m h ≡ false) × (blockers tx m hs ≡ []) = free_parts tx m h hs free in
    elim (cases_Bool (is_of tx h)) [
      | inl here ↦
          ap (λ t. are_compatible (if t then record { tx = tx; mode = m } ∷ hs else h ∷ granted tx m hs)) here
          ∙ and_from (list_all (stands_beside (record { tx = tx; mode = m })) hs) (are_compatible hs) (beside_new tx m h hs (eqb-true h.tx.0 tx.0 here) parts.0 frees.1) parts.1
      | inr there ↦
          let apart : not (tx.0 == h.tx.0) ≡ true = ap not (ne_eqb tx.0 h.tx.0 (λ e. eqb-false h.tx.0 tx.0 there (sym e))) in
          let fits : compatible h.mode m ≡ true = beside_free tx m h (ap not there) frees.0 in
          ap (λ t. are_compatible (if t then record { tx = tx; mode = m } ∷ hs else h ∷ granted tx m hs)) there
          ∙ and_from (list_all (stands_beside h) (granted tx m hs)) (are_compatible (granted tx m hs))
          (list_all-granted (stands_beside h) tx m hs parts.0 (and_from (not (tx.0 == h.tx.0)) (compatible h.mode m) apart fits))
          (are_compatible-granted tx m hs parts.1 frees.1)
    ]

-- ---- a grant by its position in the list

set_at : (tx : Tx) (m : Mode) (hs : List Holder) (i : ℕ) (d : Holder) → i < length hs → is_of tx (get_or hs i d) ≡ true → ((k : ℕ) → k < i → is_of tx (get_or hs k d) ≡ false) → set hs i (record { tx = tx; mode = m }) ≡ granted tx m hs
set_at tx m [] i d within here before = absurd (omega arith)
set_at tx m (h ∷ hs) zero d within here before = sym (ap (λ t. if t then record { tx = tx; mode = m } ∷ hs else h ∷ granted tx m hs) here)
set_at tx m (h ∷ hs) (suc i) d within here before =
    ap (λ xs. h ∷ xs) (set_at tx m hs i d (omega arith) here (λ k l. before (suc k) (omega arith)))
    ∙ sym (ap (λ t. if t then record { tx = tx; mode = m } ∷ hs else h ∷ granted tx m hs) (before 0 (omega arith)))

put_last : (tx : Tx) (m : Mode) (hs : List Holder) (d : Holder) → ((k : ℕ) → k < length hs → is_of tx (get_or hs k d) ≡ false) → hs ++ record { tx = tx; mode = m } ∷ [] ≡ granted tx m hs
put_last tx m [] d none = refl
put_last tx m (h ∷ hs) d none =
    ap (λ xs. h ∷ xs) (put_last tx m hs d (λ k l. none (suc k) (omega arith)))
    ∙ sym (ap (λ t. if t then record { tx = tx; mode = m } ∷ hs else h ∷ granted tx m hs) (none 0 (omega arith)))

pub granted-found : (tx : Tx) (m : Mode) (hs : List Holder) (i : ℕ) → position (is_of tx) hs ≡ Some i → set hs i (record { tx = tx; mode = m }) ≡ granted tx m hs
granted-found tx m hs i e =
    let d : Holder = record { tx = tx; mode = m } in
    let found = position-Some (is_of tx) hs i d e in
    set_at tx m hs i d found.0 found.1 found.2

pub granted-new : (tx : Tx) (m : Mode) (hs : List Holder) → position (is_of tx) hs ≡ None → hs ++ record { tx = tx; mode = m } ∷ [] ≡ granted tx m hs
granted-new tx m hs e =
    let d : Holder = record { tx = tx; mode = m } in
    let place = position_or_len (is_of tx) hs in
    let long : length hs ≤ place = elim (cases_Bool (ltb place (length hs))) [
      | inl less ↦ absurd (some_none place (sym (ap (λ t. cond t (Some place) None) less) ∙ e))
      | inr more ↦ ltb-false place (length hs) more
    ] in
    put_last tx m hs d (λ k l. fails_before_first (is_of tx) hs k d (omega arith))
  where
    some_none : (n : ℕ) → Some n ≡ None → ⊥
    some_none n e = cc

-- one more lock of a transaction
pub locks_more : {A : Type 0} (xs : List A) (o : Option A) (rest : List A) → (xs ++ option_to_list o) ++ rest ≡ xs ++ cons_option o rest
locks_more xs None rest = ap (λ ys. ys ++ rest) (append-nil xs)
locks_more xs (Some x) rest = append_assoc xs (x ∷ []) rest
