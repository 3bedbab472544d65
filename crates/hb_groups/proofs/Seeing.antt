-- What a walk over the entries has seen of each area.
use Rattle.std.proofs.Common.{◌≡◌, ◌≢◌, ℕ, ◌+◌, ◌<◌, ◌≤◌, List, length, get_or, set, take, ap, sym, ◌∙◌, arith, true, false, cond, eqb, Some, None, unwrap_or, Contains, inl, inr, get_or-set_same, get_or-set_other, length-take}
use Rattle.std.proofs.lemmas.Bool.{eqb-true, eq-eqb, ne_eqb, eqb-false, lt-ltb, cases_lt, cases_eq}
use Rattle.std.proofs.lemmas.List.Sums.{count_by_more_yes, count_by_more_no, passes_at_first, count_by-le-length, fails_before_first}
use Rattle.std.proofs.lemmas.List.Elements.{Contains-get_or}
use Rattle.std.specs.List.{AllPairs, position_or_len}
use Rattle.hb_types.specs.declared.entry.Entry.{Entry}
use Rattle.hb_types.specs.declared.entry.Entry.TheVariants.{At, Moving}
use Rattle.hb_types.specs.Groups.{is_at, target, position_of, quota, reassigned, entry_after}
use Rattle.hb_groups.specs.Counts.{IsPlaced, count_at}

-- an area of the list stands at its position
at_position : (areas : List ℕ) (a : ℕ) → Contains areas a → (position_of areas a < length areas) × (get_or areas (position_of areas a) 0 ≡ a)
at_position areas a has =
    let place = position_or_len (λ b. eqb b a) areas in
    let within : place < length areas = elim (cases_lt place (length areas)) [
      | inl l ↦ l
      | inr l ↦ absurd (eqb-false _ _ (fails_before_first (λ b. eqb b a) areas has.0 a (omega (arith, has.1))) has.2)
    ] in
    let is : position_of areas a ≡ place = ap (λ t. unwrap_or (cond t (Some place) None) 0) (lt-ltb _ _ within) in
    let here : get_or areas place 0 ≡ a = eqb-true _ _ (passes_at_first (λ b. eqb b a) areas 0 within) in
    (omega arith, ap (λ k. get_or areas k 0) is ∙ here)

pub position-placed : (areas : List ℕ) (x : Entry) → IsPlaced areas x → (position_of areas (target x) < length areas) × (get_or areas (position_of areas (target x)) 0 ≡ target x)
position-placed areas (At a) has = at_position areas a has
position-placed areas (Moving _ _) has = elim has [ ]

is_at-target : (areas : List ℕ) (x : Entry) (area : ℕ) → IsPlaced areas x → target x ≡ area → is_at area x ≡ true
is_at-target areas (At a) area has e = eq-eqb a area e
is_at-target areas (Moving _ _) area has e = elim has [ ]

is_at-other : (areas : List ℕ) (x : Entry) (area : ℕ) → IsPlaced areas x → target x ≢ area → is_at area x ≡ false
is_at-other areas (At a) area has n = ne_eqb a area n
is_at-other areas (Moving _ _) area has n = elim has [ ]

-- two places of a list whose items differ
pub differ : (areas : List ℕ) (j p : ℕ) → AllPairs (λ (a b : ℕ). a ≢ b) areas → j < length areas → p < length areas → (j ≡ p → ⊥) → get_or areas p 0 ≢ get_or areas j 0
differ areas j p apart l m n = elim (cases_lt j p) [
  | inl less ↦ λ e. apart j p 0 less m (sym e)
  | inr more ↦ apart p j 0 (omega arith) l
]

-- one more entry is seen
pub seen_more : (areas seen : List ℕ) (old : List Entry) (i p : ℕ) (d : Entry) → AllPairs (λ (a b : ℕ). a ≢ b) areas → i < length old → length areas ≤ length seen → IsPlaced areas (get_or old i d) → p ≡ position_of areas (target (get_or old i d)) → ((j : ℕ) → j < length areas → get_or seen j 0 ≡ count_at (take i old) (get_or areas j 0)) → (j : ℕ) → j < length areas → get_or (set seen p (get_or seen p 0 + 1)) j 0 ≡ count_at (take (i + 1) old) (get_or areas j 0)
seen_more areas seen old i p d apart within room placed is h j l =
    let x = get_or old i d in
    let area = get_or areas j 0 in
    let found = position-placed areas x placed in
    let in_list : p < length areas = omega (arith, found.0) in
    let in_seen : p < length seen = omega arith in
    let at_p : get_or areas p 0 ≡ target x = ap (λ k. get_or areas k 0) is ∙ found.1 in
    elim (cases_eq j p) [
      | inl same ↦
          let here : is_at area x ≡ true = is_at-target areas x area placed (sym at_p ∙ ap (λ k. get_or areas k 0) (sym same)) in
          let written : get_or (set seen p (get_or seen p 0 + 1)) j 0 ≡ get_or seen p 0 + 1 = ap (λ k. get_or (set seen p (get_or seen p 0 + 1)) k 0) same ∙ get_or-set_same seen p (get_or seen p 0 + 1) 0 in_seen in
          let before : get_or seen p 0 ≡ get_or seen j 0 = ap (λ k. get_or seen k 0) (sym same) in
          omega (arith, written, before, h j l, count_by_more_yes (is_at area) old i d within here)
      | inr other ↦
          let there : is_at area x ≡ false = is_at-other areas x area placed (λ e. differ areas j p apart l in_list other (at_p ∙ e)) in
          get_or-set_other seen p j (get_or seen p 0 + 1) 0 other ∙ h j l ∙ sym (count_by_more_no (is_at area) old i d within there)
    ]

-- no more are seen than were walked over
pub seen_below : (areas seen : List ℕ) (old : List Entry) (i p : ℕ) (d : Entry) → IsPlaced areas (get_or old i d) → p ≡ position_of areas (target (get_or old i d)) → ((j : ℕ) → j < length areas → get_or seen j 0 ≡ count_at (take i old) (get_or areas j 0)) → get_or seen p 0 ≤ length old
seen_below areas seen old i p d placed is h =
    let found = position-placed areas (get_or old i d) placed in
    omega (arith, h p (omega (arith, found.0)), count_by-le-length (is_at (get_or areas p 0)) (take i old), length-take i old)

-- the entry that the walk makes is the one of the definition
pub made_here : (areas seen : List ℕ) (old : List Entry) (i p kept added : ℕ) (d x v : Entry) → IsPlaced areas (get_or old i d) → p ≡ position_of areas (target (get_or old i d)) → ((j : ℕ) → j < length areas → get_or seen j 0 ≡ count_at (take i old) (get_or areas j 0)) → kept ≡ quota p (length areas + 1) → x ≡ get_or old i d → v ≡ reassigned (get_or seen p 0) kept added x → v ≡ entry_after old areas added i (get_or old i d)
made_here areas seen old i p kept added d x v placed is h k e made =
    let found = position-placed areas (get_or old i d) placed in
    let before : get_or seen p 0 ≡ count_at (take i old) (target (get_or old i d)) = h p (omega (arith, found.0)) ∙ ap (count_at (take i old)) (ap (λ q. get_or areas q 0) is ∙ found.1) in
    let room : kept ≡ quota (position_of areas (target (get_or old i d))) (length areas + 1) = k ∙ ap (λ q. quota q (length areas + 1)) is in
    made ∙ ap (λ b. reassigned b kept added x) before ∙ ap (λ q. reassigned (count_at (take i old) (target (get_or old i d))) q added x) room
    ∙ ap (reassigned (count_at (take i old) (target (get_or old i d))) (quota (position_of areas (target (get_or old i d))) (length areas + 1)) added) e

-- the position of an area is where it stands
pub position_of-get_or : (areas : List ℕ) (i : ℕ) → AllPairs (λ (a b : ℕ). a ≢ b) areas → i < length areas → position_of areas (get_or areas i 0) ≡ i
position_of-get_or areas i apart l =
    let found = at_position areas (get_or areas i 0) (Contains-get_or areas i 0 l) in
    elim (cases_eq (position_of areas (get_or areas i 0)) i) [
      | inl same ↦ same
      | inr other ↦ absurd (differ areas i (position_of areas (get_or areas i 0)) apart l found.0 (λ e. other (sym e)) found.1)
    ]
