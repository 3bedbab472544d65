-- As many branches have voted as are in doubt.
use Rattle.std.proofs.Common.{◌≡◌, ◌≢◌, ℕ, suc, ◌+◌, cond, refl, sym, ◌∙◌, ap, subst, List, [], ◌∷◌, length, Option, Some, None, if◌then◌else◌, arith, count_by}
use Rattle.std.specs.BTreeMap.{is_at}
use Rattle.std.specs.List.{AllByRecursion}
use Rattle.std.specs.List.Sorted.{IsStrictlySortedBy}
use Rattle.std.specs.Map.{keys_of, values_of, lookup}
use Rattle.std.specs.Option.{is_some}
use Rattle.std.specs.Ordering.{is_eq, nat_cmp}
use Rattle.std.specs.declared.cmp.Ordering.TheVariants.{Less}
use Rattle.std.proofs.lemmas.List.Recursion.{is_count_by}
use Rattle.std.proofs.lemmas.Bool.{eq-eqb, ne_eqb}
use Rattle.hb_types.specs.declared.change.Stored.{Stored}
use Rattle.hb_types.specs.declared.names.Number.{Number}
use Rattle.hb_disks.specs.Redo.{Prepared, without_tx}
use Rattle.hb_locks.specs.Locks.{Locks}
use Rattle.hb_locks.proofs.Order.{nat_is}
use Rattle.hb_runs.specs.Server.{SState, now}
use Rattle.hb_engine.specs.Fits.{live_of, doubts_of, SlotFits, VoteFits, Slots, slot_at, Stands}
use Rattle.hb_engine.specs.Ends.{has_voted}
use Rattle.hb_engine.specs.declared.slot.Slot.{Slot}
use Rattle.hb_engine.proofs.Branches.{by_same, doubt_in, doubt_out, doubts_of-without_same, doubts_of-without_other}

abbrev Entries : Type 0
Entries = List (ℕ × Slot)

abbrev at : ℕ → Entries → Option Slot
at t es = lookup (is_at (nat_cmp t)) es

abbrev VotedFits : Option Number → List Prepared → Type 0
VotedFits None ds = ds ≡ []
VotedFits (Some n) ds = (p : Prepared) × (ds ≡ p ∷ [])

abbrev OneFits : Option Slot → List Prepared → Type 0
OneFits None ds = ds ≡ []
OneFits (Some slot) ds = VotedFits slot.vote ds

-- ---- look-ups

at_first : (t k : ℕ) (slot : Slot) (es : Entries) → t ≡ k → at t ((k, slot) ∷ es) ≡ Some slot
at_first t k slot es e = ap (λ b. cond b (Some slot) (at t es)) (nat_is t k ∙ eq-eqb t k e)

at_next : (t k : ℕ) (slot : Slot) (es : Entries) → t ≢ k → at t ((k, slot) ∷ es) ≡ at t es
at_next t k slot es n = ap (λ b. cond b (Some slot) (at t es)) (nat_is t k ∙ ne_eqb t k n)

none_above : (k : ℕ) (es : Entries) → AllByRecursion (λ y. nat_cmp k y ≡ Less) (keys_of es) → at k es ≡ None
none_above k [] a = refl
none_above k (e ∷ es) a = ap (λ o. cond (is_eq o) (Some e.1) (at k es)) a.0 ∙ none_above k es a.1

-- ---- the doubts but those of a transaction

none_taken : (t : ℕ) (ds : List Prepared) → doubts_of t ds ≡ [] → without_tx t ds ≡ ds
none_taken t [] e = refl
none_taken t (p ∷ ps) e =
    by_same p.tx t
    (λ s. absurd (filled p (doubts_of t ps) (sym (doubt_in t p ps s) ∙ e)))
    (λ n. ap (λ b. if b then without_tx t ps else p ∷ without_tx t ps) (ne_eqb p.tx t n) ∙ ap (λ z. p ∷ z) (none_taken t ps (sym (doubt_out t p ps n) ∙ e)))
  where
    filled : (p : Prepared) (ps : List Prepared) → p ∷ ps ≡ [] → ⊥
    filled p ps e = cc

one_taken : (t : ℕ) (ds : List Prepared) (p : Prepared) → doubts_of t ds ≡ p ∷ [] → length ds ≡ suc (length (without_tx t ds))
one_taken t [] p e = absurd (filled p e)
  where
    filled : (p : Prepared) → ◌≡◌ {A = List Prepared} [] (p ∷ []) → ⊥
    filled p e = cc
one_taken t (q ∷ qs) p e =
    by_same q.tx t
    (λ s. let rest : doubts_of t qs ≡ [] = tail q p (doubts_of t qs) (sym (doubt_in t q qs s) ∙ e) in
    ap suc (ap length (sym (none_taken t qs rest))) ∙ sym (ap (λ b. suc (length (if b then without_tx t qs else q ∷ without_tx t qs))) (eq-eqb q.tx t s)))
    (λ n. ap suc (one_taken t qs p (sym (doubt_out t q qs n) ∙ e)) ∙ sym (ap (λ b. suc (length (if b then without_tx t qs else q ∷ without_tx t qs))) (ne_eqb q.tx t n)))
  where
    tail : (x y : Prepared) (xs : List Prepared) → x ∷ xs ≡ y ∷ [] → xs ≡ []
    tail x y xs e = cc

nobody : (ds : List Prepared) → ((t : ℕ) → doubts_of t ds ≡ []) → ds ≡ []
nobody [] f = refl
nobody (p ∷ ps) f = absurd (filled p (doubts_of p.tx ps) (sym (doubt_in p.tx p ps refl) ∙ f p.tx))
  where
    filled : (p : Prepared) (ps : List Prepared) → p ∷ ps ≡ [] → ⊥
    filled p ps e = cc

-- ---- the count

-- counted from the front
abbrev votes_in : List Slot → ℕ
votes_in [] = 0
votes_in (slot ∷ slots) = cond (has_voted slot) (1 + votes_in slots) (votes_in slots)

votes-count : (slots : List Slot) → votes_in slots ≡ count_by has_voted slots
votes-count slots = is_count_by votes_in has_voted refl (λ x xs. refl) slots

counted : (es : Entries) (ds : List Prepared) → IsStrictlySortedBy nat_cmp (keys_of es) → ((t : ℕ) → OneFits (at t es) (doubts_of t ds)) → votes_in (values_of es) ≡ length ds
unfolding IsStrictlySortedBy
counted [] ds sorted fits = sym (ap length (nobody ds fits))
counted (e ∷ es) ds sorted fits = by e.1.vote refl (subst (λ (o : Option Slot). OneFits o (doubts_of e.0 ds)) (at_first e.0 e.0 e.1 es refl) (fits e.0)) (counted es (without_tx e.0 ds) sorted.1 rest)
  where
    rest : (t : ℕ) → OneFits (at t es) (doubts_of t (without_tx e.0 ds))
    rest t =
        by_same t e.0
        (λ s. subst (λ (n : ℕ). OneFits (at n es) (doubts_of n (without_tx e.0 ds))) (sym s)
        (subst (λ (o : Option Slot). OneFits o (doubts_of e.0 (without_tx e.0 ds))) (sym (none_above e.0 es sorted.0)) (doubts_of-without_same e.0 ds)))
        (λ n. subst (λ (o : Option Slot). OneFits o (doubts_of t (without_tx e.0 ds))) (at_next t e.0 e.1 es n)
        (subst (λ (d : List Prepared). OneFits (at t (e ∷ es)) d) (sym (doubts_of-without_other t e.0 ds n)) (fits t)))

    by : (v : Option Number) → e.1.vote ≡ v → VotedFits e.1.vote (doubts_of e.0 ds) → votes_in (values_of es) ≡ length (without_tx e.0 ds) → votes_in (values_of (e ∷ es)) ≡ length ds
    by None q f ih =
        let none : doubts_of e.0 ds ≡ [] = subst (λ (v : Option Number). VotedFits v (doubts_of e.0 ds)) q f in
        ap (λ (v : Option Number). cond (is_some v) (1 + votes_in (values_of es)) (votes_in (values_of es))) q ∙ ih ∙ ap length (none_taken e.0 ds none)
    by (Some n) q f ih =
        let one : VotedFits (Some n) (doubts_of e.0 ds) = subst (λ (v : Option Number). VotedFits v (doubts_of e.0 ds)) q f in
        let more : length ds ≡ suc (length (without_tx e.0 ds)) = one_taken e.0 ds one.0 one.1 in
        let one_more : 1 + votes_in (values_of es) ≡ length ds = omega (arith, ih, more) in
        ap (λ (v : Option Number). cond (is_some v) (1 + votes_in (values_of es)) (votes_in (values_of es))) q ∙ one_more

one_fits : (o : Option Slot) (slots : Slots) (locks : Locks) (floor : Number) (rows : List Stored) (s : SState) (t : ℕ) → SlotFits o (live_of t s.live) (doubts_of t (now s).doubts) → OneFits o (doubts_of t (now s).doubts)
one_fits None slots locks floor rows s t f = f.1
one_fits (Some slot) slots locks floor rows s t f = by slot.vote f
  where
    by : (v : Option Number) → VoteFits v slot (live_of t s.live) (doubts_of t (now s).doubts) → VotedFits v (doubts_of t (now s).doubts)
    by None f = f.2
    by (Some n) f = (f.0, f.2)

pub votes_are : (slots : Slots) (locks : Locks) (floor : Number) (rows : List Stored) (s : SState) → IsStrictlySortedBy nat_cmp (keys_of slots.entries) → Stands slots locks floor rows s
    → count_by has_voted (values_of slots.entries) ≡ length (now s).doubts
votes_are slots locks floor rows s sorted st = sym (votes-count (values_of slots.entries)) ∙ counted slots.entries (now s).doubts sorted (λ t. one_fits (slot_at slots t) slots locks floor rows s t (st.each t).slot_fits)
