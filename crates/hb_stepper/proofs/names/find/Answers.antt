use Rattle.std.proofs.Common.{◌≡◌, ℕ, ◌<◌, ◌≤◌, ◌⊎◌, inl, inr, List, length, sym, ap, refl, ◌∙◌, below_more, arith}
use Rattle.std.specs.Prelude.{Some, slice_get}
use Rattle.std.proofs.lemmas.Bool.{cases_lt, false≢true}
use Rattle.std.proofs.lemmas.Option.{slice_get_read, slice_get_past}
use Rattle.hb_stepper.proofs.names.find.Goals as goal

pub returns-then-is_same-clause-found : goal.returns-then-is_same-clause-found
returns-then-is_same-clause-found c =
    let read = slice_get_read c.args.names.now (length c.args.names.now) c.loop-place.place c.index-names-place.result refl c.loop-place-test.true c.index-names-place.is in
    record { at = read ∙ ap (λ x. Some x) (c.is_same.ensures.0 c.if-is_same.true); first = c.loop-place.invariant }

pub loop-place-preserved : goal.loop-place-preserved
loop-place-preserved c =
    let read = slice_get_read c.args.names.now (length c.args.names.now) c.loop-place.place c.index-names-place.result refl c.loop-place-test.true c.index-names-place.is in
    below_more _ _ c.loop-place.invariant (λ e. let same : c.index-names-place.result ≡ c.args.name.now = cc in absurd (false≢true (sym c.if-is_same.false ∙ c.is_same.ensures.1 same)))

not_past : (names : List (List ℕ)) (name : List ℕ) (place : ℕ) → length names ≤ place → ((k : ℕ) → k < place → slice_get names k ≡ Some name → ⊥) → (k : ℕ) → (k < place) ⊎ (place ≤ k) → slice_get names k ≡ Some name → ⊥
not_past names name place over below k (inl early) e = below k early e
not_past names name place over below k (inr late) e = let none = slice_get_past names k (omega arith) in cc

pub returns-clause-none : goal.returns-clause-none
returns-clause-none c = λ k e. not_past c.args.names.now c.args.name.now c.loop-place.place c.loop-place-test.false c.loop-place.invariant k (cases_lt k c.loop-place.place) e
