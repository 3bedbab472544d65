use Rattle.std.proofs.Common.{◌≡◌, ◌+◌, ◌-◌, sym, subst, arith, Option, List, ℕ, drop, true}
use Rattle.std.specs.Prelude.{MatchOption}
use Rattle.hb_types.specs.declared.change.Stored.{Stored}
use Rattle.hb_whole.specs.Read.{GoesOnNever, IsFront, Reading, is_above}
use Rattle.hb_whole.proofs.Decoding.{reading_more, reading_stops, reading_too_long}
use Rattle.hb_whole.proofs.decode.rows_behind.Goals as goal

pub loop-left-preserved : goal.loop-left-preserved
loop-left-preserved c =
    let rows = c.loop-left.rows in
    let rest = c.split_at.result.1.now in
    let row = c.in-Some.row in
    let used = c.in-Some.used in
    let found = subst (λ (o : Option (Stored × ℕ)). MatchOption o (GoesOnNever c.as_slice.result.now rest) (λ f. IsFront rest f.0 f.1 × (is_above f.0.place c.as_slice.result.now ≡ true))) c.in-Some.is c.in_ok-row.ensures in
    let front = subst (λ (b : List ℕ). IsFront b row used) c.split_at.ensures.back found.0 in
    let above = subst (λ (rs : List Stored). is_above row.place rs ≡ true) c.as_slice.ensures found.1 in
    subst (λ (rs : List Stored). Reading c.args.count c.args.body.now rs (c.loop-left.at + used) (c.loop-left.left - 1)) (sym c.in_ok-push-in-Some.ensures.ok)
    (reading_more c.changes_have_one_form.ensures.one_form c.args.count c.args.body.now rows c.loop-left.at c.loop-left.left row used c.loop-left.invariant (omega (arith, c.loop-left-test.true)) front above)

pub returns-in-None : goal.returns-in-None
returns-in-None c =
    let rest = c.split_at.result.1.now in
    let found = subst (λ (o : Option (Stored × ℕ)). MatchOption o (GoesOnNever c.as_slice.result.now rest) (λ f. IsFront rest f.0 f.1 × (is_above f.0.place c.as_slice.result.now ≡ true))) c.in-None.is c.in_ok-row.ensures in
    let never = subst (λ (rs : List Stored). GoesOnNever rs (drop c.loop-left.at c.args.body.now)) c.as_slice.ensures (subst (λ (b : List ℕ). GoesOnNever c.as_slice.result.now b) c.split_at.ensures.back found) in
    reading_stops c.args.count c.args.body.now c.loop-left.rows c.loop-left.at c.loop-left.left c.loop-left.invariant (omega (arith, c.loop-left-test.true)) never

pub returns-then-at-body : goal.returns-then-at-body
returns-then-at-body c =
    let zero : c.loop-left.left ≡ 0 = omega (arith, c.loop-left-test.false) in
    reading_too_long c.args.count c.args.body.now c.loop-left.rows c.loop-left.at (subst (λ (n : ℕ). Reading c.args.count c.args.body.now c.loop-left.rows c.loop-left.at n) zero c.loop-left.invariant) c.if-at-body.true
