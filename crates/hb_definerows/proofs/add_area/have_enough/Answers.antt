use Rattle.std.proofs.Common.{sym, ◌∙◌, arith}
use Rattle.std.specs.Prelude.{length}
use Rattle.hb_definerows.specs.DefineRows.{has_enough}
use Rattle.hb_definerows.proofs.Spreading.{all_in_range, one_in_range}
use Rattle.hb_definerows.proofs.add_area.have_enough.Goals as goal

pub returns-then-not-has_enough : goal.returns-then-not-has_enough
returns-then-not-has_enough c =
    sym (one_in_range (has_enough c.args.members.now c.args.entries.now) (length c.args.members.now) c.loop-nth.nth c.loop-nth-test.true (sym c.has_enough.ensures ∙ c.if-not-has_enough.true))

pub returns : goal.returns
returns c =
    sym (all_in_range (has_enough c.args.members.now c.args.entries.now) 0 (length c.args.members.now) (λ k le lt. c.loop-nth.invariant k (omega (arith, lt, c.loop-nth-test.false))))
