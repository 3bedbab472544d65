use Rattle.std.proofs.Common.{arith, ◌∙◌, sym}
use Rattle.hb_nodeset.proofs.sets.first_from.Goals as goal
use Rattle.hb_nodeset.proofs.Walks.{there, not_there}

pub returns-then-has : goal.returns-then-has
returns-then-has c = (c.loop-node.invariant.0, c.loop-node-test.true, sym c.has.ensures ∙ c.if-has.true, c.loop-node.invariant.1 ∙ there c.args.set.0 c.loop-node.node c.loop-node-test.true (sym c.has.ensures ∙ c.if-has.true))

pub loop-node-preserved : goal.loop-node-preserved
loop-node-preserved c = (omega (arith, c.loop-node.invariant.0), c.loop-node.invariant.1 ∙ not_there c.args.set.0 c.loop-node.node c.loop-node-test.true (sym c.has.ensures ∙ c.if-has.false))
