use Rattle.std.proofs.Common.{sym, ◌∙◌}
use Rattle.hb_board.specs.Shows.{is_live_in}
use Rattle.hb_board.proofs.Living.{find_here, find_more}
use Rattle.hb_board.proofs.registry.first_live_of.Goals as goal

pub returns-then-is_live : goal.returns-then-is_live
returns-then-is_live c = sym (find_here (is_live_in c.args.known.now) c.args.edges.now c.loop-edge.edge-index _ c.loop-edge-test.true c.loop-edge.invariant (sym c.is_live.ensures ∙ c.if-is_live.true))

pub loop-edge-preserved : goal.loop-edge-preserved
loop-edge-preserved c = find_more (is_live_in c.args.known.now) c.args.edges.now c.loop-edge.edge-index _ c.loop-edge-test.true c.loop-edge.invariant (sym c.is_live.ensures ∙ c.if-is_live.false)
