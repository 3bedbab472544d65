use Rattle.hb_print.proofs.Pieces.{goes_on, ends, edges_go, edges_end}
use Rattle.hb_print.proofs.edges.put_further_edges.Goals as goal

pub loop-edge-preserved : goal.loop-edge-preserved
loop-edge-preserved c = goes_on _ _ _ _ _ _ _ _ c.in_ok-put.ensures c.in_ok-put_edge.ensures (edges_go c.args.names.now c.args.edges.now c.loop-edge.edge-index _ c.loop-edge-test.true) c.loop-edge.invariant

pub returns : goal.returns
returns c = ends _ _ _ (edges_end c.args.names.now c.args.edges.now c.loop-edge.edge-index c.loop-edge-test.false) c.loop-edge.invariant
