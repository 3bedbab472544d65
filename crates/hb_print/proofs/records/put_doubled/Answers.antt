use Rattle.hb_print.proofs.Pieces.{goes, ends, doubled_go, doubled_ends}
use Rattle.hb_print.proofs.records.put_doubled.Goals as goal

pub loop-b-preserved : goal.loop-b-preserved
loop-b-preserved c = goes _ _ _ _ _ _ c.in_ok-put_byte.ensures (doubled_go c.args.field.now c.loop-b.b-index c.loop-b-test.true) c.loop-b.invariant

pub returns : goal.returns
returns c = ends _ _ _ (doubled_ends c.args.field.now c.loop-b.b-index c.loop-b-test.false) c.loop-b.invariant
