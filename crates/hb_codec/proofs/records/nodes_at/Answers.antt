use Rattle.std.proofs.Common.{◌-◌, arith}
use Rattle.std.proofs.lemmas.Result.{err_from_is_err_and}
use Rattle.hb_codec.specs.Readers.{many_in}
use Rattle.hb_codec.specs.RecordReaders.{node_in, node_after}
use Rattle.hb_codec.proofs.Lists.{front_none, many_goes, many_ends, many_done}
use Rattle.hb_codec.proofs.records.nodes_at.Goals as goal

pub loop-left-init : goal.loop-left-init
loop-left-init c = record {
  few = omega arith;
  so_far = rw c.in_ok-nodes.ensures.items (front_none (many_in node_in node_after c.args.count 1 c.args.bytes.now));
}

pub loop-left-preserved : goal.loop-left-preserved
loop-left-preserved c = record {
  few = omega arith;
  so_far =
      rw (c.in_ok-push.ensures.items)
      (many_goes node_in node_after c.loop-left.nodes.items c.loop-left.left (c.loop-left.left - 1) c.loop-left.least c.loop-left.rest.now c.in_ok-node.node c.in_ok-node.after.now (many_in node_in node_after c.args.count 1 c.args.bytes.now)
      (omega arith) c.in_ok-node.ensures.node c.loop-left.invariant.so_far);
}

pub returns-in_err-node : goal.returns-in_err-node
returns-in_err-node c =
    let p = err_from_is_err_and c.from_residual-in_err-node.result c.from_residual-in_err-node.ensures.1 in
    rw (p.1, p.2)
    (many_ends node_in node_after c.in_err-node.field-0.0 c.loop-left.nodes.items c.loop-left.left (c.loop-left.left - 1) c.loop-left.least c.loop-left.rest.now (many_in node_in node_after c.args.count 1 c.args.bytes.now)
    (omega arith) c.in_err-node.ensures.node c.loop-left.invariant.so_far)

pub returns : goal.returns
returns c =
    rw c.from_vec.ensures
    (many_done node_in node_after c.loop-left.nodes.items c.loop-left.left c.loop-left.least c.loop-left.rest.now (many_in node_in node_after c.args.count 1 c.args.bytes.now) (omega arith) c.loop-left.invariant.so_far)
