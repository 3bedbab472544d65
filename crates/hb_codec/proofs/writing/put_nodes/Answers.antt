use Rattle.std.proofs.Common.{get_or}
use Rattle.hb_types.specs.declared.names.NodeName.{NodeName}
use Rattle.hb_codec.specs.Spellings.{node_text}
use Rattle.hb_codec.proofs.Joined.{writes_more, get_or_any}
use Rattle.hb_codec.proofs.writing.put_nodes.Goals as goal

pub loop-node-preserved : goal.loop-node-preserved
loop-node-preserved c =
    let none : NodeName = record { 0 = 0 } in
    let node = get_or c.args.nodes.now c.loop-node.node-index none in
    writes_more node_text c.args.nodes.now c.loop-node.node-index node c.args.out.now.items c.loop-node.out.items c.push.new.self.items
    c.loop-node-test.true (get_or_any c.args.nodes.now c.loop-node.node-index none node c.loop-node-test.true) c.in_ok-push.ensures.items c.loop-node.invariant
