use Rattle.std.proofs.Common.{◌≡◌, ◌++◌, take, map}
use Rattle.hb_types.specs.Lists.{joined}
use Rattle.hb_codec.specs.Spellings.{node_text}
use Rattle.hb_codec.proofs.writing.put_nodes.Given as goal

abbrev pub invariant-loop-node : goal.invariant-loop-node
invariant-loop-node l = l.out.items ≡ l.initial.out.items ++ joined (map node_text (take l.node-index l.nodes))
