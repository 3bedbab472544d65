use Rattle.hb_print.proofs.nodes.before.Goals as goal

pub returns : goal.returns
returns c = let e = c.in_ok-format.ensures.ok in let n = c.in_ok-node.ensures in cc
