use Rattle.std.proofs.Common.{◌∙◌, sym, arith}
use Rattle.hb_nodeset.proofs.sets.with.Goals as goal
use Rattle.hb_nodeset.proofs.Bits.{no_carry}

pub overflow_add-result : goal.overflow_add-result
overflow_add-result c = record { fits = omega (arith, no_carry c.args.set.0 c.args.node.0 (omega arith) c.requires (sym c.has.ensures ∙ c.if-has.false), c.bit.ensures) }
