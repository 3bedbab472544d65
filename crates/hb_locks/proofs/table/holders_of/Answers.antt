use Rattle.std.proofs.Common.{◌∙◌}
use Rattle.hb_locks.proofs.Order.{holders_is}
use Rattle.hb_locks.proofs.table.holders_of.Goals as goal

pub returns-in-Some : goal.returns-in-Some
returns-in-Some c = c.as_slice.ensures ∙ holders_is c.args.table.now.entries c.args.path _ c.in-Some.ensures.value

pub returns-in-None : goal.returns-in-None
returns-in-None c = holders_is c.args.table.now.entries c.args.path _ c.in-None.ensures.value
