use Rattle.std.proofs.Common.{◌∙◌}
use Rattle.hb_endings.proofs.Ends.{early_update_is}
use Rattle.hb_endings.proofs.early.early_update.Goals as goal

pub returns : goal.returns
returns c = c.or_outside.ensures ∙ early_update_is c.args.table.now c.args.sets.now c.args.pred.now c.update_check.result c.update_check.ensures
