use Rattle.std.proofs.Common.{◌∙◌}
use Rattle.hb_endings.proofs.Ends.{early_select_is}
use Rattle.hb_endings.proofs.early.early_select.Goals as goal

pub returns : goal.returns
returns c = c.or_outside.ensures ∙ early_select_is c.args.table.now c.args.what.now c.args.pred.now c.select_check.result c.select_check.ensures
