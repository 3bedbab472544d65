use Rattle.std.proofs.Common.{◌∙◌}
use Rattle.hb_sqlcheck.specs.Checks.{unknown_in}
use Rattle.hb_endings.proofs.Ends.{any_sets_is}
use Rattle.hb_endings.proofs.updates.sets_have_unknown.Goals as goal

pub returns : goal.returns
returns c = c.any_has_unknown.ensures ∙ any_sets_is (unknown_in c.args.columns.now) c.args.sets.now
