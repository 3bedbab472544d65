use Rattle.hb_sqlcond.specs.Grammar.{IsPred}
use Rattle.hb_sqlcond.specs.PredSteps.{start_pred, step_pred, whole_pred}
use Rattle.hb_sqlcond.specs.Runs.{in_pred}
use Rattle.hb_sqlcond.proofs.Leading.{reads}
use Rattle.hb_sqlcond.proofs.PredComplete.{pred_found}
use Rattle.hb_sqlcond.proofs.PredFinish.{pred_derived}
use Rattle.hb_sqlcond.proofs.PredEnds.{pred_ends}
use Rattle.hb_sqlcond.proofs.PredTakes.{pred_takes}
use Rattle.hb_sqlcond.proofs.laws.conditions_are_read.Goals as goal

pub returns : goal.returns
returns c = reads start_pred step_pred whole_pred in_pred IsPred pred_found pred_derived pred_takes pred_ends
