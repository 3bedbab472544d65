use Rattle.hb_sqlcond.specs.Grammar.{IsExpr}
use Rattle.hb_sqlcond.specs.ExprSteps.{start_expr, step_expr, whole_expr}
use Rattle.hb_sqlcond.specs.Runs.{in_expr}
use Rattle.hb_sqlcond.proofs.Leading.{reads}
use Rattle.hb_sqlcond.proofs.ExprComplete.{expr_found}
use Rattle.hb_sqlcond.proofs.ExprSound.{expr_derived}
use Rattle.hb_sqlcond.proofs.ExprEnds.{expr_ends}
use Rattle.hb_sqlcond.proofs.ExprTakes.{expr_takes}
use Rattle.hb_sqlcond.proofs.laws.expressions_are_read.Goals as goal

pub returns : goal.returns
returns c = reads start_expr step_expr whole_expr in_expr IsExpr expr_found expr_derived expr_takes expr_ends
