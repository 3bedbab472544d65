-- What it means that lines are read.
use Rattle.std.specs.Prelude.{List, []}
use Rattle.hb_model.specs.declared.script.Item.{Item}
use Rattle.hb_sqltoken.specs.declared.token.Token.{Token}
use Rattle.hb_sqlcond.specs.Runs.{Finds, Completes}
use Rattle.hb_sqlsteps.specs.declared.line.Line.{Line}
use Rattle.hb_sqlsteps.specs.declared.line.Line.TheVariants as line
use Rattle.hb_sqlparse.specs.Grammar.{IsLine}
use Rattle.hb_sqlsteps.specs.LineSteps.{step_line, whole_line}

-- The lines that are found token by token are those of the grammar, and from each place some tokens make a line whole.
pub record ReadsLines : Type 0 where
  pub complete : (i : Item) (s : List Token) → IsLine i s → Finds step_line whole_line line.Start i s []
  pub sound : (i : Item) (s : List Token) → Finds step_line whole_line line.Start i s [] → IsLine i s
  pub completes : (l : Line) → Completes step_line whole_line l
