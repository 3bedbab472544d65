-- The assignments of an UPDATE, token by token.
use Rattle.std.specs.Prelude.{ℕ, if◌then◌else◌, List, [], ◌∷◌, ◌++◌, Option, None, option_map}
use Rattle.hb_model.specs.declared.expression.Expr.{Expr}
use Rattle.hb_model.specs.declared.statement.Set.{Set}
use Rattle.hb_sqlcond.specs.declared.expr_parser.ExprParser.{ExprParser}
use Rattle.hb_sqlcond.specs.ExprSteps.{start_expr, step_expr, whole_expr}
use Rattle.hb_sqltoken.specs.declared.token.Token.{Token}
use Rattle.hb_sqlsteps.specs.declared.marks.Mark.TheVariants as mark
use Rattle.hb_sqlsteps.specs.declared.sets.Sets.{Sets}
use Rattle.hb_sqlsteps.specs.declared.sets.Sets.TheVariants as sets
use Rattle.hb_sqlsteps.specs.Kept.{set_of}
use Rattle.hb_sqlsteps.specs.Marks.{is_mark, on_mark, on_name}

abbrev pub with_set : List Set → List ℕ → Expr → List Set
with_set xs name e = xs ++ set_of name e ∷ []

-- the assignments with a last one, where its value is whole
abbrev pub with_whole : List Set → List ℕ → ExprParser → Option (List Set)
with_whole xs name f = option_map (with_set xs name) (whole_expr f)

abbrev pub step_value : List Set → List ℕ → ExprParser → Token → Option Sets
step_value xs name f t = if is_mark mark.Comma t then option_map sets.Want (with_whole xs name f) else option_map (sets.Value xs name) (step_expr f t)

abbrev pub step_sets : Sets → Token → Option Sets
step_sets (sets.Want xs) t = on_name t (sets.Named xs)
step_sets (sets.Named xs name) t = on_mark mark.Equals t (sets.Value xs name start_expr)
step_sets (sets.Value xs name f) t = step_value xs name f t

abbrev pub whole_sets : Sets → Option (List Set)
whole_sets (sets.Want xs) = None
whole_sets (sets.Named xs name) = None
whole_sets (sets.Value xs name f) = with_whole xs name f
