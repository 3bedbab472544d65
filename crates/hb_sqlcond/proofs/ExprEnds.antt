-- Each state of an expression can be completed.
use Rattle.std.proofs.Common.{◌≡◌, List, [], ◌∷◌, Some, refl}
use Rattle.hb_sqltoken.specs.declared.token.Token.{Token}
use Rattle.hb_sqltoken.specs.declared.token.Token.TheVariants as token
use Rattle.hb_model.specs.declared.expression.Expr.{Expr}
use Rattle.hb_model.specs.declared.expression.Expr.TheVariants as value
use Rattle.hb_sqlcond.specs.declared.operand.Operand.{Operand}
use Rattle.hb_sqlcond.specs.declared.operand.Sum.{Sum}
use Rattle.hb_sqlcond.specs.declared.operand.ExprState.{ExprState}
use Rattle.hb_sqlcond.specs.declared.operand.ExprState.TheVariants.{Want, Have}
use Rattle.hb_sqlcond.specs.declared.expr_parser.ExprParser.{ExprParser}
use Rattle.hb_sqlcond.specs.Operands.{summed, factor}
use Rattle.hb_sqlcond.specs.ExprSteps.{parser_of, step_expr, whole_expr}
use Rattle.hb_sqlcond.specs.Runs.{here, next, Completes}

abbrev Ends : ExprParser → Type 0
Ends = Completes step_expr whole_expr

ends_next : {c d : ExprParser} (k : Token) → step_expr c k ≡ Some d → Ends d → Ends c
ends_next k h e = record { rest = k ∷ e.rest; tree = e.tree; finds = record { last = e.finds.last; leads = next h e.finds.leads; is = e.finds.is } }

end_have : (inner : List Operand) (sum : Sum) (v : Expr) → Ends (parser_of inner (Have sum v))
end_have [] sum v = record { rest = []; tree = summed sum v; finds = record { last = parser_of [] (Have sum v); leads = here; is = refl } }
end_have (o ∷ inner) sum v = ends_next token.Close refl (end_have inner o.sum _)

end_state : (inner : List Operand) (state : ExprState) → Ends (parser_of inner state)
end_state inner (Want o) = ends_next (token.Name (97 ∷ [])) refl (end_have inner o.sum (factor o (value.Name (97 ∷ []))))
end_state inner (Have sum v) = end_have inner sum v

pub expr_ends : (p : ExprParser) → Ends p
expr_ends p = end_state p.inner p.state
