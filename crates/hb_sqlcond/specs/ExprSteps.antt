-- An expression, token by token.
use Rattle.std.specs.Prelude.{suc, List, [], ◌∷◌, Option, Some, None}
use Rattle.hb_sqltoken.specs.declared.token.Token.{Token}
use Rattle.hb_sqltoken.specs.declared.token.Token.TheVariants as token
use Rattle.hb_model.specs.declared.expression.Expr.{Expr}
use Rattle.hb_model.specs.declared.expression.Expr.TheVariants as value
use Rattle.hb_sqlcond.specs.declared.operand.Operand.{Operand}
use Rattle.hb_sqlcond.specs.declared.operand.Sum.{Sum}
use Rattle.hb_sqlcond.specs.declared.operand.Sum.TheVariants.{Plus, Minus}
use Rattle.hb_sqlcond.specs.declared.operand.ExprState.{ExprState}
use Rattle.hb_sqlcond.specs.declared.operand.ExprState.TheVariants.{Want, Have}
use Rattle.hb_sqlcond.specs.declared.expr_parser.ExprParser.{ExprParser}
use Rattle.hb_sqlcond.specs.declared.expr_parser.Offer.{Offer}
use Rattle.hb_sqlcond.specs.declared.expr_parser.Offer.TheVariants.{Taken, Ended, Refused}
use Rattle.hb_sqlcond.specs.Operands.{operand_of, bare, summed, number_of, factor}

abbrev pub parser_of : List Operand → ExprState → ExprParser
parser_of inner state = record { inner = inner; state = state }

abbrev pub start_expr : ExprParser
start_expr = parser_of [] (Want bare)

abbrev pub to : List Operand → ExprState → Offer
to inner state = Taken (parser_of inner state)

-- where a factor is wanted
abbrev pub want : List Operand → Operand → Token → Offer
want inner o (token.Number n) = to inner (Have o.sum (number_of o.product o.minuses n))
want inner o (token.Text t) = to inner (Have o.sum (factor o (value.Text t)))
want inner o (token.Name t) = to inner (Have o.sum (factor o (value.Name t)))
want inner o token.Open = to (o ∷ inner) (Want bare)
want inner o token.Minus = to inner (Want (operand_of o.sum o.product (suc o.minuses)))
want inner o _ = Refused

-- behind a sum
abbrev pub behind_sum : List Operand → Expr → Token → Offer
behind_sum [] e t = Ended e t
behind_sum (o ∷ inner) e token.Close = to inner (Have o.sum (factor o e))
behind_sum (o ∷ inner) e _ = Refused

-- behind a product
abbrev pub have : List Operand → Sum → Expr → Token → Offer
have inner sum v token.Star = to inner (Want (operand_of sum (Some v) 0))
have inner sum v token.Plus = to inner (Want (operand_of (Plus (summed sum v)) None 0))
have inner sum v token.Minus = to inner (Want (operand_of (Minus (summed sum v)) None 0))
have inner sum v t = behind_sum inner (summed sum v) t

abbrev pub offer_state : List Operand → ExprState → Token → Offer
offer_state inner (Want o) t = want inner o t
offer_state inner (Have sum v) t = have inner sum v t

abbrev pub offer : ExprParser → Token → Offer
offer p t = offer_state p.inner p.state t

abbrev pub taken : Offer → Option ExprParser
taken (Taken p) = Some p
taken (Ended e t) = None
taken Refused = None

abbrev pub step_expr : ExprParser → Token → Option ExprParser
step_expr p t = taken (offer p t)

abbrev pub whole_state : List Operand → ExprState → Option Expr
whole_state [] (Have sum v) = Some (summed sum v)
whole_state _ _ = None

-- the expression, where it is whole
abbrev pub whole_expr : ExprParser → Option Expr
whole_expr p = whole_state p.inner p.state
