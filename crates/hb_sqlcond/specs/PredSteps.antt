-- A condition, token by token.
use Rattle.std.specs.Prelude.{ℕ, suc, if◌then◌else◌, List, [], ◌∷◌, Option, Some, None, option_map}
use Rattle.hb_sqltoken.specs.declared.token.Token.{Token}
use Rattle.hb_sqltoken.specs.declared.token.Token.TheVariants as token
use Rattle.hb_sqltoken.specs.declared.token.Word.{Word}
use Rattle.hb_sqltoken.specs.declared.token.Word.TheVariants as word
use Rattle.hb_model.specs.declared.condition.Op.{Op}
use Rattle.hb_model.specs.declared.expression.Expr.{Expr}
use Rattle.hb_model.specs.declared.condition.Pred.{Pred}
use Rattle.hb_model.specs.declared.condition.Pred.TheVariants as truth
use Rattle.hb_sqlcond.specs.declared.operand.Sum.TheVariants.{Nothing}
use Rattle.hb_sqlcond.specs.declared.operand.ExprState.TheVariants.{Have}
use Rattle.hb_sqlcond.specs.declared.prefix.Prefix.{Prefix}
use Rattle.hb_sqlcond.specs.declared.expr_parser.Offer.{Offer}
use Rattle.hb_sqlcond.specs.declared.expr_parser.Offer.TheVariants.{Taken, Ended, Refused}
use Rattle.hb_sqlcond.specs.declared.pred_parser.Mode.{Mode}
use Rattle.hb_sqlcond.specs.declared.pred_parser.Mode.TheVariants.{WantTest, Left, Right, Tested}
use Rattle.hb_sqlcond.specs.declared.pred_parser.PredParser.{PredParser}
use Rattle.hb_sqlcond.specs.Operands.{prefix_of, fresh, is_fresh, nots_of, and_of, or_of}
use Rattle.hb_sqlcond.specs.ExprSteps.{start_expr, parser_of, offer, whole_expr}

abbrev pub pred_of : List Prefix → Mode → PredParser
pred_of outer mode = record { outer = outer; mode = mode }

abbrev pub start_pred : PredParser
start_pred = pred_of [] (WantTest fresh)

-- a condition in parentheses is whole
abbrev pub close_test : List Prefix → Pred → Option PredParser
close_test [] p = None
close_test (prefix ∷ outer) p = Some (pred_of outer (Tested prefix.ors prefix.ands (nots_of prefix.nots p)))

abbrev pub joined : List Prefix → Option Pred → Option Pred → Pred → Word → Option PredParser
joined outer ors ands p word.And = Some (pred_of outer (WantTest (prefix_of ors (Some (and_of ands p)) 0)))
joined outer ors ands p word.Or = Some (pred_of outer (WantTest (prefix_of (Some (or_of ors (and_of ands p))) None 0)))
joined outer ors ands p _ = None

-- behind a test
abbrev pub behind_test : List Prefix → Option Pred → Option Pred → Pred → Token → Option PredParser
behind_test outer ors ands p (token.Word w) = joined outer ors ands p w
behind_test outer ors ands p token.Close = close_test outer (or_of ors (and_of ands p))
behind_test outer ors ands p _ = None

-- an expression in parentheses that might have opened a condition is whole
abbrev pub close_value : List Prefix → Expr → Option PredParser
close_value [] e = None
close_value (prefix ∷ outer) e = Some (pred_of outer (Left prefix (parser_of [] (Have Nothing e))))

-- behind the left side of a comparison
abbrev pub behind_left : List Prefix → Prefix → Expr → Token → Option PredParser
behind_left outer prefix e (token.Compare op) = Some (pred_of outer (Right prefix op e start_expr))
behind_left outer prefix e token.Close = if is_fresh prefix then close_value outer e else None
behind_left outer prefix e _ = None

abbrev pub on_left : List Prefix → Prefix → Offer → Option PredParser
on_left outer prefix (Taken f) = Some (pred_of outer (Left prefix f))
on_left outer prefix (Ended e t) = behind_left outer prefix e t
on_left outer prefix Refused = None

abbrev pub compared : ℕ → Op → Expr → Expr → Pred
compared nots op a b = nots_of nots (truth.Test op a b)

abbrev pub on_right : List Prefix → Prefix → Op → Expr → Offer → Option PredParser
on_right outer prefix op a (Taken f) = Some (pred_of outer (Right prefix op a f))
on_right outer prefix op a (Ended e t) = behind_test outer prefix.ors prefix.ands (compared prefix.nots op a e) t
on_right outer prefix op a Refused = None

abbrev pub denied : List Prefix → Prefix → Word → Option PredParser
denied outer prefix word.Not = Some (pred_of outer (WantTest (prefix_of prefix.ors prefix.ands (suc prefix.nots))))
denied outer prefix _ = None

-- where a test is wanted
abbrev pub want_test : List Prefix → Prefix → Token → Option PredParser
want_test outer prefix (token.Word w) = denied outer prefix w
want_test outer prefix token.Open = Some (pred_of (prefix ∷ outer) (WantTest fresh))
want_test outer prefix t = on_left outer prefix (offer start_expr t)

abbrev pub step_mode : List Prefix → Mode → Token → Option PredParser
step_mode outer (WantTest prefix) t = want_test outer prefix t
step_mode outer (Left prefix f) t = on_left outer prefix (offer f t)
step_mode outer (Right prefix op a f) t = on_right outer prefix op a (offer f t)
step_mode outer (Tested ors ands p) t = behind_test outer ors ands p t

abbrev pub step_pred : PredParser → Token → Option PredParser
step_pred p t = step_mode p.outer p.mode t

abbrev pub whole_mode : List Prefix → Mode → Option Pred
whole_mode [] (Tested ors ands p) = Some (or_of ors (and_of ands p))
whole_mode [] (Right prefix op a f) = option_map (λ e. or_of prefix.ors (and_of prefix.ands (compared prefix.nots op a e))) (whole_expr f)
whole_mode _ _ = None

-- the condition, where it is whole
abbrev pub whole_pred : PredParser → Option Pred
whole_pred p = whole_mode p.outer p.mode
