-- A condition takes its own tokens only.
use Rattle.std.proofs.Common.{◌≡◌, true, List, Option, Some, refl, subst}
use Rattle.hb_sqltoken.specs.declared.token.Token.{Token}
use Rattle.hb_sqltoken.specs.declared.token.Token.TheVariants as token
use Rattle.hb_sqltoken.specs.declared.token.Word.{Word}
use Rattle.hb_sqltoken.specs.declared.token.Word.TheVariants as word
use Rattle.hb_model.specs.declared.condition.Op.{Op}
use Rattle.hb_model.specs.declared.expression.Expr.{Expr}
use Rattle.hb_model.specs.declared.condition.Pred.{Pred}
use Rattle.hb_sqlcond.specs.declared.prefix.Prefix.{Prefix}
use Rattle.hb_sqlcond.specs.declared.expr_parser.Offer.{Offer}
use Rattle.hb_sqlcond.specs.declared.expr_parser.Offer.TheVariants.{Taken, Ended, Refused}
use Rattle.hb_sqlcond.specs.declared.pred_parser.Mode.{Mode}
use Rattle.hb_sqlcond.specs.declared.pred_parser.Mode.TheVariants.{WantTest, Left, Right, Tested}
use Rattle.hb_sqlcond.specs.declared.pred_parser.PredParser.{PredParser}
use Rattle.hb_sqlcond.specs.ExprSteps.{start_expr, offer}
use Rattle.hb_sqlcond.specs.PredSteps.{compared, joined, behind_test, behind_left, on_left, on_right, denied, want_test, step_mode, step_pred}
use Rattle.hb_sqlcond.specs.Runs.{joins, in_expr, in_pred}
use Rattle.hb_sqlcond.proofs.ExprTakes.{AtToken, offer_at}

-- the tokens of expressions are tokens of conditions
wider : (k : Token) → in_expr k ≡ true → in_pred k ≡ true
wider (token.Word w) h = absurd (cc)
wider (token.Compare o) h = refl
wider k h = h

in_joined : (outer : List Prefix) (ors ands : Option Pred) (p : Pred) (w : Word) (d : PredParser) → joined outer ors ands p w ≡ Some d → joins w ≡ true
in_joined outer ors ands p word.And d h = refl
in_joined outer ors ands p word.Or d h = refl
in_joined outer ors ands p _ d h = absurd (cc)

in_test : (outer : List Prefix) (ors ands : Option Pred) (p : Pred) (k : Token) (d : PredParser) → behind_test outer ors ands p k ≡ Some d → in_pred k ≡ true
in_test outer ors ands p (token.Word w) d h = in_joined outer ors ands p w d h
in_test outer ors ands p token.Close d h = refl
in_test outer ors ands p _ d h = absurd (cc)

in_behind_left : (outer : List Prefix) (prefix : Prefix) (e : Expr) (k : Token) (d : PredParser) → behind_left outer prefix e k ≡ Some d → in_pred k ≡ true
in_behind_left outer prefix e (token.Compare o) d h = refl
in_behind_left outer prefix e token.Close d h = refl
in_behind_left outer prefix e _ d h = absurd (cc)

in_left : (outer : List Prefix) (prefix : Prefix) (k : Token) (o : Offer) → AtToken k o → (d : PredParser) → on_left outer prefix o ≡ Some d → in_pred k ≡ true
in_left outer prefix k (Taken p) x d h = wider k x
in_left outer prefix k (Ended e t) x d h = subst (λ z. in_pred z ≡ true) x (in_behind_left outer prefix e t d h)
in_left outer prefix k Refused x d h = absurd (cc)

in_right : (outer : List Prefix) (prefix : Prefix) (op : Op) (a : Expr) (k : Token) (o : Offer) → AtToken k o → (d : PredParser) → on_right outer prefix op a o ≡ Some d → in_pred k ≡ true
in_right outer prefix op a k (Taken p) x d h = wider k x
in_right outer prefix op a k (Ended e t) x d h = subst (λ z. in_pred z ≡ true) x (in_test outer prefix.ors prefix.ands (compared prefix.nots op a e) t d h)
in_right outer prefix op a k Refused x d h = absurd (cc)

in_denied : (outer : List Prefix) (prefix : Prefix) (w : Word) (d : PredParser) → denied outer prefix w ≡ Some d → joins w ≡ true
in_denied outer prefix word.Not d h = refl
in_denied outer prefix _ d h = absurd (cc)

in_want_test : (outer : List Prefix) (prefix : Prefix) (k : Token) (d : PredParser) → want_test outer prefix k ≡ Some d → in_pred k ≡ true
in_want_test outer prefix (token.Word w) d h = in_denied outer prefix w d h
in_want_test outer prefix token.Open d h = refl
in_want_test outer prefix k d h = in_left outer prefix k (offer start_expr k) (offer_at start_expr k) d h

in_mode : (outer : List Prefix) (mode : Mode) (k : Token) (d : PredParser) → step_mode outer mode k ≡ Some d → in_pred k ≡ true
in_mode outer (WantTest prefix) k d h = in_want_test outer prefix k d h
in_mode outer (Left prefix f) k d h = in_left outer prefix k (offer f k) (offer_at f k) d h
in_mode outer (Right prefix op a f) k d h = in_right outer prefix op a k (offer f k) (offer_at f k) d h
in_mode outer (Tested ors ands p) k d h = in_test outer ors ands p k d h

pub pred_takes : (c d : PredParser) (k : Token) → step_pred c k ≡ Some d → in_pred k ≡ true
pred_takes c d k h = in_mode c.outer c.mode k d h
