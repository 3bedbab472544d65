-- An expression takes its own tokens only, and gives back the token that it ends before.
use Rattle.std.proofs.Common.{◌≡◌, true, List, [], ◌∷◌, Some, refl}
use Rattle.hb_sqltoken.specs.declared.token.Token.{Token}
use Rattle.hb_sqltoken.specs.declared.token.Token.TheVariants as token
use Rattle.hb_model.specs.declared.expression.Expr.{Expr}
use Rattle.hb_sqlcond.specs.declared.operand.Operand.{Operand}
use Rattle.hb_sqlcond.specs.declared.operand.Sum.{Sum}
use Rattle.hb_sqlcond.specs.declared.operand.ExprState.{ExprState}
use Rattle.hb_sqlcond.specs.declared.operand.ExprState.TheVariants.{Want, Have}
use Rattle.hb_sqlcond.specs.declared.expr_parser.ExprParser.{ExprParser}
use Rattle.hb_sqlcond.specs.declared.expr_parser.Offer.{Offer}
use Rattle.hb_sqlcond.specs.declared.expr_parser.Offer.TheVariants.{Taken, Ended, Refused}
use Rattle.hb_sqlcond.specs.Operands.{summed}
use Rattle.hb_sqlcond.specs.ExprSteps.{want, behind_sum, have, offer_state, offer, taken, step_expr}
use Rattle.hb_sqlcond.specs.Runs.{in_expr}

-- what was offered was the token k
abbrev pub AtToken : Token → Offer → Type 0
AtToken k (Taken p) = in_expr k ≡ true
AtToken k (Ended e t) = t ≡ k
AtToken k Refused = Unit {0}

want_at : (inner : List Operand) (o : Operand) (k : Token) → AtToken k (want inner o k)
want_at inner o (token.Number n) = refl
want_at inner o (token.Text t) = refl
want_at inner o (token.Name t) = refl
want_at inner o token.Open = refl
want_at inner o token.Minus = refl
want_at inner o _ = tt

sum_at : (inner : List Operand) (e : Expr) (k : Token) → AtToken k (behind_sum inner e k)
sum_at [] e k = refl
sum_at (o ∷ inner) e token.Close = refl
sum_at (o ∷ inner) e _ = tt

have_at : (inner : List Operand) (sum : Sum) (v : Expr) (k : Token) → AtToken k (have inner sum v k)
have_at inner sum v token.Star = refl
have_at inner sum v token.Plus = refl
have_at inner sum v token.Minus = refl
have_at inner sum v k = sum_at inner (summed sum v) k

state_at : (inner : List Operand) (state : ExprState) (k : Token) → AtToken k (offer_state inner state k)
state_at inner (Want o) k = want_at inner o k
state_at inner (Have sum v) k = have_at inner sum v k

pub offer_at : (p : ExprParser) (k : Token) → AtToken k (offer p k)
offer_at p k = state_at p.inner p.state k

of_taken : (k : Token) (o : Offer) → AtToken k o → (d : ExprParser) → taken o ≡ Some d → in_expr k ≡ true
of_taken k (Taken p) x d h = x
of_taken k (Ended e t) x d h = absurd (cc)
of_taken k Refused x d h = absurd (cc)

pub expr_takes : (c d : ExprParser) (k : Token) → step_expr c k ≡ Some d → in_expr k ≡ true
expr_takes c d k h = of_taken k (offer c k) (offer_at c k) d h
