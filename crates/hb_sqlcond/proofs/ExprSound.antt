-- What is found as an expression is derived by the grammar.
use Rattle.std.proofs.Common.{◌≡◌, ℕ, zero, suc, false, List, [], ◌∷◌, Option, Some, refl, sym, subst}
use Rattle.hb_sqltoken.specs.declared.token.Token.{Token}
use Rattle.hb_sqltoken.specs.declared.token.Token.TheVariants as token
use Rattle.hb_model.specs.declared.expression.Expr.{Expr}
use Rattle.hb_model.specs.declared.expression.Expr.TheVariants as value
use Rattle.hb_sqlcond.specs.declared.operand.Operand.{Operand}
use Rattle.hb_sqlcond.specs.declared.operand.Sum.{Sum}
use Rattle.hb_sqlcond.specs.declared.operand.ExprState.{ExprState}
use Rattle.hb_sqlcond.specs.declared.operand.ExprState.TheVariants.{Want, Have}
use Rattle.hb_sqlcond.specs.declared.expr_parser.ExprParser.{ExprParser}
use Rattle.hb_sqlcond.specs.declared.expr_parser.Offer.{Offer}
use Rattle.hb_sqlcond.specs.declared.expr_parser.Offer.TheVariants.{Taken, Ended, Refused}
use Rattle.hb_sqlcond.specs.Grammar.{begins_number, IsFac, number, below, quoted, name, value_inside, minus, term, TermMore, end_term, times, IsExpr, expr, ExprMore, end_expr, plus, less}
use Rattle.hb_sqlcond.specs.Operands.{operand_of, minuses_of, times_of, summed, number_of, factor}
use Rattle.hb_sqlcond.specs.ExprSteps.{start_expr, want, behind_sum, have, offer_state, offer, taken, step_expr, whole_state, whole_expr}
use Rattle.hb_sqlcond.specs.Runs.{Leads, here, next, Finds}
use Rattle.hb_sqlcond.proofs.Leading.{some_is}

abbrev minuses_before : ℕ → List Token → List Token
minuses_before zero s = s
minuses_before (suc k) s = minuses_before k (token.Minus ∷ s)

fac_minuses : (k : ℕ) (f : Expr) (u r : List Token) → begins_number u ≡ false → IsFac f u r → IsFac (minuses_of k f) (minuses_before k u) r
fac_minuses zero f u r h i = i
fac_minuses (suc k) f u r h i = fac_minuses k (value.Neg f) (token.Minus ∷ u) r refl (minus h i)

-- Behind a product the tokens s go on to a value, and `after` says what its rest must be.
pub record HaveRest (after : Expr → List Token → Type 0) (sum : Sum) (v : Expr) (s : List Token) : Type 0 where
  pub product : Expr
  pub mid : List Token
  pub products : TermMore v product s mid
  pub value : Expr
  pub rest : List Token
  pub sums : ExprMore (summed sum product) value mid rest
  pub goes : after value rest

pub record Closed (after : List Token → Type 0) (s : List Token) : Type 0 where
  pub rest : List Token
  pub is : s ≡ token.Close ∷ rest
  pub goes : after rest

abbrev pub inner_rest : (Expr → List Token → Type 0) → List Operand → Expr → List Token → Type 0
inner_rest after [] e s = after e s
inner_rest after (o ∷ inner) e s = Closed (HaveRest (inner_rest after inner) o.sum (factor o e)) s

pub record WantRest (after : Expr → List Token → Type 0) (o : Operand) (s : List Token) : Type 0 where
  pub fac : Expr
  pub from : List Token
  pub is : IsFac fac (minuses_before o.minuses s) from
  pub goes : HaveRest after o.sum (times_of o.product fac) from

abbrev pub state_rest : (Expr → List Token → Type 0) → List Operand → ExprState → List Token → Type 0
state_rest after inner (Want o) s = WantRest (inner_rest after inner) o s
state_rest after inner (Have sum v) s = HaveRest (inner_rest after inner) sum v s

-- what the tokens must be that an expression goes on with
abbrev pub expr_rest : (Expr → List Token → Type 0) → ExprParser → List Token → Type 0
expr_rest after p s = state_rest after p.inner p.state s

-- the same behind a token that was offered
abbrev pub offered_rest : (Expr → List Token → Type 0) → Offer → List Token → Type 0
offered_rest after (Taken p) s = expr_rest after p s
offered_rest after (Ended e t) s = after e (t ∷ s)
offered_rest after Refused s = ⊥

back_number : {after : Expr → List Token → Type 0} (sum : Sum) (product : Option Expr) (k n : ℕ) (s : List Token) → HaveRest after sum (number_of product k n) s → WantRest after (operand_of sum product k) (token.Number n ∷ s)
back_number sum product zero n s x = record { fac = _; from = s; is = number; goes = x }
back_number sum product (suc k) n s x = record { fac = _; from = s; is = fac_minuses k _ _ s refl below; goes = x }

pub closed_expr : {e : Expr} {s : List Token} {r n : List Token} → n ≡ token.Close ∷ r → IsExpr e s n → IsFac e (token.Open ∷ s) r
closed_expr {e = e} {s = s} h i = value_inside (subst (IsExpr e s) h i)

module _ (after : Expr → List Token → Type 0) where
  back_want : (inner : List Operand) (o : Operand) (k : Token) (s : List Token) → offered_rest after (want inner o k) s → WantRest (inner_rest after inner) o (k ∷ s)
  back_want inner o (token.Number n) s x = back_number o.sum o.product o.minuses n s x
  back_want inner o (token.Text t) s x = record { fac = minuses_of o.minuses (value.Text t); from = s; is = fac_minuses o.minuses _ _ s refl quoted; goes = x }
  back_want inner o (token.Name t) s x = record { fac = minuses_of o.minuses (value.Name t); from = s; is = fac_minuses o.minuses _ _ s refl name; goes = x }
  back_want inner o token.Open s x =
      let y = x.goes in
      record { fac = minuses_of o.minuses y.value; from = y.goes.rest; is = fac_minuses o.minuses _ _ _ refl (closed_expr y.goes.is (expr (term x.is y.products) y.sums)); goes = y.goes.goes }
  back_want inner o token.Minus s x = record { fac = x.fac; from = x.from; is = x.is; goes = x.goes }
  back_want inner o _ s x = absurd x

  back_sum : (inner : List Operand) (e : Expr) (k : Token) (s : List Token) → offered_rest after (behind_sum inner e k) s → inner_rest after inner e (k ∷ s)
  back_sum [] e k s x = x
  back_sum (o ∷ inner) e token.Close s x = record { rest = s; is = refl; goes = x }
  back_sum (o ∷ inner) e _ s x = absurd x

  stop_sum : (inner : List Operand) (sum : Sum) (v : Expr) (s : List Token) → inner_rest after inner (summed sum v) s → HaveRest (inner_rest after inner) sum v s
  stop_sum inner sum v s x = record { product = v; mid = s; products = end_term; value = summed sum v; rest = s; sums = end_expr; goes = x }

  back_have : (inner : List Operand) (sum : Sum) (v : Expr) (k : Token) (s : List Token) → offered_rest after (have inner sum v k) s → HaveRest (inner_rest after inner) sum v (k ∷ s)
  back_have inner sum v token.Star s x =
      let y = x.goes in record { product = y.product; mid = y.mid; products = times x.is y.products; value = y.value; rest = y.rest; sums = y.sums; goes = y.goes }
  back_have inner sum v token.Plus s x =
      let y = x.goes in record { product = v; mid = token.Plus ∷ s; products = end_term; value = y.value; rest = y.rest; sums = plus (term x.is y.products) y.sums; goes = y.goes }
  back_have inner sum v token.Minus s x =
      let y = x.goes in record { product = v; mid = token.Minus ∷ s; products = end_term; value = y.value; rest = y.rest; sums = less (term x.is y.products) y.sums; goes = y.goes }
  back_have inner sum v k s x = stop_sum inner sum v _ (back_sum inner (summed sum v) k s x)

  back_state : (inner : List Operand) (state : ExprState) (k : Token) (s : List Token) → offered_rest after (offer_state inner state k) s → state_rest after inner state (k ∷ s)
  back_state inner (Want o) k s x = back_want inner o k s x
  back_state inner (Have sum v) k s x = back_have inner sum v k s x

  pub back_expr : (p : ExprParser) (k : Token) (s : List Token) → offered_rest after (offer p k) s → expr_rest after p (k ∷ s)
  back_expr p k s x = back_state p.inner p.state k s x

  stop_state : (inner : List Operand) (state : ExprState) (e : Expr) (s : List Token) → whole_state inner state ≡ Some e → after e s → state_rest after inner state s
  stop_state [] (Have sum v) e s h x = stop_sum [] sum v s (subst (λ d. after d s) (sym (some_is h)) x)
  stop_state [] (Want o) e s h x = absurd (cc)
  stop_state (o ∷ inner) state e s h x = absurd (cc)

  pub stop_whole : (p : ExprParser) (e : Expr) (s : List Token) → whole_expr p ≡ Some e → after e s → expr_rest after p s
  stop_whole p e s h x = stop_state p.inner p.state e s h x

  taken_rest : (o : Offer) (p : ExprParser) (s : List Token) → taken o ≡ Some p → expr_rest after p s → offered_rest after o s
  taken_rest (Taken q) p s h x = subst (λ z. expr_rest after z s) (sym (some_is h)) x
  taken_rest (Ended e t) p s h x = absurd (cc)
  taken_rest Refused p s h x = absurd (cc)

  pub leads_rest : {c d : ExprParser} {s r : List Token} → Leads step_expr c s d r → (e : Expr) → whole_expr d ≡ Some e → after e r → expr_rest after c s
  leads_rest (here {c = c} {s = s}) e h x = stop_whole c e s h x
  leads_rest (next {c = c} {m = m} {t = t} {s = s} f y) e h x = back_expr c t s (taken_rest (offer c t) m s f (leads_rest y e h x))

pub expr_derived : (e : Expr) (s r : List Token) → Finds step_expr whole_expr start_expr e s r → IsExpr e s r
expr_derived e s r f =
    let w = leads_rest (λ x n. (x ≡ e) × (n ≡ r)) f.leads e f.is (refl, refl) in
    let y = w.goes in
    subst (λ x. IsExpr x s r) y.goes.0 (subst (IsExpr y.value s) y.goes.1 (expr (term w.is y.products) y.sums))
