-- What the grammar derives as an expression is found.
use Rattle.std.proofs.Common.{◌≡◌, ℕ, zero, suc, false, List, [], ◌∷◌, Option, Some, None, refl, ap}
use Rattle.hb_sqltoken.specs.declared.token.Token.{Token}
use Rattle.hb_model.specs.declared.expression.Expr.{Expr}
use Rattle.hb_sqlcond.specs.declared.operand.Operand.{Operand}
use Rattle.hb_sqlcond.specs.declared.operand.Sum.{Sum}
use Rattle.hb_sqlcond.specs.declared.operand.Sum.TheVariants.{Nothing, Plus, Minus}
use Rattle.hb_sqlcond.specs.declared.operand.ExprState.TheVariants.{Want, Have}
use Rattle.hb_sqlcond.specs.declared.expr_parser.ExprParser.{ExprParser}
use Rattle.hb_sqlcond.specs.Grammar.{begins_number, IsFac, number, below, quoted, name, value_inside, minus, IsTerm, term, TermMore, end_term, times, IsExpr, expr, ExprMore, end_expr, plus, less}
use Rattle.hb_sqlcond.specs.Operands.{operand_of, bare, minuses_of, times_of, summed}
use Rattle.hb_sqlcond.specs.ExprSteps.{parser_of, start_expr, step_expr, whole_expr}
use Rattle.hb_sqlcond.specs.Runs.{Leads, here, next, Finds}
use Rattle.hb_sqlcond.proofs.Leading.{and_then}

abbrev pub Goes : ExprParser → List Token → ExprParser → List Token → Type 0
Goes = Leads step_expr

abbrev pub wants : List Operand → Sum → Option Expr → ℕ → ExprParser
wants inner sum product k = parser_of inner (Want (operand_of sum product k))

abbrev pub has : List Operand → Sum → Expr → ExprParser
has inner sum v = parser_of inner (Have sum v)

-- a number doesn't stand behind the minuses that were read
abbrev pub Free : ℕ → List Token → Type 0
Free zero s = Unit {0}
Free (suc k) s = begins_number s ≡ false

-- From c the tokens s lead to a value e that is in a sum, with r left.
pub record Values (c : ExprParser) (inner : List Operand) (e : Expr) (s r : List Token) : Type 0 where
  pub sum : Sum
  pub value : Expr
  pub goes : Goes c s (has inner sum value) r
  pub is : summed sum value ≡ e

values_then : {c d : ExprParser} {inner : List Operand} {e : Expr} {s n r : List Token} → Goes c s d n → Values d inner e n r → Values c inner e s r
values_then x v = record { sum = v.sum; value = v.value; goes = and_then step_expr x v.goes; is = v.is }

mutual
  pub fac_want : {f : Expr} {s r : List Token} → IsFac f s r → (inner : List Operand) (sum : Sum) (product : Option Expr) (k : ℕ) → Free k s
      → Goes (wants inner sum product k) s (has inner sum (times_of product (minuses_of k f))) r
  fac_want number inner sum product zero h = next refl here
  fac_want number inner sum product (suc k) h = absurd (cc)
  fac_want below inner sum product k h = next refl (next refl here)
  fac_want quoted inner sum product k h = next refl here
  fac_want name inner sum product k h = next refl here
  fac_want (value_inside {e = e} {r = r} i) inner sum product k h =
      let v = expr_want i (operand_of sum product k ∷ inner) in
      next refl (and_then step_expr v.goes (next (ap (λ x. Some (has inner sum (times_of product (minuses_of k x)))) v.is) here))
  fac_want (minus free i) inner sum product k h = next refl (fac_want i inner sum product (suc k) free)

  term_want : {e : Expr} {s r : List Token} → IsTerm e s r → (inner : List Operand) (sum : Sum) → Goes (wants inner sum None 0) s (has inner sum e) r
  term_want (term i rest) inner sum = and_then step_expr (fac_want i inner sum None 0 tt) (term_more rest inner sum)

  pub term_more : {a e : Expr} {s r : List Token} → TermMore a e s r → (inner : List Operand) (sum : Sum) → Goes (has inner sum a) s (has inner sum e) r
  term_more end_term inner sum = here
  term_more (times {a = a} i rest) inner sum = next refl (and_then step_expr (fac_want i inner sum (Some a) 0 tt) (term_more rest inner sum))

  pub expr_want : {e : Expr} {s r : List Token} → IsExpr e s r → (inner : List Operand) → Values (parser_of inner (Want bare)) inner e s r
  expr_want (expr {a = a} i rest) inner = values_then (term_want i inner Nothing) (expr_more rest inner Nothing a refl)

  pub expr_more : {a e : Expr} {s r : List Token} → ExprMore a e s r → (inner : List Operand) (sum : Sum) (v : Expr) → summed sum v ≡ a → Values (has inner sum v) inner e s r
  expr_more end_expr inner sum v h = record { sum = sum; value = v; goes = here; is = h }
  expr_more (plus {a = a} {b = b} i rest) inner sum v h =
      values_then (next (ap (λ x. Some (wants inner (Plus x) None 0)) h) (term_want i inner (Plus a))) (expr_more rest inner (Plus a) b refl)
  expr_more (less {a = a} {b = b} i rest) inner sum v h =
      values_then (next (ap (λ x. Some (wants inner (Minus x) None 0)) h) (term_want i inner (Minus a))) (expr_more rest inner (Minus a) b refl)

pub expr_found : (e : Expr) (s r : List Token) → IsExpr e s r → Finds step_expr whole_expr start_expr e s r
expr_found e s r i = let v = expr_want i [] in record { last = has [] v.sum v.value; leads = v.goes; is = ap Some v.is }
