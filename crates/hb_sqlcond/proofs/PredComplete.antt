-- What the grammar derives as a condition is found.
use Rattle.std.proofs.Common.{◌≡◌, ℕ, suc, List, [], ◌∷◌, Option, Some, None, refl, ap, ◌∙◌}
use Rattle.hb_sqltoken.specs.declared.token.Token.{Token}
use Rattle.hb_sqltoken.specs.declared.token.Token.TheVariants as token
use Rattle.hb_sqltoken.specs.declared.token.Word.TheVariants as word
use Rattle.hb_model.specs.declared.condition.Op.{Op}
use Rattle.hb_model.specs.declared.expression.Expr.{Expr}
use Rattle.hb_model.specs.declared.condition.Pred.{Pred}
use Rattle.hb_model.specs.declared.condition.Pred.TheVariants as truth
use Rattle.hb_sqlcond.specs.declared.operand.Sum.{Sum}
use Rattle.hb_sqlcond.specs.declared.operand.Sum.TheVariants.{Nothing}
use Rattle.hb_sqlcond.specs.declared.prefix.Prefix.{Prefix}
use Rattle.hb_sqlcond.specs.declared.expr_parser.ExprParser.{ExprParser}
use Rattle.hb_sqlcond.specs.declared.expr_parser.Offer.{Offer}
use Rattle.hb_sqlcond.specs.declared.expr_parser.Offer.TheVariants.{Taken, Ended, Refused}
use Rattle.hb_sqlcond.specs.declared.pred_parser.Mode.{Mode}
use Rattle.hb_sqlcond.specs.declared.pred_parser.Mode.TheVariants.{WantTest, Left, Right, Tested}
use Rattle.hb_sqlcond.specs.declared.pred_parser.PredParser.{PredParser}
use Rattle.hb_sqlcond.specs.Grammar.{IsFac, number, below, quoted, name, value_inside, minus, IsTerm, term, IsExpr, expr, IsTest, negated, test_inside, compared, IsConj, conj, ConjMore, end_conj, and, IsPred, pred, PredMore, end_pred, or}
use Rattle.hb_sqlcond.specs.Operands.{prefix_of, fresh, nots_of, and_of, or_of, summed}
use Rattle.hb_sqlcond.specs.ExprSteps.{start_expr, offer, taken, step_expr}
use Rattle.hb_sqlcond.specs.PredSteps.{pred_of, start_pred, behind_test, on_left, on_right, step_mode, step_pred, whole_mode, whole_pred}
use Rattle.hb_sqlcond.specs.Runs.{Leads, here, next, Finds}
use Rattle.hb_sqlcond.proofs.Leading.{and_then, some_is}
use Rattle.hb_sqlcond.proofs.ExprComplete.{has, fac_want, term_more, expr_want, expr_more}

abbrev pub Goes : PredParser → List Token → PredParser → List Token → Type 0
Goes = Leads step_pred

pub taken_is : (o : Offer) (p : ExprParser) → taken o ≡ Some p → o ≡ Taken p
taken_is (Taken q) p h = ap Taken (some_is h)
taken_is (Ended e t) p h = absurd (cc)
taken_is Refused p h = absurd (cc)

-- an expression goes on inside a condition
pub on_left_side : {f g : ExprParser} {s r : List Token} → Leads step_expr f s g r → (outer : List Prefix) (prefix : Prefix) → Goes (pred_of outer (Left prefix f)) s (pred_of outer (Left prefix g)) r
on_left_side here outer prefix = here
on_left_side (next {c = f} {m = m} {t = t} e x) outer prefix = next (ap (on_left outer prefix) (taken_is (offer f t) m e)) (on_left_side x outer prefix)

pub on_right_side : {f g : ExprParser} {s r : List Token} → Leads step_expr f s g r → (outer : List Prefix) (prefix : Prefix) (op : Op) (a : Expr) → Goes (pred_of outer (Right prefix op a f)) s (pred_of outer (Right prefix op a g)) r
on_right_side here outer prefix op a = here
on_right_side (next {c = f} {m = m} {t = t} e x) outer prefix op a = next (ap (on_right outer prefix op a) (taken_is (offer f t) m e)) (on_right_side x outer prefix op a)

-- From c the tokens s lead to a left side e that is in a sum, with r left.
pub record LeftValue (c : PredParser) (outer : List Prefix) (prefix : Prefix) (e : Expr) (s r : List Token) : Type 0 where
  pub sum : Sum
  pub value : Expr
  pub goes : Goes c s (pred_of outer (Left prefix (has [] sum value))) r
  pub is : summed sum value ≡ e

mutual
  fac_test : {f : Expr} {s r : List Token} → IsFac f s r → (outer : List Prefix) (prefix : Prefix)
      → Goes (pred_of outer (WantTest prefix)) s (pred_of outer (Left prefix (has [] Nothing f))) r
  fac_test number outer prefix = next refl here
  fac_test below outer prefix = next refl (next refl here)
  fac_test quoted outer prefix = next refl here
  fac_test name outer prefix = next refl here
  fac_test (value_inside i) outer prefix =
      let v = expr_test i (prefix ∷ outer) fresh in
      next refl (and_then step_pred v.goes (next (ap (λ x. Some (pred_of outer (Left prefix (has [] Nothing x)))) v.is) here))
  fac_test (minus free i) outer prefix = next refl (on_left_side (fac_want i [] Nothing None 1 free) outer prefix)

  term_test : {e : Expr} {s r : List Token} → IsTerm e s r → (outer : List Prefix) (prefix : Prefix)
      → Goes (pred_of outer (WantTest prefix)) s (pred_of outer (Left prefix (has [] Nothing e))) r
  term_test (term i rest) outer prefix = and_then step_pred (fac_test i outer prefix) (on_left_side (term_more rest [] Nothing) outer prefix)

  expr_test : {e : Expr} {s r : List Token} → IsExpr e s r → (outer : List Prefix) (prefix : Prefix) → LeftValue (pred_of outer (WantTest prefix)) outer prefix e s r
  expr_test (expr {a = a} i rest) outer prefix =
      let v = expr_more rest [] Nothing a refl in
      record { sum = v.sum; value = v.value; goes = and_then step_pred (term_test i outer prefix) (on_left_side v.goes outer prefix); is = v.is }

-- With the mode a test p is whole.
pub record Stands (outer : List Prefix) (mode : Mode) (ors ands : Option Pred) (p : Pred) : Type 0 where
  pub at_and : step_mode outer mode (token.Word word.And) ≡ behind_test outer ors ands p (token.Word word.And)
  pub at_or : step_mode outer mode (token.Word word.Or) ≡ behind_test outer ors ands p (token.Word word.Or)
  pub at_close : step_mode outer mode token.Close ≡ behind_test outer ors ands p token.Close
  pub at_end : whole_mode outer mode ≡ whole_mode outer (Tested ors ands p)

-- From c the tokens s lead to a test p that is whole, with r left.
pub record Proves (c : PredParser) (outer : List Prefix) (ors ands : Option Pred) (p : Pred) (s r : List Token) : Type 0 where
  pub mode : Mode
  pub goes : Goes c s (pred_of outer mode) r
  pub stands : Stands outer mode ors ands p

pub record ProvesConj (c : PredParser) (outer : List Prefix) (ors : Option Pred) (q : Pred) (s r : List Token) : Type 0 where
  pub ands : Option Pred
  pub test : Pred
  pub mode : Mode
  pub goes : Goes c s (pred_of outer mode) r
  pub stands : Stands outer mode ors ands test
  pub is : and_of ands test ≡ q

conj_then : {c d : PredParser} {outer : List Prefix} {ors : Option Pred} {q : Pred} {s n r : List Token} → Goes c s d n → ProvesConj d outer ors q n r → ProvesConj c outer ors q s r
conj_then x v = record { ands = v.ands; test = v.test; mode = v.mode; goes = and_then step_pred x v.goes; stands = v.stands; is = v.is }

pub record ProvesPred (c : PredParser) (outer : List Prefix) (d : Pred) (s r : List Token) : Type 0 where
  pub ors : Option Pred
  pub ands : Option Pred
  pub test : Pred
  pub mode : Mode
  pub goes : Goes c s (pred_of outer mode) r
  pub stands : Stands outer mode ors ands test
  pub is : or_of ors (and_of ands test) ≡ d

pred_then : {c d : PredParser} {outer : List Prefix} {q : Pred} {s n r : List Token} → Goes c s d n → ProvesPred d outer q n r → ProvesPred c outer q s r
pred_then x v = record { ors = v.ors; ands = v.ands; test = v.test; mode = v.mode; goes = and_then step_pred x v.goes; stands = v.stands; is = v.is }

right_stands : (outer : List Prefix) (prefix : Prefix) (op : Op) (a b : Expr) (sum : Sum) (v : Expr) → summed sum v ≡ b
    → Stands outer (Right prefix op a (has [] sum v)) prefix.ors prefix.ands (nots_of prefix.nots (truth.Test op a b))
right_stands [] prefix op a b sum v h = let f = λ (x : Expr). nots_of prefix.nots (truth.Test op a x) in record {
  at_and = ap (λ x. behind_test [] prefix.ors prefix.ands (f x) (token.Word word.And)) h;
  at_or = ap (λ x. behind_test [] prefix.ors prefix.ands (f x) (token.Word word.Or)) h;
  at_close = ap (λ x. behind_test [] prefix.ors prefix.ands (f x) token.Close) h;
  at_end = ap (λ x. Some (or_of prefix.ors (and_of prefix.ands (f x)))) h;
}
right_stands (o ∷ outer) prefix op a b sum v h = let f = λ (x : Expr). nots_of prefix.nots (truth.Test op a x) in record {
  at_and = ap (λ x. behind_test (o ∷ outer) prefix.ors prefix.ands (f x) (token.Word word.And)) h;
  at_or = ap (λ x. behind_test (o ∷ outer) prefix.ors prefix.ands (f x) (token.Word word.Or)) h;
  at_close = ap (λ x. behind_test (o ∷ outer) prefix.ors prefix.ands (f x) token.Close) h;
  at_end = refl;
}

mutual
  test_runs : {p : Pred} {s r : List Token} → IsTest p s r → (outer : List Prefix) (ors ands : Option Pred) (nots : ℕ)
      → Proves (pred_of outer (WantTest (prefix_of ors ands nots))) outer ors ands (nots_of nots p) s r
  test_runs (negated i) outer ors ands nots =
      let v = test_runs i outer ors ands (suc nots) in
      record { mode = v.mode; goes = next refl v.goes; stands = v.stands }
  test_runs (test_inside i) outer ors ands nots =
      let v = pred_runs i (prefix_of ors ands nots ∷ outer) in
      record {
        mode = Tested ors ands (nots_of nots _);
        goes = next refl (and_then step_pred v.goes (next (v.stands.at_close ∙ ap (λ x. Some (pred_of outer (Tested ors ands (nots_of nots x)))) v.is) here));
        stands = record { at_and = refl; at_or = refl; at_close = refl; at_end = refl };
      }
  test_runs (compared {op = op} {a = a} {b = b} x y) outer ors ands nots =
      let prefix = prefix_of ors ands nots in
      let v = expr_test x outer prefix in
      let w = expr_want y [] in
      record {
        mode = Right prefix op a (has [] w.sum w.value);
        goes = and_then step_pred v.goes (next (ap (λ x. Some (pred_of outer (Right prefix op x start_expr))) v.is) (on_right_side w.goes outer prefix op a));
        stands = right_stands outer prefix op a b w.sum w.value w.is;
      }

  conj_runs : {q : Pred} {s r : List Token} → IsConj q s r → (outer : List Prefix) (ors : Option Pred)
      → ProvesConj (pred_of outer (WantTest (prefix_of ors None 0))) outer ors q s r
  conj_runs (conj {p = p} i rest) outer ors =
      let v = test_runs i outer ors None 0 in
      conj_then v.goes (conj_more rest outer ors None p v.mode v.stands refl)

  conj_more : {a q : Pred} {s r : List Token} → ConjMore a q s r → (outer : List Prefix) (ors ands : Option Pred) (p : Pred) (mode : Mode)
      → Stands outer mode ors ands p → and_of ands p ≡ a → ProvesConj (pred_of outer mode) outer ors q s r
  conj_more end_conj outer ors ands p mode st h = record { ands = ands; test = p; mode = mode; goes = here; stands = st; is = h }
  conj_more (and {p = a} {t = t} i rest) outer ors ands p mode st h =
      let v = test_runs i outer ors (Some a) 0 in
      conj_then (next (st.at_and ∙ ap (λ x. Some (pred_of outer (WantTest (prefix_of ors (Some x) 0)))) h) v.goes) (conj_more rest outer ors (Some a) t v.mode v.stands refl)

  pred_runs : {q : Pred} {s r : List Token} → IsPred q s r → (outer : List Prefix) → ProvesPred (pred_of outer (WantTest fresh)) outer q s r
  pred_runs (pred i rest) outer =
      let v = conj_runs i outer None in
      pred_then v.goes (pred_more rest outer None v.ands v.test v.mode v.stands v.is)

  pred_more : {a q : Pred} {s r : List Token} → PredMore a q s r → (outer : List Prefix) (ors ands : Option Pred) (p : Pred) (mode : Mode)
      → Stands outer mode ors ands p → or_of ors (and_of ands p) ≡ a → ProvesPred (pred_of outer mode) outer q s r
  pred_more end_pred outer ors ands p mode st h = record { ors = ors; ands = ands; test = p; mode = mode; goes = here; stands = st; is = h }
  pred_more (or {p = a} i rest) outer ors ands p mode st h =
      let v = conj_runs i outer (Some a) in
      pred_then (next (st.at_or ∙ ap (λ x. Some (pred_of outer (WantTest (prefix_of (Some x) None 0)))) h) v.goes)
      (pred_more rest outer (Some a) v.ands v.test v.mode v.stands (ap (truth.Or a) v.is))

pub pred_found : (p : Pred) (s r : List Token) → IsPred p s r → Finds step_pred whole_pred start_pred p s r
pred_found p s r i = let v = pred_runs i [] in record { last = pred_of [] v.mode; leads = v.goes; is = v.stands.at_end ∙ ap Some v.is }
