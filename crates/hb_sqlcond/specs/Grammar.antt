-- The grammar of expressions and conditions. `IsExpr e s r` says that the tokens s are those of an expression e, and then r.
use Rattle.std.specs.Prelude.{◌≡◌, ℕ, ℤ, pos, ◌-ℤ◌, Bool, true, false, List, ◌∷◌}
use Rattle.hb_sqltoken.specs.declared.token.Token.{Token}
use Rattle.hb_sqltoken.specs.declared.token.Token.TheVariants as token
use Rattle.hb_sqltoken.specs.declared.token.Word.TheVariants as word
use Rattle.hb_model.specs.declared.condition.Op.{Op}
use Rattle.hb_model.specs.declared.expression.Expr.{Expr}
use Rattle.hb_model.specs.declared.expression.Expr.TheVariants as value
use Rattle.hb_model.specs.declared.condition.Pred.{Pred}
use Rattle.hb_model.specs.declared.condition.Pred.TheVariants as truth

abbrev pub negative : ℕ → ℤ
negative n = pos 0 -ℤ pos n

abbrev pub begins_number : List Token → Bool
begins_number (token.Number n ∷ s) = true
begins_number _ = false

mutual
  -- fac := lit | name | '(' expr ')' | '-' fac, with lit := int | '-' int | text. A minus before an integer belongs to the literal.
  pub data IsFac : Expr → List Token → List Token → Type 0 where
    number : {n : ℕ} {r : List Token} → IsFac (value.Int (pos n)) (token.Number n ∷ r) r
    below : {n : ℕ} {r : List Token} → IsFac (value.Int (negative n)) (token.Minus ∷ token.Number n ∷ r) r
    quoted : {t : List ℕ} {r : List Token} → IsFac (value.Text t) (token.Text t ∷ r) r
    name : {t : List ℕ} {r : List Token} → IsFac (value.Name t) (token.Name t ∷ r) r
    value_inside : {e : Expr} {s r : List Token} → IsExpr e s (token.Close ∷ r) → IsFac e (token.Open ∷ s) r
    minus : {e : Expr} {s r : List Token} → begins_number s ≡ false → IsFac e s r → IsFac (value.Neg e) (token.Minus ∷ s) r

  -- term := fac {'*' fac}
  pub data IsTerm : Expr → List Token → List Token → Type 0 where
    term : {a e : Expr} {s m r : List Token} → IsFac a s m → TermMore a e m r → IsTerm e s r

  -- what may follow the product a, so that it becomes e
  pub data TermMore : Expr → Expr → List Token → List Token → Type 0 where
    end_term : {e : Expr} {r : List Token} → TermMore e e r r
    times : {a b e : Expr} {s m r : List Token} → IsFac b s m → TermMore (value.Mul a b) e m r → TermMore a e (token.Star ∷ s) r

  -- expr := term {('+' | '-') term}
  pub data IsExpr : Expr → List Token → List Token → Type 0 where
    expr : {a e : Expr} {s m r : List Token} → IsTerm a s m → ExprMore a e m r → IsExpr e s r

  -- what may follow the sum a, so that it becomes e
  pub data ExprMore : Expr → Expr → List Token → List Token → Type 0 where
    end_expr : {e : Expr} {r : List Token} → ExprMore e e r r
    plus : {a b e : Expr} {s m r : List Token} → IsTerm b s m → ExprMore (value.Add a b) e m r → ExprMore a e (token.Plus ∷ s) r
    less : {a b e : Expr} {s m r : List Token} → IsTerm b s m → ExprMore (value.Sub a b) e m r → ExprMore a e (token.Minus ∷ s) r

mutual
  -- test := NOT test | '(' pred ')' | expr op expr
  pub data IsTest : Pred → List Token → List Token → Type 0 where
    negated : {p : Pred} {s r : List Token} → IsTest p s r → IsTest (truth.Not p) (token.Word word.Not ∷ s) r
    test_inside : {p : Pred} {s r : List Token} → IsPred p s (token.Close ∷ r) → IsTest p (token.Open ∷ s) r
    compared : {op : Op} {a b : Expr} {s m r : List Token} → IsExpr a s (token.Compare op ∷ m) → IsExpr b m r → IsTest (truth.Test op a b) s r

  -- conj := test {AND test}
  pub data IsConj : Pred → List Token → List Token → Type 0 where
    conj : {p q : Pred} {s m r : List Token} → IsTest p s m → ConjMore p q m r → IsConj q s r

  -- what may follow the conjunction p, so that it becomes q
  pub data ConjMore : Pred → Pred → List Token → List Token → Type 0 where
    end_conj : {p : Pred} {r : List Token} → ConjMore p p r r
    and : {p q t : Pred} {s m r : List Token} → IsTest t s m → ConjMore (truth.And p t) q m r → ConjMore p q (token.Word word.And ∷ s) r

  -- pred := conj {OR conj}
  pub data IsPred : Pred → List Token → List Token → Type 0 where
    pred : {p q : Pred} {s m r : List Token} → IsConj p s m → PredMore p q m r → IsPred q s r

  -- what may follow the disjunction p, so that it becomes q
  pub data PredMore : Pred → Pred → List Token → List Token → Type 0 where
    end_pred : {p : Pred} {r : List Token} → PredMore p p r r
    or : {p q t : Pred} {s m r : List Token} → IsConj t s m → PredMore (truth.Or p t) q m r → PredMore p q (token.Word word.Or ∷ s) r
