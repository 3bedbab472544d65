-- Expressions and conditions of sane tokens are plain.
use Rattle.std.proofs.Common.{◌≡◌, ℕ, zero, suc, ◌+◌, ◌≤◌, ◌^◌, nat_lt, arith, ℤ, pos, Bool, true, false, ◌&&◌, List, [], ◌∷◌, length, refl, ap, ◌∙◌}
use Rattle.std.proofs.Math.IntN.{+ℤ_idl, neg_ℤ, nat_abs}
use Rattle.hb_model.specs.Valid.{is_name}
use Rattle.hb_model.specs.Plain.{is_short, is_plain_expr, is_plain_pred}
use Rattle.hb_model.specs.declared.condition.Op.{Op}
use Rattle.hb_model.specs.declared.condition.Pred.{Pred, fold_out-Pred}
use Rattle.hb_model.specs.declared.condition.Pred.TheVariants as truth
use Rattle.hb_model.specs.declared.condition.Pred.TheVariants.{outs-Test, outs-Not, outs-And, outs-Or}
use Rattle.hb_model.specs.declared.expression.Expr.{Expr, fold_out-Expr}
use Rattle.hb_model.specs.declared.expression.Expr.TheVariants as value
use Rattle.hb_model.specs.declared.expression.Expr.TheVariants.{outs-Int, outs-Text, outs-Name, outs-Neg, outs-Add, outs-Sub, outs-Mul}
use Rattle.hb_sqltoken.specs.declared.token.Token.{Token}
use Rattle.hb_sqltoken.specs.declared.token.Token.TheVariants as token
use Rattle.hb_sqlcond.specs.Grammar.{negative, IsFac, number, below, quoted, name, value_inside, minus, IsTerm, term, TermMore, end_term, times, IsExpr, expr, ExprMore, end_expr, plus, less, IsTest, negated, test_inside, compared, IsConj, conj, ConjMore, end_conj, and, IsPred, pred, PredMore, end_pred, or}

-- a name that is valid, or a number of at most 19 digits
abbrev pub sane : Token → Bool
sane (token.Number n) = is_short (pos n)
sane (token.Name n) = is_name n
sane _ = true

abbrev pub Sane : List Token → Type 0
Sane [] = Unit {0}
Sane (t ∷ s) = (sane t ≡ true) × Sane s

-- a tree is plain, its rest is sane, and it has a token
pub record Kept (b : Bool) (s r : List Token) : Type 0 where
  pub is : b ≡ true
  pub rest : Sane r
  pub shorter : length r + 1 ≤ length s

-- the same of what may have no token
pub record KeptMore (b : Bool) (s r : List Token) : Type 0 where
  pub is : b ≡ true
  pub rest : Sane r
  pub no_longer : length r ≤ length s

pub both : (a b : Bool) → a ≡ true → b ≡ true → (a && b) ≡ true
both true b h k = k
both false b h k = absurd (cc)

pub parts : (a b : Bool) → (a && b) ≡ true → (a ≡ true) × (b ≡ true)
parts true b h = (refl, h)
parts false b h = absurd (cc)

abs_opposite : (n : ℕ) → nat_abs (neg_ℤ (pos n)) ≡ n
abs_opposite zero = refl
abs_opposite (suc n) = refl

pub short_negative : (n : ℕ) → is_short (negative n) ≡ is_short (pos n)
short_negative n = ap is_short (+ℤ_idl (neg_ℤ (pos n))) ∙ ap (λ (m : ℕ). nat_lt m (10 ^ 19)) (abs_opposite n)

plain_int : (z : ℤ) → is_plain_expr (value.Int z) ≡ is_short z
unfolding is_plain_expr
plain_int z = rw (fold_out-Expr, outs-Int) refl

plain_text : (t : List ℕ) → is_plain_expr (value.Text t) ≡ true
unfolding is_plain_expr
plain_text t = rw (fold_out-Expr, outs-Text) refl

plain_name : (t : List ℕ) → is_plain_expr (value.Name t) ≡ is_name t
unfolding is_plain_expr
plain_name t = rw (fold_out-Expr, outs-Name) refl

plain_neg : (a : Expr) → is_plain_expr (value.Neg a) ≡ is_plain_expr a
unfolding is_plain_expr
plain_neg a = rw (fold_out-Expr, outs-Neg) refl

plain_add : (a b : Expr) → is_plain_expr (value.Add a b) ≡ (is_plain_expr a && is_plain_expr b)
unfolding is_plain_expr
plain_add a b = rw (fold_out-Expr, outs-Add) refl

plain_sub : (a b : Expr) → is_plain_expr (value.Sub a b) ≡ (is_plain_expr a && is_plain_expr b)
unfolding is_plain_expr
plain_sub a b = rw (fold_out-Expr, outs-Sub) refl

plain_mul : (a b : Expr) → is_plain_expr (value.Mul a b) ≡ (is_plain_expr a && is_plain_expr b)
unfolding is_plain_expr
plain_mul a b = rw (fold_out-Expr, outs-Mul) refl

plain_test : (op : Op) (a b : Expr) → is_plain_pred (truth.Test op a b) ≡ (is_plain_expr a && is_plain_expr b)
unfolding is_plain_pred
plain_test op a b = rw (fold_out-Pred, outs-Test) refl

plain_not : (p : Pred) → is_plain_pred (truth.Not p) ≡ is_plain_pred p
unfolding is_plain_pred
plain_not p = rw (fold_out-Pred, outs-Not) refl

plain_and : (p q : Pred) → is_plain_pred (truth.And p q) ≡ (is_plain_pred p && is_plain_pred q)
unfolding is_plain_pred
plain_and p q = rw (fold_out-Pred, outs-And) refl

plain_or : (p q : Pred) → is_plain_pred (truth.Or p q) ≡ (is_plain_pred p && is_plain_pred q)
unfolding is_plain_pred
plain_or p q = rw (fold_out-Pred, outs-Or) refl

mutual
  fac_plain : {e : Expr} {s r : List Token} → IsFac e s r → Sane s → Kept (is_plain_expr e) s r
  fac_plain (number {n = n}) h = record { is = plain_int (pos n) ∙ h.0; rest = h.1; shorter = omega arith }
  fac_plain (below {n = n}) h = record { is = plain_int (negative n) ∙ short_negative n ∙ h.1.0; rest = h.1.1; shorter = omega arith }
  fac_plain (quoted {t = t}) h = record { is = plain_text t; rest = h.1; shorter = omega arith }
  fac_plain (name {t = t}) h = record { is = plain_name t ∙ h.0; rest = h.1; shorter = omega arith }
  fac_plain (value_inside i) h = let k = expr_plain i h.1 in record { is = k.is; rest = k.rest.1; shorter = omega (arith, k.shorter) }
  fac_plain (minus {e = e} free i) h = let k = fac_plain i h.1 in record { is = plain_neg e ∙ k.is; rest = k.rest; shorter = omega (arith, k.shorter) }

  term_plain : {e : Expr} {s r : List Token} → IsTerm e s r → Sane s → Kept (is_plain_expr e) s r
  term_plain (term i m) h =
      let k = fac_plain i h in
      let l = term_more m k.is k.rest in
      record { is = l.is; rest = l.rest; shorter = omega (arith, k.shorter, l.no_longer) }

  term_more : {a e : Expr} {s r : List Token} → TermMore a e s r → is_plain_expr a ≡ true → Sane s → KeptMore (is_plain_expr e) s r
  term_more end_term p h = record { is = p; rest = h; no_longer = omega arith }
  term_more (times {a = a} {b = b} i m) p h =
      let k = fac_plain i h.1 in
      let l = term_more m (plain_mul a b ∙ both (is_plain_expr a) (is_plain_expr b) p k.is) k.rest in
      record { is = l.is; rest = l.rest; no_longer = omega (arith, k.shorter, l.no_longer) }

  pub expr_plain : {e : Expr} {s r : List Token} → IsExpr e s r → Sane s → Kept (is_plain_expr e) s r
  expr_plain (expr i m) h =
      let k = term_plain i h in
      let l = expr_more m k.is k.rest in
      record { is = l.is; rest = l.rest; shorter = omega (arith, k.shorter, l.no_longer) }

  expr_more : {a e : Expr} {s r : List Token} → ExprMore a e s r → is_plain_expr a ≡ true → Sane s → KeptMore (is_plain_expr e) s r
  expr_more end_expr p h = record { is = p; rest = h; no_longer = omega arith }
  expr_more (plus {a = a} {b = b} i m) p h =
      let k = term_plain i h.1 in
      let l = expr_more m (plain_add a b ∙ both (is_plain_expr a) (is_plain_expr b) p k.is) k.rest in
      record { is = l.is; rest = l.rest; no_longer = omega (arith, k.shorter, l.no_longer) }
  expr_more (less {a = a} {b = b} i m) p h =
      let k = term_plain i h.1 in
      let l = expr_more m (plain_sub a b ∙ both (is_plain_expr a) (is_plain_expr b) p k.is) k.rest in
      record { is = l.is; rest = l.rest; no_longer = omega (arith, k.shorter, l.no_longer) }

mutual
  test_plain : {p : Pred} {s r : List Token} → IsTest p s r → Sane s → Kept (is_plain_pred p) s r
  test_plain (negated {p = p} i) h = let k = test_plain i h.1 in record { is = plain_not p ∙ k.is; rest = k.rest; shorter = omega (arith, k.shorter) }
  test_plain (test_inside i) h = let k = pred_plain i h.1 in record { is = k.is; rest = k.rest.1; shorter = omega (arith, k.shorter) }
  test_plain (compared {op = op} {a = a} {b = b} x y) h =
      let k = expr_plain x h in
      let l = expr_plain y k.rest.1 in
      record { is = plain_test op a b ∙ both (is_plain_expr a) (is_plain_expr b) k.is l.is; rest = l.rest; shorter = omega (arith, k.shorter, l.shorter) }

  conj_plain : {p : Pred} {s r : List Token} → IsConj p s r → Sane s → Kept (is_plain_pred p) s r
  conj_plain (conj i m) h =
      let k = test_plain i h in
      let l = conj_more m k.is k.rest in
      record { is = l.is; rest = l.rest; shorter = omega (arith, k.shorter, l.no_longer) }

  conj_more : {p q : Pred} {s r : List Token} → ConjMore p q s r → is_plain_pred p ≡ true → Sane s → KeptMore (is_plain_pred q) s r
  conj_more end_conj p h = record { is = p; rest = h; no_longer = omega arith }
  conj_more (and {p = a} {t = b} i m) p h =
      let k = test_plain i h.1 in
      let l = conj_more m (plain_and a b ∙ both (is_plain_pred a) (is_plain_pred b) p k.is) k.rest in
      record { is = l.is; rest = l.rest; no_longer = omega (arith, k.shorter, l.no_longer) }

  pub pred_plain : {p : Pred} {s r : List Token} → IsPred p s r → Sane s → Kept (is_plain_pred p) s r
  pred_plain (pred i m) h =
      let k = conj_plain i h in
      let l = pred_more m k.is k.rest in
      record { is = l.is; rest = l.rest; shorter = omega (arith, k.shorter, l.no_longer) }

  pred_more : {p q : Pred} {s r : List Token} → PredMore p q s r → is_plain_pred p ≡ true → Sane s → KeptMore (is_plain_pred q) s r
  pred_more end_pred p h = record { is = p; rest = h; no_longer = omega arith }
  pred_more (or {p = a} {t = b} i m) p h =
      let k = conj_plain i h.1 in
      let l = pred_more m (plain_or a b ∙ both (is_plain_pred a) (is_plain_pred b) p k.is) k.rest in
      record { is = l.is; rest = l.rest; no_longer = omega (arith, k.shorter, l.no_longer) }
