-- Values without a limit, level by level, and that they are the values within the limit where no number is outside it.
use Rattle.std.proofs.Common.{◌≡◌, ℕ, ℤ, pos, ◌+ℤ◌, ◌-ℤ◌, ◌*ℤ◌, List, [], ◌∷◌, Some, refl, sym, ap, ◌∙◌, subst}
use Rattle.hb_types.specs.declared.value.Value.{Value}
use Rattle.hb_types.specs.declared.value.Value.TheVariants as value
use Rattle.hb_types.specs.declared.value.Column.{Column}
use Rattle.hb_model.specs.declared.expression.Expr.{Expr, roll-Expr, map-Expr, ind-Expr, fold_out-Expr}
use Rattle.hb_model.specs.declared.expression.Expr.TheOpen.{Expr-F}
use Rattle.hb_model.specs.declared.expression.Expr.TheVariants as expr
use Rattle.hb_model.specs.declared.expression.Expr.TheVariants.{outs-Int, outs-Text, outs-Name, outs-Neg, outs-Add, outs-Sub, outs-Mul, rolls-Int, rolls-Text, rolls-Name, rolls-Neg, rolls-Add, rolls-Sub, rolls-Mul}
use Rattle.hb_model.specs.Values.{both, arithmetic, value_in, value_of}
use Rattle.hb_sqlexpr.specs.Exact.{computed, exact_of, limited}
use Rattle.hb_sqlexpr.proofs.Levels.{value_of-Int, value_of-Text, value_of-Name, value_of-Neg, value_of-Add, value_of-Sub, value_of-Mul}
use Rattle.hb_sqlexpr.proofs.Limits.{on_values, on_literal}

module _ (columns : List Column) (row : List Value) where
  pub exact_of-Int : (n : ℤ) → exact_of columns row (expr.Int n) ≡ record { result = Some (value.Int n); numbers = n ∷ [] }
  unfolding exact_of
  exact_of-Int n = rw (fold_out-Expr, outs-Int) refl

  pub exact_of-Text : (t : List ℕ) → exact_of columns row (expr.Text t) ≡ record { result = Some (value.Text t); numbers = [] }
  unfolding exact_of
  exact_of-Text t = rw (fold_out-Expr, outs-Text) refl

  pub exact_of-Name : (name : List ℕ) → exact_of columns row (expr.Name name) ≡ record { result = value_in columns row name; numbers = [] }
  unfolding exact_of
  exact_of-Name name = rw (fold_out-Expr, outs-Name) refl

  pub exact_of-Neg : (a : Expr) → exact_of columns row (expr.Neg a) ≡ computed ◌-ℤ◌ (record { result = Some (value.Int (pos 0)); numbers = [] }) (exact_of columns row a)
  unfolding exact_of
  exact_of-Neg a = rw (fold_out-Expr, outs-Neg) refl

  pub exact_of-Add : (a b : Expr) → exact_of columns row (expr.Add a b) ≡ computed ◌+ℤ◌ (exact_of columns row a) (exact_of columns row b)
  unfolding exact_of
  exact_of-Add a b = rw (fold_out-Expr, outs-Add) refl

  pub exact_of-Sub : (a b : Expr) → exact_of columns row (expr.Sub a b) ≡ computed ◌-ℤ◌ (exact_of columns row a) (exact_of columns row b)
  unfolding exact_of
  exact_of-Sub a b = rw (fold_out-Expr, outs-Sub) refl

  pub exact_of-Mul : (a b : Expr) → exact_of columns row (expr.Mul a b) ≡ computed ◌*ℤ◌ (exact_of columns row a) (exact_of columns row b)
  unfolding exact_of
  exact_of-Mul a b = rw (fold_out-Expr, outs-Mul) refl

  abbrev IsLimited : Expr → Type 0
  IsLimited e = value_of columns row e ≡ limited (exact_of columns row e)

  limited-Neg : (a : Expr) → IsLimited a → IsLimited (expr.Neg a)
  limited-Neg a p =
      value_of-Neg columns row a ∙ ap (both (arithmetic ◌-ℤ◌) (Some (value.Int (pos 0)))) p
      ∙ on_values ◌-ℤ◌ (record { result = Some (value.Int (pos 0)); numbers = [] }) (exact_of columns row a) ∙ ap limited (sym (exact_of-Neg a))

  limited-Add : (a b : Expr) → IsLimited a → IsLimited b → IsLimited (expr.Add a b)
  limited-Add a b p q =
      value_of-Add columns row a b ∙ (λ i. both (arithmetic ◌+ℤ◌) (p i) (q i)) ∙ on_values ◌+ℤ◌ (exact_of columns row a) (exact_of columns row b) ∙ ap limited (sym (exact_of-Add a b))

  limited-Sub : (a b : Expr) → IsLimited a → IsLimited b → IsLimited (expr.Sub a b)
  limited-Sub a b p q =
      value_of-Sub columns row a b ∙ (λ i. both (arithmetic ◌-ℤ◌) (p i) (q i)) ∙ on_values ◌-ℤ◌ (exact_of columns row a) (exact_of columns row b) ∙ ap limited (sym (exact_of-Sub a b))

  limited-Mul : (a b : Expr) → IsLimited a → IsLimited b → IsLimited (expr.Mul a b)
  limited-Mul a b p q =
      value_of-Mul columns row a b ∙ (λ i. both (arithmetic ◌*ℤ◌) (p i) (q i)) ∙ on_values ◌*ℤ◌ (exact_of columns row a) (exact_of columns row b) ∙ ap limited (sym (exact_of-Mul a b))

  limited-Int : (n : ℤ) → IsLimited (expr.Int n)
  limited-Int n = value_of-Int columns row n ∙ on_literal n ∙ ap limited (sym (exact_of-Int n))

  limited-Text : (t : List ℕ) → IsLimited (expr.Text t)
  limited-Text t = value_of-Text columns row t ∙ ap limited (sym (exact_of-Text t))

  limited-Name : (name : List ℕ) → IsLimited (expr.Name name)
  limited-Name name = value_of-Name columns row name ∙ ap limited (sym (exact_of-Name name))

  each_level : (A : Type 0) (part : A → Expr) → ((a : A) → IsLimited (part a)) → (y : Expr-F A) → IsLimited (roll-Expr (map-Expr A Expr part y))
  each_level A part all (Expr-F.Int n) = subst IsLimited (sym (rolls-Int n)) (limited-Int n)
  each_level A part all (Expr-F.Text t) = subst IsLimited (sym (rolls-Text t)) (limited-Text t)
  each_level A part all (Expr-F.Name name) = subst IsLimited (sym (rolls-Name name)) (limited-Name name)
  each_level A part all (Expr-F.Neg a) = subst IsLimited (sym (rolls-Neg (part a))) (limited-Neg (part a) (all a))
  each_level A part all (Expr-F.Add a b) = subst IsLimited (sym (rolls-Add (part a) (part b))) (limited-Add (part a) (part b) (all a) (all b))
  each_level A part all (Expr-F.Sub a b) = subst IsLimited (sym (rolls-Sub (part a) (part b))) (limited-Sub (part a) (part b) (all a) (all b))
  each_level A part all (Expr-F.Mul a b) = subst IsLimited (sym (rolls-Mul (part a) (part b))) (limited-Mul (part a) (part b) (all a) (all b))

  pub value_limited : (e : Expr) → IsLimited e
  value_limited = ind-Expr IsLimited (λ x y is. subst (λ z. IsLimited (roll-Expr z)) is (each_level _ (λ e. e.0) (λ e. e.1) y))
