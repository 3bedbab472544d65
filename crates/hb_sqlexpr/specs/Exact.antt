-- Values without a limit, and the numbers that they are made of on the way.
use Rattle.std.specs.Prelude.{ℤ, pos, ◌+ℤ◌, ◌-ℤ◌, ◌*ℤ◌, Bool, not, ◌&&◌, ◌||◌, if◌then◌else◌, List, [], ◌∷◌, ◌++◌, Option, Some, None, option_map}
use Rattle.std.specs.List.{list_all}
use Rattle.hb_types.specs.declared.value.Value.{Value}
use Rattle.hb_types.specs.declared.value.Value.TheVariants as value
use Rattle.hb_types.specs.declared.value.Column.{Column}
use Rattle.hb_types.specs.Numbers.{is_integer}
use Rattle.hb_model.specs.declared.expression.Expr.{Expr, fold-Expr}
use Rattle.hb_model.specs.declared.expression.Expr.TheOpen.{Expr-F}
use Rattle.hb_model.specs.declared.condition.Pred.{Pred, fold-Pred}
use Rattle.hb_model.specs.declared.condition.Pred.TheOpen.{Pred-F}
use Rattle.hb_model.specs.Values.{both, value_in, value_cmp, agrees}

-- a value, or a truth, and the literals and results that stand on the way to it
pub record Exact (A : Type 0) : Type 0 where
  pub result : Option A
  pub numbers : List ℤ

abbrev pub exactly : (ℤ → ℤ → ℤ) → Value → Value → Option Value
exactly f (value.Int a) (value.Int b) = Some (value.Int (f a b))
exactly f _ _ = None

abbrev pub numbers_of : Option Value → List ℤ
numbers_of (Some (value.Int n)) = n ∷ []
numbers_of _ = []

abbrev pub computed : (ℤ → ℤ → ℤ) → Exact Value → Exact Value → Exact Value
computed f a b = record { result = both (exactly f) a.result b.result; numbers = a.numbers ++ b.numbers ++ numbers_of (both (exactly f) a.result b.result) }

abbrev pub exact_step : List Column → List Value → Expr-F (Exact Value) → Exact Value
exact_step columns row (Expr-F.Int n) = record { result = Some (value.Int n); numbers = n ∷ [] }
exact_step columns row (Expr-F.Text t) = record { result = Some (value.Text t); numbers = [] }
exact_step columns row (Expr-F.Name name) = record { result = value_in columns row name; numbers = [] }
exact_step columns row (Expr-F.Neg a) = computed ◌-ℤ◌ (record { result = Some (value.Int (pos 0)); numbers = [] }) a
exact_step columns row (Expr-F.Add a b) = computed ◌+ℤ◌ a b
exact_step columns row (Expr-F.Sub a b) = computed ◌-ℤ◌ a b
exact_step columns row (Expr-F.Mul a b) = computed ◌*ℤ◌ a b

-- the value at a row in numbers without a limit
unfoldable pub exact_of : List Column → List Value → Expr → Exact Value
exact_of columns row = fold-Expr (Exact Value) (exact_step columns row)

-- the result, if each number on the way is within INTEGER
abbrev pub limited : {A : Type 0} → Exact A → Option A
limited e = if list_all is_integer e.numbers then e.result else None

abbrev pub joined_with : {A B C : Type 0} → (A → B → C) → Exact A → Exact B → Exact C
joined_with f a b = record { result = both (λ x y. Some (f x y)) a.result b.result; numbers = a.numbers ++ b.numbers }

abbrev pub exact_truth_step : List Column → List Value → Pred-F (Exact Bool) → Exact Bool
exact_truth_step columns row (Pred-F.Test how a b) = joined_with (λ x y. agrees how (value_cmp x y)) (exact_of columns row a) (exact_of columns row b)
exact_truth_step columns row (Pred-F.Not p) = record { result = option_map not p.result; numbers = p.numbers }
exact_truth_step columns row (Pred-F.And p q) = joined_with ◌&&◌ p q
exact_truth_step columns row (Pred-F.Or p q) = joined_with ◌||◌ p q

-- the truth at a row in numbers without a limit
unfoldable pub exact_truth : List Column → List Value → Pred → Exact Bool
exact_truth columns row = fold-Pred (Exact Bool) (exact_truth_step columns row)
