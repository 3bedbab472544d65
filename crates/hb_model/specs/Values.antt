-- The value of an expression and the truth of a condition, at a row.
use Rattle.std.specs.Prelude.{ℕ, ℤ, pos, ◌+ℤ◌, ◌-ℤ◌, ◌*ℤ◌, Bool, not, ◌&&◌, ◌||◌, if◌then◌else◌, List, Option, Some, None, option_map, option_and_then, slice_get, position}
use Rattle.std.specs.Ordering.{int_cmp, is_eq, is_lt, is_le, is_gt, is_ge}
use Rattle.std.specs.Str.{bytes_eq}
use Rattle.std.specs.declared.cmp.Ordering.{Ordering}
use Rattle.std.specs.declared.cmp.Ordering.TheVariants.{Less, Greater}
use Rattle.hb_types.specs.declared.value.Value.{Value}
use Rattle.hb_types.specs.declared.value.Value.TheVariants as value
use Rattle.hb_types.specs.declared.value.Column.{Column}
use Rattle.hb_types.specs.Numbers.{is_integer}
use Rattle.hb_model.specs.declared.expression.Expr.{Expr, fold-Expr}
use Rattle.hb_model.specs.declared.expression.Expr.TheOpen.{Expr-F}
use Rattle.hb_model.specs.declared.condition.Pred.{Pred, fold-Pred}
use Rattle.hb_model.specs.declared.condition.Pred.TheOpen.{Pred-F}
use Rattle.hb_model.specs.declared.condition.Op.{Op}
use Rattle.hb_model.specs.declared.condition.Op.TheVariants as op
use Rattle.hb_model.specs.Names.{text_cmp}

-- a number where it is within INTEGER
abbrev pub within : ℤ → Option Value
within n = if is_integer n then Some (value.Int n) else None

-- both values, where both are there
abbrev pub both : {A B C : Type 0} → (A → B → Option C) → Option A → Option B → Option C
both f (Some a) (Some b) = f a b
both f _ _ = None

abbrev pub arithmetic : (ℤ → ℤ → ℤ) → Value → Value → Option Value
arithmetic f (value.Int a) (value.Int b) = within (f a b)
arithmetic f _ _ = None

-- where a column stands in a row
abbrev pub place_of : List Column → List ℕ → Option ℕ
place_of columns name = position (λ c. bytes_eq c.name name) columns

abbrev pub value_in : List Column → List Value → List ℕ → Option Value
value_in columns row name = option_and_then (slice_get row) (place_of columns name)

-- one level of an expression, where each part has its value
abbrev pub value_step : List Column → List Value → Expr-F (Option Value) → Option Value
value_step columns row (Expr-F.Int n) = within n
value_step columns row (Expr-F.Text t) = Some (value.Text t)
value_step columns row (Expr-F.Name name) = value_in columns row name
value_step columns row (Expr-F.Neg a) = both (arithmetic ◌-ℤ◌) (within (pos 0)) a
value_step columns row (Expr-F.Add a b) = both (arithmetic ◌+ℤ◌) a b
value_step columns row (Expr-F.Sub a b) = both (arithmetic ◌-ℤ◌) a b
value_step columns row (Expr-F.Mul a b) = both (arithmetic ◌*ℤ◌) a b

-- the value at a row; none where a number on the way is outside INTEGER
unfoldable pub value_of : List Column → List Value → Expr → Option Value
value_of columns row = fold-Expr (Option Value) (value_step columns row)

abbrev pub value_cmp : Value → Value → Ordering
value_cmp (value.Int a) (value.Int b) = int_cmp a b
value_cmp (value.Text a) (value.Text b) = text_cmp a b
value_cmp (value.Int a) _ = Less
value_cmp (value.Text a) _ = Greater

-- whether a comparison holds
abbrev pub agrees : Op → Ordering → Bool
agrees op.Eq o = is_eq o
agrees op.Ne o = not (is_eq o)
agrees op.Lt o = is_lt o
agrees op.Le o = is_le o
agrees op.Gt o = is_gt o
agrees op.Ge o = is_ge o

-- one level of a condition, where each part has its truth
abbrev pub truth_step : List Column → List Value → Pred-F (Option Bool) → Option Bool
truth_step columns row (Pred-F.Test how a b) = both (λ x y. Some (agrees how (value_cmp x y))) (value_of columns row a) (value_of columns row b)
truth_step columns row (Pred-F.Not p) = option_map not p
truth_step columns row (Pred-F.And p q) = both (λ x y. Some (x && y)) p q
truth_step columns row (Pred-F.Or p q) = both (λ x y. Some (x || y)) p q

-- whether the condition holds at a row; none where a number on the way is outside INTEGER
unfoldable pub holds_at : List Column → List Value → Pred → Option Bool
holds_at columns row = fold-Pred (Option Bool) (truth_step columns row)
