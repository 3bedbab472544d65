-- Names and kinds: what a statement mentions, and whether its parts are numbers or texts.
use Rattle.std.specs.Prelude.{ℕ, Bool, true, false, if◌then◌else◌, ◌==◌, ◌&&◌, List, [], ◌∷◌, ◌++◌, Option, Some, None, find, option_map}
use Rattle.std.specs.Str.{bytes_eq}
use Rattle.hb_types.specs.declared.value.Value.{Value}
use Rattle.hb_types.specs.declared.value.Value.TheVariants as value
use Rattle.hb_types.specs.declared.value.Column.{Column}
use Rattle.hb_model.specs.declared.expression.Expr.{Expr, fold-Expr}
use Rattle.hb_model.specs.declared.expression.Expr.TheOpen.{Expr-F}
use Rattle.hb_model.specs.declared.condition.Pred.{Pred, fold-Pred}
use Rattle.hb_model.specs.declared.condition.Pred.TheOpen.{Pred-F}

pub data Kind : Type 0 where
  number : Kind
  letters : Kind

abbrev pub same_kind : Kind → Kind → Bool
same_kind number number = true
same_kind letters letters = true
same_kind _ _ = false

abbrev pub kind_of_column : Column → Kind
kind_of_column c = if c.size == 0 then number else letters

abbrev pub kind_of_value : Value → Kind
kind_of_value (value.Int n) = number
kind_of_value (value.Text t) = letters

abbrev pub names_step : Expr-F (List (List ℕ)) → List (List ℕ)
names_step (Expr-F.Int n) = []
names_step (Expr-F.Text t) = []
names_step (Expr-F.Name name) = name ∷ []
names_step (Expr-F.Neg a) = a
names_step (Expr-F.Add a b) = a ++ b
names_step (Expr-F.Sub a b) = a ++ b
names_step (Expr-F.Mul a b) = a ++ b

-- the names in an expression
unfoldable pub names_in : Expr → List (List ℕ)
names_in = fold-Expr (List (List ℕ)) names_step

abbrev pub names_in_pred_step : Pred-F (List (List ℕ)) → List (List ℕ)
names_in_pred_step (Pred-F.Test how a b) = names_in a ++ names_in b
names_in_pred_step (Pred-F.Not p) = p
names_in_pred_step (Pred-F.And p q) = p ++ q
names_in_pred_step (Pred-F.Or p q) = p ++ q

-- the names in a condition
unfoldable pub names_in_pred : Pred → List (List ℕ)
names_in_pred = fold-Pred (List (List ℕ)) names_in_pred_step

-- a number, of numbers
abbrev pub numbers : Option Kind → Option Kind → Option Kind
numbers (Some number) (Some number) = Some number
numbers _ _ = None

abbrev pub kind_step : List Column → Expr-F (Option Kind) → Option Kind
kind_step columns (Expr-F.Int n) = Some number
kind_step columns (Expr-F.Text t) = Some letters
kind_step columns (Expr-F.Name name) = option_map kind_of_column (find (λ c. bytes_eq c.name name) columns)
kind_step columns (Expr-F.Neg a) = numbers a a
kind_step columns (Expr-F.Add a b) = numbers a b
kind_step columns (Expr-F.Sub a b) = numbers a b
kind_step columns (Expr-F.Mul a b) = numbers a b

-- the kind of an expression; none where it has arithmetic on a text
unfoldable pub kind_of : List Column → Expr → Option Kind
kind_of columns = fold-Expr (Option Kind) (kind_step columns)

abbrev pub both_alike : Option Kind → Option Kind → Bool
both_alike (Some a) (Some b) = same_kind a b
both_alike _ _ = false

abbrev pub typed_step : List Column → Pred-F Bool → Bool
typed_step columns (Pred-F.Test how a b) = both_alike (kind_of columns a) (kind_of columns b)
typed_step columns (Pred-F.Not p) = p
typed_step columns (Pred-F.And p q) = p && q
typed_step columns (Pred-F.Or p q) = p && q

-- whether a condition compares only like with like
unfoldable pub is_typed : List Column → Pred → Bool
is_typed columns = fold-Pred Bool (typed_step columns)
