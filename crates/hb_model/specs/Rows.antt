-- Which rows of a table a statement considers and chooses, what it shows of a row, and what it makes of it.
use Rattle.std.specs.Prelude.{ℕ, nat_lt, ℤ, pos, ◌+ℤ◌, Bool, true, false, not, ◌&&◌, ◌||◌, if◌then◌else◌, List, [], ◌∷◌, ◌++◌, length, map, filter, filter_map, fold, Option, Some, None, is_none, option_map, option_and_then, unwrap_or, slice_get, slice_set}
use Rattle.std.specs.Option.{option_or}
use Rattle.std.specs.List.{list_any}
use Rattle.std.specs.Ordering.{int_cmp, int_eq, is_lt, is_gt}
use Rattle.std.specs.Str.{bytes_eq}
use Rattle.hb_types.specs.declared.value.Value.{Value}
use Rattle.hb_types.specs.declared.value.Value.TheVariants as value
use Rattle.hb_types.specs.declared.value.Column.{Column}
use Rattle.hb_types.specs.Lists.{Ascends}
use Rattle.hb_types.specs.Numbers.{is_integer}
use Rattle.hb_model.specs.declared.table.Table.{Table}
use Rattle.hb_model.specs.declared.reply.Reply.{Reply}
use Rattle.hb_model.specs.declared.reply.Reply.TheVariants as reply
use Rattle.hb_model.specs.declared.expression.Expr.{Expr, out-Expr}
use Rattle.hb_model.specs.declared.expression.Expr.TheOpen.{Expr-F}
use Rattle.hb_model.specs.declared.condition.Pred.{Pred, fold-Pred}
use Rattle.hb_model.specs.declared.condition.Pred.TheOpen.{Pred-F}
use Rattle.hb_model.specs.declared.condition.Op.{Op}
use Rattle.hb_model.specs.declared.condition.Op.TheVariants as op
use Rattle.hb_model.specs.declared.statement.Set.{Set}
use Rattle.hb_model.specs.declared.statement.What.{What}
use Rattle.hb_model.specs.declared.statement.What.TheVariants as what
use Rattle.hb_model.specs.Values.{value_of, holds_at, value_in, place_of}

-- ---- keys

abbrev pub number_of : Value → ℤ
number_of (value.Int n) = n
number_of (value.Text t) = pos 0

-- the key of a row
abbrev pub key_of : Table → List Value → ℤ
key_of t row = unwrap_or (option_map number_of (slice_get row t.key)) (pos 0)

-- rows stand by ascending key, one of each
abbrev pub AreByKey : Table → List (List Value) → Type 0
AreByKey t rows = Ascends (λ a b. int_cmp (key_of t a) (key_of t b)) rows

-- the name of the key column
abbrev pub key_name : Table → List ℕ
key_name t = unwrap_or (option_map (λ c. c.name) (slice_get t.columns t.key)) []

abbrev pub key_tested : List ℕ → Op → Expr-F Expr → Expr-F Expr → Option ℤ
key_tested key op.Eq (Expr-F.Name name) (Expr-F.Int n) = if bytes_eq name key then Some n else None
key_tested key _ _ _ = None

abbrev pub point_step : List ℕ → Pred-F (Option ℤ) → Option ℤ
point_step key (Pred-F.Test how a b) = key_tested key how (out-Expr a) (out-Expr b)
point_step key (Pred-F.And p q) = option_or p q
point_step key (Pred-F.Not p) = None
point_step key (Pred-F.Or p q) = None

-- the integer of the first member `key = integer` of a list joined by AND at the top
unfoldable pub point_key : List ℕ → Pred → Option ℤ
point_key key = fold-Pred (Option ℤ) (point_step key)

-- the key of a point statement with this condition
abbrev pub point : Table → Option Pred → Option ℤ
point t = option_and_then (point_key (key_name t))

-- ---- the rows that a condition chooses

abbrev pub is_keyed : Table → Option ℤ → List Value → Bool
is_keyed t None row = true
is_keyed t (Some key) row = int_eq (key_of t row) key

-- a point statement considers the row of its key, any other all rows
abbrev pub considers : Table → Option Pred → List Value → Bool
considers t where_part = is_keyed t (point t where_part)

abbrev pub truth : Table → Option Pred → List Value → Option Bool
truth t None row = Some true
truth t (Some pred) row = holds_at t.columns row pred

-- whether the condition chooses a row
abbrev pub chooses : Table → Option Pred → List Value → Bool
chooses t where_part row = considers t where_part row && unwrap_or (truth t where_part row) false

-- the rows that the condition chooses, by ascending key
abbrev pub chosen : Table → Option Pred → List (List Value)
chosen t where_part = filter (chooses t where_part) t.rows

abbrev pub outside : Option ℤ → Bool
outside None = false
outside (Some key) = not (is_integer key)

-- whether the key of a point statement, or a number in the condition at a considered row, is outside INTEGER
abbrev pub overflows : Table → Option Pred → Bool
overflows t where_part =
    outside (point t where_part) || list_any (λ row. considers t where_part row && is_none (truth t where_part row)) t.rows

-- ---- what is shown of a row

abbrev pub total : List Column → List ℕ → List (List Value) → ℤ
total columns name rows = fold (λ n row. n +ℤ number_of (unwrap_or (value_in columns row name) (value.Int (pos 0)))) (pos 0) rows

-- the rows of a SELECT
abbrev pub shown : Table → What → List (List Value) → List (List Value)
shown t what.All rows = rows
shown t (what.Names names) rows = map (λ row. filter_map (value_in t.columns row) names) rows
shown t what.Count rows = (value.Int (pos (length rows)) ∷ []) ∷ []
shown t (what.Sum name) rows = (value.Int (total t.columns name rows) ∷ []) ∷ []

-- ---- what is made of a row

abbrev pub is_long : ℕ → Value → Bool
is_long size (value.Int n) = false
is_long size (value.Text t) = nat_lt size (length t)

-- whether a value is a text longer than the column of this name
abbrev pub is_too_long : List Column → List ℕ → Value → Bool
is_too_long columns name v = list_any (λ c. bytes_eq c.name name && is_long c.size v) columns

abbrev pub value_refusal : List Column → List ℕ → Option Value → Option Reply
value_refusal columns name None = Some reply.Overflow
value_refusal columns name (Some v) = if is_too_long columns name v then Some reply.TooLong else None

-- the first refusal of a list
abbrev pub first_some : {A B : Type 0} → (A → Option B) → List A → Option B
first_some f [] = None
first_some f (x ∷ xs) = option_or (f x) (first_some f xs)

-- the first assignment that is refused at a row
abbrev pub assigning_refusal : Table → List Set → List Value → Option Reply
assigning_refusal t sets row = first_some (λ s. value_refusal t.columns s.name (value_of t.columns row s.value)) sets

abbrev pub put_value : List Value → Option ℕ → Option Value → List Value
put_value row (Some at) (Some v) = slice_set row at v
put_value row _ _ = row

-- a row with its assignments, which use the row's old values
abbrev pub assigned : Table → List Set → List Value → List Value
assigned t sets row = fold (λ new s. put_value new (place_of t.columns s.name) (value_of t.columns row s.value)) row sets

-- a new row among the rows, at its place by key
abbrev pub with_row : Table → List Value → List (List Value)
with_row t row =
    filter (λ r. is_lt (int_cmp (key_of t r) (key_of t row))) t.rows ++ row ∷ filter (λ r. is_gt (int_cmp (key_of t r) (key_of t row))) t.rows
