-- Lists with commas between, token by token.
use Rattle.std.specs.Prelude.{ℕ, pos, if◌then◌else◌, List, [], ◌∷◌, ◌++◌, Option, Some, None, option_map}
use Rattle.hb_types.specs.declared.value.Column.{Column}
use Rattle.hb_types.specs.declared.value.Value.{Value}
use Rattle.hb_types.specs.declared.value.Value.TheVariants as value
use Rattle.hb_sqlcond.specs.Grammar.{negative}
use Rattle.hb_sqltoken.specs.declared.token.Token.{Token}
use Rattle.hb_sqltoken.specs.declared.token.Token.TheVariants as token
use Rattle.hb_sqltoken.specs.declared.token.Word.TheVariants as word
use Rattle.hb_sqlsteps.specs.declared.marks.Mark.TheVariants as mark
use Rattle.hb_sqlsteps.specs.declared.lists.Names.{Names}
use Rattle.hb_sqlsteps.specs.declared.lists.Names.TheVariants as names
use Rattle.hb_sqlsteps.specs.declared.lists.Values.{Values}
use Rattle.hb_sqlsteps.specs.declared.lists.Values.TheVariants as values
use Rattle.hb_sqlsteps.specs.declared.columns.Columns.{Columns}
use Rattle.hb_sqlsteps.specs.declared.columns.Columns.TheVariants as columns
use Rattle.hb_sqlsteps.specs.Kept.{column, varchar_size}
use Rattle.hb_sqlsteps.specs.Marks.{is_word, on_word, on_mark, on_name}

-- ---- names

abbrev pub step_names : Names → Token → Option Names
step_names (names.Want xs) t = on_name t (λ name. names.Have (xs ++ name ∷ []))
step_names (names.Have xs) t = on_mark mark.Comma t (names.Want xs)

abbrev pub whole_names : Names → Option (List (List ℕ))
whole_names (names.Want xs) = None
whole_names (names.Have xs) = Some xs

-- ---- values

abbrev pub want_value : List Value → Token → Option Values
want_value xs (token.Number n) = Some (values.Have (xs ++ value.Int (pos n) ∷ []))
want_value xs (token.Text t) = Some (values.Have (xs ++ value.Text t ∷ []))
want_value xs token.Minus = Some (values.Minus xs)
want_value xs _ = None

abbrev pub want_opposite : List Value → Token → Option Values
want_opposite xs (token.Number n) = Some (values.Have (xs ++ value.Int (negative n) ∷ []))
want_opposite xs _ = None

abbrev pub step_values : Values → Token → Option Values
step_values (values.Want xs) t = want_value xs t
step_values (values.Minus xs) t = want_opposite xs t
step_values (values.Have xs) t = on_mark mark.Comma t (values.Want xs)

abbrev pub whole_values : Values → Option (List Value)
whole_values (values.Want xs) = None
whole_values (values.Minus xs) = None
whole_values (values.Have xs) = Some xs

-- ---- columns

-- a VARCHAR's size
abbrev pub size_in : Token → Option ℕ
size_in (token.Number n) = Some (varchar_size n)
size_in _ = None

abbrev pub step_columns : Columns → Token → Option Columns
step_columns (columns.Want xs) t = on_name t (columns.Named xs)
step_columns (columns.Named xs name) t = if is_word word.Integer t then Some (columns.Have (xs ++ column name 0 ∷ [])) else on_word word.Varchar t (columns.Varchar xs name)
step_columns (columns.Varchar xs name) t = on_mark mark.Open t (columns.Open xs name)
step_columns (columns.Open xs name) t = option_map (λ size. columns.Size xs (column name size)) (size_in t)
step_columns (columns.Size xs x) t = on_mark mark.Close t (columns.Have (xs ++ x ∷ []))
step_columns (columns.Have xs) t = on_mark mark.Comma t (columns.Want xs)

abbrev pub whole_columns : Columns → Option (List Column)
whole_columns (columns.Have xs) = Some xs
whole_columns _ = None
