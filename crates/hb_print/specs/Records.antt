-- A row as a record of comma-separated values.
use Rattle.std.specs.Prelude.{ℕ, Bool, ◌==◌, ◌||◌, if◌then◌else◌, List, [], ◌∷◌, ◌++◌}
use Rattle.std.specs.Fmt.{signed_decimal}
use Rattle.std.specs.List.{list_any}
use Rattle.hb_types.specs.declared.value.Value.{Value}
use Rattle.hb_types.specs.declared.value.Value.TheVariants as value

-- comma, quote, carriage return and line feed
abbrev pub wants_quotes : ℕ → Bool
wants_quotes b = b == 44 || b == 34 || b == 13 || b == 10

-- each quote twice
unfoldable pub doubled : List ℕ → List ℕ
doubled [] = []
doubled (b ∷ s) = if b == 34 then 34 ∷ 34 ∷ doubled s else b ∷ doubled s

-- a field is quoted exactly where it holds a comma, a quote or an end of line
unfoldable pub field_text : List ℕ → List ℕ
field_text s = if list_any wants_quotes s then 34 ∷ (doubled s ++ 34 ∷ []) else s

abbrev pub value_text : Value → List ℕ
value_text (value.Int n) = signed_decimal n
value_text (value.Text t) = t

-- fields behind the first
unfoldable pub further_fields : List Value → List ℕ
further_fields [] = []
further_fields (v ∷ vs) = 44 ∷ (field_text (value_text v) ++ further_fields vs)

abbrev pub or_quotes : List ℕ → List ℕ
or_quotes [] = 34 ∷ 34 ∷ []
or_quotes (b ∷ s) = b ∷ s

-- the fields with commas between them; a record that shows no byte is two quotes
unfoldable pub record_text : List Value → List ℕ
record_text [] = or_quotes []
record_text (v ∷ vs) = or_quotes (field_text (value_text v) ++ further_fields vs)
