-- Rows whose numbers are within INTEGER.
use Rattle.std.specs.Prelude.{IsTrue, List}
use Rattle.hb_types.specs.declared.value.Value.{Value}
use Rattle.hb_types.specs.declared.value.Value.TheVariants as value
use Rattle.hb_types.specs.Numbers.{is_integer}
use Rattle.hb_types.specs.Lists.{Each}

abbrev pub IsNarrow : Value → Type 0
IsNarrow (value.Int n) = IsTrue (is_integer n)
IsNarrow (value.Text t) = Unit {0}

-- rows as tables keep them: each number is within INTEGER
abbrev pub AreNarrow : List (List Value) → Type 0
AreNarrow = Each (Each IsNarrow)
