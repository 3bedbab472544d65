-- A borrowed value, and the value that it stands for.
use Rattle.std.specs.Prelude.{ℤ, Option, Some, None}
use Rattle.hb_types.specs.declared.value.Value.{Value}
use Rattle.hb_types.specs.declared.value.Value.TheVariants as value
use Rattle.hb_sqlexpr.specs.declared.borrowed.Borrowed.{Borrowed}
use Rattle.hb_sqlexpr.specs.declared.borrowed.Borrowed.TheVariants as borrowed

abbrev pub seen : Borrowed → Value
seen (borrowed.Int n) = value.Int n
seen (borrowed.Text t) = value.Text t.now

-- the number, of a number
abbrev pub number_in : Value → Option ℤ
number_in (value.Int n) = Some n
number_in (value.Text t) = None
