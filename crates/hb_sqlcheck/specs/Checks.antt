-- Kinds as the code has them, and names that are no column.
use Rattle.std.specs.Prelude.{ℕ, Bool, not, List}
use Rattle.std.specs.List.{list_any}
use Rattle.std.specs.Str.{bytes_eq}
use Rattle.hb_types.specs.declared.value.Column.{Column}
use Rattle.hb_model.specs.Kinds.{Kind as Told, number, letters}
use Rattle.hb_sqlcheck.specs.declared.kinds.Kind.{Kind}
use Rattle.hb_sqlcheck.specs.declared.kinds.Kind.TheVariants as kind

abbrev pub kind_told : Kind → Told
kind_told kind.Number = number
kind_told kind.Letters = letters

abbrev pub unknown_in : List Column → List ℕ → Bool
unknown_in columns name = not (list_any (λ c. bytes_eq c.name name) columns)
