-- How names, sizes and values are kept, and the limit of counts.
use Rattle.std.specs.Prelude.{ℕ, nat_le, ◌&&◌, if◌then◌else◌, List}
use Rattle.hb_types.specs.declared.value.Column.{Column}
use Rattle.hb_model.specs.declared.expression.Expr.{Expr}
use Rattle.hb_model.specs.declared.statement.Set.{Set}

abbrev pub column : List ℕ → ℕ → Column
column name size = record { name = name; size = size }

-- a size that no column can have is kept as 65,535
abbrev pub varchar_size : ℕ → ℕ
varchar_size n = if nat_le 1 n && nat_le n 255 then n else 65535

abbrev pub set_of : List ℕ → Expr → Set
set_of name e = record { name = name; value = e }

-- the most that STEP and AT may say
abbrev pub most_steps : ℕ
most_steps = 2147483647
