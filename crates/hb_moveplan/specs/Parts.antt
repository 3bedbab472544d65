-- Where a check and a finish stand.
use Rattle.std.specs.Prelude.{ℕ, List, Option}
use Rattle.hb_access.specs.Accesses.{Accessing}
use Rattle.hb_batch.specs.declared.hint.Hint.{Hint}
use Rattle.hb_moveplan.specs.declared.finish.Part.{Part}

-- a check: the access in progress, the table's name, and its number once it is found
pub record Checking : Type 0 where
  pub access : Accessing
  pub name : List ℕ
  pub table : Option ℕ

-- a finish: the access in progress, of which group, and what for
pub record Finishing : Type 0 where
  pub access : Accessing
  pub hint : Hint
  pub part : Part
