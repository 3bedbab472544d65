-- What a statement never changes: the number of an area's name, and of a table's name its number, columns and key column.
use Rattle.std.specs.Prelude.{◌≡◌, ℕ, List, Some}
use Rattle.hb_model.specs.declared.table.Table.{Table}
use Rattle.hb_model.specs.State.{State, Area, Spread, area_named, spread_named, table_named}

-- what had a name in the one state has it in the other, with the same number and columns
pub record NamesStay (s t : State) : Type 0 where
  pub areas : (name : List ℕ) (a : Area) → area_named s name ≡ Some a → area_named t name ≡ Some a
  pub numbers : (name : List ℕ) (x : Spread) → spread_named s name ≡ Some x → (y : Spread) × (spread_named t name ≡ Some y) × (y.number ≡ x.number)
  pub columns : (name : List ℕ) (x : Table) → table_named s name ≡ Some x
      → (y : Table) × (table_named t name ≡ Some y) × (y.columns ≡ x.columns) × (y.key ≡ x.key)
