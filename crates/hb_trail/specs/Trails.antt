-- What a node keeps of the requests that it answered.
use Rattle.std.specs.Prelude.{ℕ, List}
use Rattle.hb_types.specs.declared.trail.TrailEntry.{TrailEntry}

-- the entries in their order, and how many more there is room for
pub record Entries : Type 0 where
  pub entries : List TrailEntry
  pub spare : ℕ
