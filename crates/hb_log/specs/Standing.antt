-- Records that stand in an image, and what ends them.
use Rattle.std.specs.Prelude.{◌≡◌, ℕ, ◌+◌, List, [], ◌∷◌}
use Rattle.hb_types.specs.declared.change.LogItem.{LogItem}
use Rattle.hb_types.specs.declared.change.Placed.{Placed}
use Rattle.hb_types.specs.Logs.{gate, StandsAt, RecordsFrom, end_of}
use Rattle.hb_types.specs.Records.{record_length}

-- these records stand one behind another from a place on, whatever comes then
abbrev pub StandFrom : List ℕ → ℕ → List Placed → Type 0
StandFrom image from [] = Unit {0}
StandFrom image from (p ∷ ps) = (p.place ≡ from) × StandsAt image from p.item × StandFrom image (from + record_length p.item) ps

-- these are the opened records from a place on, and the next gate
pub record Found (image : List ℕ) (from : ℕ) (placed : List Placed) (next : ℕ) : Type 0 where
  pub records : RecordsFrom image from placed
  pub end : next ≡ end_of from placed

-- behind records in the grammar, an opened record at this place isn't in it
pub record Breaks (image : List ℕ) (from at : ℕ) : Type 0 where
  pub good : List Placed
  pub stand : StandFrom image from good
  pub place : at ≡ end_of from good
  pub opened : gate image at ≡ 1
  pub none : (item : LogItem) → StandsAt image at item → ⊥
