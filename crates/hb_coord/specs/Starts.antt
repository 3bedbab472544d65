-- What a start reads.
use Rattle.std.specs.Prelude.{◌≡◌, ◌⊎◌, ℕ, Bool, true, false, List, [], ◌∷◌, ◌++◌, Option}
use Rattle.hb_edge.specs.Images.{Image}
use Rattle.hb_types.specs.declared.change.LogItem.{LogItem}
use Rattle.hb_types.specs.declared.change.Placed.{Placed}
use Rattle.hb_types.specs.Lists.{Each}
use Rattle.hb_types.specs.Logs.{Records}
use Rattle.hb_log.specs.Log.{IsSameOrShort}
use Rattle.hb_log.specs.Standing.{Breaks}
use Rattle.hb_disks.specs.StandsFor.{IsCoordinators}
use Rattle.hb_runs.specs.Coordinator.{happens, came_up, stopped_at}
use Rattle.hb_coord.specs.Memory.{Knows}
use Rattle.hb_coord.specs.Standing.{IsLog, IsUp}
use Rattle.hb_coord.specs.declared.kept.Recorded.{Recorded}
use Rattle.hb_coord.specs.declared.running.Running.{Running}

-- the first of these records that is of another node stands at this place
pub record IsStrange (placed : List Placed) (place : ℕ) : Type 0 where
  pub front : List Placed
  pub first : Placed
  pub back : List Placed
  pub parts : placed ≡ front ++ first ∷ back
  pub own : Each (λ (p : Placed). IsCoordinators p.item) front
  pub other : ¬ (IsCoordinators first.item)
  pub place_is : first.place ≡ place

-- an opened record at this place isn't in the grammar, or all are and this is the first of another node
abbrev pub IsBadAt : Image → ℕ → Type 0
IsBadAt image place = Breaks image 0 place ⊎ ((placed : List Placed) × Records image 0 placed × IsStrange placed place)

-- an image that was left has the records with which the coordinator came up
pub record Starts {D : Type 0} (content : D → Option Image) (left : D → ℕ → Image → Type 0) (last : D → ℕ) (was : D) (r : Running D) (moment : ℕ) : Type 0 where
  pub image : Image
  pub was_left : left was (last was) image
  pub items : List LogItem
  pub is_log : IsLog image items
  pub up : IsUp content left last (happens (stopped_at items) came_up) r moment

-- an image that was left before is this one, or both have fewer than 7 bytes
abbrev pub WasLeft : {D : Type 0} → (D → ℕ → Image → Type 0) → (D → ℕ) → D → Image → Type 0
WasLeft left last was image = (old : Image) × left was (last was) old × IsSameOrShort old image

-- a record of a coordinator is one more that is known
abbrev pub Takes : List LogItem → LogItem → Recorded → Bool → Type 0
Takes log item now true = IsCoordinators item × Knows (log ++ item ∷ []) now
Takes log item now false = ¬ (IsCoordinators item)
