-- What is wanted of a table in each area, as accesses and as a plan.
use Rattle.std.specs.Prelude.{ℕ, Bool, true, false, List, [], ◌∷◌, ◌++◌, FitsSigned, ⊤}
use Rattle.std.specs.Int.{w32}
use Rattle.hb_types.specs.declared.change.Stored.{Stored}
use Rattle.hb_types.specs.declared.places.Path.{Path}
use Rattle.hb_types.specs.declared.places.Path.TheVariants as path
use Rattle.hb_types.specs.Places.{node_of_area}
use Rattle.hb_model.specs.Spots.{space_in, place_in}
use Rattle.hb_talk.specs.Talk.{Planning, ◌>>=◌, pure}
use Rattle.hb_talk.specs.Plans.{stored_at}
use Rattle.hb_access.specs.declared.goal.Goal.{Goal}
use Rattle.hb_access.specs.declared.goal.Got.{Got}
use Rattle.hb_access.specs.declared.goal.Got.TheVariants as got
use Rattle.hb_access.specs.Accesses.{locked, IsServer}
use Rattle.hb_round.specs.declared.sweep.Sweep.{Sweep}
use Rattle.hb_round.specs.declared.sweep.Swept.{Swept}
use Rattle.hb_round.specs.declared.sweep.Swept.TheVariants as swept

-- the key of a row is an INTEGER
abbrev pub IsKeyed : Swept → Type 0
IsKeyed (swept.Row key) = FitsSigned w32 key
IsKeyed swept.Rows = ⊤
IsKeyed swept.Lock = ⊤

-- an area is one of ds or of a back end
abbrev pub HasNode : ℕ → Type 0
HasNode area = IsServer (node_of_area area)

abbrev pub path_of : Swept → ℕ → ℕ → Path
path_of (swept.Row key) table area = path.Key (place_in area table key)
path_of swept.Rows table area = path.Whole (space_in area table)
path_of swept.Lock table area = path.Whole (space_in area table)

abbrev pub path_in : Sweep → ℕ → Path
path_in s area = path_of s.swept s.table area

abbrev pub reads : Swept → Bool
reads (swept.Row key) = true
reads swept.Rows = true
reads swept.Lock = false

-- what is accessed in an area
abbrev pub goal_in : Sweep → ℕ → Goal
goal_in s area = record { node = record { 0 = node_of_area area }; path = path_in s area; mode = s.mode; reads = reads s.swept }

-- the rows that come of an area
abbrev pub came_of : Swept → ℕ → ℕ → Got → List Stored
came_of (swept.Row key) table area (got.Row row) = stored_at (place_in area table key) row
came_of (swept.Row key) table area (got.Rows rows) = []
came_of (swept.Row key) table area got.Nothing = []
came_of swept.Rows table area (got.Rows rows) = rows
came_of swept.Rows table area (got.Row row) = []
came_of swept.Rows table area got.Nothing = []
came_of swept.Lock table area g = []

abbrev pub came_in : Sweep → ℕ → Got → List Stored
came_in s area g = came_of s.swept s.table area g

-- the accesses in the areas left, behind the rows that were found
unfoldable pub gathering : Sweep → List ℕ → List Stored → Planning (List Stored)
gathering s [] rows = pure rows
gathering s (area ∷ more) rows = locked (goal_in s area) >>= (λ g. gathering s more (rows ++ came_in s area g))
