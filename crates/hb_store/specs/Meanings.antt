-- Words of the contract of every store.
use Rattle.std.specs.Prelude.{◌≡◌, ℕ, ◌+◌, ℤ, if◌then◌else◌, List, [], ◌∷◌, map, Option, Some, unwrap_or}
use Rattle.hb_edge.specs.Images.{Image}
use Rattle.hb_types.specs.declared.change.Change.{Change}
use Rattle.hb_types.specs.declared.change.LogItem.{LogItem}
use Rattle.hb_types.specs.declared.change.LogItem.TheVariants as item
use Rattle.hb_types.specs.declared.change.Stored.{Stored}
use Rattle.hb_types.specs.declared.places.Place.{Place}
use Rattle.hb_types.specs.Places.{same_place, IsPlace}
use Rattle.hb_types.specs.Rows.{IsRow}
use Rattle.hb_disks.specs.Points.{Point, Format, no_point}
use Rattle.hb_disks.specs.Redo.{Prepared}
use Rattle.hb_store.specs.declared.point.Point.{Point as Mark}

-- how many of the changes are at a place
abbrev pub count_at : Place → List Change → ℕ
count_at place [] = 0
count_at place (c ∷ cs) = if same_place place c.place then count_at place cs + 1 else count_at place cs

-- the changes of a vote
abbrev pub changes_in : LogItem → List Change
changes_in (item.Prepare tx floor locks changes) = changes
changes_in _ = []

-- for how many changes at a place branches that voted need memory
abbrev pub room_for : Place → List Prepared → ℕ
room_for place [] = 0
room_for place (p ∷ ps) = count_at place p.changes + room_for place ps

-- the keys of rows, in their order
abbrev pub keys_of : List Stored → List ℤ
keys_of rows = map (λ r. r.place.key) rows

-- a row that a store may hold
abbrev pub IsStored : Stored → Type 0
IsStored r = IsPlace r.place × IsRow r.row

-- where redo from a point begins, as a store tells it
abbrev pub mark_of : Point → Mark
mark_of p = record { from = p.from; floor = record { 0 = p.floor } }

-- the point that is made where this one was the valid one
abbrev pub next_point : Option Point → Mark → List Stored → Point
next_point was mark rows = record { sequence = (unwrap_or was no_point).sequence + 1; from = mark.from; floor = mark.floor.0; rows = rows }

-- the one image holds a point exactly where the other does
abbrev pub HoldsSame : Format → Image → Image → Type 0
HoldsSame format read image = (p : Option Point) → (format read p → format image p) × (format image p → format read p)

-- The store goes on over this disk, on which the point is the valid one: the disk tells its content, in which stands what
-- was written of a begun point, and each image that a stop may leave now keeps the valid point.
pub record IsOn {S : Type 0} (keeps : S → Option Point → Image → Type 0) (staged : S → Image → Type 0) (content : Option Image) (left : Image → Type 0) (store : S) (point : Option Point) : Type 0 where
  pub read : Image
  pub told : content ≡ Some read
  pub stands : staged store read
  pub each : (image : Image) → left image → keeps store point image

-- a store that goes on over a disk still does
pub record Stays {S : Type 0} (keeps : S → Option Point → Image → Type 0) (staged : S → Image → Type 0) (old new : S) : Type 0 where
  pub keeps_on : (p : Option Point) (image : Image) → keeps old p image → keeps new p image
  pub stands_on : (image : Image) → staged old image → staged new image
