-- What a Start reads: the images that its disks hold then, and whether they are damaged.
use Rattle.std.specs.Prelude.{◌≡◌, ◌⊎◌, ℕ, ◌+◌, ◌*◌, ◌≤◌, Bool, true, false, is_some, List, length, Option, Some, ⊤}
use Rattle.hb_edge.specs.Images.{Image}
use Rattle.hb_types.specs.declared.answer.Answer.{Answer}
use Rattle.hb_types.specs.declared.answer.Answer.TheVariants as answer
use Rattle.hb_types.specs.declared.change.Placed.{Placed}
use Rattle.hb_types.specs.Logs.{Records, end_of}
use Rattle.hb_types.specs.Numbers.{greatest}
use Rattle.hb_log.specs.Standing.{Breaks}
use Rattle.hb_disks.specs.Points.{Point}
use Rattle.hb_disks.specs.Redo.{doubts}
use Rattle.hb_redo.specs.Damage.{IsDamaged, NoneBad, items_of}
use Rattle.hb_server.specs.Law.{IsInside, from_of}
use Rattle.hb_server.specs.declared.state.State.{State}
use Rattle.hb_server.specs.declared.state.State.TheVariants.{Down, Up, Away}

-- The records of a log image behind a place. Where redo can begin at that place, they end here.
abbrev pub AreRecords : Image → ℕ → List Placed → ℕ → Type 0
AreRecords image from records end = Records image from records × (IsInside from image → end ≡ end_of from records)

-- none of them is bad, and behind them is room for the ends of the branches that they leave in doubt
abbrev pub IsWhole : Image → ℕ → Type 0
IsWhole image from = (records : List Placed) × (end : ℕ) × AreRecords image from records end × NoneBad records × (end + 32 * length (doubts (items_of records)) ≤ greatest)

-- behind a place the log image breaks here, or its records are damaged here
abbrev pub IsBroken : Image → ℕ → ℕ → Type 0
IsBroken image from place = Breaks image from place ⊎ ((records : List Placed) × (end : ℕ) × AreRecords image from records end × IsDamaged records end place)

-- what the answer of a Start tells of the log image behind a place
abbrev pub LogFinds : Image → ℕ → Answer → Type 0
LogFinds log from (answer.Damaged true place) = ⊥
LogFinds log from (answer.Damaged false place) = IsBroken log from place
LogFinds log from (answer.Started doubts) = IsWhole log from
LogFinds log from _ = ⊤

-- What the answer of a Start tells of the images. The area image's valid header is here, and its point isn't in the format; or the
-- log image is broken here behind the area image's point; or neither is damaged.
abbrev pub Finds : (Image → Option Point → Type 0) → (Image → Option ℕ) → Image → Image → Answer → Type 0
Finds point_in header_in log area (answer.Damaged true place) = (header_in area ≡ Some place) × ((p : Option Point) → ¬ (point_in area p))
Finds point_in header_in log area (answer.Damaged false place) = (p : Option Point) × point_in area p × IsBroken log (from_of p) place
Finds point_in header_in log area (answer.Started doubts) = (p : Option Point) × point_in area p × IsWhole log (from_of p)
Finds point_in header_in log area _ = ⊤

-- an answer that tells of the images
abbrev pub is_told_of : Answer → Bool
is_told_of (answer.Damaged area place) = true
is_told_of (answer.Started doubts) = true
is_told_of _ = false

-- of a stopped server whose disks tell their content: it tells of some images that they hold
abbrev pub Reads : {D S : Type 0} → (D → Option Image) → (D → ℕ → Image → Type 0) → (D → ℕ) → (Image → Option Point → Type 0) → (Image → Option ℕ) → State D S → Answer → Type 0
Reads content left last point_in header_in (Down rest) a =
    is_told_of a ≡ true → is_some (content rest.log) ≡ true → is_some (content rest.area) ≡ true
    → (log : Image) × (area : Image) × left rest.log (last rest.log) log × left rest.area (last rest.area) area × Finds point_in header_in log area a
Reads content left last point_in header_in (Up serves) a = ⊤
Reads content left last point_in header_in Away a = ⊤
