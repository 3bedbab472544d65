-- The disks of a system before its nodes are started.
use Rattle.std.specs.Prelude.{◌≡◌, ℕ, ◌<◌, ◌≤◌, List, [], length, All, Option, IfSome, slice_index_or}
use Rattle.std.specs.List.{AllZip}
use Rattle.hb_edge.specs.Causes.{Rose}
use Rattle.hb_edge.specs.Images.{Image}
use Rattle.hb_edge.specs.Stops.{Only}

-- ---- one disk

-- what a read gives is as it was, and the count of faults did not fall
pub record IsKept {D : Type 0} (content : D → Option Image) (faults : D → ℕ) (old new : D) : Type 0 where
  pub same : content new ≡ content old
  pub count : faults old ≤ faults new

-- what a stop leaves from the last call on is what a read gives
abbrev pub IsSettled : {D : Type 0} → (D → Option Image) → (D → ℕ → Image → Type 0) → (D → ℕ) → D → Type 0
IsSettled content left last d = IfSome (content d) (Only (left d) (last d))

-- the moment is not behind the disk
abbrev pub IsInTime : {D : Type 0} → (D → ℕ) → ℕ → D → Type 0
IsInTime last moment d = last d ≤ moment

-- it has no bytes, where it tells them
abbrev pub IsEmpty : {D : Type 0} → (D → Option Image) → D → Type 0
IsEmpty content d = IfSome (content d) (λ bytes. bytes ≡ [])

-- it has bytes, where it tells them
abbrev pub IsWritten : {D : Type 0} → (D → Option Image) → D → Type 0
IsWritten content d = IfSome (content d) (λ bytes. bytes ≡ [] → ⊥)

-- ---- all of them

-- the count of one of them rose
abbrev pub HasFault : {D : Type 0} → (D → ℕ) → List D → List D → Type 0
HasFault {D} faults old new = (k : ℕ) × (k < length old) × ((d : D) → Rose (faults (slice_index_or old k d)) (faults (slice_index_or new k d)))

-- The disks between two moments: nothing of them was changed, and if at first none was ahead of the clock, then none is now.
pub record AreKept {D : Type 0} (content : D → Option Image) (last faults : D → ℕ) (from to : ℕ) (old new : List D) : Type 0 where
  pub each : AllZip (IsKept content faults) old new
  pub in_time : All (IsInTime last from) old → All (IsInTime last to) new
  pub clock : from ≤ to
