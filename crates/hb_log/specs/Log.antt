-- What a log means: its records, and what a stop may leave of them.
use Rattle.std.specs.Prelude.{◌≡◌, ◌⊎◌, ℕ, ◌<◌, false, List, [], ◌∷◌, ◌++◌, length, Option, Some}
use Rattle.hb_edge.specs.Images.{Image}
use Rattle.hb_types.specs.declared.change.Placed.{Placed}
use Rattle.hb_types.specs.Logs.{Records, RecordsFrom, end_of}
use Rattle.hb_log.specs.declared.log.Log.{Log}

-- The disk tells its content, which has these records from the place on and then a closed gate; nothing else may be left,
-- and the log is open.
pub record IsSettled {D : Type 0} (content : D → Option Image) (left : D → ℕ → Image → Type 0) (last : D → ℕ) (from : ℕ) (placed : List Placed) (log : Log D) : Type 0 where
  pub image : Image
  pub told : content log.disk ≡ Some image
  pub records : RecordsFrom image from placed
  pub end : log.end ≡ end_of from placed
  pub inside : log.end < length image
  pub only : (other : Image) → left log.disk (last log.disk) other → other ≡ image
  pub is_open : log.closed ≡ false

-- the image has the records from before, or these and a new one behind them
abbrev pub IsBeforeOrAfter : ℕ → List Placed → Placed → Image → Type 0
IsBeforeOrAfter from placed new image = Records image from placed ⊎ Records image from (placed ++ new ∷ [])

-- the image is the disk as it read before, or both have fewer than 7 bytes
abbrev pub IsSameOrShort : Image → Image → Type 0
IsSameOrShort read image = (image ≡ read) ⊎ ((length read < 7) × (length image < 7))
