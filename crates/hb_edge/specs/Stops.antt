-- What a stop at each moment may leave.
use Rattle.std.specs.Prelude.{◌≡◌, ℕ, ◌<◌, ◌≤◌, max}
use Rattle.hb_edge.specs.Images.{Image}

-- One call at a moment: a stop before it leaves what it left before, and one from it on what a step makes of what was
-- left at the last call. (Where the clock of an earlier call was ahead, the latter is said of the moments from that one on.)
pub record Passes (step : Image → Image → Type 0) (at last : ℕ) (old new : ℕ → Image → Type 0) : Type 0 where
  pub before : (m : ℕ) (image : Image) → m < at → new m image → old m image
  pub keeps : (m : ℕ) (image : Image) → m < at → old m image → new m image
  pub since : (m : ℕ) (image : Image) → max last at ≤ m → new m image → (was : Image) × old last was × step was image

-- a stop from a moment on leaves this and nothing else
abbrev pub Only : (ℕ → Image → Type 0) → ℕ → Image → Type 0
Only left from image = (m : ℕ) (other : Image) → from ≤ m → left m other → other ≡ image

-- a stop at a moment from `from` on leaves an image with P, and one before it what it left before
pub record Leaves (from : ℕ) (old new : ℕ → Image → Type 0) (P : ℕ → Image → Type 0) : Type 0 where
  pub each : (m : ℕ) (image : Image) → from ≤ m → new m image → P m image
  pub before : (m : ℕ) (image : Image) → m < from → new m image → old m image
  pub keeps : (m : ℕ) (image : Image) → m < from → old m image → new m image
