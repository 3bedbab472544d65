-- What a disk in memory reads and may leave, from what it held first and its calls, the newest first.
use Rattle.std.specs.Prelude.{◌≡◌, ◌⊎◌, ℕ, ◌<◌, ◌≤◌, List, [], ◌∷◌, length, take, replicate}
use Rattle.hb_edge.specs.Images.{Image, patched, written, Torn, Cut}
use Rattle.hb_memdisk.specs.declared.call.Call.{Call}
use Rattle.hb_memdisk.specs.declared.call.Call.TheVariants.{Write, Shorten, Settle, Restart}
use Rattle.hb_memdisk.specs.declared.call.Noted.{Noted}

-- what a read gives after a call
abbrev pub after : Call → Image → Image
after (Write at bytes) image = written at bytes image
after (Shorten n) image = take n image
after Settle image = image
after (Restart left) image = left

abbrev pub reads : Image → List Noted → Image
reads first [] = first
reads first (noted ∷ older) = after noted.call (reads first older)

-- what the last sync or restart left
abbrev pub settled_by : Call → Image → Image → Image
settled_by (Write at bytes) read image = image
settled_by (Shorten n) read image = image
settled_by Settle read image = read
settled_by (Restart left) read image = left

abbrev pub settled : Image → List Noted → Image
settled first [] = first
settled first (noted ∷ older) = settled_by noted.call (reads first older) (settled first older)

-- all bytes that are pending filled with v, at the greatest length
abbrev pub filled_by : ℕ → Call → Image → Image → Image
filled_by v (Write at bytes) read image = patched v at (replicate (length bytes) v) image
filled_by v (Shorten n) read image = image
filled_by v Settle read image = read
filled_by v (Restart left) read image = left

abbrev pub filled : ℕ → Image → List Noted → Image
filled v first [] = first
filled v first (noted ∷ older) = filled_by v noted.call (reads first older) (filled v first older)

-- what a stop may leave after a call, from what was read and what it might leave before it
abbrev pub may : Call → Image → (Image → Type 0) → Image → Type 0
may (Write at bytes) read older image = (was : Image) × older was × Torn at (length bytes) was image
may (Shorten n) read older image = (was : Image) × older was × Cut n was image
may Settle read older image = image ≡ read
may (Restart left) read older image = image ≡ left

abbrev pub images : Image → List Noted → Image → Type 0
images first [] image = image ≡ first
images first (noted ∷ older) image = may noted.call (reads first older) (images first older) image

-- what a stop at a moment may leave: it falls after the last call with a moment of at most this one
abbrev pub leaves : Image → List Noted → ℕ → Image → Type 0
leaves first [] m image = image ≡ first
leaves first (noted ∷ older) m image = ((noted.at ≤ m) × images first (noted ∷ older) image) ⊎ ((m < noted.at) × leaves first older m image)

-- the moment of the last call that is kept
abbrev pub newest : List Noted → ℕ
newest [] = 0
newest (noted ∷ older) = noted.at
