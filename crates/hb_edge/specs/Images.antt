-- Images of a disk, and what its calls make of them.
use Rattle.std.specs.Prelude.{◌≡◌, ℕ, ◌+◌, ◌-◌, ◌<◌, ◌≤◌, min, max, List, ◌++◌, length, take, drop, replicate, get_or}

-- the bytes of a disk
abbrev pub Image : Type 0
Image = List ℕ

-- n bytes from a place on: past the end they are 0
abbrev pub window : Image → ℕ → ℕ → List ℕ
window image at n = take n (drop at image ++ replicate n 0)

-- the image with these bytes at a place, and a byte that fills a gap before them
abbrev pub patched : ℕ → ℕ → List ℕ → Image → Image
patched gap at bytes image = take at image ++ replicate (at - length image) gap ++ bytes ++ drop (at + length bytes) image

-- the image with these bytes at a place, and 0 in a gap before them
abbrev pub written : ℕ → List ℕ → Image → Image
written at bytes image = patched 0 at bytes image

-- after a write of n bytes that a stop cuts short: any bytes in the range and past the old end, the same elsewhere
pub record Torn (at n : ℕ) (old new : Image) : Type 0 where
  pub no_shorter : length old ≤ length new
  pub no_longer : length new ≤ max (length old) (at + n)
  pub below : (i : ℕ) → i < length old → i < at → get_or new i 0 ≡ get_or old i 0
  pub above : (i : ℕ) → i < length old → at + n ≤ i → get_or new i 0 ≡ get_or old i 0

-- after a cut that a stop cuts short: the old length, the new one or one between
pub record Cut (n : ℕ) (old new : Image) : Type 0 where
  pub no_shorter : min n (length old) ≤ length new
  pub front : new ≡ take (length new) old

-- nothing is done
abbrev pub Same : Image → Image → Type 0
Same old new = new ≡ old
