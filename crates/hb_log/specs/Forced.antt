-- What a stop may leave while a record is forced.
use Rattle.std.specs.Prelude.{◌⊎◌, ℕ, ◌+◌, List, length}
use Rattle.hb_edge.specs.Images.{Image, Torn, written}

-- the record torn behind the closed gate, or whole behind a torn gate
abbrev pub Forced : ℕ → List ℕ → Image → Image → Type 0
Forced gate bytes old image = Torn (gate + 1) (length bytes) old image ⊎ Torn gate 1 (written (gate + 1) bytes old) image
