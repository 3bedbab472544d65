-- The pieces that were put into a sink, with their moments.
use Rattle.std.specs.Prelude.{ℕ, nat_le, if◌then◌else◌, List, [], ◌∷◌}
use Rattle.hb_memdisk.specs.declared.sink.Piece.{Piece}

-- how many bytes were out at a moment, by the pieces, the newest first
abbrev pub reached : List Piece → ℕ → ℕ
reached [] m = 0
reached (piece ∷ older) m = if nat_le piece.at m then piece.end else reached older m
