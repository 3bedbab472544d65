-- Where the next point goes, and its sequence.
use Rattle.std.specs.Prelude.{ℕ, ◌+◌, nat_le, Bool, false, not, if◌then◌else◌, Option, Some, None}
use Rattle.hb_whole.specs.declared.valid.Valid.{Valid}

-- an image goes to 128 if it ends there at or before the valid one's place, else behind the valid one
abbrev pub next_place : Option Valid → ℕ → ℕ
next_place None length = 128
next_place (Some v) length = if nat_le (128 + length) v.place then 128 else v.place + v.length

abbrev pub next_sequence : Option Valid → ℕ
next_sequence None = 1
next_sequence (Some v) = v.sequence + 1

-- whether it stands in the second header
abbrev pub next_second : Option Valid → Bool
next_second None = false
next_second (Some v) = not v.second
