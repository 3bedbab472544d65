-- Headers as bytes, and which of two is the valid one.
use Rattle.std.specs.Prelude.{ℕ, ◌<◌, ◌^◌, nat_lt, Bool, true, false, ◌&&◌, if◌then◌else◌, List, ◌++◌, replicate, Option, Some, None}
use Rattle.hb_types.specs.Numbers.{eight}
use Rattle.hb_disks.specs.WholeImage.{is_open, sequence_at}
use Rattle.hb_whole.specs.declared.header.Header.{Header}

-- a header behind its gate
abbrev pub text_of : Header → List ℕ
text_of h = eight h.sequence ++ eight h.from ++ eight h.floor ++ eight h.place ++ eight h.length ++ replicate 23 0

-- its numbers have eight bytes
abbrev pub IsHeader : Header → Type 0
IsHeader h = (h.sequence < 2 ^ 64) × (h.from < 2 ^ 64) × (h.floor < 2 ^ 64) × (h.place < 2 ^ 64) × (h.length < 2 ^ 64)

-- the second header, or the first, is the valid one of a file with two
abbrev pub chosen : List ℕ → Option Bool
chosen file =
    if is_open file 0 then (if is_open file 64 && nat_lt (sequence_at file 0) (sequence_at file 64) then Some true else Some false)
    else (if is_open file 64 then Some true else None)
