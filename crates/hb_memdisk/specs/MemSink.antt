-- What a sink in memory means.
use Rattle.std.specs.Prelude.{◌≡◌, ℕ, ◌+◌, ◌≤◌, List, length, take, reverse, Option, Some}
use Rattle.std.proofs.Common.{ap, ◌∙◌, arith}
use Rattle.std.proofs.lemmas.List.{take_all}
use Rattle.hb_memdisk.specs.declared.sink.MemSink.{MemSink}
use Rattle.hb_memdisk.specs.Pieces.{reached}

abbrev pub told_of : MemSink → Option (List ℕ)
told_of sink = Some sink.bytes.items

-- what was out at a moment
abbrev pub shown_of : MemSink → ℕ → Option (List ℕ)
shown_of sink m = Some (take (reached (reverse sink.pieces.items) m) sink.bytes.items)

-- the listed failures, and the calls that found no memory
abbrev pub faults_of : MemSink → ℕ
faults_of sink = sink.failed + sink.short

-- from its last put on all is out
pub sink_stands : (sink : MemSink) (m : ℕ) → sink.last ≤ m → shown_of sink m ≡ told_of sink
sink_stands sink m late =
    ap (λ (n : ℕ). Some (take n sink.bytes.items)) (sink.whole m late) ∙ ap (λ (l : List ℕ). Some l) (take_all (length sink.bytes.items) sink.bytes.items (omega arith))
