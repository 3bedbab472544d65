use Rattle.std.proofs.Common.{◌≡◌, take, drop}
use Rattle.std.specs.Option.{option_map}
use Rattle.hb_lines.specs.Cuts.{behind, cut_at}
use Rattle.hb_lines.proofs.cut.split_at_byte.Given as goal

abbrev pub invariant-loop-i : goal.invariant-loop-i
invariant-loop-i l = cut_at l.byte l.bytes ≡ option_map (behind (take l.i l.bytes)) (cut_at l.byte (drop l.i l.bytes))
