use Rattle.std.proofs.Common.{◌≡◌, ◌∷◌, length, take, map}
use Rattle.hb_types.specs.Lists.{joined}
use Rattle.hb_types.specs.Rows.{value_bytes}
use Rattle.hb_codec.proofs.writing.encode_row.Given as goal

abbrev pub invariant-loop-value : goal.invariant-loop-value
invariant-loop-value l = l.out.items ≡ 1 ∷ length l.values ∷ joined (map value_bytes (take l.value-index l.values))
