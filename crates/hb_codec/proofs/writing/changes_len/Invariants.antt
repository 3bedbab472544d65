use Rattle.std.proofs.Common.{◌≡◌, length, take, map}
use Rattle.hb_types.specs.Lists.{joined}
use Rattle.hb_types.specs.Records.{change_bytes}
use Rattle.hb_codec.proofs.writing.changes_len.Given as goal

abbrev pub invariant-loop-change : goal.invariant-loop-change
invariant-loop-change l = l.len ≡ length (joined (map change_bytes (take l.change-index l.changes)))
