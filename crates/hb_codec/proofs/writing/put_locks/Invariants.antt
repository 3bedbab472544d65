use Rattle.std.proofs.Common.{◌≡◌, ◌++◌, take, map}
use Rattle.hb_types.specs.Lists.{joined}
use Rattle.hb_types.specs.Records.{lock_bytes}
use Rattle.hb_codec.proofs.writing.put_locks.Given as goal

abbrev pub invariant-loop-lock : goal.invariant-loop-lock
invariant-loop-lock l = l.out.items ≡ l.initial.out.items ++ joined (map lock_bytes (take l.lock-index l.locks))
