use Rattle.std.proofs.Common.{◌≡◌, take, None}
use Rattle.hb_types.specs.declared.places.Path.{Path}
use Rattle.hb_locks.specs.Locks.{IsCompatible, held_at}
use Rattle.hb_engine.specs.Restores.{Taken}
use Rattle.hb_engine.proofs.restore.take_all.Given as goal

-- the locks so far are taken
abbrev pub invariant-loop-held : goal.invariant-loop-held
invariant-loop-held l = ((q : Path) → held_at l.fn.locks l.tx q ≡ None) → IsCompatible l.fn.locks → Taken l.fn.locks l.locks l.tx (take l.held-index l.asked)
