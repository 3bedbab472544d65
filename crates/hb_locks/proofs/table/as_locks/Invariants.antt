use Rattle.std.proofs.Common.{◌≡◌, ◌++◌, map}
use Rattle.hb_locks.proofs.Ascending.{lock_of}
use Rattle.hb_locks.proofs.table.as_locks.Given as goal

-- the locks so far and those on what is left are all
abbrev pub invariant-loop-path : goal.invariant-loop-path
invariant-loop-path l = l.locks ++ map lock_of l.path-iterator ≡ map lock_of l.modes.entries
