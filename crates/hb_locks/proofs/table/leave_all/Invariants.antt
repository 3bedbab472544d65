use Rattle.std.proofs.Common.{◌≡◌, take, if◌then◌else◌}
use Rattle.hb_types.specs.declared.places.Path.{Path}
use Rattle.hb_locks.specs.Index.{has_path}
use Rattle.hb_locks.specs.Locks.{holders_at, without}
use Rattle.hb_locks.proofs.table.leave_all.Given as goal

-- the paths so far are left
abbrev pub invariant-loop-path : goal.invariant-loop-path
invariant-loop-path l = (q : Path) → holders_at l.table.entries q ≡ (if has_path (take l.path-index l.paths) q then without l.tx (holders_at l.fn.table.entries q) else holders_at l.fn.table.entries q)
