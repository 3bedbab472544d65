use Rattle.std.proofs.Common.{◌≡◌, take, if◌then◌else◌, None}
use Rattle.std.specs.Map.{lookup}
use Rattle.hb_types.specs.declared.places.Path.{Path}
use Rattle.hb_types.specs.Places.{same_path}
use Rattle.hb_locks.specs.Index.{has_path}
use Rattle.hb_locks.specs.Locks.{held_at}
use Rattle.hb_locks.proofs.table.modes_in.Given as goal

-- the modes on the paths so far
abbrev pub invariant-loop-path : goal.invariant-loop-path
invariant-loop-path l = (q : Path) → lookup (same_path q) l.modes.entries ≡ (if has_path (take l.path-index l.paths) q then held_at l.table.entries l.tx q else None)
