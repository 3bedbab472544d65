-- Which locks of a table cover a path.
use Rattle.std.specs.Prelude.{Bool, false, Option, Some, None}
use Rattle.std.specs.List.{list_any}
use Rattle.hb_types.specs.declared.lock.Mode.{Mode}
use Rattle.hb_types.specs.declared.names.Tx.{Tx}
use Rattle.hb_types.specs.declared.places.Path.{Path}
use Rattle.hb_types.specs.Ladders.{upward}
use Rattle.hb_types.specs.Modes.{covers}
use Rattle.hb_locks.specs.Locks.{Locks, held_at}

-- a mode is held that is as strong as this one
abbrev pub is_as_strong : Mode → Option Mode → Bool
is_as_strong m None = false
is_as_strong m (Some held) = covers held m

abbrev pub is_covered_at : Locks → Tx → Mode → Path → Bool
is_covered_at locks tx m p = is_as_strong m (held_at locks tx p)

-- so of the path or of one above it
abbrev pub is_covered : Locks → Tx → Mode → Path → Bool
is_covered locks tx m p = list_any (is_covered_at locks tx m) (upward p)
