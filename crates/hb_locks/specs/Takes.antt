-- What the answer to a request for a lock says of the table before and after.
use Rattle.std.specs.Prelude.{◌≡◌, ◌≢◌, []}
use Rattle.hb_types.specs.declared.lock.Mode.{Mode}
use Rattle.hb_types.specs.declared.names.Tx.{Tx}
use Rattle.hb_types.specs.declared.places.Path.{Path}
use Rattle.hb_locks.specs.declared.take.Take.{Take}
use Rattle.hb_locks.specs.declared.take.Take.TheVariants.{Granted, Blocked}
use Rattle.hb_locks.specs.Locks.{Locks, Changes, blockers, granted, held_at, holders_at, wanted_of}

-- the mode that the transaction wants on the path
abbrev pub wanted_at : Locks → Tx → Path → Mode → Mode
wanted_at locks tx path asked = wanted_of (held_at locks tx path) asked

-- granted exactly where nobody stands in the way; else all that do are named, and nothing changes
abbrev pub Says : Locks → Locks → Tx → Path → Mode → Take → Type 0
Says old new tx path asked Granted =
    let wanted = wanted_at old tx path asked in
    (blockers tx wanted (holders_at old path) ≡ []) × Changes old new path (granted tx wanted (holders_at old path))
Says old new tx path asked (Blocked wanted holders) =
    (wanted ≡ wanted_at old tx path asked) × (holders ≡ blockers tx wanted (holders_at old path)) × (holders ≢ []) × (new ≡ old)
