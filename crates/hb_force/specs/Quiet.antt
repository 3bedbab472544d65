-- Requests and effects that record nothing.
use Rattle.std.specs.Prelude.{Bool, true, false, ⊤}
use Rattle.hb_types.specs.declared.request.Request.{Request}
use Rattle.hb_types.specs.declared.request.Request.TheVariants as request
use Rattle.hb_types.specs.Places.{IsPath}

-- the path that a request names, of which a lock's record is made, is within the ranges of its numbers
abbrev pub HasPaths : Request → Type 0
HasPaths (request.Lock tx path mode) = IsPath path
HasPaths _ = ⊤

-- whether it records nothing
abbrev pub records_none : Request → Bool
records_none (request.Prepare tx) = false
records_none (request.Commit tx number) = false
records_none (request.Rollback tx) = false
records_none _ = true
