-- Answers as the servers of a system give them: the rows of a scan lie under its path.
use Rattle.std.specs.Prelude.{◌≡◌, ⊤, true, List}
use Rattle.hb_types.specs.declared.answer.Answer.{Answer}
use Rattle.hb_types.specs.declared.answer.Answer.TheVariants as answer
use Rattle.hb_types.specs.declared.change.Stored.{Stored}
use Rattle.hb_types.specs.declared.places.Path.{Path}
use Rattle.hb_types.specs.declared.places.Path.TheVariants as path
use Rattle.hb_types.specs.declared.request.Request.{Request}
use Rattle.hb_types.specs.declared.request.Request.TheVariants as request
use Rattle.hb_types.specs.declared.trail.Call.{Call}
use Rattle.hb_types.specs.Lists.{Each}
use Rattle.hb_types.specs.Places.{is_under}

-- each of these rows lies under the path
abbrev pub AreUnder : Path → List Stored → Type 0
AreUnder p rows = Each (λ r. is_under p r.place ≡ true) rows

-- the rows of a scan lie under its path
abbrev pub IsWhereAsked : Request → Answer → Type 0
IsWhereAsked (request.Scan tx space) (answer.Rows rows) = AreUnder (path.Whole space) rows
IsWhereAsked (request.ScanGroup tx space group) (answer.Rows rows) = AreUnder (path.Group space group) rows
IsWhereAsked _ _ = ⊤

-- so for each call
abbrev pub AreWhereAsked : List Call → Type 0
AreWhereAsked calls = Each (λ c. IsWhereAsked c.request c.answer) calls
