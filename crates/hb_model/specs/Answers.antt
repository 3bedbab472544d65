-- What calls are answered by one family of rows, changed by the calls' own writes.
use Rattle.std.specs.Prelude.{◌≡◌, ℕ, zero, suc, ◌+◌, Bool, true, false, List, [], ◌∷◌, filter, flat_map, length, Some, IsTrue, ⊤}
use Rattle.hb_types.specs.declared.change.Change.{Change}
use Rattle.hb_types.specs.declared.change.Stored.{Stored}
use Rattle.hb_types.specs.declared.places.Path.TheVariants as path
use Rattle.hb_types.specs.declared.answer.Answer.{Answer}
use Rattle.hb_types.specs.declared.answer.Answer.TheVariants as answer
use Rattle.hb_types.specs.declared.trail.Call.{Call}
use Rattle.hb_types.specs.declared.request.Request.{Request}
use Rattle.hb_types.specs.declared.request.Request.TheVariants as request
use Rattle.hb_types.specs.Lists.{Has}
use Rattle.hb_types.specs.Put.{put, lookup, rows_under}
use Rattle.hb_types.specs.Records.{change_bytes}
use Rattle.hb_model.specs.Families.{Family}

-- the rows at a position: 0 is ds, and the back ends follow
abbrev pub rows_in : ℕ → Family → List Stored
rows_in n [] = []
rows_in zero (rows ∷ more) = rows
rows_in (suc n) (rows ∷ more) = rows_in n more

abbrev pub put_in : ℕ → Change → Family → Family
put_in n c [] = []
put_in zero c (rows ∷ more) = put rows c ∷ more
put_in (suc n) c (rows ∷ more) = rows ∷ put_in n c more

-- the rows of a node: fes1, which is 0, has none
abbrev pub rows_of : ℕ → Family → List Stored
rows_of zero family = []
rows_of (suc n) family = rows_in n family

-- the family with a change at a node
abbrev pub put_at : ℕ → Change → Family → Family
put_at zero c family = family
put_at (suc n) c family = put_in n c family

-- a call of a node with its answer
abbrev pub call : ℕ → Request → Answer → Call
call node q a = record { node = record { 0 = node }; request = q; answer = a }

-- a row answer is that of these rows
abbrev pub IsAnswerOf : List Stored → Request → Answer → Type 0
IsAnswerOf rows (request.Read tx place) (answer.Row row) = row ≡ lookup place rows
IsAnswerOf rows (request.Scan tx space) (answer.Rows found) = found ≡ rows_under (path.Whole space) rows
IsAnswerOf rows (request.ScanGroup tx space group) (answer.Rows found) = found ≡ rows_under (path.Group space group) rows
IsAnswerOf rows _ _ = ⊤

abbrev pub after_answer : ℕ → Request → Answer → Family → Family
after_answer node (request.Write tx change) answer.Done family = put_at node change family
after_answer node _ _ family = family

-- the family with the write of a call
abbrev pub after_call : Family → Call → Family
after_call family c = after_answer c.node.0 c.request c.answer family

-- each row answer is that of the family with the writes of the calls before it
abbrev pub AnswersOf : Family → List Call → Type 0
AnswersOf family [] = ⊤
AnswersOf family (c ∷ cs) = IsAnswerOf (rows_of c.node.0 family) c.request c.answer × AnswersOf (after_call family c) cs

-- the family with the writes of all calls
abbrev pub afters : Family → List Call → Family
afters family [] = family
afters family (c ∷ cs) = afters (after_call family c) cs

-- ---- the calls that read rows or write them

abbrev pub is_of_rows : Request → Bool
is_of_rows (request.Read tx place) = true
is_of_rows (request.Scan tx space) = true
is_of_rows (request.ScanGroup tx space group) = true
is_of_rows (request.Write tx change) = true
is_of_rows _ = false

abbrev pub of_rows : List Call → List Call
of_rows calls = filter (λ c. is_of_rows c.request) calls

abbrev pub is_grant : Request → Answer → Bool
is_grant (request.Lock tx p m) answer.Done = true
is_grant _ _ = false

-- how many Lock requests were granted
abbrev pub grants_in : List Call → ℕ
grants_in calls = length (filter (λ c. is_grant c.request c.answer) calls)

abbrev pub written_bytes : Request → Answer → ℕ
written_bytes (request.Write tx change) answer.Done = length (change_bytes change)
written_bytes _ _ = 0

-- the bytes of the changes that were written
abbrev pub bytes_in : List Call → ℕ
bytes_in [] = 0
bytes_in (c ∷ cs) = written_bytes c.request c.answer + bytes_in cs

-- ---- the rows that were answered, with their places

abbrev pub rows_answered : Request → Answer → List Stored
rows_answered (request.Read tx place) (answer.Row (Some row)) = record { place = place; row = row } ∷ []
rows_answered _ (answer.Rows rows) = rows
rows_answered _ _ = []

abbrev pub given : List Call → List Stored
given calls = flat_map (λ c. rows_answered c.request c.answer) calls

-- ---- the calls that decide, and those that undo

abbrev pub is_decide : Request → Bool
is_decide (request.Decide tx votes) = true
is_decide _ = false

-- an Abort or a Rollback
abbrev pub is_undoing : Request → Bool
is_undoing (request.Abort tx) = true
is_undoing (request.Rollback tx) = true
is_undoing _ = false

abbrev pub HasAsked : (Request → Bool) → List Call → Type 0
HasAsked test calls = Has (λ c. IsTrue (test c.request)) calls
