-- Requests and answers: which are well formed, and which calls change nothing.
use Rattle.std.specs.Prelude.{◌≢◌, ℕ, ◌≤◌, Bool, true, false, List, [], All, MatchOption, ⊤}
use Rattle.std.specs.Ordering.{nat_cmp}
use Rattle.hb_types.specs.declared.lock.Holder.{Holder}
use Rattle.hb_types.specs.declared.request.Vote.{Vote}
use Rattle.hb_types.specs.Lists.{Ascends}
use Rattle.hb_types.specs.Numbers.{greatest, IsNumber}
use Rattle.hb_types.specs.Records.{IsChange}
use Rattle.hb_types.specs.Rows.{IsRow}
use Rattle.hb_types.specs.declared.answer.Answer.{Answer}
use Rattle.hb_types.specs.declared.answer.Answer.TheVariants as answer
use Rattle.hb_types.specs.declared.request.Request.{Request}
use Rattle.hb_types.specs.declared.request.Request.TheVariants as request

-- A call that may have changed nothing, and can't be told by its answer from one that did: a trail may have it or not.
abbrev pub may_pass : Request → Answer → Bool
may_pass _ answer.NoMemory = true
may_pass (request.Commit tx number) answer.Down = true
may_pass (request.Commit tx number) answer.NoBranch = true
may_pass (request.Commit tx number) answer.NotPrepared = true
may_pass (request.Commit tx number) (answer.Low floor) = true
may_pass (request.Rollback tx) answer.Down = true
may_pass (request.Rollback tx) answer.NoBranch = true
may_pass (request.Abort tx) answer.Down = true
may_pass (request.Abort tx) answer.Done = true
may_pass (request.Ready tx) _ = true
may_pass (request.End tx left) _ = true
may_pass (request.Settled tx node) _ = true
may_pass (request.Halted node) _ = true
may_pass _ _ = false

-- ---- well formed

abbrev pub IsFloor : ℕ → Type 0
IsFloor n = n ≤ greatest

abbrev pub IsVote : Vote → Type 0
IsVote v = (1 ≤ v.node.0) × (v.node.0 ≤ 9) × IsFloor v.floor.0

-- votes of ds and back ends, strictly ascending by node
abbrev pub AreVotes : List Vote → Type 0
AreVotes votes = (votes ≢ []) × All IsVote votes × Ascends (λ a b. nat_cmp a.node.0 b.node.0) votes

abbrev pub AreHolders : List Holder → Type 0
AreHolders holders = (holders ≢ []) × All (λ h. IsNumber h.tx.0) holders

abbrev pub IsRequest : Request → Type 0
IsRequest (request.Decide tx votes) = IsNumber tx.0 × AreVotes votes
IsRequest (request.Abort tx) = IsNumber tx.0
IsRequest (request.Outcome tx) = IsNumber tx.0
IsRequest (request.Enlist tx) = IsNumber tx.0
IsRequest (request.Lock tx path mode) = IsNumber tx.0
IsRequest (request.Read tx place) = IsNumber tx.0
IsRequest (request.Scan tx space) = IsNumber tx.0
IsRequest (request.ScanGroup tx space group) = IsNumber tx.0
IsRequest (request.Write tx change) = IsNumber tx.0 × IsChange change
IsRequest (request.Prepare tx) = IsNumber tx.0
IsRequest (request.Commit tx number) = IsNumber tx.0 × IsNumber number.0
IsRequest (request.Rollback tx) = IsNumber tx.0
IsRequest (request.Enter tx owner) = IsNumber tx.0
IsRequest (request.Wait tx node path wanted holders) = IsNumber tx.0 × AreHolders holders
IsRequest (request.Ready tx) = IsNumber tx.0
IsRequest (request.End tx left) = IsNumber tx.0
IsRequest (request.Settled tx node) = IsNumber tx.0
IsRequest _ = ⊤

abbrev pub IsAnswer : Answer → Type 0
IsAnswer (answer.Begun tx) = IsNumber tx.0
IsAnswer (answer.Decided number) = IsNumber number.0
IsAnswer (answer.Blocked path wanted holders) = AreHolders holders
IsAnswer (answer.Row row) = MatchOption row ⊤ IsRow
IsAnswer (answer.Rows rows) = All (λ r. IsRow r.row) rows
IsAnswer (answer.Vote floor) = IsFloor floor.0
IsAnswer (answer.Low floor) = IsFloor floor.0
IsAnswer (answer.Started doubts) = All (λ t. IsNumber t.0) doubts
IsAnswer (answer.NotYet target) = IsNumber target.0
IsAnswer _ = ⊤
