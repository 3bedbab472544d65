-- Which requests a caller may make, by the calls that it made before.
use Rattle.std.specs.Prelude.{◌≡◌, ℕ, ◌+◌, ◌==◌, Bool, true, false, ◌⊎◌, IsTrue, if◌then◌else◌, List, [], ◌∷◌, ◌++◌, Option, Some, None, ⊤, MatchOption}
use Rattle.hb_types.specs.declared.names.Owner.{Owner}
use Rattle.hb_types.specs.declared.answer.Answer.{Answer}
use Rattle.hb_types.specs.declared.answer.Answer.TheVariants as answer
use Rattle.hb_types.specs.declared.trail.Call.{Call}
use Rattle.hb_types.specs.declared.request.Request.{Request}
use Rattle.hb_types.specs.declared.request.Request.TheVariants as request
use Rattle.hb_types.specs.declared.request.Vote.{Vote}
use Rattle.hb_types.specs.Lists.{Each, Has}
use Rattle.hb_model.specs.Answers.{HasAsked, is_decide, is_undoing}
pub use Rattle.hb_runs.specs.Kinds.{is_begun}

-- ---- the transaction of a caller

-- the transaction that was begun last, and the calls since
pub record Current : Type 0 where
  pub tx : ℕ
  pub calls : List Call

abbrev pub adding : Call → Option Current → Option Current
adding c None = None
adding c (Some n) = Some (record { tx = n.tx; calls = n.calls ++ c ∷ [] })

abbrev pub one_more : Call → Answer → Option Current → Option Current
one_more c (answer.Begun tx) o = Some (record { tx = tx.0; calls = [] })
one_more c _ o = adding c o

abbrev pub current_from : Option Current → List Call → Option Current
current_from o [] = o
current_from o (c ∷ cs) = current_from (one_more c c.answer o) cs

abbrev pub current : List Call → Option Current
current calls = current_from None calls

-- how many transactions were begun
abbrev pub begun_count : List Call → ℕ
begun_count [] = 0
begun_count (c ∷ cs) = if is_begun c.answer then begun_count cs + 1 else begun_count cs

-- ---- words on calls

abbrev pub is_enlist : Request → Bool
is_enlist (request.Enlist tx) = true
is_enlist _ = false

abbrev pub is_prepare : Request → Bool
is_prepare (request.Prepare tx) = true
is_prepare _ = false

-- a decision that stands or may stand
abbrev pub is_settled : Answer → Bool
is_settled (answer.Decided n) = true
is_settled (answer.Fault area) = true
is_settled _ = false

abbrev pub Asks : (Request → Bool) → Call → Type 0
Asks test c = IsTrue (test c.request)

abbrev pub AsksAt : (Request → Bool) → ℕ → Call → Type 0
AsksAt test node c = (c.node.0 ≡ node) × IsTrue (test c.request)

abbrev pub HasAskedAt : (Request → Bool) → ℕ → List Call → Type 0
HasAskedAt test node calls = Has (AsksAt test node) calls

-- the votes that Prepares were answered, in their order
abbrev pub vote_in : ℕ → Request → Answer → List Vote
vote_in node (request.Prepare tx) (answer.Vote floor) = record { node = record { 0 = node }; floor = floor } ∷ []
vote_in node _ _ = []

abbrev pub votes_in : List Call → List Vote
votes_in [] = []
votes_in (c ∷ cs) = vote_in c.node.0 c.request c.answer ++ votes_in cs

-- each node with an Enlist has voted
abbrev pub AllVoted : List Call → Type 0
AllVoted calls = Each (λ c. Asks is_enlist c → Has (λ v. v.node.0 ≡ c.node.0) (votes_in calls)) calls

-- a Decide was answered this number
abbrev pub WasDecided : ℕ → List Call → Type 0
WasDecided n calls = Has (λ c. Asks is_decide c × of n c.answer) calls
  where
    of : ℕ → Answer → Type 0
    of n (answer.Decided m) = m.0 ≡ n
    of n _ = ⊥

-- a Decide was answered so that a decision stands or may stand
abbrev pub MayBeDecided : List Call → Type 0
MayBeDecided calls = Has (λ c. Asks is_decide c × IsTrue (is_settled c.answer)) calls

-- what the last Outcome of a transaction was answered
abbrev pub outcome_or : Option Answer → ℕ → List Call → Option Answer
outcome_or o tx [] = o
outcome_or o tx (c ∷ cs) = outcome_or (of c.request c.answer) tx cs
  where
    of : Request → Answer → Option Answer
    of (request.Outcome t) a = if t.0 == tx then Some a else o
    of _ a = o

abbrev pub last_outcome : ℕ → List Call → Option Answer
last_outcome tx calls = outcome_or None tx calls

abbrev pub SettlesAs : Answer → ℕ → List Call → Type 0
SettlesAs a tx front = last_outcome tx front ≡ Some a

-- ---- permitted

-- the caller's own transaction, and what holds of its calls
abbrev pub Own : ℕ → List Call → (List Call → Type 0) → Type 0
Own tx front P = MatchOption (current front) ⊥ (λ n. (n.tx ≡ tx) × P n.calls)

-- the branch at a node is open: enlisted, not asked to prepare, and nothing decided or undone
pub record IsOpen (node : ℕ) (calls : List Call) : Type 0 where
  pub enlisted : HasAskedAt is_enlist node calls
  pub unprepared : ¬ (HasAskedAt is_prepare node calls)
  pub undecided : ¬ (HasAsked is_decide calls)
  pub not_undone : ¬ (HasAsked is_undoing calls)

-- all that were enlisted have voted, with these votes
pub record MayDecide (votes : List Vote) (calls : List Call) : Type 0 where
  pub told : votes ≡ votes_in calls
  pub all : AllVoted calls
  pub undecided : ¬ (HasAsked is_decide calls)
  pub not_undone : ¬ (HasAsked is_undoing calls)

pub record MayEnlist (node : ℕ) (calls : List Call) : Type 0 where
  pub once : ¬ (HasAskedAt is_enlist node calls)
  pub undecided : ¬ (HasAsked is_decide calls)
  pub not_undone : ¬ (HasAsked is_undoing calls)

abbrev pub MayUndo : ℕ → List Call → Type 0
MayUndo node calls = HasAskedAt is_enlist node calls × (¬ (MayBeDecided calls))

abbrev pub MayCommit : ℕ → ℕ → List Call → Type 0
MayCommit node n calls = HasAskedAt is_enlist node calls × WasDecided n calls

-- the next owner of a session
abbrev pub IsNextOwner : ℕ → List Call → Owner → Type 0
IsNextOwner session front o = (o.session ≡ session) × (o.nth ≡ begun_count front + 1)

-- the calls before permit a session's request at a node
abbrev pub Permitted : ℕ → List Call → ℕ → Request → Type 0
Permitted session front node (request.Begin owner) = IsNextOwner session front owner
Permitted session front node (request.Enlist tx) = Own tx.0 front (MayEnlist node)
Permitted session front node (request.Lock tx p m) = Own tx.0 front (IsOpen node)
Permitted session front node (request.Read tx place) = Own tx.0 front (IsOpen node)
Permitted session front node (request.Scan tx space) = Own tx.0 front (IsOpen node)
Permitted session front node (request.ScanGroup tx space group) = Own tx.0 front (IsOpen node)
Permitted session front node (request.Write tx c) = Own tx.0 front (IsOpen node)
Permitted session front node (request.Prepare tx) = Own tx.0 front (IsOpen node)
Permitted session front node (request.Decide tx votes) = Own tx.0 front (MayDecide votes)
Permitted session front node (request.Commit tx n) = Own tx.0 front (MayCommit node n.0) ⊎ SettlesAs (answer.Decided n) tx.0 front
Permitted session front node (request.Rollback tx) = Own tx.0 front (MayUndo node) ⊎ SettlesAs answer.Aborted tx.0 front
Permitted session front node (request.Abort tx) = Own tx.0 front (λ calls. ¬ (MayBeDecided calls))
Permitted session front node _ = ⊤

-- each call of a caller is permitted by those before it, whatever its answer is
abbrev pub ObeysFrom : ℕ → List Call → List Call → Type 0
ObeysFrom session front [] = ⊤
ObeysFrom session front (c ∷ cs) = Permitted session front c.node.0 c.request × ObeysFrom session (front ++ c ∷ []) cs

abbrev pub Obeys : ℕ → List Call → Type 0
Obeys session calls = ObeysFrom session [] calls
