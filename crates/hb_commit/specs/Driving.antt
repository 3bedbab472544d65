-- What a driver asks, as a part of the talk by which a transaction ends.
use Rattle.std.specs.Prelude.{◌≡◌, ◌≢◌, ℕ, ◌+◌, ◌≤◌, ◌<◌, Bool, true, false, ◌&&◌, if◌then◌else◌, List, [], ◌∷◌, ◌++◌, ⊤}
use Rattle.hb_types.specs.declared.answer.Answer.{Answer}
use Rattle.hb_types.specs.declared.names.Left.{Left}
use Rattle.hb_types.specs.declared.names.Number.{Number}
use Rattle.hb_types.specs.declared.names.Owner.{Owner}
use Rattle.hb_types.specs.declared.names.Tx.{Tx}
use Rattle.hb_types.specs.declared.request.Vote.{Vote}
use Rattle.std.specs.Ordering.{nat_cmp}
use Rattle.hb_types.specs.Calls.{IsRequest, IsVote}
use Rattle.hb_types.specs.Lists.{Ascends, Each}
use Rattle.hb_types.specs.Numbers.{IsNumber}
use Rattle.hb_model.specs.NodeSets.{has_node, with_node, nodes_in}
use Rattle.hb_model.specs.declared.reply.Reply.{Reply}
use Rattle.hb_model.specs.declared.reply.Reply.TheVariants as reply
use Rattle.hb_nodeset.specs.NodesFrom.{nodes_from}
use Rattle.hb_talk.specs.Ends.{ending, rollbacks, rolling_back, commits, decided, voted, voting, is_done, is_unreached}
use Rattle.hb_talk.specs.Talk.{Talk, asks, Use}
use Rattle.hb_commit.specs.declared.driver.Step.{Step}
use Rattle.hb_commit.specs.declared.driver.Step.TheVariants as step
use Rattle.hb_commit.specs.declared.outcome.Outcome.{Outcome}
use Rattle.hb_commit.specs.declared.outcome.Outcome.TheVariants as outcome
use Rattle.hb_commit.specs.declared.stage.Stage.{Stage}
use Rattle.hb_commit.specs.declared.stage.Stage.TheVariants as stage

-- the transaction, the nodes that it used, where its end stands, and the votes so far
pub record Driving : Type 0 where
  pub tx : Tx
  pub nodes : Left
  pub stage : Stage
  pub votes : List Vote

-- whose transaction it is, what shows its number, and the reply that a rolling back was asked for with
pub record Replies : Type 0 where
  pub owner : Owner
  pub shown : Number → Reply
  pub back : Reply

-- the reply that tells an outcome
abbrev pub reply_to : Replies → Outcome → Reply
reply_to rs (outcome.Committed number) = rs.shown number
reply_to rs outcome.RolledBack = rs.back
reply_to rs (outcome.Down node) = reply.Down node
reply_to rs (outcome.Stopped node) = reply.Stopped node
reply_to rs (outcome.Lost node) = reply.Lost node
reply_to rs outcome.Unknown = reply.OutcomeUnknown rs.owner
reply_to rs outcome.Spent = reply.NumbersSpent
reply_to rs outcome.NoMemory = reply.NoMemory

-- whether an answer is awaited
abbrev pub is_waiting : Stage → Bool
is_waiting (stage.Vote node prepared) = true
is_waiting stage.Decision = true
is_waiting (stage.Commit number node left) = true
is_waiting (stage.Abort prepared why) = true
is_waiting (stage.Undo prepared node left why) = true
is_waiting _ = false

-- what the planning knows of the transaction
abbrev pub using : Driving → ℕ → ℕ → Use
using d locks bytes = record { tx = d.tx.0; used = d.nodes.0; locks = locks; bytes = bytes }

-- what is still to be said, where no answer is awaited
abbrev pub talk_at : Replies → Use → List Vote → Stage → Talk Reply
talk_at rs u votes (stage.Voting from prepared) = voting rs.owner u rs.shown prepared.0 (nodes_from u.used from) votes
talk_at rs u votes (stage.Committing number from left) = commits u number (nodes_from u.used from) left.0 (rs.shown number)
talk_at rs u votes (stage.Aborting prepared why) = rolling_back u prepared.0 (reply_to rs why)
talk_at rs u votes (stage.Undoing prepared from left why) = rollbacks u prepared.0 (nodes_from u.used from) left.0 (reply_to rs why)
talk_at rs u votes (stage.Ended how left) = ending u left.0 (reply_to rs how)
talk_at rs u votes _ = ending u 0 rs.back

-- what follows the answer that is awaited
abbrev pub hears_at : Replies → Use → List Vote → Stage → Answer → Talk Reply
hears_at rs u votes (stage.Vote node prepared) =
    voted u (with_node prepared.0 node.0) node.0
    (λ vote. voting rs.owner u rs.shown (with_node prepared.0 node.0) (nodes_from u.used (node.0 + 1)) (votes ++ vote ∷ []))
hears_at rs u votes stage.Decision = decided rs.owner u rs.shown
hears_at rs u votes (stage.Commit number node left) =
    λ a. commits u number (nodes_from u.used (node.0 + 1)) (if is_done a then left.0 else with_node left.0 node.0) (rs.shown number)
hears_at rs u votes (stage.Abort prepared why) = λ a. rollbacks u prepared.0 (nodes_in u.used) 0 (reply_to rs why)
hears_at rs u votes (stage.Undo prepared node left why) =
    λ a. rollbacks u prepared.0 (nodes_from u.used (node.0 + 1))
    (if is_unreached a && has_node prepared.0 node.0 then with_node left.0 node.0 else left.0) (reply_to rs why)
hears_at rs u votes _ = λ a. ending u 0 rs.back

abbrev pub now_talks : Replies → Driving → ℕ → ℕ → Talk Reply
now_talks rs d locks bytes = talk_at rs (using d locks bytes) d.votes d.stage

abbrev pub now_hears : Replies → Driving → ℕ → ℕ → Answer → Talk Reply
now_hears rs d locks bytes = hears_at rs (using d locks bytes) d.votes d.stage

abbrev pub SameTransaction : Driving → Driving → Type 0
SameTransaction old new = (new.tx ≡ old.tx) × (new.nodes ≡ old.nodes)

-- what a driver does next: it asks what its talk asks, and awaits the answer, or its talk comes to its end
abbrev pub NextIs : Driving → Driving → Step → Type 0
NextIs old new (step.Ask node q) =
    SameTransaction old new × (is_waiting new.stage ≡ true)
    × ((rs : Replies) (locks bytes : ℕ) → now_talks rs old locks bytes ≡ asks node.0 q (now_hears rs new locks bytes))
NextIs old new (step.Ended how left) =
    SameTransaction old new × (is_waiting new.stage ≡ false)
    × ((rs : Replies) (locks bytes : ℕ) → now_talks rs old locks bytes ≡ ending (using old locks bytes) left.0 (reply_to rs how))

-- after an answer the driver stands where its talk does
pub record Hears (old new : Driving) (a : Answer) : Type 0 where
  pub same : SameTransaction old new
  pub asking : is_waiting new.stage ≡ false
  pub talk : (rs : Replies) (locks bytes : ℕ) → now_talks rs new locks bytes ≡ now_hears rs old locks bytes a

-- ---- requests that are well formed

-- a set of ds and back ends that is not empty
abbrev pub AreBranches : ℕ → Type 0
AreBranches set = (has_node set 0 ≡ false) × (has_node set 10 ≡ false) × (nodes_in set ≢ [])

-- votes that ascend, of ds and back ends below this node; as long as there is none, no node was passed over
pub record IsBallot (set : ℕ) (from : ℕ) (votes : List Vote) : Type 0 where
  pub branches : AreBranches set
  pub ascend : Ascends (λ a b. nat_cmp a.node.0 b.node.0) votes
  pub each : Each (λ v. IsVote v × (v.node.0 < from)) votes
  pub some : votes ≡ [] → nodes_from set from ≡ nodes_in set

abbrev pub SoundAt : ℕ → List Vote → Stage → Type 0
SoundAt set votes (stage.Voting from prepared) = IsBallot set from votes
SoundAt set votes (stage.Vote node prepared) = IsBallot set node.0 votes × (1 ≤ node.0) × (node.0 ≤ 9)
SoundAt set votes (stage.Committing number from left) = IsNumber number.0
SoundAt set votes (stage.Commit number node left) = IsNumber number.0
SoundAt set votes _ = ⊤

-- what a driver keeps, so that what it asks is well formed
abbrev pub IsSound : Driving → Type 0
IsSound d = IsNumber d.tx.0 × SoundAt d.nodes.0 d.votes d.stage

abbrev pub AsksSoundly : Step → Type 0
AsksSoundly (step.Ask node q) = IsRequest q × (node.0 ≤ 10)
AsksSoundly (step.Ended how left) = ⊤

-- there is room for the votes that may still come, and nodes are fes1 to mgr
abbrev pub HasRoom : Stage → ℕ → Type 0
HasRoom (stage.Voting from prepared) spare = 11 ≤ spare + from
HasRoom (stage.Vote node prepared) spare = (11 ≤ spare + node.0) × (node.0 ≤ 10)
HasRoom (stage.Commit number node left) spare = node.0 ≤ 10
HasRoom (stage.Undo prepared node left why) spare = node.0 ≤ 10
HasRoom _ spare = ⊤
