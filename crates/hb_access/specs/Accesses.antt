-- What is asked for one purpose, as a part of a plan: what is still to be said at each stage, and what follows an answer.
use Rattle.std.specs.Prelude.{◌≡◌, ℕ, ◌+◌, ◌≤◌, ◌==◌, nat_le, Bool, true, false, not, ◌&&◌, ◌||◌, if◌then◌else◌, List, Option, Some, None, Result, Ok, Err, ⊤}
use Rattle.std.specs.List.{list_all}
use Rattle.hb_types.specs.declared.answer.Answer.{Answer}
use Rattle.hb_types.specs.declared.answer.Answer.TheVariants as answer
use Rattle.hb_types.specs.declared.change.Change.{Change}
use Rattle.hb_types.specs.declared.change.Stored.{Stored}
use Rattle.hb_types.specs.Calls.{IsRequest}
use Rattle.hb_types.specs.Records.{IsChange}
use Rattle.hb_types.specs.declared.places.Path.{Path}
use Rattle.hb_types.specs.declared.places.Path.TheVariants as path
use Rattle.hb_types.specs.declared.request.Request.TheVariants as request
use Rattle.hb_model.specs.Needs.{most_locks}
use Rattle.hb_model.specs.NodeSets.{has_node, with_node, nodes_in}
use Rattle.hb_model.specs.declared.reply.Reply.{Reply}
use Rattle.hb_talk.specs.Sessions.{rolls_back}
use Rattle.hb_talk.specs.Talk.{Talk, says, asks, Use, Planning, ◌>>=◌, ◌>>◌, pure, and_then, met, done, the_row, the_rows, lock, read, scan, scan_group, write}
use Rattle.hb_access.specs.declared.access.Next.{Next}
use Rattle.hb_access.specs.declared.access.Next.TheVariants as next
use Rattle.hb_access.specs.declared.access.Stage.{Stage}
use Rattle.hb_access.specs.declared.access.Stage.TheVariants as stage
use Rattle.hb_access.specs.declared.access.Taken.{Taken}
use Rattle.hb_access.specs.declared.access.Taken.TheVariants as taken
use Rattle.hb_access.specs.declared.goal.Goal.{Goal}
use Rattle.hb_access.specs.declared.goal.Got.{Got}
use Rattle.hb_access.specs.declared.goal.Got.TheVariants as got
use Rattle.hb_access.specs.declared.usage.Gate.{Gate}
use Rattle.hb_access.specs.declared.usage.Gate.TheVariants as gate
use Rattle.hb_access.specs.declared.usage.Usage.{Usage}

-- ds or a back end
abbrev pub IsServer : ℕ → Type 0
IsServer node = (1 ≤ node) × (node ≤ 9)

-- what the planning knows of a transaction
abbrev pub use_of : Usage → Use
use_of u = record { tx = u.tx.0; used = u.used.0; locks = u.locks; bytes = u.bytes }

-- ---- the parts of plans

-- what lies under a path
abbrev pub under : ℕ → Path → Planning Got
under node (path.Whole s) = scan node s >>= (λ rows. pure (got.Rows rows))
under node (path.Group s g) = scan_group node s g >>= (λ rows. pure (got.Rows rows))
under node (path.Key p) = read node p >>= (λ row. pure (got.Row row))

-- what follows the lock
abbrev pub behind_lock : Goal → Planning Got
behind_lock g = if g.reads then under g.node.0 g.path else pure got.Nothing

-- a lock, and what lies under it
abbrev pub locked : Goal → Planning Got
locked g = lock g.node.0 g.path g.mode >> behind_lock g

abbrev pub written : ℕ → Change → Planning Got
written node c = write node c >> pure got.Nothing

-- ---- stages

abbrev pub Ended : Type 0
Ended = Result Got Reply × Use

-- what follows an answer that should be Done
abbrev pub once_done : ℕ → Planning Got → Use → Answer → Talk Ended
once_done node rest u a = and_then (λ _. rest) u (met node a (done a))

-- what follows the answer of an Enlist: its node is used where it is Done, and else the nodes are those used before
abbrev pub joined_or : ℕ → Planning Got → Use → Result (Unit {0}) Reply → Talk Ended
joined_or before rest u (Ok x) = rest u
joined_or before rest u (Err e) = says (Err e, record u { used = before })

abbrev pub once_enlisted : ℕ → ℕ → Planning Got → Use → Answer → Talk Ended
once_enlisted node before rest u a = joined_or before rest u (met node a (done a))

abbrev pub as_row : Option (Option (List ℕ)) → Option Got
as_row None = None
as_row (Some row) = Some (got.Row row)

abbrev pub as_rows : Option (List Stored) → Option Got
as_rows None = None
as_rows (Some rows) = Some (got.Rows rows)

-- what an answer gives of what lies under a path
abbrev pub found_under : Path → Answer → Option Got
found_under (path.Whole s) a = as_rows (the_rows a)
found_under (path.Group s g) a = as_rows (the_rows a)
found_under (path.Key p) a = as_row (the_row a)

-- what is still to be said, where no answer is awaited
abbrev pub talk_at : Stage → Use → Talk Ended
talk_at (stage.Lock g) u = locked g u
talk_at (stage.Fetch g) u = under g.node.0 g.path u
talk_at (stage.Write node c) u = written node.0 c u
talk_at _ u = says (Ok got.Nothing, u)

-- what follows the answer that is awaited
abbrev pub hears_at : Stage → Use → Answer → Talk Ended
hears_at (stage.Enlisting g before) u = once_enlisted g.node.0 before.0 (locked g) u
hears_at (stage.Locking g) u = once_done g.node.0 (behind_lock g) u
hears_at (stage.Fetching g) u = λ a. says (met g.node.0 a (found_under g.path a), u)
hears_at (stage.EnlistingWrite node c before) u = once_enlisted node.0 before.0 (written node.0 c) u
hears_at (stage.Writing node) u = once_done node.0 (pure got.Nothing) u
hears_at _ u = λ a. says (Ok got.Nothing, u)

-- whether an answer is awaited
abbrev pub is_waiting : Stage → Bool
is_waiting (stage.Enlisting g before) = true
is_waiting (stage.Locking g) = true
is_waiting (stage.Fetching g) = true
is_waiting (stage.EnlistingWrite node c before) = true
is_waiting (stage.Writing node) = true
is_waiting _ = false

-- whether something is asked next
abbrev pub is_asking : Stage → Bool
is_asking (stage.Lock g) = true
is_asking (stage.Fetch g) = true
is_asking (stage.Write node c) = true
is_asking _ = false

-- nodes are ds and the back ends, and changes have bytes
abbrev pub IsWithin : Stage → Type 0
IsWithin (stage.Lock g) = IsServer g.node.0
IsWithin (stage.Fetch g) = IsServer g.node.0
IsWithin (stage.Write node c) = IsServer node.0 × IsChange c
IsWithin (stage.Enlisting g before) = IsServer g.node.0
IsWithin (stage.Locking g) = IsServer g.node.0
IsWithin (stage.Fetching g) = IsServer g.node.0
IsWithin (stage.EnlistingWrite node c before) = IsServer node.0 × IsChange c
IsWithin (stage.Writing node) = IsServer node.0
IsWithin stage.Ended = ⊤

-- the node is among those used, from its Enlist on
abbrev pub HasBranch : ℕ → Stage → Type 0
HasBranch used (stage.Enlisting g before) = used ≡ with_node before.0 g.node.0
HasBranch used (stage.EnlistingWrite node c before) = used ≡ with_node before.0 node.0
HasBranch used (stage.Fetch g) = has_node used g.node.0 ≡ true
HasBranch used (stage.Locking g) = has_node used g.node.0 ≡ true
HasBranch used (stage.Fetching g) = has_node used g.node.0 ≡ true
HasBranch used (stage.Writing node) = has_node used node.0 ≡ true
HasBranch used (stage.Lock g) = ⊤
HasBranch used (stage.Write node c) = ⊤
HasBranch used stage.Ended = ⊤

pub record Accessing : Type 0 where
  pub usage : Usage
  pub stage : Stage

abbrev pub now_talks : Accessing → Talk Ended
now_talks a = talk_at a.stage (use_of a.usage)

abbrev pub now_hears : Accessing → Answer → Talk Ended
now_hears a = hears_at a.stage (use_of a.usage)

-- ---- steps

-- what a gate counts
abbrev pub GateIs : ℕ → Use → Use → Gate → Type 0
GateIs node old new gate.Enlist = (has_node old.used node ≡ false) × (new ≡ record old { used = with_node old.used node })
GateIs node old new gate.Lock = (has_node old.used node ≡ true) × (nat_le most_locks old.locks ≡ false) × (new ≡ record old { locks = old.locks + 1 })
GateIs node old new gate.Full = (has_node old.used node ≡ true) × (nat_le most_locks old.locks ≡ true) × (new ≡ old)

-- what an access does next: it asks what its talk asks, and awaits the answer, or it is refused
abbrev pub NextIs : Accessing → Accessing → Next → Type 0
NextIs old new (next.Ask node q) = (is_waiting new.stage ≡ true) × (now_talks old ≡ asks node.0 q (now_hears new))
NextIs old new (next.Refused r) = now_talks old ≡ says (Err r, use_of new.usage)

-- the nodes that a transaction uses or is to use once this is asked: an Enlist adds its node, and nothing else does
unfoldable pub used_after : ℕ → Next → ℕ
used_after used (next.Ask node (request.Enlist tx)) = with_node used node.0
used_after used _ = used

-- what is asked is asked for the transaction: an Enlist where there is no branch yet, and what needs the branch where there is one
unfoldable pub at_branch : Usage → Next → Bool
at_branch u (next.Ask node (request.Enlist tx)) = (tx.0 == u.tx.0) && not (has_node u.used.0 node.0)
at_branch u (next.Ask node (request.Lock tx path mode)) = (tx.0 == u.tx.0) && has_node u.used.0 node.0
at_branch u (next.Ask node (request.Read tx place)) = (tx.0 == u.tx.0) && has_node u.used.0 node.0
at_branch u (next.Ask node (request.Scan tx space)) = (tx.0 == u.tx.0) && has_node u.used.0 node.0
at_branch u (next.Ask node (request.ScanGroup tx space group)) = (tx.0 == u.tx.0) && has_node u.used.0 node.0
at_branch u (next.Ask node (request.Write tx change)) = (tx.0 == u.tx.0) && has_node u.used.0 node.0
at_branch u (next.Ask node q) = false
at_branch u (next.Refused r) = true

-- what is asked is well formed, and asked of ds or a back end
abbrev pub AsksSoundly : Next → Type 0
AsksSoundly (next.Ask node q) = IsRequest q × IsServer node.0
AsksSoundly (next.Refused r) = ⊤

-- after an answer the access stands where its talk does
abbrev pub Hears : Accessing → Accessing → Answer → Taken → Type 0
Hears old new a taken.More = (is_asking new.stage ≡ true) × (now_hears old a ≡ now_talks new)
Hears old new a (taken.Came g) = now_hears old a ≡ says (Ok g, use_of new.usage)
Hears old new a (taken.Refused r) = now_hears old a ≡ says (Err r, use_of new.usage)

-- what came is what the answer brought
abbrev pub Brings : Answer → Taken → Type 0
Brings a (taken.Came (got.Row row)) = a ≡ answer.Row row
Brings a (taken.Came (got.Rows rows)) = a ≡ answer.Rows rows
Brings a _ = ⊤

-- whether an answer was one that rolls the transaction back
abbrev pub rolls : Taken → Bool
rolls (taken.Refused r) = rolls_back r
rolls _ = false

abbrev pub is_part : ℕ → ℕ → Bool
is_part part whole = list_all (has_node whole) (nodes_in part)

-- the nodes used stay; only where the transaction is rolled back may one be left out, whose Enlist was refused
unfoldable pub keeps_nodes : ℕ → ℕ → Bool → Bool
keeps_nodes old new rolls = (new == old) || (rolls && is_part new old)
