-- How a transaction ends: the votes and the decision, or a rolling back.
use Rattle.std.specs.Prelude.{ℕ, Bool, true, false, ◌&&◌, if◌then◌else◌, List, [], ◌∷◌, ◌++◌, Option, Some, None}
use Rattle.hb_types.specs.declared.names.Number.{Number}
use Rattle.hb_types.specs.declared.names.Owner.{Owner}
use Rattle.hb_types.specs.declared.answer.Answer.{Answer}
use Rattle.hb_types.specs.declared.answer.Answer.TheVariants as answer
use Rattle.hb_types.specs.declared.request.Request.TheVariants as request
use Rattle.hb_types.specs.declared.request.Vote.{Vote}
use Rattle.hb_model.specs.declared.reply.Reply.{Reply}
use Rattle.hb_model.specs.declared.reply.Reply.TheVariants as reply
use Rattle.hb_model.specs.NodeSets.{has_node, with_node, nodes_in}
use Rattle.hb_talk.specs.Talk.{Talk, says, asks, Use, the_tx, mgr, refusal_of}

abbrev pub fes1 : ℕ
fes1 = 0

-- End at mgr, with the set of nodes where the branch is not settled
abbrev pub ending : Use → ℕ → Reply → Talk Reply
ending u left r = asks mgr (request.End (the_tx u) (record { 0 = left })) (λ a. says r)

abbrev pub is_unreached : Answer → Bool
is_unreached answer.Down = true
is_unreached (answer.Fault area) = true
is_unreached _ = false

-- Rollback at each node; the nodes that it did not reach where the branch was asked to prepare are left
abbrev pub rollbacks : Use → ℕ → List ℕ → ℕ → Reply → Talk Reply
rollbacks u prepared [] left r = ending u left r
rollbacks u prepared (n ∷ ns) left r =
    asks n (request.Rollback (the_tx u)) (λ a. rollbacks u prepared ns (if is_unreached a && has_node prepared n then with_node left n else left) r)

-- Abort at fes1, Rollback at each node used, ascending
abbrev pub rolling_back : Use → ℕ → Reply → Talk Reply
rolling_back u prepared r = asks fes1 (request.Abort (the_tx u)) (λ a. rollbacks u prepared (nodes_in u.used) 0 r)

abbrev pub is_done : Answer → Bool
is_done answer.Done = true
is_done _ = false

-- Commit at each node; where it is not Done the branch is left
abbrev pub commits : Use → Number → List ℕ → ℕ → Reply → Talk Reply
commits u number [] left r = ending u left r
commits u number (n ∷ ns) left r = asks n (request.Commit (the_tx u) number) (λ a. commits u number ns (if is_done a then left else with_node left n) r)

-- what an answer other than the one asked for is where a transaction ends: nobody waits there, so a cycle is none of them
abbrev pub end_refusal : ℕ → Answer → Reply
end_refusal node (answer.Cycle edges) = reply.Lost (record { 0 = node })
end_refusal node a = refusal_of node a

-- what follows the answer of Decide
abbrev pub decided : Owner → Use → (Number → Reply) → Answer → Talk Reply
decided owner u shown (answer.Decided number) = commits u number (nodes_in u.used) 0 (shown number)
decided owner u shown (answer.Fault area) = ending u u.used (reply.OutcomeUnknown owner)
decided owner u shown a = rolling_back u u.used (end_refusal fes1 a)

-- what follows the answer of Prepare
abbrev pub voted : Use → ℕ → ℕ → (Vote → Talk Reply) → Answer → Talk Reply
voted u prepared n rest (answer.Vote floor) = rest (record { node = record { 0 = n }; floor = floor })
voted u prepared n rest a = rolling_back u prepared (end_refusal n a)

abbrev pub voting : Owner → Use → (Number → Reply) → ℕ → List ℕ → List Vote → Talk Reply
voting owner u shown prepared [] votes = asks fes1 (request.Decide (the_tx u) votes) (decided owner u shown)
voting owner u shown prepared (n ∷ ns) votes =
    asks n (request.Prepare (the_tx u)) (voted u (with_node prepared n) n (λ vote. voting owner u shown (with_node prepared n) ns (votes ++ vote ∷ [])))

-- Prepare at each node used, ascending; then Decide with these votes; then Commit at each. The reply tells the number.
abbrev pub committing : Owner → Use → (Number → Reply) → Talk Reply
committing owner u shown = voting owner u shown 0 (nodes_in u.used) []

-- a caller that settles a branch at a node by its outcome
abbrev pub settling : ℕ → Use → Talk (Option Answer)
settling node u = asks fes1 (request.Outcome (the_tx u)) settled
  where
    settled : Answer → Talk (Option Answer)
    settled (answer.Decided number) = asks node (request.Commit (the_tx u) number) (λ a. says (Some a))
    settled answer.Aborted = asks node (request.Rollback (the_tx u)) (λ a. says (Some a))
    settled a = says None
