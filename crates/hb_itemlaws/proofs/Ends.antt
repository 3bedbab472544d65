-- What is asked where a transaction ends: nothing but requests of an end.
use Rattle.std.proofs.Common.{◌≡◌, ℕ, List, [], ◌∷◌, ◌++◌, Bool, true, false, refl}
use Rattle.std.specs.Prelude.{⊤, ◌&&◌, if◌then◌else◌}
use Rattle.hb_types.specs.declared.answer.Answer.{Answer}
use Rattle.hb_types.specs.declared.answer.Answer.TheVariants as answer
use Rattle.hb_types.specs.declared.names.Number.{Number}
use Rattle.hb_types.specs.declared.names.Owner.{Owner}
use Rattle.hb_types.specs.declared.request.Request.{Request}
use Rattle.hb_types.specs.declared.request.Request.TheVariants as request
use Rattle.hb_types.specs.declared.request.Vote.{Vote}
use Rattle.hb_model.specs.NodeSets.{has_node, nodes_in, with_node}
use Rattle.hb_model.specs.declared.reply.Reply.{Reply}
use Rattle.hb_talk.specs.Ends.{commits, committing, decided, end_refusal, fes1, is_done, is_unreached, rollbacks, rolling_back, voted, voting}
use Rattle.hb_talk.specs.Talk.{Talk, says, asks, going_on, Use}

abbrev pub is_of_end : Request → Bool
is_of_end (request.Prepare tx) = true
is_of_end (request.Decide tx votes) = true
is_of_end (request.Commit tx number) = true
is_of_end (request.Abort tx) = true
is_of_end (request.Rollback tx) = true
is_of_end (request.End tx left) = true
is_of_end _ = false

-- nothing else is asked
abbrev pub AllEnd : {R : Type 0} → Talk R → Type 0
AllEnd (says r) = ⊤
AllEnd (asks node q k) = (is_of_end q ≡ true) × ((a : Answer) → AllEnd (k a))

finishing_ends : (t : Talk Reply) → AllEnd t → AllEnd (going_on (λ r. says (r ∷ [])) t)
finishing_ends (says r) h = tt
finishing_ends (asks node q k) h = (h.0, λ a. finishing_ends (k a) (h.1 a))

rollbacks_end : (u : Use) (prepared : ℕ) (nodes : List ℕ) (left : ℕ) (r : Reply) → AllEnd (rollbacks u prepared nodes left r)
rollbacks_end u prepared [] left r = (refl, λ a. tt)
rollbacks_end u prepared (n ∷ ns) left r = (refl, λ a. rollbacks_end u prepared ns (if is_unreached a && has_node prepared n then with_node left n else left) r)

rolling_ends : (u : Use) (prepared : ℕ) (r : Reply) → AllEnd (rolling_back u prepared r)
rolling_ends u prepared r = (refl, λ a. rollbacks_end u prepared (nodes_in u.used) 0 r)

commits_end : (u : Use) (number : Number) (nodes : List ℕ) (left : ℕ) (r : Reply) → AllEnd (commits u number nodes left r)
commits_end u number [] left r = (refl, λ a. tt)
commits_end u number (n ∷ ns) left r = (refl, λ a. commits_end u number ns (if is_done a then left else with_node left n) r)

decided_ends : (owner : Owner) (u : Use) (shown : Number → Reply) (a : Answer) → AllEnd (decided owner u shown a)
decided_ends owner u shown (answer.Decided number) = commits_end u number (nodes_in u.used) 0 (shown number)
decided_ends owner u shown (answer.Fault area) = (refl, λ a. tt)
decided_ends owner u shown a = rolling_ends u u.used (end_refusal fes1 a)

voting_ends : (owner : Owner) (u : Use) (shown : Number → Reply) (prepared : ℕ) (nodes : List ℕ) (votes : List Vote) → AllEnd (voting owner u shown prepared nodes votes)
voting_ends owner u shown prepared [] votes = (refl, decided_ends owner u shown)
voting_ends owner u shown prepared (n ∷ ns) votes = (refl, λ a. by a (λ more. voting_ends owner u shown (with_node prepared n) ns more))
  where
    by : (a : Answer) → ((more : List Vote) → AllEnd (voting owner u shown (with_node prepared n) ns more))
        → AllEnd (voted u (with_node prepared n) n (λ vote. voting owner u shown (with_node prepared n) ns (votes ++ vote ∷ [])) a)
    by (answer.Vote floor) rest = rest (votes ++ record { node = record { 0 = n }; floor = floor } ∷ [])
    by a rest = rolling_ends u (with_node prepared n) (end_refusal n a)

pub undone_ends : (u : Use) (r : Reply) → AllEnd (going_on (λ s. says (s ∷ [])) (rolling_back u 0 r))
undone_ends u r = finishing_ends (rolling_back u 0 r) (rolling_ends u 0 r)

pub committed_ends : (owner : Owner) (u : Use) (shown : Number → Reply) → AllEnd (going_on (λ s. says (s ∷ [])) (committing owner u shown))
committed_ends owner u shown = finishing_ends (committing owner u shown) (voting_ends owner u shown 0 (nodes_in u.used) [])
