-- What a COMMIT asks reads and writes no row nor locks, and its reply tells what was decided.
use Rattle.std.proofs.Common.{◌≡◌, inl, inr, ℕ, List, [], ◌∷◌, ◌++◌, Some, Bool, true, false, refl, subst, sym, ap, ◌∙◌}
use Rattle.std.specs.Prelude.{IsTrue, if◌then◌else◌}
use Rattle.std.proofs.lemmas.Bool.{false≢true}
use Rattle.hb_types.specs.declared.answer.Answer.{Answer}
use Rattle.hb_types.specs.declared.answer.Answer.TheVariants as answer
use Rattle.hb_types.specs.declared.names.Number.{Number}
use Rattle.hb_types.specs.declared.names.Owner.{Owner}
use Rattle.hb_types.specs.declared.request.Request.{Request}
use Rattle.hb_types.specs.declared.request.Request.TheVariants as request
use Rattle.hb_types.specs.declared.request.Vote.{Vote}
use Rattle.hb_types.specs.declared.trail.Call.{Call}
use Rattle.hb_model.specs.declared.reply.Reply.{Reply}
use Rattle.hb_model.specs.declared.reply.Reply.TheVariants as reply
use Rattle.hb_model.specs.Answers.{call, HasAsked, is_decide, is_grant, is_of_rows, is_undoing, of_rows}
use Rattle.hb_model.specs.NodeSets.{nodes_in, with_node}
use Rattle.hb_model.specs.Outside.{is_outside, says_undone}
use Rattle.hb_talk.specs.Ends.{commits, committing, decided, end_refusal, ending, fes1, is_done, rolling_back, voted, voting}
use Rattle.hb_talk.specs.Talk.{Follows, ends, asked, Use, the_tx}
use Rattle.hb_law.specs.Callers.{Asks, MayBeDecided, is_settled}
use Rattle.hb_law.specs.Transactions.{CommitTells, IsBare}
use Rattle.hb_faithful.specs.Planned.{AreBeside, is_beside}
use Rattle.hb_faithful.proofs.Beside.{grants_beside, undecided}
use Rattle.hb_faithful.proofs.Rolling.{rolling_closes}

-- ---- calls beside

no_row : (q : Request) → IsTrue (is_beside q) → is_of_rows q ≡ false
no_row q = elim q as (λ x. IsTrue (is_beside x) → is_of_rows x ≡ false) [
  | request.Read tx place ↦ λ b. absurd (false≢true b)
  | request.Scan tx space ↦ λ b. absurd (false≢true b)
  | request.ScanGroup tx space group ↦ λ b. absurd (false≢true b)
  | request.Write tx change ↦ λ b. absurd (false≢true b)
  | x ↦ λ b. refl
]

no_rows : (calls : List Call) → AreBeside calls → of_rows calls ≡ []
no_rows [] b = refl
no_rows (c ∷ cs) b = rw (no_row c.request b.0) (no_rows cs b.1)

pub bare_beside : (calls : List Call) → AreBeside calls → IsBare calls
bare_beside calls b = (no_rows calls b, grants_beside calls b)

-- calls that decide nothing
pub off : (calls : List Call) → AreBeside calls → ¬ (MayBeDecided calls)
off [] b h = h
off (c ∷ cs) b (inl k) = undecided (c ∷ cs) b (inl k.0)
off (c ∷ cs) b (inr h) = off cs b.1 h

-- a reply that tells of no decision
abbrev pub tells_decision : Reply → Bool
tells_decision (reply.Committed number) = true
tells_decision (reply.OutcomeUnknown owner) = true
tells_decision _ = false

-- nothing is decided where it is undone, and says so
pub tells_off : (calls : List Call) (r : Reply) → tells_decision r ≡ false → ¬ (MayBeDecided calls) → IsTrue (says_undone r) → HasAsked is_undoing calls → CommitTells calls (Some r)
tells_off calls (reply.Committed number) e h undone asks = absurd (false≢true (sym e))
tells_off calls (reply.OutcomeUnknown owner) e h undone asks = absurd (false≢true (sym e))
tells_off calls _ e h undone asks = (h, undone, asks)

-- a reply from outside says that the transaction was rolled back
pub outside_undone : (r : Reply) → IsTrue (is_outside r) → IsTrue (says_undone r)
outside_undone reply.RolledBack h = refl
outside_undone _ h = h

pub asked_behind : (test : Request → Bool) (front calls : List Call) → HasAsked test calls → HasAsked test (front ++ calls)
asked_behind test [] calls h = h
asked_behind test (c ∷ front) calls h = inr (asked_behind test front calls h)

pub end_undone : (node : ℕ) (a : Answer) → IsTrue (says_undone (end_refusal node a))
end_undone node answer.Down = refl
end_undone node (answer.Fault area) = refl
end_undone node (answer.Cycle edges) = refl
end_undone node answer.NumbersSpent = refl
end_undone node answer.NoMemory = refl
end_undone node _ = refl

end_bare : (node : ℕ) (a : Answer) → tells_decision (end_refusal node a) ≡ false
end_bare node answer.Down = refl
end_bare node (answer.Fault area) = refl
end_bare node (answer.Cycle edges) = refl
end_bare node answer.NumbersSpent = refl
end_bare node answer.NoMemory = refl
end_bare node _ = refl

-- with more calls beside before them
pub tells_more : (front calls : List Call) (r : Reply) → AreBeside front → CommitTells calls (Some r) → CommitTells (front ++ calls) (Some r)
tells_more [] calls r b h = h
tells_more (c ∷ front) calls r b h = one (tells_more front calls r b.1 h)
  where
    not_here : Asks is_decide c × IsTrue (is_settled c.answer) → ⊥
    not_here k = undecided (c ∷ []) (b.0, tt) (inl k.0)

    later : ¬ (MayBeDecided (front ++ calls)) → ¬ (MayBeDecided (c ∷ (front ++ calls)))
    later none (inl k) = not_here k
    later none (inr k) = none k

    one : CommitTells (front ++ calls) (Some r) → CommitTells (c ∷ (front ++ calls)) (Some r)
    one = elim r as (λ x. CommitTells (front ++ calls) (Some x) → CommitTells (c ∷ (front ++ calls)) (Some x)) [
      | reply.Committed number ↦ λ k. inr k
      | reply.OutcomeUnknown owner ↦ λ k. inr k
      | x ↦ λ k. (later k.0, k.1, inr k.2)
    ]

-- ---- the talk

-- it reads and writes no row nor locks, and tells what was decided
pub record Tells (calls : List Call) (r : Reply) : Type 0 where
  pub bare : IsBare calls
  pub told : CommitTells calls (Some r)

ending_beside : (u : Use) (left : ℕ) (r said : Reply) (calls : List Call) → Follows false (ending u left r) calls said → (said ≡ r) × AreBeside calls
ending_beside u left r _ _ (asked a n ends) = (refl, (refl, tt))

commits_beside : (u : Use) (number : Number) (nodes : List ℕ) (left : ℕ) (r said : Reply) (calls : List Call) → Follows false (commits u number nodes left r) calls said → (said ≡ r) × AreBeside calls
commits_beside u number [] left r said calls f = ending_beside u left r said calls f
commits_beside u number (n ∷ ns) left r said _ (asked {cs = cs} a i f) =
    let more = commits_beside u number ns (if is_done a then left else with_node left n) r said cs f in (more.0, (refl, more.1))

-- what is refused is rolled back
refused_tells : (u : Use) (prepared node : ℕ) (c : Call) (a : Answer) (said : Reply) (calls : List Call) → is_of_rows c.request ≡ false → is_grant c.request c.answer ≡ false → (Asks is_decide c × IsTrue (is_settled c.answer) → ⊥)
    → Follows false (rolling_back u prepared (end_refusal node a)) calls said → Tells (c ∷ calls) said
refused_tells u prepared node c a said calls plain free none f =
    let k = rolling_closes u prepared (end_refusal node a) said calls f in record {
      bare = (rw plain (no_rows calls k.1.beside), rw free (grants_beside calls k.1.beside));
      told = tells_off (c ∷ calls) said (ap tells_decision k.0 ∙ end_bare node a) (λ h. elim h [ inl x ↦ none x | inr x ↦ off calls k.1.beside x ])
          (subst (λ x. IsTrue (says_undone x)) (sym k.0) (end_undone node a)) (inr (k.1.undone (end_undone node a)));
    }

decided_tells : (owner : Owner) (u : Use) (votes : List Vote) (a : Answer) (said : Reply) (calls : List Call) → Follows false (decided owner u reply.Committed a) calls said
    → Tells (call fes1 (request.Decide (the_tx u) votes) a ∷ calls) said
decided_tells owner u votes (answer.Decided number) said calls f =
    let k = commits_beside u number (nodes_in u.used) 0 (reply.Committed number) said calls f in
    record { bare = bare_beside calls k.1; told = subst (λ x. CommitTells (call fes1 (request.Decide (the_tx u) votes) (answer.Decided number) ∷ calls) (Some x)) (sym k.0) (inl (refl, refl)) }
decided_tells owner u votes (answer.Fault area) said calls f =
    let k = ending_beside u u.used (reply.OutcomeUnknown owner) said calls f in
    record { bare = bare_beside calls k.1; told = subst (λ x. CommitTells (call fes1 (request.Decide (the_tx u) votes) (answer.Fault area) ∷ calls) (Some x)) (sym k.0) (inl (refl, refl)) }
decided_tells owner u votes a said calls f =
    refused_tells u u.used fes1 (call fes1 (request.Decide (the_tx u) votes) a) a said calls refl refl (λ k. false≢true k.1) f

voting_tells : (owner : Owner) (u : Use) (prepared : ℕ) (nodes : List ℕ) (votes : List Vote) (said : Reply) (calls : List Call)
    → Follows false (voting owner u reply.Committed prepared nodes votes) calls said → Tells calls said
voting_tells owner u prepared [] votes said _ (asked {cs = cs} a i f) = decided_tells owner u votes a said cs f
voting_tells owner u prepared (n ∷ ns) votes said _ (asked {cs = cs} a i f) = by a (λ more g. voting_tells owner u (with_node prepared n) ns more said cs g) f
  where
    by : (a : Answer) → ((more : List Vote) → Follows false (voting owner u reply.Committed (with_node prepared n) ns more) cs said → Tells cs said)
        → Follows false (voted u (with_node prepared n) n (λ vote. voting owner u reply.Committed (with_node prepared n) ns (votes ++ vote ∷ [])) a) cs said
        → Tells (call n (request.Prepare (the_tx u)) a ∷ cs) said
    by (answer.Vote floor) rest g =
        let k = rest (votes ++ record { node = record { 0 = n }; floor = floor } ∷ []) g in
        record { bare = k.bare; told = tells_more (call n (request.Prepare (the_tx u)) (answer.Vote floor) ∷ []) cs said (refl, tt) k.told }
    by a rest g = refused_tells u (with_node prepared n) n (call n (request.Prepare (the_tx u)) a) a said cs refl refl (λ k. false≢true k.0) g

pub committing_tells : (owner : Owner) (u : Use) (said : Reply) (calls : List Call) → Follows false (committing owner u reply.Committed) calls said → Tells calls said
committing_tells owner u said calls f = voting_tells owner u 0 (nodes_in u.used) [] said calls f
