-- A run of the coordinator over an empty log: two transactions, their decisions, a stop and a start.
use Rattle.std.proofs.Common.{◌≡◌, ◌≢◌, ℕ, List, [], ◌∷◌, refl, inl, inr, lit≤, lit<, arith}
use Rattle.hb_types.specs.declared.names.Number.{Number}
use Rattle.hb_types.specs.declared.names.Owner.{Owner}
use Rattle.hb_types.specs.declared.names.Tx.{Tx}
use Rattle.hb_types.specs.declared.answer.Answer.{Answer}
use Rattle.hb_types.specs.declared.answer.Answer.TheVariants as answer
use Rattle.hb_types.specs.declared.request.Request.{Request}
use Rattle.hb_types.specs.declared.request.Request.TheVariants as request
use Rattle.hb_types.specs.declared.request.Vote.{Vote}
use Rattle.hb_runs.specs.Coordinator.{CState, reserved, begun, decided, ended, lost, came_up, happens, CTurns, CRun, stopped_at, nodes_of}
use Rattle.hb_runs.specs.ServerRuns.{Asked}
use Rattle.hb_coordlaws.specs.Order.{IsOrdered}
use Rattle.hb_coordlaws.proofs.Orderly.{stopped_is_ordered, order_is_kept}

abbrev owner : ℕ → Owner
owner n = record { session = 0; nth = n }

abbrev tx : ℕ → Tx
tx n = record { 0 = n }

abbrev number : ℕ → Number
number n = record { 0 = n }

abbrev vote : ℕ → ℕ → Vote
vote node floor = record { node = record { 0 = node }; floor = record { 0 = floor } }

abbrev votes2 : List Vote
votes2 = vote 1 0 ∷ vote 2 4 ∷ []

abbrev votes1 : List Vote
votes1 = vote 1 5 ∷ []

abbrev asking : Request → Answer → Asked
asking q a = record { request = q; answer = a }

abbrev asked : List Asked
asked =
    asking request.Start (answer.Started [])
    ∷ asking (request.Begin (owner 1)) (answer.Begun (tx 1))
    ∷ asking (request.Begin (owner 2)) (answer.Begun (tx 2))
    ∷ asking (request.Decide (tx 2) votes2) (answer.Decided (number 5))
    ∷ asking (request.Decide (tx 1) votes1) (answer.Decided (number 6))
    ∷ asking (request.Outcome (tx 1)) (answer.Decided (number 6))
    ∷ asking request.Stop answer.Done
    ∷ asking request.Start (answer.Started [])
    ∷ asking (request.Outcome (tx 2)) (answer.Decided (number 5))
    ∷ asking (request.Outcome (tx 7)) answer.Aborted
    ∷ asking (request.Begin (owner 3)) (answer.Begun (tx 1001)) ∷ []

abbrev k0 : CState
k0 = stopped_at []

abbrev k1 : CState
k1 = happens k0 came_up

abbrev k2 : CState
k2 = happens (happens k1 (reserved 1000)) (begun 1)

abbrev k3 : CState
k3 = happens k2 (begun 2)

abbrev k4 : CState
k4 = happens (happens k3 (decided 2 5 (nodes_of votes2))) (ended 2)

abbrev k5 : CState
k5 = happens (happens k4 (decided 1 6 (nodes_of votes1))) (ended 1)

abbrev k6 : CState
k6 = happens k5 lost

abbrev k7 : CState
k7 = happens k6 came_up

abbrev k8 : CState
k8 = happens (happens k7 (reserved 2000)) (begun 1001)

start : CTurns k0 (asking request.Start (answer.Started [])) k1
start = record { effects = came_up ∷ []; causes = refl; right = refl; steps = (refl, refl) }

begin1 : CTurns k1 (asking (request.Begin (owner 1)) (answer.Begun (tx 1))) k2
begin1 =
    record {
      effects = reserved 1000 ∷ begun 1 ∷ [];
      causes = (reserved 1000 ∷ [], inr (lit< tt, refl), refl);
      right = refl;
      steps = ((lit< tt, lit≤ tt, lit≤ tt), ((refl, lit≤ tt), refl));
    }

begin2 : CTurns k2 (asking (request.Begin (owner 2)) (answer.Begun (tx 2))) k3
begin2 = record { effects = begun 2 ∷ []; causes = ([], inl (lit≤ tt, refl), refl); right = refl; steps = ((refl, lit≤ tt), refl) }

decide2 : CTurns k3 (asking (request.Decide (tx 2) votes2) (answer.Decided (number 5))) k4
decide2 =
    record {
      effects = decided 2 5 (nodes_of votes2) ∷ ended 2 ∷ [];
      causes = refl;
      right = refl;
      steps = ((inl refl, lit< tt, lit≤ tt, lit≤ tt), (inl refl, refl));
    }

decide1 : CTurns k4 (asking (request.Decide (tx 1) votes1) (answer.Decided (number 6))) k5
decide1 =
    record {
      effects = decided 1 6 (nodes_of votes1) ∷ ended 1 ∷ [];
      causes = refl;
      right = refl;
      steps = ((inl refl, lit< tt, lit≤ tt, lit≤ tt), (inl refl, refl));
    }

outcome1 : CTurns k5 (asking (request.Outcome (tx 1)) (answer.Decided (number 6))) k5
outcome1 = record { effects = []; causes = refl; right = inr (inl (refl, refl)); steps = refl }

stop : CTurns k5 (asking request.Stop answer.Done) k6
stop = record { effects = lost ∷ []; causes = refl; right = tt; steps = (tt, refl) }

start_again : CTurns k6 (asking request.Start (answer.Started [])) k7
start_again = record { effects = came_up ∷ []; causes = refl; right = refl; steps = (refl, refl) }

outcome2 : CTurns k7 (asking (request.Outcome (tx 2)) (answer.Decided (number 5))) k7
outcome2 = record { effects = []; causes = refl; right = inl (refl, refl); steps = refl }

apart : (m n : ℕ) → (m ≡ n → ⊥) → ◌≢◌ {A = ℕ} m n
apart m n f = f

outcome7 : CTurns k7 (asking (request.Outcome (tx 7)) answer.Aborted) k7
outcome7 =
    record {
      effects = [];
      causes = refl;
      right = ((apart 2 7 (λ e. omega arith), (apart 1 7 (λ e. omega arith), tt)), (λ h. h), lit< tt);
      steps = refl;
    }

begin3 : CTurns k7 (asking (request.Begin (owner 3)) (answer.Begun (tx 1001))) k8
begin3 =
    record {
      effects = reserved 2000 ∷ begun 1001 ∷ [];
      causes = (reserved 2000 ∷ [], inr (lit< tt, refl), refl);
      right = refl;
      steps = ((lit< tt, lit≤ tt, lit≤ tt), ((refl, lit≤ tt), refl));
    }

pub worked_list : CRun k0 asked k8
worked_list =
    (k1, start, (k2, begin1, (k3, begin2, (k4, decide2, (k5, decide1, (k5, outcome1, (k6, stop, (k7, start_again, (k7, outcome2, (k7, outcome7, (k8, begin3, refl)))))))))))

-- ---- it stands in order

first_ordered : IsOrdered k0
first_ordered = stopped_is_ordered [] (record { ascend = tt; once = tt }) tt tt

pub last_ordered : IsOrdered k8
last_ordered = order_is_kept k0 k8 asked first_ordered worked_list
