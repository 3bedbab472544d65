-- What was answered stands: transactions stay reserved, decisions made, and one that faulted is made or not for good.
use Rattle.std.proofs.Common.{◌≡◌, ◌⊎◌, ℕ, ◌+◌, ◌≤◌, ◌<◌, true, false, max, List, [], ◌∷◌, ◌++◌, refl, sym, subst, arith, inl, inr}
use Rattle.std.specs.Prelude.{Bool}
use Rattle.hb_types.specs.declared.answer.Answer.TheVariants as answer
use Rattle.hb_types.specs.declared.names.NodeName.{NodeName}
use Rattle.hb_types.specs.declared.request.Request.TheVariants as request
use Rattle.hb_types.specs.declared.request.Vote.{Vote}
use Rattle.hb_types.specs.Lists.{Each, Has}
use Rattle.hb_types.proofs.Ascending.{Each-of, Has-back, in_Each}
use Rattle.hb_disks.specs.Redo.{Decided}
use Rattle.hb_disks.specs.Says.{decisions}
use Rattle.hb_disks.specs.StandsFor.{greatest_upto}
use Rattle.hb_disks.proofs.Fold.{decisions-append}
use Rattle.hb_runs.specs.Coordinator.{CState, CEffect, CRun, Reserves, Steps, RightIn, happens, reserved, begun, decided, ended, lost, came_up, IsActive, IsDecided, IsUndecided, ids_item, decision_item, next_upto, next_number, greatest_number, greatest_floor, nodes_of}
use Rattle.hb_runs.specs.ServerRuns.{Asked}
use Rattle.hb_coordlaws.specs.Order.{IsOrdered, GivenIsReserved, DecisionStands, FaultedIsFinal}
use Rattle.hb_coordlaws.proofs.Final.{runs_kept, runs, upto_grows, Stays}
use Rattle.hb_coordlaws.proofs.Orderly.{tops}

-- ---- a transaction that was given

rises : (k : CState) (e : CEffect) → greatest_upto k.log ≤ greatest_upto (happens k e).log
rises k (reserved upto) = upto_grows k.log (ids_item upto ∷ [])
rises k (begun tx) = omega arith
rises k (decided tx n nodes) = upto_grows k.log (decision_item tx n nodes ∷ [])
rises k (ended tx) = omega arith
rises k lost = omega arith
rises k came_up = omega arith

steps_rise : (k : CState) (es : List CEffect) (t : CState) → Steps k es t → greatest_upto k.log ≤ greatest_upto t.log
steps_rise k [] t st = subst (λ (x : CState). greatest_upto k.log ≤ greatest_upto x.log) st (omega arith)
steps_rise k (e ∷ es) t st =
    let one : greatest_upto k.log ≤ greatest_upto (happens k e).log = rises k e in
    let rest : greatest_upto (happens k e).log ≤ greatest_upto t.log = steps_rise (happens k e) es t st.1 in
    omega (arith, one, rest)

run_rises : (k : CState) (trail : List Asked) (t : CState) → CRun k trail t → greatest_upto k.log ≤ greatest_upto t.log
run_rises k [] t run = subst (λ (x : CState). greatest_upto k.log ≤ greatest_upto x.log) run (omega arith)
run_rises k (a ∷ more) t run =
    let one : greatest_upto k.log ≤ greatest_upto run.0.log = steps_rise k run.1.effects run.0 run.1.steps in
    let rest : greatest_upto run.0.log ≤ greatest_upto t.log = run_rises run.0 more t run.2 in
    omega (arith, one, rest)

begun_low : (k : CState) (tx : ℕ) (u : CState) → Steps k (begun tx ∷ []) u → tx ≤ greatest_upto u.log
begun_low k tx u st = subst (λ (x : CState). tx ≤ greatest_upto x.log) st.1 st.0.1

given_low : (k : CState) (front : List CEffect) (tx : ℕ) (u : CState) → Reserves k front → Steps k (front ++ begun tx ∷ []) u → tx ≤ greatest_upto u.log
given_low k front tx u (inl r) st = begun_low k tx u (subst (λ (f : List CEffect). Steps k (f ++ begun tx ∷ []) u) r.1 st)
given_low k front tx u (inr r) st =
    let s : Steps k (reserved (next_upto k) ∷ begun tx ∷ []) u = subst (λ (f : List CEffect). Steps k (f ++ begun tx ∷ []) u) r.1 st in
    begun_low (happens k (reserved (next_upto k))) tx u s.1

pub given_is_reserved : GivenIsReserved
given_is_reserved k t owner tx more run =
    let c = run.1.causes in
    let low : tx ≤ greatest_upto run.0.log = given_low k c.0 tx run.0 c.1 (subst (λ (l : List CEffect). Steps k l run.0) c.2 run.1.steps) in
    let rest : greatest_upto run.0.log ≤ greatest_upto t.log = run_rises run.0 more t run.2 in
    omega (arith, low, rest)

-- ---- a decision that was answered

decided_here : (k : CState) (tx n : ℕ) (nodes : List NodeName) → IsDecided (happens k (decided tx n nodes)) tx n
decided_here k tx n nodes =
    subst (Has (λ (d : Decided). (d.tx ≡ tx) × (d.number ≡ n))) (sym (decisions-append k.log (decision_item tx n nodes ∷ [])))
    (Has-back _ (decisions k.log) (decisions (decision_item tx n nodes ∷ [])) (inl (refl, refl)))

number_is : (up : Bool) (k : CState) (tx n : ℕ) (votes : List Vote)
    → RightIn up k (request.Decide (record { 0 = tx }) votes) (answer.Decided (record { 0 = n })) → n ≡ next_number k votes
number_is true k tx n votes r = r
number_is false k tx n votes r = absurd r

pub decision_stands : DecisionStands
decision_stands k t tx n votes more run =
    (runs_kept run.0 more t tx n run.2 here, omega (arith, is), Each-of (λ (v : Vote). v.floor.0 ≤ greatest_floor votes) (λ v. v.floor.0 < n) votes (λ v h. omega (arith, h, is)) floors)
  where
    is : n ≡ max (greatest_number k.log) (greatest_floor votes) + 1
    is = number_is k.up k tx n votes run.1.right

    floors : Each (λ (v : Vote). v.floor.0 ≤ greatest_floor votes) votes
    floors = (tops (λ (v : Vote). v.floor.0) 0 votes).all

    s : Steps k (decided tx n (nodes_of votes) ∷ ended tx ∷ []) run.0
    s = subst (λ (l : List CEffect). Steps k l run.0) run.1.causes run.1.steps

    here : IsDecided run.0 tx n
    here = subst (λ (x : CState). IsDecided x tx n) s.1.1 (decided_here k tx n (nodes_of votes))

-- ---- a decision that faulted

was_active : (up : Bool) (k : CState) (tx : ℕ) (votes : List Vote)
    → RightIn up k (request.Decide (record { 0 = tx }) votes) (answer.Fault false) → IsActive k tx
was_active true k tx votes r = r.1
was_active false k tx votes r = absurd r

not_made : (k u t : CState) (tx : ℕ) (more : List Asked) → IsOrdered k → IsActive k tx → Steps k (lost ∷ []) u → CRun u more t → IsUndecided u tx × IsUndecided t tx
not_made k u t tx more o active st run = (gone.gone.undecided, (runs u more t tx run gone).gone.undecided)
  where
    its : (tx < k.next) × IsUndecided k tx
    its = in_Each (λ tx. (tx < k.next) × IsUndecided k tx) tx k.active active o.active

    gone : Stays u tx
    gone =
        let r : k.next ≤ greatest_upto k.log + 1 = o.is_reserved in
        let low : tx < k.next = its.0 in
        subst (λ (x : CState). Stays x tx) st.1
        (record { is_reserved = omega arith; gone = record { given = omega (arith, r, low); over = λ h. h; undecided = its.1 } })

pub faulted_is_final : FaultedIsFinal
faulted_is_final k u t tx votes more o run rest = by_choice run.1.causes
  where
    n : ℕ
    n = next_number k votes

    steps : Steps k run.1.effects u
    steps = subst (λ (x : CState). Steps k run.1.effects x) run.2 run.1.steps

    by_choice : (run.1.effects ≡ lost ∷ []) ⊎ (run.1.effects ≡ decided tx (next_number k votes) (nodes_of votes) ∷ lost ∷ [])
        → (IsDecided u tx (next_number k votes) × IsDecided t tx (next_number k votes)) ⊎ (IsUndecided u tx × IsUndecided t tx)
    by_choice (inl is) =
        inr (not_made k u t tx more o (was_active k.up k tx votes run.1.right) (subst (λ (l : List CEffect). Steps k l u) is steps) rest)
    by_choice (inr is) =
        let s : Steps k (decided tx (next_number k votes) (nodes_of votes) ∷ lost ∷ []) u = subst (λ (l : List CEffect). Steps k l u) is steps in
        let here : IsDecided u tx (next_number k votes) = subst (λ (x : CState). IsDecided x tx (next_number k votes)) s.1.1 (decided_here k tx (next_number k votes) (nodes_of votes)) in
        inl (here, runs_kept u more t tx (next_number k votes) rest here)
