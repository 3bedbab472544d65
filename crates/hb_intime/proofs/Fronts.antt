-- What fes1 had told by a moment: what it decides later has a greater number.
use Rattle.std.proofs.Common.{◌≡◌, ◌⊎◌, ℕ, ◌<◌, ◌≤◌, max, List, [], ◌∷◌, ◌++◌, arith, inl, inr, subst}
use Rattle.std.specs.Prelude.{fold}
use Rattle.hb_types.specs.declared.answer.Answer.TheVariants as answer
use Rattle.hb_types.specs.declared.change.LogItem.{LogItem}
use Rattle.hb_types.specs.declared.request.Request.TheVariants as request
use Rattle.hb_types.specs.declared.request.Vote.{Vote}
use Rattle.hb_types.specs.Lists.{Each, Has, IsIn}
use Rattle.hb_types.proofs.Ascending.{in_Each}
use Rattle.hb_loglaws.proofs.Members.{found, in_append}
use Rattle.hb_disks.specs.Redo.{Decided}
use Rattle.hb_disks.specs.Says.{decisions}
use Rattle.hb_runs.specs.Coordinator as coordinator
use Rattle.hb_runs.specs.ServerRuns.{Asked}
use Rattle.hb_coordlaws.specs.Ascending.{DecisionsGrow}
use Rattle.hb_coordlaws.specs.Asking.{DecisionsWereAsked, IsDecideOf}
use Rattle.hb_coordlaws.specs.Finality as finality
use Rattle.hb_coordlaws.specs.Order as order
use Rattle.hb_parts.specs.Owning.{IsToldDecided}
use Rattle.hb_whose.proofs.Parts.{stands_at}
use Rattle.hb_votes.proofs.Reserving.{crun_parts}

-- ---- the greatest number

record Tops (n : ℕ) (ds : List Decided) : Type 0 where
  first : n ≤ fold (λ m (d : Decided). max m d.number) n ds
  all : Each (λ d. d.number ≤ fold (λ m (d : Decided). max m d.number) n ds) ds

tops : (n : ℕ) (ds : List Decided) → Tops n ds
tops n [] = record { first = omega arith; all = tt }
tops n (d ∷ ds) =
    let t = tops (max n d.number) ds in
    let h : max n d.number ≤ fold (λ m (d : Decided). max m d.number) (max n d.number) ds = t.first in
    record { first = omega (arith, h); all = (omega (arith, h), t.all) }

above : (m a g n : ℕ) → a ≡ m → a ≤ g → g < n → m < n
above m a g n e le lt = omega (arith, e, le, lt)

-- ---- told by a moment

module _ (stands : order.DecisionStands) (stays : finality.DecidedStays) where
  told_in_run : (k t : coordinator.CState) (trail : List Asked) (tx n : ℕ) → coordinator.CRun k trail t → Has (IsToldDecided tx n) trail → coordinator.IsDecided t tx n
  told_in_run k t trail tx n run h =
      let a = found (IsToldDecided tx n) trail h in
      let s = stands_at a.0 trail a.1 in
      let r = crun_parts k s.front (a.0 ∷ s.back) t (subst (λ l. coordinator.CRun k l t) s.parts run) in
      by a.0 s.back r.0 r.2 a.2.asked a.2.answered
    where
      by : (a : Asked) (back : List Asked) (u : coordinator.CState) → coordinator.CRun u (a ∷ back) t
          → (a.request ≡ request.Outcome (record { 0 = tx })) ⊎ ((votes : List Vote) × (a.request ≡ request.Decide (record { 0 = tx }) votes))
          → a.answer ≡ answer.Decided (record { 0 = n }) → coordinator.IsDecided t tx n
      by a back u run (inl q) e =
          let it : a ≡ finality.decided_outcome tx n = (λ i. record { request = q i; answer = e i }) in stays u t tx n back (subst (λ z. coordinator.CRun u (z ∷ back) t) it run)
      by a back u run (inr q) e =
          let it : a ≡ order.decided_as tx q.0 n = (λ i. record { request = q.1 i; answer = e i }) in
          (stands u t tx n q.0 back (subst (λ z. coordinator.CRun u (z ∷ back) t) it run)).0

  module _ (grow : DecisionsGrow) (were_asked : DecisionsWereAsked) (base : List LogItem) (last : coordinator.CState) (front back : List Asked)
      (run : coordinator.CRun (coordinator.stopped_at base) (front ++ back) last) where
    mid : (u : coordinator.CState) × coordinator.CRun (coordinator.stopped_at base) front u × coordinator.CRun u back last
    mid = crun_parts (coordinator.stopped_at base) front back last run

    -- a decision has a greater number than what was told by then, or was in the base or asked for by then
    pub later_or_asked : (u m : ℕ) (d : Decided) → Has (IsToldDecided u m) front → IsIn d (decisions last.log)
        → (m < d.number) ⊎ (IsIn d (decisions base) ⊎ Has (IsDecideOf d) front)
    later_or_asked u m d told i = by (in_append d (decisions mid.0.log) more.0 (subst (IsIn d) more.1 i))
      where
        more : (ds : List Decided) × (decisions last.log ≡ decisions mid.0.log ++ ds) × Each (λ z. coordinator.greatest_number mid.0.log < z.number) ds
        more = let g = grow mid.0 last back mid.2 in (g.0, g.1, g.2)

        known : (z : Decided) × IsIn z (decisions mid.0.log) × ((z.tx ≡ u) × (z.number ≡ m))
        known = found (λ (z : Decided). (z.tx ≡ u) × (z.number ≡ m)) (decisions mid.0.log) (told_in_run (coordinator.stopped_at base) mid.0 front u m mid.1 told)

        top : known.0.number ≤ coordinator.greatest_number mid.0.log
        top = in_Each (λ z. z.number ≤ coordinator.greatest_number mid.0.log) known.0 (decisions mid.0.log) known.1 (tops 0 (decisions mid.0.log)).all

        by : IsIn d (decisions mid.0.log) ⊎ IsIn d more.0 → (m < d.number) ⊎ (IsIn d (decisions base) ⊎ Has (IsDecideOf d) front)
        by (inl j) = inr (in_Each (λ z. IsIn z (decisions base) ⊎ Has (IsDecideOf z) front) d (decisions mid.0.log) j (were_asked (coordinator.stopped_at base) mid.0 front mid.1))
        by (inr j) =
            inl (above m known.0.number (coordinator.greatest_number mid.0.log) d.number known.2.1 top
            (in_Each (λ z. coordinator.greatest_number mid.0.log < z.number) d more.0 j more.2))
