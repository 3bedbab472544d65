-- The law of composition from its parts.
use Rattle.std.proofs.Common.{◌≡◌, ◌∙◌, ◌+◌, List, [], ◌∷◌, ◌++◌, ap, append_assoc, append-nil, arith, length, subst, sym}
use Rattle.hb_types.specs.Lists.{EachBehind}
use Rattle.hb_model.specs.State.{State}
use Rattle.hb_disks.specs.Disks.{written}
use Rattle.hb_disks.specs.Images.{Logs, decided}
use Rattle.hb_disks.specs.Redo.{Decided}
use Rattle.hb_disks.specs.Says.{decisions}
use Rattle.hb_disks.specs.StandsFor.{AreLogs, StandsWith, StateAfter}
use Rattle.hb_runs.specs.Coordinator as coordinator
use Rattle.hb_law.specs.Composition.{BalancedAtCompletes, Together, World, lists_of}
use Rattle.hb_law.specs.Explained.{ExplainedApart}
use Rattle.hb_law.specs.RunAlone.{EachStep, IsStep}
use Rattle.hb_law.specs.Transactions.{Txn}
use Rattle.hb_coordlaws.specs.Ascending.{DecisionsGrow}
use Rattle.hb_parts.specs.Callings.{Callings}
use Rattle.hb_parts.specs.Txns.{Chain, Itemed, StatesChain}
use Rattle.hb_parts.specs.Voting.{LogsStayRight}
use Rattle.hb_parts.specs.Whole.{Chained, CompletesAreBalanced, EndsAreShown, RowsAreClean}
use Rattle.hb_whose.proofs.Trailing.{got}

-- the chain's steps
each_step : (logs : Logs) (txns : List Txn) (ds0 done : List Decided) (s : State) (ds : List Decided) (t : State) → Chain logs txns (ds0 ++ done) s ds t
    → StateAfter logs (ds0 ++ done) s
    → EachBehind (λ f d. IsStep logs txns (ds0 ++ f) d) done ds
each_step logs txns ds0 done s [] t c at = tt
each_step logs txns ds0 done s (d ∷ ds) t c at =
    let same : (ds0 ++ done) ++ d ∷ [] ≡ ds0 ++ (done ++ d ∷ []) = append_assoc ds0 done (d ∷ []) in (
      record { txn = c.0.txn; known = c.0.known; of_tx = c.0.of_tx; before = s; after = c.0.after; at_before = at; at_after = c.0.at_after; steps = c.0.steps },
      each_step logs txns ds0 (done ++ d ∷ []) c.0.after ds t (subst (λ l. Chain logs txns l c.0.after ds t) same c.1)
          (subst (λ l. StateAfter logs l c.0.after) same c.0.at_after),
    )

module _ (grow : DecisionsGrow) (logs_right : LogsStayRight) (states : StatesChain) (ends : EndsAreShown) (clean : RowsAreClean)
    (balanced : CompletesAreBalanced) (w : World) (t : Together written w) where
  callings : Callings w.base w.logs w.trails (lists_of w)
  callings =
      record { right = t.stood.are_logs; nodes = t.nodes; merged = t.merged; obey = t.obey; operator = t.operator; system = t.system; back_ends_few = t.back_ends_few }

  items : Itemed w.base w.logs w.trails w.lists w.txns
  items = record { callings = callings; txns_are = t.txns; right = t.right }

  right : AreLogs w.logs
  right = logs_right w.base w.logs w.trails (lists_of w) callings

  grown : (further : List Decided) × (decided w.logs ≡ decided w.base ++ further)
  grown =
      let n : length w.trails ≡ length w.base.servers + 1 = t.nodes.nodes in
      let fes = got w.trails 0 (omega (arith, n)) in
      let r = t.nodes.fes fes.0 fes.1 in
      let g = grow (coordinator.stopped_at w.base.fes) r.last _ r.ran in
      (g.0, ap decisions r.log ∙ g.1)

  chain : (last : State) × StateAfter w.logs (decided w.base) t.start × StateAfter w.logs (decided w.logs) last
      × Chain w.logs w.txns (decided w.base) t.start grown.0 last
  chain = states w.base w.logs w.trails w.lists w.txns grown.0 t.start items right grown.1 t.stood.system

  chained : Chained w
  chained = record { further = grown.0; grows = grown.1; start = t.start; last = chain.0; at_start = chain.1; at_last = chain.2; chain = chain.3 }

  steps : EachStep w.logs w.txns (decided w.base) grown.0
  steps =
      let nil : decided w.base ++ [] ≡ decided w.base = append-nil (decided w.base) in
      each_step w.logs w.txns (decided w.base) [] t.start grown.0 chain.0 (subst (λ l. Chain w.logs w.txns l t.start grown.0 chain.0) (sym nil) chain.3)
      (subst (λ l. StateAfter w.logs l t.start) (sym nil) chain.1)

  explained : ExplainedApart w.base w.logs w.txns w.lines grown.0
  explained = let e = ends w grown.0 t right grown.1 in record { decisions = e.0; ends = e.1; run_alone = steps; clean = clean w t right chained }

  stands : StandsWith written w.images w.logs chain.0
  stands = record { read = t.read; are_logs = right; points = t.points; system = chain.2 }

  pub composed : ((s : State) × StandsWith written w.images w.logs s) × ((further : List Decided) × ExplainedApart w.base w.logs w.txns w.lines further)
      × BalancedAtCompletes w
  composed = ((chain.0, stands), (grown.0, explained), balanced w t right chained)
