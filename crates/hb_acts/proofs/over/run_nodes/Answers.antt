use Rattle.std.proofs.Common.{◌≡◌, ◌≤◌, sym, ap, arith, subst, [], Vec, Global}
use Rattle.hb_acts.specs.Outside.{seen}
use Rattle.hb_acts.specs.Runs.{Runs}
use Rattle.hb_reach.specs.declared.reach.Reach.{Reach}
use Rattle.hb_reach.specs.Told.{meanings}
use Rattle.hb_acts.proofs.Clocks.{lists_now, nodes_left}
use Rattle.hb_acts.proofs.over.run_nodes.Goals as goal

pub returns-clause-runs : goal.returns-clause-runs
returns-clause-runs g c =
    let n = meanings g.N.Node.named g.N.Node.trail g.N.Node.explains g.N.Node.leaves g.N.Node.last in
    let m = meanings g.M.Node.named g.M.Node.trail g.M.Node.explains g.M.Node.leaves g.M.Node.last in
    let before = seen g.S.Source.left g.S.Source.faults g.O.Sink.held g.O.Sink.faults c.args.source.now c.args.sink.now in
    let after = seen g.S.Source.left g.S.Source.faults g.O.Sink.held g.O.Sink.faults c.run_sessions-ended.new.source c.run_sessions-ended.new.sink in
    let ran = c.run_sessions-ended.ensures.runs in
    let not_ahead : c.new-reach.result.clock ≤ c.args.clock.now = subst (λ (r : Reach g.row.N.Denot g.row.M.Denot). r.clock ≤ c.args.clock.now) (sym c.new-reach.ensures) (omega arith) in (
      ran.0,
      nodes_left n m c.args.clock.now c.run_sessions-ended.new.clock c.args.nodes c.into_parts-nodes.result.0 c.args.manager c.new-reach.result c.run_sessions-ended.new.reach ran.0.lists
          c.new-reach.ensures (ap (λ t. t.0) c.into_parts-nodes.ensures) ran.1 (c.run_sessions-ended.ensures.behind not_ahead) c.run_sessions-ended.ensures.goes,
      subst (λ (r : Reach g.row.N.Denot g.row.M.Denot). Runs (record { names = []; seats = []; waiters = []; lines = []; lists = lists_now n m r }) ran.0 before after c.run_sessions-ended.result) c.new-reach.ensures ran.2,
    )
