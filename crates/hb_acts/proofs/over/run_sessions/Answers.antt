use Rattle.std.proofs.Common.{refl, subst}
use Rattle.hb_acts.specs.Outside.{seen}
use Rattle.hb_acts.specs.Runs.{Runs}
use Rattle.hb_reach.specs.Told.{meanings}
use Rattle.hb_stepper.specs.Running.{running}
use Rattle.hb_acts.proofs.Clocks.{lists_now}
use Rattle.hb_acts.proofs.over.run_sessions.Goals as goal

pub returns-clause-runs : goal.returns-clause-runs
returns-clause-runs g c =
    let lists = lists_now (meanings g.N.Node.named g.N.Node.trail g.N.Node.explains g.N.Node.leaves g.N.Node.last) (meanings g.M.Node.named g.M.Node.trail g.M.Node.explains g.M.Node.leaves g.M.Node.last) c.args.reach.now in
    let before = seen g.S.Source.left g.S.Source.faults g.O.Sink.held g.O.Sink.faults c.args.source.now c.args.sink.now in
    let after = seen g.S.Source.left g.S.Source.faults g.O.Sink.held g.O.Sink.faults c.run_script.new.source c.run_script.new.sink in
    let end = running c.run_script.new.sessions (lists_now (meanings g.N.Node.named g.N.Node.trail g.N.Node.explains g.N.Node.leaves g.N.Node.last) (meanings g.M.Node.named g.M.Node.trail g.M.Node.explains g.M.Node.leaves g.M.Node.last) c.run_script.new.nodes) in
    (end, refl, subst (λ origin. Runs origin end before after c.run_script.result) (c.new-sessions.ensures lists) c.run_script.ensures.runs)
