use Rattle.hb_node.specs.Lists.{here}
use Rattle.hb_stepper.specs.Running.{running}
use Rattle.hb_stepper.proofs.Adding.{adds_on, adds_same, adds_made, names_made}
use Rattle.hb_stepper.proofs.sessions.Sessions.finish.Goals as goal

pub returns-in_err-place-clause-goes : goal.returns-in_err-place-clause-goes
returns-in_err-place-clause-goes g c = here

pub returns-in_err-run_out-clause-adds : goal.returns-in_err-run_out-clause-adds
returns-in_err-run_out-clause-adds g c = adds_on _ _ _ c.in_ok-place.ensures.adds (adds_made _ _ c.in_err-run_out.ensures.part)

pub returns-in_err-run_out-clause-names : goal.returns-in_err-run_out-clause-names
returns-in_err-run_out-clause-names g c = adds_on _ _ _ c.in_ok-place.ensures.names (adds_same _ _ (names_made _ _ c.in_err-run_out.ensures.part))

pub returns-clause-finished : goal.returns-clause-finished
returns-clause-finished g c = record {
  place = c.in_ok-place.place;
  mid = running c.place_of.new.self (g.N.Nodes.lists c.args.nodes.now);
  named = c.in_ok-place.ensures.named (g.N.Nodes.lists c.args.nodes.now);
  ran = c.in_ok-run_out.ensures.ran;
}

pub returns-clause-adds : goal.returns-clause-adds
returns-clause-adds g c = adds_on _ _ _ c.in_ok-place.ensures.adds (adds_made _ _ c.in_ok-run_out.ensures.part)

pub returns-clause-names : goal.returns-clause-names
returns-clause-names g c = adds_on _ _ _ c.in_ok-place.ensures.names (adds_same _ _ (names_made _ _ c.in_ok-run_out.ensures.part))
