use Rattle.hb_node.specs.Lists.{here}
use Rattle.hb_stepper.proofs.Adding.{adds_same, adds_made, names_made}
use Rattle.hb_stepper.specs.Running.{running}
use Rattle.hb_stepper.specs.Steps.{no_round, round}
use Rattle.hb_stepper.proofs.Stepping.{onward_on, made_on, made_rounds}
use Rattle.hb_stepper.proofs.sessions.Sessions.resume_waiting.Goals as goal

pub rounds-init : goal.rounds-init
rounds-init g c = record { rounds = no_round; goes = here }

pub returns-in_err-first_ready-clause-part : goal.returns-in_err-first_ready-clause-part
returns-in_err-first_ready-clause-part g c = made_on _ _ _ (made_rounds _ _ c.rounds.invariant.rounds) c.in_err-first_ready.ensures.part

pub returns-in_err-first_ready-clause-goes : goal.returns-in_err-first_ready-clause-goes
returns-in_err-first_ready-clause-goes g c = onward_on g.N.Nodes.goes _ _ _ c.rounds.invariant.goes c.in_err-first_ready.ensures.goes

pub returns-in-None-clause-part : goal.returns-in-None-clause-part
returns-in-None-clause-part g c = made_on _ _ _ (made_rounds _ _ c.rounds.invariant.rounds) c.in_ok-first_ready.ensures.part

pub returns-in-None-clause-goes : goal.returns-in-None-clause-goes
returns-in-None-clause-goes g c = onward_on g.N.Nodes.goes _ _ _ c.rounds.invariant.goes c.in_ok-first_ready.ensures.goes

pub returns-in_err-run_out-in-Some-clause-part : goal.returns-in_err-run_out-in-Some-clause-part
returns-in_err-run_out-in-Some-clause-part g c =
    made_on _ _ _ (made_on _ _ _ (made_rounds _ _ c.rounds.invariant.rounds) c.in_ok-first_ready.ensures.part) c.in_err-run_out-in-Some.ensures.part

pub returns-in_err-run_out-in-Some-clause-goes : goal.returns-in_err-run_out-in-Some-clause-goes
returns-in_err-run_out-in-Some-clause-goes g c =
    onward_on g.N.Nodes.goes _ _ _ (onward_on g.N.Nodes.goes _ _ _ c.rounds.invariant.goes c.in_ok-first_ready.ensures.goes) c.in_err-run_out-in-Some.ensures.goes

pub rounds-preserved : goal.rounds-preserved
rounds-preserved g c = record {
  rounds = round (running c.rounds.self (g.N.Nodes.lists c.rounds.nodes)) _ c.rounds.invariant.rounds (record {
    place = c.in-Some.place;
    mid = running c.first_ready.new.self (g.N.Nodes.lists c.first_ready.new.nodes);
    ready = c.in_ok-first_ready.ensures.some c.in-Some.place c.in-Some.is;
    count = c.in_ok-run_out-in-Some.ensures.ran.count;
    ran = c.in_ok-run_out-in-Some.ensures.ran.ran;
    stopped = c.in_ok-run_out-in-Some.ensures.ran.stopped;
  });
  goes = onward_on g.N.Nodes.goes _ _ _ (onward_on g.N.Nodes.goes _ _ _ c.rounds.invariant.goes c.in_ok-first_ready.ensures.goes) c.in_ok-run_out-in-Some.ensures.goes;
}

pub returns-clause-part : goal.returns-clause-part
returns-clause-part g c = made_rounds _ _ c.rounds.invariant.rounds

pub returns-in_err-first_ready-clause-adds : goal.returns-in_err-first_ready-clause-adds
returns-in_err-first_ready-clause-adds g c = adds_made _ _ (made_on _ _ _ (made_rounds _ _ c.rounds.invariant.rounds) c.in_err-first_ready.ensures.part)

pub returns-in_err-first_ready-clause-names : goal.returns-in_err-first_ready-clause-names
returns-in_err-first_ready-clause-names g c = adds_same _ _ (names_made _ _ (made_on _ _ _ (made_rounds _ _ c.rounds.invariant.rounds) c.in_err-first_ready.ensures.part))

pub returns-in-None-clause-adds : goal.returns-in-None-clause-adds
returns-in-None-clause-adds g c = adds_made _ _ (made_on _ _ _ (made_rounds _ _ c.rounds.invariant.rounds) c.in_ok-first_ready.ensures.part)

pub returns-in-None-clause-names : goal.returns-in-None-clause-names
returns-in-None-clause-names g c = adds_same _ _ (names_made _ _ (made_on _ _ _ (made_rounds _ _ c.rounds.invariant.rounds) c.in_ok-first_ready.ensures.part))

pub returns-in_err-run_out-in-Some-clause-adds : goal.returns-in_err-run_out-in-Some-clause-adds
returns-in_err-run_out-in-Some-clause-adds g c = adds_made _ _ (made_on _ _ _ (made_on _ _ _ (made_rounds _ _ c.rounds.invariant.rounds) c.in_ok-first_ready.ensures.part) c.in_err-run_out-in-Some.ensures.part)

pub returns-in_err-run_out-in-Some-clause-names : goal.returns-in_err-run_out-in-Some-clause-names
returns-in_err-run_out-in-Some-clause-names g c = adds_same _ _ (names_made _ _ (made_on _ _ _ (made_on _ _ _ (made_rounds _ _ c.rounds.invariant.rounds) c.in_ok-first_ready.ensures.part) c.in_err-run_out-in-Some.ensures.part))

pub returns-clause-adds : goal.returns-clause-adds
returns-clause-adds g c = adds_made _ _ (made_rounds _ _ c.rounds.invariant.rounds)

pub returns-clause-names : goal.returns-clause-names
returns-clause-names g c = adds_same _ _ (names_made _ _ (made_rounds _ _ c.rounds.invariant.rounds))
