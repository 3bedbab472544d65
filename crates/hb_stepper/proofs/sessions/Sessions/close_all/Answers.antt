use Rattle.hb_stepper.specs.Running.{running}
use Rattle.hb_stepper.proofs.Adding.{adds_on, adds_same, adds_made, names_made}
use Rattle.hb_stepper.proofs.Stepping.{onward_on}
use Rattle.hb_stepper.proofs.sessions.Sessions.close_all.Goals as goal

pub returns-in_err-run_all-clause-adds : goal.returns-in_err-run_all-clause-adds
returns-in_err-run_all-clause-adds g c = adds_made _ _ c.in_err-run_all.ensures.part

pub returns-in_err-run_all-clause-names : goal.returns-in_err-run_all-clause-names
returns-in_err-run_all-clause-names g c = adds_same _ _ (names_made _ _ c.in_err-run_all.ensures.part)

pub roll_all_back-requires : goal.roll_all_back-requires
roll_all_back-requires g c = c.in_ok-run_all.ensures.stopped

pub returns-in_err-roll_all_back-clause-adds : goal.returns-in_err-roll_all_back-clause-adds
returns-in_err-roll_all_back-clause-adds g c = adds_on _ _ _ (adds_made _ _ c.in_ok-run_all.ensures.part) c.in_err-roll_all_back.ensures.adds

pub returns-in_err-roll_all_back-clause-names : goal.returns-in_err-roll_all_back-clause-names
returns-in_err-roll_all_back-clause-names g c = adds_on _ _ _ (adds_same _ _ (names_made _ _ c.in_ok-run_all.ensures.part)) c.in_err-roll_all_back.ensures.names

pub returns-in_err-roll_all_back-clause-goes : goal.returns-in_err-roll_all_back-clause-goes
returns-in_err-roll_all_back-clause-goes g c = onward_on g.N.Nodes.goes _ _ _ c.in_ok-run_all.ensures.goes c.in_err-roll_all_back.ensures.goes

pub returns-clause-closed : goal.returns-clause-closed
returns-clause-closed g c = record {
  mid = running c.run_all.new.self (g.N.Nodes.lists c.run_all.new.nodes);
  ran = c.in_ok-run_all.ensures.ran;
  stopped = c.in_ok-run_all.ensures.stopped;
  closed = c.in_ok-roll_all_back.ensures.closed;
  over = c.in_ok-roll_all_back.ensures.over;
}

pub returns-clause-adds : goal.returns-clause-adds
returns-clause-adds g c = adds_on _ _ _ (adds_made _ _ c.in_ok-run_all.ensures.part) c.in_ok-roll_all_back.ensures.adds

pub returns-clause-names : goal.returns-clause-names
returns-clause-names g c = adds_on _ _ _ (adds_same _ _ (names_made _ _ c.in_ok-run_all.ensures.part)) c.in_ok-roll_all_back.ensures.names

pub returns-clause-goes : goal.returns-clause-goes
returns-clause-goes g c = onward_on g.N.Nodes.goes _ _ _ c.in_ok-run_all.ensures.goes c.in_ok-roll_all_back.ensures.goes
