use Rattle.hb_coord.proofs.turn.turn.Goals as goal

pub returns-in-Down-clause-stop : goal.returns-in-Down-clause-stop
returns-in-Down-clause-stop g c = rw c.in-Down.is c.wake.ensures.stop

pub returns-in-Down-clause-damaged : goal.returns-in-Down-clause-damaged
returns-in-Down-clause-damaged g c = rw c.in-Down.is c.wake.ensures.damaged

pub returns-in-Up-clause-stop : goal.returns-in-Up-clause-stop
returns-in-Up-clause-stop g c = rw c.in-Up.is c.work.ensures.stop

pub returns-in-Up-clause-damaged : goal.returns-in-Up-clause-damaged
returns-in-Up-clause-damaged g c = rw c.in-Up.is c.work.ensures.damaged

pub returns-in-Down-clause-left_by : goal.returns-in-Down-clause-left_by
returns-in-Down-clause-left_by g c = rw c.in-Down.is c.wake.ensures.left_by

pub returns-in-Down-clause-ends : goal.returns-in-Down-clause-ends
returns-in-Down-clause-ends g c = rw c.in-Down.is c.wake.ensures.ends

pub returns-in-Up-clause-left_by : goal.returns-in-Up-clause-left_by
returns-in-Up-clause-left_by g c = rw c.in-Up.is c.work.ensures.left_by

pub returns-in-Up-clause-ends : goal.returns-in-Up-clause-ends
returns-in-Up-clause-ends g c = rw c.in-Up.is c.work.ensures.ends
