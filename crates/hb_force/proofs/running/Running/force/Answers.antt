use Rattle.hb_force.proofs.running.Running.force.Goals as goal

pub returns-in-Prepare-clause-faulted : goal.returns-in-Prepare-clause-faulted
returns-in-Prepare-clause-faulted g c = rw c.in-Prepare.is c.prepare.ensures.faulted
