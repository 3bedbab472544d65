use Rattle.hb_coord.proofs.coordinator.Coordinator.ask.Goals as goal

pub returns-clause-damaged : goal.returns-clause-damaged
returns-clause-damaged g c = λ area place is told. rw c.replace.ensures.after (c.turn-state.ensures.damaged area place is (rw c.replace-state.ensures.value told))
