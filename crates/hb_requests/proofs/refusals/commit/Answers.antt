use Rattle.hb_requests.proofs.refusals.commit.Goals as goal

pub returns-in-Voted-2-clause-turns : goal.returns-in-Voted-2-clause-turns
returns-in-Voted-2-clause-turns c = λ rows s st. (c.in-Voted.floor.0, (c.in-Voted.ensures rows s st).0, c.if-number-floor.false)
