use Rattle.hb_runs.specs.Board.{others}
use Rattle.hb_board.proofs.Asking.{other_request, ended_step, settled_step, halted_step}
use Rattle.hb_board.proofs.board.Board.answer.Goals as goal

pub returns-in-Enter-clause-steps : goal.returns-in-Enter-clause-steps
returns-in-Enter-clause-steps c = rw c.in-Enter.is c.answer_enter.ensures

pub returns-in-Wait-clause-steps : goal.returns-in-Wait-clause-steps
returns-in-Wait-clause-steps c = rw (c.in-Wait.is, ← c.as_slice.ensures) c.answer_wait.ensures

pub returns-in-Ready-clause-steps : goal.returns-in-Ready-clause-steps
returns-in-Ready-clause-steps c = rw c.in-Ready.is c.answer_ready.ensures.steps

pub returns-in-End-clause-steps : goal.returns-in-End-clause-steps
returns-in-End-clause-steps c = λ b shows. ended_step b c.args.request.now _ _ c.in-End.is

pub returns-in-Settled-clause-steps : goal.returns-in-Settled-clause-steps
returns-in-Settled-clause-steps c = λ b shows. settled_step b c.args.request.now _ _ c.in-Settled.is

pub returns-in-Halted-clause-steps : goal.returns-in-Halted-clause-steps
returns-in-Halted-clause-steps c = λ b shows. halted_step b c.args.request.now _ c.in-Halted.is

pub returns-in_default-clause-steps : goal.returns-in_default-clause-steps
returns-in_default-clause-steps c = λ b shows.
    (b, others c.args.request.now (other_request c.args.request.now c.in_default.not-Enter c.in_default.not-Wait c.in_default.not-Ready c.in_default.not-End c.in_default.not-Settled c.in_default.not-Halted))
