use Rattle.std.proofs.Common.{refl}
use Rattle.hb_board.proofs.Asking.{not_done_is}
use Rattle.hb_board.proofs.board.Board.apply_enter.Goals as goal

pub returns-in_ok-register-in-Done-clause-done : goal.returns-in_ok-register-in-Done-clause-done
returns-in_ok-register-in-Done-clause-done c = rw c.in-Done.is (λ b shows fits. c.in_ok-register-in-Done.ensures.done b shows (fits refl))

pub returns-in_default-clause-done : goal.returns-in_default-clause-done
returns-in_default-clause-done c = rw (not_done_is c.args.answer.now c.in_default.not-Done) (λ b shows fits. shows)
