use Rattle.std.proofs.Common.{refl}
use Rattle.hb_board.proofs.Asking.{none_kept}
use Rattle.hb_board.proofs.board.Board.apply_wait.Goals as goal

pub returns-in_ok-keep-in-Waiting-clause-done : goal.returns-in_ok-keep-in-Waiting-clause-done
returns-in_ok-keep-in-Waiting-clause-done c = rw (c.in-Waiting.is, ← c.as_slice.ensures) (λ b shows fits. c.in_ok-keep-in-Waiting.ensures.kept b shows (fits _ refl))

pub returns-in_default-clause-done : goal.returns-in_default-clause-done
returns-in_default-clause-done c = rw (none_kept c.args.answer.now c.in_default.not-Waiting) (λ b shows fits. shows)
