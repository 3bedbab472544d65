use Rattle.std.proofs.Common.{subst}
use Rattle.hb_types.specs.declared.answer.Answer.TheVariants as answer
use Rattle.hb_types.specs.declared.request.Request.TheVariants as request
use Rattle.hb_runs.specs.Board.{Board as BoardState}
use Rattle.hb_board.specs.Shows.{Shows}
use Rattle.hb_board.proofs.Asking.{steps_after, after_other, done_is_done}
use Rattle.hb_board.proofs.board.Board.apply.Goals as goal

pub returns-in_ok-apply_enter-in-Enter-clause-done : goal.returns-in_ok-apply_enter-in-Enter-clause-done
returns-in_ok-apply_enter-in-Enter-clause-done c = rw c.in-Enter.is c.in_ok-apply_enter-in-Enter.ensures.done

pub returns-in_ok-apply_wait-in-Wait-clause-done : goal.returns-in_ok-apply_wait-in-Wait-clause-done
returns-in_ok-apply_wait-in-Wait-clause-done c = rw c.in-Wait.is c.in_ok-apply_wait-in-Wait.ensures.done

pub returns-in-End-clause-done : goal.returns-in-End-clause-done
returns-in-End-clause-done c = rw c.in-End.is (λ b shows fits.
    let s = c.end.ensures b shows in
    subst (λ (x : BoardState). Shows x c.end.new.self) (steps_after b s.0 (request.End c.in-End.tx c.in-End.left) answer.Done s.1 (λ t. done_is_done)) s.2)

pub returns-in-Settled-clause-done : goal.returns-in-Settled-clause-done
returns-in-Settled-clause-done c = rw c.in-Settled.is (λ b shows fits.
    let s = c.settled.ensures b shows in
    subst (λ (x : BoardState). Shows x c.settled.new.self) (steps_after b s.0 (request.Settled c.in-Settled.tx c.in-Settled.node) answer.Done s.1 (λ t. done_is_done)) s.2)

pub returns-in-Halted-clause-done : goal.returns-in-Halted-clause-done
returns-in-Halted-clause-done c = rw c.in-Halted.is (λ b shows fits.
    let s = c.stopped.ensures b shows in
    subst (λ (x : BoardState). Shows x c.stopped.new.self) (steps_after b s.0 (request.Halted c.in-Halted.node) answer.Done s.1 (λ t. done_is_done)) s.2)

pub returns-in_default-clause-done : goal.returns-in_default-clause-done
returns-in_default-clause-done c = λ b shows fits.
    subst (λ (x : BoardState). Shows x c.args.self.now) (after_other b c.args.answer.now c.args.request.now c.in_default.not-Enter c.in_default.not-Wait c.in_default.not-End c.in_default.not-Settled c.in_default.not-Halted) shows
