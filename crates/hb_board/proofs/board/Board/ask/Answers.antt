use Rattle.std.proofs.Common.{sym, subst}
use Rattle.hb_runs.specs.Board.{Board as BoardState, no_memory}
use Rattle.hb_types.specs.declared.answer.Answer.TheVariants as answer
use Rattle.hb_board.specs.Shows.{Shows}
use Rattle.hb_board.proofs.Asking.{steps_fit, steps_after, steps_keep, steps_exact}
use Rattle.hb_board.proofs.board.Board.ask.Goals as goal

pub returns-in-Ok-clause-goes : goal.returns-in-Ok-clause-goes
returns-in-Ok-clause-goes c = λ b shows.
    let s = c.answer-answer.ensures.steps b shows in
    let is = steps_after b s.0 c.args.request.now c.answer-answer.result s.1 c.answer-answer.ensures.memory in (
      s.0,
      s.1,
      subst (λ (x : BoardState). Shows x c.apply.new.self) (sym is) (c.in-Ok.ensures.done b shows (steps_fit b s.0 c.args.request.now c.answer-answer.result s.1)),
      (λ none. (steps_keep b s.0 c.args.request.now c.answer-answer.result s.1 none, steps_exact b s.0 c.args.request.now c.answer-answer.result s.1 none)),
    )

pub returns-in-Err-clause-goes : goal.returns-in-Err-clause-goes
returns-in-Err-clause-goes c = λ b shows.
    (b, no_memory c.args.request.now, c.in-Err.ensures.none b shows, (λ none. (none, steps_exact b b c.args.request.now answer.NoMemory (no_memory c.args.request.now) none)))
