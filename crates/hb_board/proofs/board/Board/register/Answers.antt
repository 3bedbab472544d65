use Rattle.std.proofs.Common.{ap, refl}
use Rattle.hb_board.proofs.Edges.{unknown_one}
use Rattle.hb_board.proofs.Shown.{shows_entered, shows_same}
use Rattle.hb_board.proofs.board.Board.register.Goals as goal

pub returns-in-Ok-clause-done : goal.returns-in-Ok-clause-done
returns-in-Ok-clause-done c = λ b shows none.
    shows_entered b c.args.self.now _ c.args.tx.0 c.args.owner c.new.result shows (unknown_one b c.args.self.now c.args.tx.0 shows none) refl c.in-Ok.ensures.updates (ap (λ x. x.owner) c.new.ensures) (ap (λ x. x.ended) c.new.ensures) (ap (λ x. x.unsettled) c.new.ensures)

pub returns-in-Err-clause-none : goal.returns-in-Err-clause-none
returns-in-Err-clause-none c = λ b shows. shows_same b c.args.self.now _ shows c.in-Err.ensures.err refl
