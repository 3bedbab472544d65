use Rattle.std.proofs.Common.{refl, sym, ◌∙◌}
use Rattle.hb_runs.specs.Board.{ends, ending}
use Rattle.hb_board.proofs.Shown.{shows_ended_first, shows_ended_again}
use Rattle.hb_board.proofs.board.Board.end.Goals as goal

pub returns-then-not-end : goal.returns-then-not-end
returns-then-not-end c = λ b shows. (ending b c.args.tx.0 c.args.left.0, ends c.args.tx c.args.left.0, shows_ended_again b c.args.self.now _ c.args.tx.0 c.args.left.0 shows c.end.ensures.changes (sym c.end.ensures.first ∙ c.if-not-end.true) refl)

pub returns : goal.returns
returns c = λ b shows. (ending b c.args.tx.0 c.args.left.0, ends c.args.tx c.args.left.0, shows_ended_first b c.args.self.now _ c.args.tx.0 c.args.left.0 shows c.end.ensures.changes (sym c.end.ensures.first ∙ c.if-not-end.false) c.remove.ensures.updates)
