use Rattle.std.proofs.Common.{sym, ◌∙◌, ap}
use Rattle.std.specs.Prelude.{not}
use Rattle.hb_runs.specs.Board.{enters, entered_before}
use Rattle.hb_board.proofs.Edges.{entered_is}
use Rattle.hb_board.proofs.board.Board.answer_enter.Goals as goal

pub returns-then-has_entered : goal.returns-then-has_entered
returns-then-has_entered c = λ b shows. (b, entered_before c.args.tx c.args.owner (entered_is b c.args.self.now c.args.tx shows ∙ sym c.has_entered.ensures ∙ c.if-has_entered.true))

pub returns-else-has_entered : goal.returns-else-has_entered
returns-else-has_entered c = λ b shows. (_, enters c.args.tx c.args.owner (ap not (entered_is b c.args.self.now c.args.tx shows ∙ sym c.has_entered.ensures ∙ c.if-has_entered.false)))
