use Rattle.std.proofs.Common.{sym, ◌∙◌}
use Rattle.hb_types.specs.declared.lock.Holder.{Holder}
use Rattle.hb_board.specs.Waiting.{is_known_in}
use Rattle.hb_board.proofs.Edges.{all_more, not_all}
use Rattle.hb_board.proofs.board.Board.can_wait.Goals as goal

pub returns-then-not-has_entered : goal.returns-then-not-has_entered
returns-then-not-has_entered c = not_all (λ (h : Holder). is_known_in c.args.self.now.known h.tx) c.args.holders.now c.loop-holder.holder-index _ (is_known_in c.args.self.now.known c.args.tx) c.loop-holder-test.true (sym c.has_entered.ensures ∙ c.if-not-has_entered.true)

pub loop-holder-preserved : goal.loop-holder-preserved
loop-holder-preserved c = all_more (λ (h : Holder). is_known_in c.args.self.now.known h.tx) c.args.holders.now c.loop-holder.holder-index _ c.loop-holder-test.true c.loop-holder.invariant (sym c.has_entered.ensures ∙ c.if-not-has_entered.false)
