use Rattle.std.proofs.Common.{refl, sym, ◌∙◌, rules}
use Rattle.std.specs.Prelude.{◌==◌, not}
use Rattle.std.proofs.lemmas.Map.Made.{filter_same_pairs}
use Rattle.hb_board.specs.declared.waits.Wait.{Wait}
use Rattle.hb_runs.specs.Board.{halts, halting}
use Rattle.hb_board.proofs.Keeping.{shows_halted, still_at, still_none}
use Rattle.hb_board.proofs.board.Board.stopped.Goals as goal

pub returns : goal.returns
returns c = λ b shows. (
  halting b c.args.node,
  halts c.args.node,
  shows_halted b c.args.self.now _ c.args.node shows refl
      (still_at c.args.self.now.waits c.retain.new.self (λ (w : Wait). not (w.node.0 == c.args.node.0)) c.len.ensures.ordered
      (filter_same_pairs _ _ _ (λ k v x w f t. search rules) _ _ c.retain.ensures.filtered)),
)

pub returns-then-len-eq0 : goal.returns-then-len-eq0
returns-then-len-eq0 c = λ b shows. (
  halting b c.args.node,
  halts c.args.node,
  shows_halted b c.args.self.now _ c.args.node shows refl
      (still_none c.args.self.now.waits (λ (w : Wait). not (w.node.0 == c.args.node.0)) c.len.ensures.ordered (sym c.len.ensures.len ∙ c.if-len-eq0.true)),
)
