use Rattle.std.proofs.Common.{subst, sym, ◌∙◌, List}
use Rattle.hb_types.specs.declared.answer.Answer.TheVariants as answer
use Rattle.hb_types.specs.declared.answer.Edge.{Edge}
use Rattle.hb_types.specs.declared.request.Request.TheVariants as request
use Rattle.hb_runs.specs.Board.{waits, cycle, gone, cannot_wait, no_memory, keeping, edges_of, Steps}
use Rattle.hb_board.specs.declared.waits.Waits.{Waits}
use Rattle.hb_board.specs.Waiting.{Judges}
use Rattle.hb_board.proofs.Edges.{may_wait, may_not_wait}
use Rattle.hb_board.proofs.board.Board.answer_wait.Goals as goal

pub returns-then-not-can_wait : goal.returns-then-not-can_wait
returns-then-not-can_wait c = λ b shows.
    (b, cannot_wait c.args.tx c.args.node c.args.path c.args.wanted c.args.holders.now (may_not_wait b c.args.self.now c.args.tx c.args.holders.now shows (sym c.can_wait.ensures ∙ c.if-not-can_wait.true)))

pub returns-in-Ok-Waiting : goal.returns-in-Ok-Waiting
returns-in-Ok-Waiting c = λ b shows.
    let edges = edges_of b c.args.tx c.args.node c.args.path c.args.wanted c.args.holders.now in
    let is = subst (λ (w : Waits). Judges b c.args.tx edges w) c.in-Ok-Waiting.field-0-is (c.in-Ok-Waiting.ensures b shows) in (
      keeping b c.args.tx edges,
      subst (λ (l : List Edge). Steps b (request.Wait c.args.tx c.args.node c.args.path c.args.wanted c.args.holders.now) (answer.Waiting l) (keeping b c.args.tx edges)) (sym is.0)
          (waits c.args.tx c.args.node c.args.path c.args.wanted c.args.holders.now (may_wait b c.args.self.now c.args.tx c.args.holders.now shows (sym c.can_wait.ensures ∙ c.if-not-can_wait.false)) is.1 is.2),
    )

pub returns-in-Ok-Cycle : goal.returns-in-Ok-Cycle
returns-in-Ok-Cycle c = λ b shows. (
  b,
  cycle c.args.tx c.args.node c.args.path c.args.wanted c.args.holders.now c.in-Ok-Cycle.edges (may_wait b c.args.self.now c.args.tx c.args.holders.now shows (sym c.can_wait.ensures ∙ c.if-not-can_wait.false))
      (subst (λ (w : Waits). Judges b c.args.tx (edges_of b c.args.tx c.args.node c.args.path c.args.wanted c.args.holders.now) w) c.in-Ok-Cycle.field-0-is (c.in-Ok-Cycle.ensures b shows)),
)

pub returns-in-Ok-Gone : goal.returns-in-Ok-Gone
returns-in-Ok-Gone c = λ b shows. (
  b,
  gone c.args.tx c.args.node c.args.path c.args.wanted c.args.holders.now (may_wait b c.args.self.now c.args.tx c.args.holders.now shows (sym c.can_wait.ensures ∙ c.if-not-can_wait.false))
      (subst (λ (w : Waits). Judges b c.args.tx (edges_of b c.args.tx c.args.node c.args.path c.args.wanted c.args.holders.now) w) c.in-Ok-Gone.field-0-is (c.in-Ok-Gone.ensures b shows)),
)

pub returns-in-Err : goal.returns-in-Err
returns-in-Err c = λ b shows. (b, no_memory (request.Wait c.args.tx c.args.node c.args.path c.args.wanted c.args.holders.now))
