use Rattle.std.proofs.Common.{refl, subst}
use Rattle.hb_runs.specs.Board.{Board as BoardState, edges_of}
use Rattle.hb_board.specs.declared.waits.Waits.{Waits}
use Rattle.hb_board.specs.Shows.{Shows}
use Rattle.hb_board.specs.Waiting.{Judges}
use Rattle.hb_board.proofs.Judging.{waited, cycled, nobody}
use Rattle.hb_board.proofs.board.Board.wait.Goals as goal

pub returns-in_ok-keep-in-Waiting-clause-done : goal.returns-in_ok-keep-in-Waiting-clause-done
returns-in_ok-keep-in-Waiting-clause-done c = waited c.args.self.now _ c.args.tx c.args.node c.args.path c.args.wanted c.args.holders.now c.requires _ c.as_slice.result.now
    (subst (λ (w : Waits). (b : BoardState) → Shows b c.args.self.now → Judges b c.args.tx (edges_of b c.args.tx c.args.node c.args.path c.args.wanted c.args.holders.now) w) c.in-Waiting.is c.in_ok-edges.ensures)
    c.as_slice.ensures c.in_ok-keep-in-Waiting.ensures.kept

pub returns-in-Cycle-clause-done : goal.returns-in-Cycle-clause-done
returns-in-Cycle-clause-done c = cycled c.args.self.now _ c.args.tx c.args.node c.args.path c.args.wanted c.args.holders.now c.requires _
    (subst (λ (w : Waits). (b : BoardState) → Shows b c.args.self.now → Judges b c.args.tx (edges_of b c.args.tx c.args.node c.args.path c.args.wanted c.args.holders.now) w) c.in-Cycle.is c.in_ok-edges.ensures) refl

pub returns-in-Gone-clause-done : goal.returns-in-Gone-clause-done
returns-in-Gone-clause-done c = nobody c.args.self.now _ c.args.tx c.args.node c.args.path c.args.wanted c.args.holders.now c.requires
    (subst (λ (w : Waits). (b : BoardState) → Shows b c.args.self.now → Judges b c.args.tx (edges_of b c.args.tx c.args.node c.args.path c.args.wanted c.args.holders.now) w) c.in-Gone.is c.in_ok-edges.ensures) refl
