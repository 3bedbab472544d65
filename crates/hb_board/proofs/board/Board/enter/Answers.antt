use Rattle.std.proofs.Common.{ap, ◌∷◌}
use Rattle.std.specs.Prelude.{not}
use Rattle.hb_types.specs.declared.request.Request.TheVariants as request
use Rattle.hb_runs.specs.Board.{enters, no_memory}
use Rattle.hb_board.proofs.Edges.{not_entered}
use Rattle.hb_board.proofs.board.Board.enter.Goals as goal

pub returns-in-Ok-clause-done : goal.returns-in-Ok-clause-done
returns-in-Ok-clause-done c = λ b shows.
    let none = not_entered b c.args.self.now c.args.tx.0 shows c.requires in
    (record b { entered = (c.args.tx.0, c.args.owner) ∷ b.entered }, enters c.args.tx c.args.owner (ap not none), c.in-Ok.ensures.done b shows none)

pub returns-in-Err-clause-none : goal.returns-in-Err-clause-none
returns-in-Err-clause-none c = λ b shows. (b, no_memory (request.Enter c.args.tx c.args.owner), c.in-Err.ensures.none b shows)
