use Rattle.std.proofs.Common.{refl}
use Rattle.hb_board.proofs.Keeping.{shows_kept, shows_unkept}
use Rattle.hb_board.proofs.board.Board.keep.Goals as goal

pub returns-in-Ok-clause-kept : goal.returns-in-Ok-clause-kept
returns-in-Ok-clause-kept c = λ b shows are. shows_kept b c.args.self.now _ c.args.tx c.args.node c.args.edges.now _ shows refl are refl c.in_ok-edges.ensures c.in-Ok.ensures.updates

pub returns-clause-none : goal.returns-clause-none
returns-clause-none c = λ b shows. shows_unkept b c.args.self.now _ shows refl c.in-Err.ensures.err
