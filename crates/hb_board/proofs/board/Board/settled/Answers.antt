use Rattle.std.proofs.Common.{refl}
use Rattle.hb_runs.specs.Board.{settles, settling}
use Rattle.hb_board.proofs.Shown.{shows_settled}
use Rattle.hb_board.proofs.board.Board.settled.Goals as goal

pub returns : goal.returns
returns c = λ b shows. (settling b c.args.tx.0 c.args.node.0, settles c.args.tx c.args.node, shows_settled b c.args.self.now _ c.args.tx.0 c.args.node.0 shows refl c.settle.ensures)
