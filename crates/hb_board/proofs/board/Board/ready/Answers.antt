use Rattle.std.proofs.Common.{ap, sym, ◌∙◌}
use Rattle.hb_runs.specs.Board.{target_of}
use Rattle.hb_board.specs.Shows.{is_live_in, kept_by}
use Rattle.hb_board.proofs.Living.{waits_are, first_target, target_in}
use Rattle.hb_board.proofs.board.Board.ready.Goals as goal

pub returns-in-Some : goal.returns-in-Some
returns-in-Some c = λ b shows.
    ap target_of (waits_are b c.args.self.now c.args.tx shows) ∙ first_target (is_live_in c.args.self.now.known) (kept_by c.args.self.now c.args.tx.0) ∙ ap target_in (sym c.in-Some.ensures)

pub returns-in-None : goal.returns-in-None
returns-in-None c = λ b shows.
    ap target_of (waits_are b c.args.self.now c.args.tx shows) ∙ first_target (is_live_in c.args.self.now.known) (kept_by c.args.self.now c.args.tx.0) ∙ ap target_in (sym c.in-None.ensures)
