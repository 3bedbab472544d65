use Rattle.std.proofs.Common.{sym, subst}
use Rattle.hb_turn.specs.Turning.{outcome_of}
use Rattle.hb_turn.specs.declared.turn.Turned.TheVariants as turned_as
use Rattle.hb_mover.specs.Steps.{GoesOn}
use Rattle.hb_mover.specs.declared.mover.Progress.TheVariants as progress
use Rattle.hb_mover.proofs.Going.{again_silent}
use Rattle.hb_mover.proofs.mover.Mover.go_again.Goals as goal

pub returns-in-None : goal.returns-in-None
returns-in-None c =
    subst (λ s. GoesOn c.args.self.now c.go.new.self (outcome_of (turned_as.Again s)) progress.More) (sym c.in-None.is) (again_silent c.args.self.now c.go.new.self c.go.ensures)
