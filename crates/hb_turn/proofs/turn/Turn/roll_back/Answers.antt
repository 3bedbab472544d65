use Rattle.std.proofs.Common.{sym, subst}
use Rattle.hb_turn.proofs.Ends.{rolls}
use Rattle.hb_turn.specs.Steps.{RollsBack}
use Rattle.hb_access.specs.Accesses.{use_of}
use Rattle.hb_turn.proofs.turn.Turn.roll_back.Goals as goal

pub returns-clause-rolls : goal.returns-clause-rolls
returns-clause-rolls c =
    subst (RollsBack (use_of c.args.usage) c.args.after) (sym c.end_by.ensures)
    (rolls c.args.self.now c.args.usage c.back-driver.result c.args.after c.back-driver.ensures.of.0 c.back-driver.ensures.of.1 c.back-driver.ensures.talk)
