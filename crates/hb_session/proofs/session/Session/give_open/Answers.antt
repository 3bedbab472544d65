use Rattle.std.proofs.Common.{sym, subst}
use Rattle.hb_session.specs.Steps.{Gives}
use Rattle.hb_session.proofs.Begins.{planned_other, rollback_given, if_ok}
use Rattle.hb_session.proofs.session.Session.give_open.Goals as goal

pub give_planned-requires-clause-given : goal.give_planned-requires-clause-given
give_planned-requires-clause-given c = (planned_other c.args.statement c.in_default.not-Commit c.in_default.not-Rollback, c.requires.plain)

pub returns-in-Commit-clause-given : goal.returns-in-Commit-clause-given
returns-in-Commit-clause-given c =
    if_ok c.commit.result _ _ (λ x h. subst (λ st. Gives c.args.self.now c.commit.new.self st) (sym c.in-Commit.is) h) c.commit.ensures.given

pub returns-in-Rollback-clause-given : goal.returns-in-Rollback-clause-given
returns-in-Rollback-clause-given c =
    let e = c.roll_back.ensures in
    subst (λ st. Gives c.args.self.now c.roll_back.new.self st) (sym c.in-Rollback.is)
    (rollback_given c.args.self.now c.roll_back.new.self c.args.usage c.requires.stage e.same e.begun e.busy e.ending e.rolls)
