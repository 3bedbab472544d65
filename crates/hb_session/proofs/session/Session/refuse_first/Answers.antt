use Rattle.std.proofs.Common.{sym, ◌∙◌, subst, Err}
use Rattle.hb_talk.specs.Talk.{says}
use Rattle.hb_access.specs.Accesses.{use_of}
use Rattle.hb_session.specs.Sitting.{planned}
use Rattle.hb_session.specs.Steps.{GivesTalk}
use Rattle.hb_session.proofs.Begins.{given_rolls, given_open}
use Rattle.hb_session.proofs.session.Session.refuse_first.Goals as goal

pub returns-then-rolls_back : goal.returns-then-rolls_back
returns-then-rolls_back c =
    let e = c.roll_back.ensures in
    given_rolls c.args.self.now c.roll_back.new.self c.args.usage c.args.why (sym c.rolls_back.ensures ∙ c.if-rolls_back.true) e.same e.begun e.busy e.ending e.rolls

pub returns-else-rolls_back : goal.returns-else-rolls_back
returns-else-rolls_back c =
    let u = c.args.usage in
    let r = c.args.why in
    let s = c.args.self.now in
    subst (λ n. GivesTalk (λ sts. planned s sts (says (Err r, use_of u))) u s n) (sym c.stand.ensures)
    (given_open s u r (sym c.rolls_back.ensures ∙ c.if-rolls_back.false))
