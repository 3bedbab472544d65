use Rattle.std.proofs.Common.{Err, sym, ◌∙◌, subst}
use Rattle.hb_talk.specs.Talk.{says}
use Rattle.hb_access.specs.Accesses.{use_of}
use Rattle.hb_wait.specs.Courses.{free}
use Rattle.hb_session.specs.Sitting.{planned}
use Rattle.hb_session.specs.Steps.{CarriesOn}
use Rattle.hb_session.specs.declared.session.Progress.TheVariants as progress
use Rattle.hb_session.proofs.Refusing.{open_carried, rolls_carried}
use Rattle.hb_session.proofs.session.Session.refuse.Goals as goal

pub returns-then-rolls_back-clause-carries : goal.returns-then-rolls_back-clause-carries
returns-then-rolls_back-clause-carries c =
    let e = c.roll_back.ensures in
    rolls_carried c.args.self.now c.roll_back.new.self c.args.usage c.args.reply (sym c.rolls_back.ensures ∙ c.if-rolls_back.true) e.same e.begun e.busy e.rolls e.ending

pub returns-else-rolls_back-clause-carries : goal.returns-else-rolls_back-clause-carries
returns-else-rolls_back-clause-carries c =
    let s = c.args.self.now in
    let u = c.args.usage in
    let r = c.args.reply in
    subst (λ n. CarriesOn (λ sts. free (planned s sts (says (Err r, use_of u)))) u s n (progress.Shown r)) (sym c.open.ensures)
    (open_carried s u r (sym c.rolls_back.ensures ∙ c.if-rolls_back.false))
