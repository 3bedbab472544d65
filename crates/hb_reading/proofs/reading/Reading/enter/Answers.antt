use Rattle.std.proofs.Common.{◌≡◌, Ok, Err, subst, refl}
use Rattle.hb_reading.specs.Routes.{routed}
use Rattle.hb_reading.proofs.Steps.{enter_found, enter_refused}
use Rattle.hb_reading.proofs.reading.Reading.enter.Goals as goal

pub returns-in-Ok-clause-enters : goal.returns-in-Ok-clause-enters
returns-in-Ok-clause-enters c =
    enter_found c.args.self.now _ _ c.in-Ok.routed _
    (λ tells. subst (λ o. routed o.aim c.args.got ≡ Ok c.in-Ok.routed) c.self.view_is (c.in-Ok.ensures.0 tells)) c.begin_rows.ensures.goes

pub returns-in-Err-clause-enters : goal.returns-in-Err-clause-enters
returns-in-Err-clause-enters c =
    enter_refused c.args.self.now c.args.self.now c.args.got c.in-Err.reply
    (λ forced tells. subst (λ o. routed o.aim c.args.got ≡ Err c.in-Err.reply) c.self.view_is (c.in-Err.ensures forced tells)) refl
