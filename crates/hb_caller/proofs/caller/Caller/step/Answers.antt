use Rattle.std.proofs.Common.{◌≡◌, true, ◌∙◌, sym, subst}
use Rattle.hb_caller.specs.Calling.{Calling, ending as ends}
use Rattle.hb_caller.specs.Steps.{EndsBy}
use Rattle.hb_caller.proofs.Ends.{session_ends}
use Rattle.hb_caller.proofs.caller.Caller.step.Goals as goal

pub returns-in-None-clause-asks : goal.returns-in-None-clause-asks
returns-in-None-clause-asks g c =
    let P : Calling → Type 0 = λ old. ends old ≡ true → EndsBy old (record { session = c.step.new.self; mover = c.take.new.self }) c.shown.result in
    subst P c.self.view_is
    (session_ends c.self.inside.session c.step.new.self c.self.inside.mover c.take.new.self _ _ c.step.result c.shown.result
    (sym c.take.ensures.value ∙ c.in-None.is) c.take.ensures.after c.shown.ensures c.step.ensures.stepped)
