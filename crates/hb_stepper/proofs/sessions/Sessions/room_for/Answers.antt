use Rattle.std.proofs.Common.{inl, inr}
use Rattle.hb_stepper.specs.Running.{running}
use Rattle.hb_stepper.proofs.Refusals.{named_lines}
use Rattle.hb_stepper.proofs.Stepping.{on_err}
use Rattle.hb_stepper.proofs.sessions.Sessions.room_for.Goals as goal

pub returns-in_err-place-clause-none : goal.returns-in_err-place-clause-none
returns-in_err-place-clause-none c = on_err c.from_residual.result _ (λ lists. inl (c.in_err-place.ensures.none lists))

pub returns-in_err-reserve-clause-none : goal.returns-in_err-reserve-clause-none
returns-in_err-reserve-clause-none c =
    on_err c.from_residual-in_err-reserve.result _ (λ lists. inr (
      c.in_ok-place.place,
      named_lines (running c.args.self.now lists) (running c.place_of.new.self lists) c.args.name.now c.in_ok-place.place c.reserve.new.self.items c.reserve.ensures.items (c.in_ok-place.ensures.named lists),
    ))

pub returns-clause-named : goal.returns-clause-named
returns-clause-named c = λ lists.
    named_lines (running c.args.self.now lists) (running c.place_of.new.self lists) c.args.name.now c.in_ok-place.place c.reserve.new.self.items c.reserve.ensures.items (c.in_ok-place.ensures.named lists)
