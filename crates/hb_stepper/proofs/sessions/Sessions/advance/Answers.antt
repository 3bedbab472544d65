use Rattle.std.proofs.Common.{◌≡◌, true, false, refl, sym, ◌∙◌, inl, inr, arith}
use Rattle.std.proofs.lemmas.Bool.{false≢true}
use Rattle.hb_node.specs.Lists.{here}
use Rattle.hb_stepper.specs.Running.{running, seat_is, busy}
use Rattle.hb_stepper.specs.Steps.{not_yet}
use Rattle.hb_stepper.proofs.Adding.{adds_on, adds_same, adds_made, names_made}
use Rattle.hb_stepper.proofs.Stepping.{idle_going, on_err}
use Rattle.hb_stepper.proofs.sessions.Sessions.advance.Goals as goal

pub returns-in_err-place-clause-part : goal.returns-in_err-place-clause-part
returns-in_err-place-clause-part g c = on_err c.from_residual.result _ (inl (c.in_err-place.ensures.none (g.N.Nodes.lists c.args.nodes.now)))

pub returns-in_err-place-clause-goes : goal.returns-in_err-place-clause-goes
returns-in_err-place-clause-goes g c = here

pub returns-then-not-is_busy-clause-advanced : goal.returns-then-not-is_busy-clause-advanced
returns-then-not-is_busy-clause-advanced g c =
    let idle : seat_is busy c.place_of.new.self.seats.items c.in_ok-place.place ≡ false = sym c.is_busy.ensures ∙ c.if-not-is_busy.true in
    record {
      place = c.in_ok-place.place;
      mid = running c.place_of.new.self (g.N.Nodes.lists c.args.nodes.now);
      named = c.in_ok-place.ensures.named (g.N.Nodes.lists c.args.nodes.now);
      ran = not_yet;
      no_more = omega arith;
      fewer = λ h. idle_going c.place_of.new.self.seats.items c.in_ok-place.place idle;
      idle = λ h. refl;
      some = λ h more. absurd (false≢true (sym idle ∙ h));
    }

pub returns-then-not-is_busy-clause-goes : goal.returns-then-not-is_busy-clause-goes
returns-then-not-is_busy-clause-goes g c = here

pub returns-in_err-made-clause-part : goal.returns-in_err-made-clause-part
returns-in_err-made-clause-part g c =
    on_err c.from_residual-in_err-made.result _ (inr (c.in_ok-place.place, running c.place_of.new.self (g.N.Nodes.lists c.args.nodes.now), c.in_ok-place.ensures.named (g.N.Nodes.lists c.args.nodes.now), c.in_err-made.ensures.part))

pub returns-clause-advanced : goal.returns-clause-advanced
returns-clause-advanced g c =
    let on : seat_is busy c.place_of.new.self.seats.items c.in_ok-place.place ≡ true = sym c.is_busy.ensures ∙ c.if-not-is_busy.false in
    record {
      place = c.in_ok-place.place;
      mid = running c.place_of.new.self (g.N.Nodes.lists c.args.nodes.now);
      named = c.in_ok-place.ensures.named (g.N.Nodes.lists c.args.nodes.now);
      ran = c.in_ok-made.ensures.ran;
      no_more = c.in_ok-made.ensures.most;
      fewer = c.in_ok-made.ensures.fewer;
      idle = λ h. absurd (false≢true (sym h ∙ on));
      some = λ h more. c.in_ok-made.ensures.some more;
    }

pub returns-in_err-place-clause-adds : goal.returns-in_err-place-clause-adds
returns-in_err-place-clause-adds g c = c.in_err-place.ensures.adds

pub returns-in_err-place-clause-names : goal.returns-in_err-place-clause-names
returns-in_err-place-clause-names g c = c.in_err-place.ensures.names

pub returns-then-not-is_busy-clause-adds : goal.returns-then-not-is_busy-clause-adds
returns-then-not-is_busy-clause-adds g c = c.in_ok-place.ensures.adds

pub returns-then-not-is_busy-clause-names : goal.returns-then-not-is_busy-clause-names
returns-then-not-is_busy-clause-names g c = c.in_ok-place.ensures.names

pub returns-in_err-made-clause-adds : goal.returns-in_err-made-clause-adds
returns-in_err-made-clause-adds g c = adds_on _ _ _ c.in_ok-place.ensures.adds (adds_made _ _ c.in_err-made.ensures.part)

pub returns-in_err-made-clause-names : goal.returns-in_err-made-clause-names
returns-in_err-made-clause-names g c = adds_on _ _ _ c.in_ok-place.ensures.names (adds_same _ _ (names_made _ _ c.in_err-made.ensures.part))

pub returns-clause-adds : goal.returns-clause-adds
returns-clause-adds g c = adds_on _ _ _ c.in_ok-place.ensures.adds (adds_made _ _ c.in_ok-made.ensures.part)

pub returns-clause-names : goal.returns-clause-names
returns-clause-names g c = adds_on _ _ _ c.in_ok-place.ensures.names (adds_same _ _ (names_made _ _ c.in_ok-made.ensures.part))
