use Rattle.std.proofs.Common.{◌≡◌, ◌≤◌, length, ◌∙◌, refl, arith}
use Rattle.hb_node.specs.Lists.{here}
use Rattle.hb_stepper.specs.Closing.{IsClosed, before_all, one_more}
use Rattle.hb_stepper.specs.Running.{running, open_now}
use Rattle.hb_stepper.proofs.Adding.{adds_on, grows_on, grows_same}
use Rattle.hb_stepper.proofs.LastTurns.{all_off, closed_below, closed_count, closed_stops, turns_at}
use Rattle.hb_stepper.proofs.Stepping.{onward_on}
use Rattle.hb_stepper.proofs.sessions.Sessions.roll_all_back.Goals as goal

pub places-init : goal.places-init
places-init g c = record { within = omega arith; closed = before_all; over = λ k h. absurd (omega arith); stopped = c.requires; count = refl; grows = grows_same _ _ refl; goes = here }

pub roll_back-requires : goal.roll_back-requires
roll_back-requires g c = c.places.invariant.stopped c.places.place

pub places-preserved : goal.places-preserved
places-preserved g c =
    let from = running c.places.self (g.N.Nodes.lists c.places.nodes) in
    let to = running c.roll_back.new.self (g.N.Nodes.lists c.roll_back.new.nodes) in
    let on = c.in_ok-roll_back.ensures.closed in
    record {
      within = omega (arith, c.places-test.true, c.len-place-end.ensures, c.args.self.now.seats.ok.0);
      closed = one_more c.places.place from to c.places.invariant.closed on;
      over = closed_below from to c.places.place on c.places.invariant.over;
      stopped = closed_stops from to c.places.place on c.places.invariant.stopped;
      count = closed_count from to c.places.place on ∙ c.places.invariant.count;
      grows = grows_on _ from to c.places.invariant.grows (record { lines = c.in_ok-roll_back.ensures.adds; names = c.in_ok-roll_back.ensures.names });
      goes = onward_on g.N.Nodes.goes _ _ _ c.places.invariant.goes c.in_ok-roll_back.ensures.goes;
    }

pub returns-in_err-roll_back-clause-adds : goal.returns-in_err-roll_back-clause-adds
returns-in_err-roll_back-clause-adds g c = adds_on _ _ _ c.places.invariant.grows.lines c.in_err-roll_back.ensures.adds

pub returns-in_err-roll_back-clause-names : goal.returns-in_err-roll_back-clause-names
returns-in_err-roll_back-clause-names g c = adds_on _ _ _ c.places.invariant.grows.names c.in_err-roll_back.ensures.names

pub returns-in_err-roll_back-clause-goes : goal.returns-in_err-roll_back-clause-goes
returns-in_err-roll_back-clause-goes g c = onward_on g.N.Nodes.goes _ _ _ c.places.invariant.goes c.in_err-roll_back.ensures.goes

pub returns-clause-closed : goal.returns-clause-closed
returns-clause-closed g c =
    let all : c.places.place ≡ length c.args.self.now.seats.items = omega (arith, c.places.invariant.within, c.places-test.false, c.len-place-end.ensures, c.args.self.now.seats.ok.0) in
    turns_at IsClosed _ c.places.place _ _ all c.places.invariant.closed

pub returns-clause-over : goal.returns-clause-over
returns-clause-over g c =
    let all : length c.places.self.seats.items ≤ c.places.place = omega (arith, c.places.invariant.count, c.places-test.false, c.len-place-end.ensures, c.args.self.now.seats.ok.0) in
    all_off open_now c.places.self.seats.items c.places.place all c.places.invariant.over

pub returns-clause-adds : goal.returns-clause-adds
returns-clause-adds g c = c.places.invariant.grows.lines

pub returns-clause-names : goal.returns-clause-names
returns-clause-names g c = c.places.invariant.grows.names
