use Rattle.std.proofs.Common.{◌≡◌, ◌≤◌, length, arith}
use Rattle.hb_node.specs.Lists.{here}
use Rattle.hb_stepper.specs.Closing.{RunsOn, before_all, one_more}
use Rattle.hb_stepper.specs.Running.{running, going}
use Rattle.hb_stepper.specs.Steps.{at_start}
use Rattle.hb_stepper.proofs.Adding.{count_made}
use Rattle.hb_stepper.proofs.LastTurns.{all_off, ran_below, turns_at}
use Rattle.hb_stepper.proofs.Stepping.{onward_on, made_on}
use Rattle.hb_stepper.proofs.sessions.Sessions.run_all.Goals as goal

pub places-init : goal.places-init
places-init g c = record { within = omega arith; ran = before_all; stopped = λ k h. absurd (omega arith); part = at_start; goes = here }

pub returns-in_err-run_on-clause-part : goal.returns-in_err-run_on-clause-part
returns-in_err-run_on-clause-part g c = made_on _ _ _ c.places.invariant.part c.in_err-run_on.ensures.part

pub returns-in_err-run_on-clause-goes : goal.returns-in_err-run_on-clause-goes
returns-in_err-run_on-clause-goes g c = onward_on g.N.Nodes.goes _ _ _ c.places.invariant.goes c.in_err-run_on.ensures.goes

pub places-preserved : goal.places-preserved
places-preserved g c =
    let from = running c.places.self (g.N.Nodes.lists c.places.nodes) in
    let to = running c.run_on.new.self (g.N.Nodes.lists c.run_on.new.nodes) in
    let on = c.in_ok-run_on.ensures.ran in
    record {
      within = omega (arith, c.places-test.true, c.len-place-end.ensures, c.args.self.now.seats.ok.0);
      ran = one_more c.places.place from to c.places.invariant.ran on;
      stopped = ran_below from to c.places.place on c.places.invariant.stopped;
      part = made_on _ _ _ c.places.invariant.part c.in_ok-run_on.ensures.part;
      goes = onward_on g.N.Nodes.goes _ _ _ c.places.invariant.goes c.in_ok-run_on.ensures.goes;
    }

pub returns-clause-ran : goal.returns-clause-ran
returns-clause-ran g c =
    let all : c.places.place ≡ length c.args.self.now.seats.items = omega (arith, c.places.invariant.within, c.places-test.false, c.len-place-end.ensures, c.args.self.now.seats.ok.0) in
    turns_at RunsOn _ c.places.place _ _ all c.places.invariant.ran

pub returns-clause-stopped : goal.returns-clause-stopped
returns-clause-stopped g c =
    let same = count_made _ _ c.places.invariant.part in
    let all : length c.places.self.seats.items ≤ c.places.place = omega (arith, same, c.places-test.false, c.len-place-end.ensures, c.args.self.now.seats.ok.0) in
    all_off going c.places.self.seats.items c.places.place all c.places.invariant.stopped
