use Rattle.std.proofs.Common.{refl, ap, ◌∙◌, arith}
use Rattle.hb_edge.specs.Fuses.{last_of}
use Rattle.hb_coord.specs.Law.{content_of, left_of}
use Rattle.hb_coord.proofs.Lawful.{stops, faults, up_leaves, calls_fit, loud, damage, fused_stands, fused_stands_on, run_more}
use Rattle.std.specs.Prelude.{is_some, not}
use Rattle.hb_coord.proofs.Turning.{between_none}
use Rattle.hb_coord.proofs.Leaving.{stop_left, answered_left, fault_left}
use Rattle.hb_coord.proofs.Counting.{up_ends, fault_ends}
use Rattle.hb_coord.proofs.turn.work.Goals as goal

pub returns-in-Stop-clause-run : goal.returns-in-Stop-clause-run
returns-in-Stop-clause-run g c = λ first trail e.
    rw (c.in-Stop.is, c.into_disk.ensures)
    (stops (content_of g.D.Disk.content) (left_of g.D.Disk.left) (last_of g.D.Disk.last) first trail e.0 c.args.running c.args.clock.now (fused_stands g.D.Disk.left g.D.Disk.last c.args.running.log.disk (g.met.D.Disk.stands c.args.running.log.disk.inner) (g.met.D.Disk.stands_on c.args.running.log.disk.inner)) e.1 e.2)

pub returns-in-Stop-clause-stop : goal.returns-in-Stop-clause-stop
returns-in-Stop-clause-stop g c = λ first trail e.
    rw c.into_disk.ensures
    (up_leaves (content_of g.D.Disk.content) (left_of g.D.Disk.left) (last_of g.D.Disk.last) first trail e.0 c.args.request.now c.args.running.log.disk c.args.running.log.disk c.args.clock.now e.1
    (between_none (content_of g.D.Disk.content) (left_of g.D.Disk.left) (last_of g.D.Disk.last) e.0 c.args.running c.args.clock.now e.2 c.args.request.now (fused_stands g.D.Disk.left g.D.Disk.last c.args.running.log.disk (g.met.D.Disk.stands c.args.running.log.disk.inner) (g.met.D.Disk.stands_on c.args.running.log.disk.inner))))

pub returns-in-Stop-clause-left_by : goal.returns-in-Stop-clause-left_by
returns-in-Stop-clause-left_by g c = λ first trail e.
    rw c.into_disk.ensures (stop_left (content_of g.D.Disk.content) (left_of g.D.Disk.left) (last_of g.D.Disk.last) first trail e.0 c.args.running c.args.clock.now c.args.request.now _ (fused_stands g.D.Disk.left g.D.Disk.last c.args.running.log.disk (g.met.D.Disk.stands c.args.running.log.disk.inner) (g.met.D.Disk.stands_on c.args.running.log.disk.inner)) e.1 e.2)

pub returns-in-Stop-clause-ends : goal.returns-in-Stop-clause-ends
returns-in-Stop-clause-ends g c = rw c.in-Stop.is (omega arith)

pub returns-in-Ok : goal.returns-in-Ok
returns-in-Ok g c = record {
  run = λ first trail e. let t = c.in-Ok.ensures.turns e.0 e.2 in (t.0, run_more first trail e.0 t.0 _ e.1 t.1, t.2);
  stop = λ first trail e. up_leaves (content_of g.D.Disk.content) (left_of g.D.Disk.left) (last_of g.D.Disk.last) first trail e.0 c.args.request.now c.args.running.log.disk c.serve.new.self.log.disk c.args.clock.now e.1 (c.in-Ok.ensures.leaves e.0 e.2);
  left_by = λ first trail e.
      let t = c.in-Ok.ensures.turns e.0 e.2 in
      answered_left (content_of g.D.Disk.content) (left_of g.D.Disk.left) (last_of g.D.Disk.last) first trail e.0 t.0 c.args.request.now c.in-Ok.answer c.args.running c.serve.new.self c.args.clock.now c.serve.new.clock (fused_stands g.D.Disk.left g.D.Disk.last c.serve.new.self.log.disk (g.met.D.Disk.stands c.serve.new.self.log.disk.inner) (g.met.D.Disk.stands_on c.serve.new.self.log.disk.inner)) e.1 e.2.up t.1 t.2 c.in-Ok.ensures.none (c.in-Ok.ensures.leaves e.0 e.2);
  own = c.in-Ok.ensures.own;
  memory = c.in-Ok.ensures.memory;
  ends = up_ends c.args.running c.serve.new.self c.args.request.now c.in_default.not-Stop c.serve.ensures.count;
  fault = λ area is. absurd (loud c.in-Ok.answer area c.in-Ok.ensures.quiet is);
  damaged = λ area place is. absurd (damage c.in-Ok.answer area place c.in-Ok.ensures.quiet is);
  told = c.serve.ensures.told;
  count = c.serve.ensures.cause.later;
  clock = (c.serve.ensures.clock.0, calls_fit c.args.request.now c.args.clock.now c.serve.new.clock c.serve.ensures.clock.1 c.serve.ensures.no_calls);
  in_time = c.serve.ensures.in_time;
  opened = ap not c.in-Ok.ensures.is_open;
}

pub returns-in-Err : goal.returns-in-Err
returns-in-Err g c = record {
  run = λ first trail e.
      rw c.into_disk-in-Err.ensures
      (faults (content_of g.D.Disk.content) (left_of g.D.Disk.left) (last_of g.D.Disk.last) first trail e.0 c.args.request.now c.args.running.log.disk c.serve.new.self.log.disk c.args.clock.now c.serve.new.clock (fused_stands_on g.D.Disk.left g.D.Disk.last c.serve.new.self.log.disk (g.met.D.Disk.stands c.serve.new.self.log.disk.inner) (g.met.D.Disk.stands_on c.serve.new.self.log.disk.inner)) e.1 e.2.up (c.in-Err.ensures.faulted e.0 e.2) (c.in-Err.ensures.leaves e.0 e.2)
      (c.serve.ensures.told ∙ ap is_some e.2.log.settled.told) (c.serve.ensures.in_time e.2.log.in_time));
  stop = λ first trail e. rw c.into_disk-in-Err.ensures (up_leaves (content_of g.D.Disk.content) (left_of g.D.Disk.left) (last_of g.D.Disk.last) first trail e.0 c.args.request.now c.args.running.log.disk c.serve.new.self.log.disk c.args.clock.now e.1 (c.in-Err.ensures.leaves e.0 e.2));
  left_by = λ first trail e.
      rw c.into_disk-in-Err.ensures (fault_left (content_of g.D.Disk.content) (left_of g.D.Disk.left) (last_of g.D.Disk.last) first trail e.0 c.args.request.now c.args.running.log.disk c.serve.new.self.log.disk c.args.clock.now e.1 (c.in-Err.ensures.faulted e.0 e.2) (c.in-Err.ensures.leaves e.0 e.2));
  own = tt;
  memory = λ none is. cc;
  ends = fault_ends c.args.running c.into_disk-in-Err.result c.args.request.now;
  fault = λ area is. (cc, rw c.into_disk-in-Err.ensures c.in-Err.ensures.cause.failed);
  damaged = λ area place is. absurd (cc);
  told = rw c.into_disk-in-Err.ensures c.serve.ensures.told;
  count = rw c.into_disk-in-Err.ensures c.serve.ensures.cause.later;
  clock = (c.serve.ensures.clock.0, calls_fit c.args.request.now c.args.clock.now c.serve.new.clock c.serve.ensures.clock.1 c.serve.ensures.no_calls);
  in_time = λ h. rw c.into_disk-in-Err.ensures (c.serve.ensures.in_time h);
  opened = refl;
}
