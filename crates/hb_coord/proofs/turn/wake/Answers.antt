use Rattle.std.proofs.Common.{refl, arith}
use Rattle.hb_edge.specs.Fuses.{last_of}
use Rattle.hb_coord.specs.Law.{content_of, left_of}
use Rattle.hb_coord.proofs.Lawful.{still_down, down_leaves, fused_stands}
use Rattle.hb_coord.proofs.Leaving.{down_left}
use Rattle.hb_coord.proofs.Counting.{down_ends}
use Rattle.hb_coord.proofs.turn.wake.Goals as goal

pub returns-in-Start-clause-run : goal.returns-in-Start-clause-run
returns-in-Start-clause-run g c = rw c.in-Start.is c.begin_again.ensures.run

pub returns-in-Start-clause-stop : goal.returns-in-Start-clause-stop
returns-in-Start-clause-stop g c = rw c.in-Start.is c.begin_again.ensures.stop

pub returns-in-Start-clause-left_by : goal.returns-in-Start-clause-left_by
returns-in-Start-clause-left_by g c = rw c.in-Start.is c.begin_again.ensures.left_by

pub returns-in-Start-clause-ends : goal.returns-in-Start-clause-ends
returns-in-Start-clause-ends g c = rw c.in-Start.is c.begin_again.ensures.ends

pub returns-in-Start-clause-clock : goal.returns-in-Start-clause-clock
returns-in-Start-clause-clock g c = rw c.in-Start.is c.begin_again.ensures.clock

pub returns-in_default : goal.returns-in_default
returns-in_default g c = record {
  run = λ first trail down. still_down (content_of g.D.Disk.content) (left_of g.D.Disk.left) (last_of g.D.Disk.last) first trail c.args.disk c.args.clock.now c.args.request.now c.in_default.not-Start down;
  stop = λ first trail down. down_leaves (content_of g.D.Disk.content) (left_of g.D.Disk.left) (last_of g.D.Disk.last) first trail c.args.disk c.args.clock.now c.args.request.now (fused_stands g.D.Disk.left g.D.Disk.last c.args.disk (g.met.D.Disk.stands c.args.disk.inner) (g.met.D.Disk.stands_on c.args.disk.inner)) down;
  left_by = λ first trail down. down_left (content_of g.D.Disk.content) (left_of g.D.Disk.left) (last_of g.D.Disk.last) first trail c.args.disk c.args.clock.now c.args.request.now _ (fused_stands g.D.Disk.left g.D.Disk.last c.args.disk (g.met.D.Disk.stands c.args.disk.inner) (g.met.D.Disk.stands_on c.args.disk.inner)) down;
  own = tt;
  memory = λ none is. cc;
  ends = down_ends c.args.disk c.args.request.now;
  fault = λ area is. absurd (cc);
  damaged = λ area place is. absurd (cc);
  told = refl;
  count = omega arith;
  clock = (omega arith, omega arith);
  in_time = λ h. h;
  opened = refl;
}
