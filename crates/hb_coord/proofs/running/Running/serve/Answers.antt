use Rattle.std.proofs.Common.{refl, arith}
use Rattle.hb_coord.proofs.Maps.{there_or_not}
use Rattle.hb_coord.proofs.Counting.{nothing_ended}
use Rattle.hb_coord.proofs.Turning.{between_none, ended_turn, not_mine, stays}
use Rattle.hb_coord.proofs.running.Running.serve.Goals as goal

pub returns-in-Begin-clause-turns : goal.returns-in-Begin-clause-turns
returns-in-Begin-clause-turns g c = rw c.in-Begin.is c.begin.ensures.turns

pub returns-in-Decide-clause-turns : goal.returns-in-Decide-clause-turns
returns-in-Decide-clause-turns g c = rw (c.in-Decide.is, ← c.as_slice.ensures) c.decide.ensures.turns

pub returns-in-Abort-clause-turns : goal.returns-in-Abort-clause-turns
returns-in-Abort-clause-turns g c = rw c.in-Abort.is (λ k up.
    ended_turn g.D.Disk.content g.D.Disk.left g.D.Disk.last k c.args.self.now c.args.clock.now up c.in-Abort.tx _ c.args.clock.now (omega arith) refl (there_or_not c.in-Abort.tx.0 k.active) (c.end.ensures.ended k up.reflects))

pub returns-in-Abort-clause-leaves : goal.returns-in-Abort-clause-leaves
returns-in-Abort-clause-leaves g c = λ k up.
    between_none g.D.Disk.content g.D.Disk.left g.D.Disk.last k c.args.self.now c.args.clock.now up c.args.request.now (g.met.D.Disk.stands c.args.self.now.log.disk)

pub returns-in-Outcome-clause-leaves : goal.returns-in-Outcome-clause-leaves
returns-in-Outcome-clause-leaves g c = λ k up.
    between_none g.D.Disk.content g.D.Disk.left g.D.Disk.last k c.args.self.now c.args.clock.now up c.args.request.now (g.met.D.Disk.stands c.args.self.now.log.disk)

pub returns-in-Start-clause-leaves : goal.returns-in-Start-clause-leaves
returns-in-Start-clause-leaves g c = λ k up.
    between_none g.D.Disk.content g.D.Disk.left g.D.Disk.last k c.args.self.now c.args.clock.now up c.args.request.now (g.met.D.Disk.stands c.args.self.now.log.disk)

pub returns-in_default : goal.returns-in_default
returns-in_default g c = record {
  turns = λ k up.
      not_mine g.D.Disk.content g.D.Disk.left g.D.Disk.last k c.args.self.now c.args.clock.now up c.args.request.now _ c.args.clock.now c.in_default.not-Begin c.in_default.not-Decide c.in_default.not-Abort c.in_default.not-Outcome c.in_default.not-Start c.requires.no_stop
      (stays g.D.Disk.content g.D.Disk.left g.D.Disk.last k c.args.self.now c.args.clock.now up _ c.args.clock.now (omega arith) refl up.reflects);
  faulted = tt;
  leaves = λ k up. between_none g.D.Disk.content g.D.Disk.left g.D.Disk.last k c.args.self.now c.args.clock.now up c.args.request.now (g.met.D.Disk.stands c.args.self.now.log.disk);
  quiet = refl;
  memory = λ none is. cc;
  own = tt;
  none = λ e. refl;
  count = nothing_ended c.args.self.now.ledger c.args.request.now c.in_default.not-Abort;
  is_open = c.requires.is_open;
  told = refl;
  clock = (omega arith, omega arith);
  no_calls = λ e. refl;
  in_time = λ h. h;
  cause = record { later = omega arith; failed = tt };
}
