use Rattle.std.proofs.Common.{◌∙◌, arith, length-set, refl}
use Rattle.std.proofs.lemmas.List.Elements.{AllWithin-more_set}
use Rattle.hb_system.specs.Disks.{IsSettled}
use Rattle.hb_system.proofs.Zips.{fault_here, kept_same, kept_step, on_err, settled_now}
use Rattle.hb_system.proofs.disks.sync_all.Goals as goal

pub loop-i-init : goal.loop-i-init
loop-i-init g c = record {
  kept = kept_same g.D.Disk.content g.D.Disk.last g.D.Disk.faults _ _;
  settled = λ k d low lt. absurd (omega (arith, lt));
  long = refl;
}

pub returns-in_err-sync-clause-kept : goal.returns-in_err-sync-clause-kept
returns-in_err-sync-clause-kept g c =
    kept_step g.D.Disk.content g.D.Disk.last g.D.Disk.faults _ c.loop-i.clock _ _ c.loop-i.disks c.loop-i.i c.sync.new.self _ c.loop-i.invariant.kept (omega arith) c.sync.ensures.content c.sync.ensures.cause.later
    (omega (arith, c.sync.ensures.clock)) (λ le. omega (arith, le, c.sync.ensures.clock, c.sync.ensures.last))

pub returns-in_err-sync-clause-failed : goal.returns-in_err-sync-clause-failed
returns-in_err-sync-clause-failed g c =
    on_err c.from_residual.result
    (fault_here g.D.Disk.content g.D.Disk.last g.D.Disk.faults _ _ _ c.loop-i.disks c.loop-i.i c.sync.new.self _ c.loop-i.invariant.kept (omega arith) c.loop-i.invariant.long c.in_err-sync.ensures.cause.failed)

pub loop-i-preserved : goal.loop-i-preserved
loop-i-preserved g c = record {
  kept =
      kept_step g.D.Disk.content g.D.Disk.last g.D.Disk.faults _ c.loop-i.clock _ _ c.loop-i.disks c.loop-i.i c.sync.new.self _ c.loop-i.invariant.kept (omega arith) c.sync.ensures.content c.sync.ensures.cause.later
      (omega (arith, c.sync.ensures.clock)) (λ le. omega (arith, le, c.sync.ensures.clock, c.sync.ensures.last));
  settled = AllWithin-more_set c.loop-i.disks c.loop-i.i c.sync.new.self (omega arith) (IsSettled g.D.Disk.content g.D.Disk.left g.D.Disk.last) c.loop-i.invariant.settled
      (settled_now _ _ _ _ _ c.sync.ensures.content c.sync.ensures.last c.in_ok-sync.ensures.kept);
  long = length-set _ _ _ ∙ c.loop-i.invariant.long;
}

pub returns-clause-settled : goal.returns-clause-settled
returns-clause-settled g c = λ k d lt. c.loop-i.invariant.settled k d (omega arith) (omega arith)
