use Rattle.std.proofs.Common.{◌<◌, ◌∙◌, length, refl, subst, sym, length-set, arith}
use Rattle.std.proofs.lemmas.List.Elements.{All-set, AllWithin-more_set}
use Rattle.hb_system.specs.Disks.{IsEmpty, IsSettled, IsWritten}
use Rattle.hb_system.proofs.Zips.{empty_by, fault_here, got_set, kept_same, kept_step, on_err, settled_still, within_kept, written_by}
use Rattle.hb_system.proofs.disks.first_written.Goals as goal

pub loop-i-init : goal.loop-i-init
loop-i-init g c = record {
  kept = kept_same g.D.Disk.content g.D.Disk.last g.D.Disk.faults _ _;
  settled = λ all. all;
  empty = λ k d low lt. absurd (omega (arith, lt));
  long = refl;
}

pub loop-i-preserved : goal.loop-i-preserved
loop-i-preserved g c = record {
  kept =
      kept_step g.D.Disk.content g.D.Disk.last g.D.Disk.faults _ c.loop-i.clock _ _ c.loop-i.disks c.loop-i.i c.length.new.self _ c.loop-i.invariant.kept (omega arith) c.length.ensures.content c.length.ensures.cause.later
      (omega (arith, c.length.ensures.clock)) (λ le. omega (arith, le, c.length.ensures.clock, c.length.ensures.last));
  settled = λ all. All-set (IsSettled g.D.Disk.content g.D.Disk.left g.D.Disk.last) c.loop-i.disks c.loop-i.i c.length.new.self
      (settled_still _ _ _ _ _ _ _ c.length.ensures.content c.length.ensures.last c.length.ensures.stop (c.loop-i.invariant.settled all c.loop-i.i _ (omega arith))) (c.loop-i.invariant.settled all);
  empty = AllWithin-more_set c.loop-i.disks c.loop-i.i c.length.new.self (omega arith) (IsEmpty g.D.Disk.content) c.loop-i.invariant.empty
      (empty_by _ _ _ c.length.ensures.content c.if-branch-gt0.false c.in_ok-length.ensures.length);
  long = length-set _ _ _ ∙ c.loop-i.invariant.long;
}

pub returns-then-branch-gt0-clause-found : goal.returns-then-branch-gt0-clause-found
returns-then-branch-gt0-clause-found g c =
    let within : c.loop-i.i < length c.loop-i.disks = omega arith in (
      subst (λ n. c.loop-i.i < n) (sym (length-set c.loop-i.disks c.loop-i.i c.length.new.self)) within,
      λ d. subst (IsWritten g.D.Disk.content) (sym (got_set c.loop-i.disks c.loop-i.i c.length.new.self d within)) (written_by _ _ _ c.length.ensures.content c.if-branch-gt0.true c.in_ok-length.ensures.length),
      within_kept (IsEmpty g.D.Disk.content) c.loop-i.disks c.loop-i.i c.length.new.self c.loop-i.invariant.empty,
    )

pub returns-in_err-length-clause-failed : goal.returns-in_err-length-clause-failed
returns-in_err-length-clause-failed g c =
    on_err c.from_residual.result
    (fault_here g.D.Disk.content g.D.Disk.last g.D.Disk.faults _ _ _ c.loop-i.disks c.loop-i.i c.length.new.self _ c.loop-i.invariant.kept (omega arith) c.loop-i.invariant.long c.in_err-length.ensures.cause.failed)

pub returns-in_err-length-clause-kept : goal.returns-in_err-length-clause-kept
returns-in_err-length-clause-kept g c =
    kept_step g.D.Disk.content g.D.Disk.last g.D.Disk.faults _ c.loop-i.clock _ _ c.loop-i.disks c.loop-i.i c.length.new.self _ c.loop-i.invariant.kept (omega arith) c.length.ensures.content c.length.ensures.cause.later
    (omega (arith, c.length.ensures.clock)) (λ le. omega (arith, le, c.length.ensures.clock, c.length.ensures.last))

pub returns-in_err-length-clause-settled : goal.returns-in_err-length-clause-settled
returns-in_err-length-clause-settled g c = λ all. All-set (IsSettled g.D.Disk.content g.D.Disk.left g.D.Disk.last) c.loop-i.disks c.loop-i.i c.length.new.self
    (settled_still _ _ _ _ _ _ _ c.length.ensures.content c.length.ensures.last c.length.ensures.stop (c.loop-i.invariant.settled all c.loop-i.i _ (omega arith))) (c.loop-i.invariant.settled all)

pub returns-then-branch-gt0-clause-kept : goal.returns-then-branch-gt0-clause-kept
returns-then-branch-gt0-clause-kept g c =
    kept_step g.D.Disk.content g.D.Disk.last g.D.Disk.faults _ c.loop-i.clock _ _ c.loop-i.disks c.loop-i.i c.length.new.self _ c.loop-i.invariant.kept (omega arith) c.length.ensures.content c.length.ensures.cause.later
    (omega (arith, c.length.ensures.clock)) (λ le. omega (arith, le, c.length.ensures.clock, c.length.ensures.last))

pub returns-then-branch-gt0-clause-settled : goal.returns-then-branch-gt0-clause-settled
returns-then-branch-gt0-clause-settled g c = λ all. All-set (IsSettled g.D.Disk.content g.D.Disk.left g.D.Disk.last) c.loop-i.disks c.loop-i.i c.length.new.self
    (settled_still _ _ _ _ _ _ _ c.length.ensures.content c.length.ensures.last c.length.ensures.stop (c.loop-i.invariant.settled all c.loop-i.i _ (omega arith))) (c.loop-i.invariant.settled all)

pub returns-clause-found : goal.returns-clause-found
returns-clause-found g c = λ k d lt. c.loop-i.invariant.empty k d (omega arith) (omega arith)
