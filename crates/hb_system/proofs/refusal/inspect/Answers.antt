use Rattle.std.proofs.Common.{rules}
use Rattle.hb_system.proofs.Zips.{fault_behind, kept_on, kept_same}
use Rattle.hb_system.proofs.refusal.inspect.Goals as goal

pub returns-then-not-are_disks-clause-kept : goal.returns-then-not-are_disks-clause-kept
returns-then-not-are_disks-clause-kept g c = kept_same g.D.Disk.content g.D.Disk.last g.D.Disk.faults _ _

pub returns-in-Ok-None-clause-kept : goal.returns-in-Ok-None-clause-kept
returns-in-Ok-None-clause-kept g c = kept_on g.D.Disk.content g.D.Disk.last g.D.Disk.faults _ _ _ _ _ _ c.sync_all.ensures.kept c.first_written.ensures.kept

pub returns-in-Ok-Some-clause-kept : goal.returns-in-Ok-Some-clause-kept
returns-in-Ok-Some-clause-kept g c = kept_on g.D.Disk.content g.D.Disk.last g.D.Disk.faults _ _ _ _ _ _ c.sync_all.ensures.kept c.first_written.ensures.kept

pub returns-in-Err-first_written-clause-kept : goal.returns-in-Err-first_written-clause-kept
returns-in-Err-first_written-clause-kept g c = kept_on g.D.Disk.content g.D.Disk.last g.D.Disk.faults _ _ _ _ _ _ c.sync_all.ensures.kept c.first_written.ensures.kept

pub returns-in-Err-first_written-clause-found : goal.returns-in-Err-first_written-clause-found
returns-in-Err-first_written-clause-found g c =
    (search rules, fault_behind g.D.Disk.content g.D.Disk.last g.D.Disk.faults c.args.disks.now c.sync_all.new.disks c.first_written.new.disks c.sync_all.ensures.kept.each c.in-Err-first_written.ensures.failed)
