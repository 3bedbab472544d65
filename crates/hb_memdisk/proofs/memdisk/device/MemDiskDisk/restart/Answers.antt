use Rattle.std.proofs.Common.{◌≡◌, ◌∙◌, ◌∷◌, sym, ap, subst, reverse, rules}
use Rattle.hb_memdisk.specs.declared.call.Call.TheVariants.{Restart}
use Rattle.hb_memdisk.specs.CallLaws.{images_leaves, settles_to}
use Rattle.hb_memdisk.specs.MemDisk.{calls_of, content_of, left_of, next_pick, picked, picked_may}
use Rattle.hb_memdisk.proofs.memdisk.device.MemDiskDisk.restart.Goals as goal

pub returns-clause-reads : goal.returns-clause-reads
returns-clause-reads c =
    let disk = c.args.self.now in
    let is : content_of c.leave_picked.new.self ≡ picked (next_pick disk) disk = search rules in
    subst (left_of disk disk.last) (sym is) (images_leaves disk.first (calls_of disk) disk.last _ disk.in_time (picked_may disk (next_pick disk)))

pub returns-clause-stop : goal.returns-clause-stop
returns-clause-stop c =
    let begun = c.begin.ensures in
    let disk = c.args.self.now in
    let older : calls_of c.begin.new.self ≡ calls_of disk = ap (λ v. reverse v.items) begun.calls in
    let noted : calls_of c.leave_picked.new.self ≡ record { at = c.tick.new.self; call = Restart (picked (next_pick disk) disk) } ∷ calls_of disk = search (rules, older) in
    settles_to disk.first _ (calls_of disk) _ (record { at = c.tick.new.self; call = Restart (picked (next_pick disk) disk) }) _ _ (c.leave_picked.ensures.counts.first ∙ begun.first) noted disk.in_time
    (picked_may disk (next_pick disk)) (λ other is. is)
