use Rattle.std.proofs.Common.{◌≡◌, ◌∙◌, ◌∷◌, ap, reverse, rules}
use Rattle.hb_memdisk.specs.declared.call.Call.TheVariants.{Settle}
use Rattle.hb_memdisk.specs.CallLaws.{reads_may, settles_to}
use Rattle.hb_memdisk.specs.MemDisk.{calls_of}
use Rattle.hb_memdisk.proofs.memdisk.device.MemDiskDisk.sync.Goals as goal

pub returns-clause-stop : goal.returns-clause-stop
returns-clause-stop c =
    let begun = c.begin.ensures in
    let disk = c.args.self.now in
    let older : calls_of c.begin.new.self ≡ calls_of disk = ap (λ v. reverse v.items) begun.calls in
    let noted : calls_of c.settle.new.self ≡ record { at = c.tick.new.self; call = Settle } ∷ calls_of disk = search (rules, older) in
    settles_to disk.first _ (calls_of disk) _ (record { at = c.tick.new.self; call = Settle }) _ _ (c.settle.ensures.counts.first ∙ begun.first) noted disk.in_time
    (reads_may disk.first (calls_of disk)) (λ other is. is)
