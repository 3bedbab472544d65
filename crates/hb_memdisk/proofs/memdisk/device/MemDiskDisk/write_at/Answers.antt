use Rattle.std.proofs.Common.{◌≡◌, ◌∙◌, ap, length, reverse, rules}
use Rattle.hb_edge.specs.ImageLaws.{torn_undone}
use Rattle.hb_memdisk.specs.CallLaws.{none_more_to}
use Rattle.hb_memdisk.specs.MemDisk.{calls_of}
use Rattle.hb_memdisk.proofs.memdisk.device.MemDiskDisk.write_at.Goals as goal

pub returns-then-is_err-clause-stop : goal.returns-then-is_err-clause-stop
returns-then-is_err-clause-stop c =
    let begun = c.begin-listed.ensures in
    let same : calls_of c.write.new.self ≡ calls_of c.begin-listed.new.self = search rules in
    none_more_to _ _ _ _ _ _ _ (c.write.ensures.counts.first ∙ begun.first) (same ∙ ap (λ v. reverse v.items) begun.calls) c.args.self.now.in_time (torn_undone c.args.at (length c.args.bytes.now))
