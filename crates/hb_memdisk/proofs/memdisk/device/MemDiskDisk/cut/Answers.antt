use Rattle.std.proofs.Common.{◌≡◌, ◌∙◌, ap, reverse, rules}
use Rattle.hb_edge.specs.ImageLaws.{cut_undone}
use Rattle.hb_memdisk.specs.CallLaws.{none_more_to}
use Rattle.hb_memdisk.specs.MemDisk.{calls_of}
use Rattle.hb_memdisk.proofs.memdisk.device.MemDiskDisk.cut.Goals as goal

pub returns-then-is_err-clause-stop : goal.returns-then-is_err-clause-stop
returns-then-is_err-clause-stop c =
    let begun = c.begin-listed.ensures in
    let same : calls_of c.shorten.new.self ≡ calls_of c.begin-listed.new.self = search rules in
    none_more_to _ _ _ _ _ _ _ (c.shorten.ensures.counts.first ∙ begun.first) (same ∙ ap (λ v. reverse v.items) begun.calls) c.args.self.now.in_time (cut_undone c.args.length)
