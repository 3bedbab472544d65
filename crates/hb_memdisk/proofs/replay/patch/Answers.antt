use Rattle.std.proofs.Common.{◌+◌, ◌++◌, length, take, drop, ◌∙◌, ap, rules}
use Rattle.hb_memdisk.proofs.Patching.{patch_in_place, written_back}
use Rattle.hb_memdisk.proofs.replay.patch.Goals as goal

pub returns-clause-ok : goal.returns-clause-ok
returns-clause-ok c =
    let longer = c.as_mut_slice.ensures.value ∙ c.in_ok-lengthen.ensures.ok in
    written_back _ c.overwrite.new.image c.lengthen.new.image.items (search rules) (search rules)
    ∙ c.overwrite.ensures
    ∙ ap (λ l. take c.args.at l ++ c.args.bytes.now ++ drop (c.args.at + length c.args.bytes.now) l) longer
    ∙ patch_in_place c.args.gap c.args.at c.in-Some.end c.args.bytes.now c.args.image.now.items (search rules)
