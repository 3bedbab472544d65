use Rattle.std.proofs.Common.{◌≡◌, length, map, ◌∙◌, ap, arith}
use Rattle.hb_types.specs.Lists.{joined}
use Rattle.hb_types.specs.Records.{body_bytes, change_bytes}
use Rattle.hb_codec.proofs.PrepareGrammar.{short_of, prepare_long}
use Rattle.hb_codec.proofs.writing.body_len.Goals as goal

pub changes_len-requires : goal.changes_len-requires
changes_len-requires c =
    let s = short_of c.args.item.now c.in-Prepare.tx c.in-Prepare.floor c.in-Prepare.locks c.in-Prepare.changes c.requires c.in-Prepare.is in
    let same = ap (λ l. length (joined (map change_bytes l))) c.as_slice.ensures in
    omega (arith, s.bytes, same)

pub overflow_mul-result : goal.overflow_mul-result
overflow_mul-result c =
    let s = short_of c.args.item.now c.in-Prepare.tx c.in-Prepare.floor c.in-Prepare.locks c.in-Prepare.changes c.requires c.in-Prepare.is in
    omega (arith, s.few_locks, c.len.ensures)

pub overflow_add-result : goal.overflow_add-result
overflow_add-result c =
    let s = short_of c.args.item.now c.in-Prepare.tx c.in-Prepare.floor c.in-Prepare.locks c.in-Prepare.changes c.requires c.in-Prepare.is in
    omega (arith, s.few_locks, c.len.ensures)

pub overflow_add-result-in-Prepare : goal.overflow_add-result-in-Prepare
overflow_add-result-in-Prepare c =
    let s = short_of c.args.item.now c.in-Prepare.tx c.in-Prepare.floor c.in-Prepare.locks c.in-Prepare.changes c.requires c.in-Prepare.is in
    let total : c.changes_len.result ≡ length (joined (map change_bytes c.in-Prepare.changes)) = c.changes_len.ensures ∙ ap (λ l. length (joined (map change_bytes l))) c.as_slice.ensures in
    omega (arith, s.few_locks, s.bytes, c.len.ensures, total)

pub returns-in-Prepare : goal.returns-in-Prepare
returns-in-Prepare c =
    let long = prepare_long c.in-Prepare.tx c.in-Prepare.floor c.in-Prepare.locks c.in-Prepare.changes in
    let total : c.changes_len.result ≡ length (joined (map change_bytes c.in-Prepare.changes)) = c.changes_len.ensures ∙ ap (λ l. length (joined (map change_bytes l))) c.as_slice.ensures in
    let same = ap (λ i. length (body_bytes i)) c.in-Prepare.is in
    omega (arith, long, total, c.len.ensures, same)
