use Rattle.std.proofs.Common.{◌≡◌, length, ◌∙◌, ap, arith}
use Rattle.hb_types.specs.declared.change.LogItem.{LogItem}
use Rattle.hb_types.specs.Records.{body_bytes}
use Rattle.hb_force.proofs.Measuring.{prepare_long, changes_long}
use Rattle.hb_force.proofs.lengths.body_len.Goals.{then-len-gt-LONGEST-via-then-len-gt-LONGEST, then-len-gt-LONGEST-via-else-len-gt-LONGEST+then-len-changes-gt-LONGEST}
use Rattle.hb_force.proofs.lengths.body_len.Goals as goal

pub returns-then-len-gt-LONGEST : goal.returns-then-len-gt-LONGEST
returns-then-len-gt-LONGEST c =
    let long = prepare_long c.in-Prepare.tx c.in-Prepare.floor c.in-Prepare.locks c.in-Prepare.changes in
    let same = ap (λ (i : LogItem). length (body_bytes i)) c.in-Prepare.is in
    let sum : c.in_ok-changes-in-Prepare.changes ≡ changes_long c.in-Prepare.changes = c.in_ok-changes-in-Prepare.ensures.0 ∙ ap changes_long c.as_slice.ensures in
    elim c.then-len-gt-LONGEST.branch [
      | then-len-gt-LONGEST-via-then-len-gt-LONGEST w ↦ let t = w.if-len-gt-LONGEST.true in omega (arith, long, same, c.len.ensures, t)
      | then-len-gt-LONGEST-via-else-len-gt-LONGEST+then-len-changes-gt-LONGEST w ↦ let t = w.if-len-changes-gt-LONGEST.true in let l = w.len-else-len-gt-LONGEST.ensures in omega (arith, long, same, sum, l, t)
    ]

pub returns-else-len-changes-gt-LONGEST : goal.returns-else-len-changes-gt-LONGEST
returns-else-len-changes-gt-LONGEST c =
    let long = prepare_long c.in-Prepare.tx c.in-Prepare.floor c.in-Prepare.locks c.in-Prepare.changes in
    let same = ap (λ (i : LogItem). length (body_bytes i)) c.in-Prepare.is in
    let sum : c.in_ok-changes-in-Prepare.changes ≡ changes_long c.in-Prepare.changes = c.in_ok-changes-in-Prepare.ensures.0 ∙ ap changes_long c.as_slice.ensures in
    let l = c.len-in-Prepare.ensures in
    let t = c.if-len-changes-gt-LONGEST.false in
    let m = c.len-else-len-gt-LONGEST.ensures in
    (omega (arith, long, same, sum, l), omega (arith, t, l, m))
