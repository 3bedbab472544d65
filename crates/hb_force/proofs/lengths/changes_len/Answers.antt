use Rattle.std.proofs.Common.{◌≡◌, ◌+◌, length, get_or, ◌∙◌, ap, arith}
use Rattle.hb_types.specs.declared.change.Change.{Change}
use Rattle.hb_types.specs.Records.{change_bytes}
use Rattle.hb_force.proofs.Measuring.{long_more, long_front}
use Rattle.hb_force.proofs.lengths.changes_len.Goals as goal

pub returns-then-more-len : goal.returns-then-more-len
returns-then-more-len c =
    let xs = c.args.changes.now in
    let i = c.loop-change.change-index in
    let x = c.change-item.result in
    let more = long_more xs i x c.loop-change-test.true in
    let front = long_front xs (i + 1) in
    let size : c.change_len-more.result ≡ length (change_bytes (get_or xs i x)) = c.change_len-more.ensures ∙ ap (λ (y : Change). length (change_bytes y)) c.change-item.is in
    let so_far = c.loop-change.invariant.0 in
    let short = c.loop-change.invariant.1 in
    let test = c.if-more-len.true in
    omega (arith, more, front, size, so_far, short, test)

pub loop-change-preserved : goal.loop-change-preserved
loop-change-preserved c =
    let xs = c.args.changes.now in
    let i = c.loop-change.change-index in
    let x = c.change-item.result in
    let more = long_more xs i x c.loop-change-test.true in
    let size : c.change_len-more.result ≡ length (change_bytes (get_or xs i x)) = c.change_len-more.ensures ∙ ap (λ (y : Change). length (change_bytes y)) c.change-item.is in
    let so_far = c.loop-change.invariant.0 in
    let short = c.loop-change.invariant.1 in
    let test = c.if-more-len.false in
    (omega (arith, more, size, so_far), omega (arith, short, test))
