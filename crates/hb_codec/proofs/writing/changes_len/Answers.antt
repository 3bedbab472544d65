use Rattle.std.proofs.Common.{◌≡◌, ◌+◌, ◌≤◌, length, map, take, get_or, ◌∙◌, ap, arith, length-append}
use Rattle.hb_types.specs.Lists.{joined}
use Rattle.hb_types.specs.Records.{change_bytes}
use Rattle.hb_codec.proofs.Joined.{joined_more, front_short}
use Rattle.hb_codec.proofs.writing.changes_len.Goals as goal

pub overflow_add-len : goal.overflow_add-len
overflow_add-len c =
    let xs = c.args.changes.now in
    let i = c.loop-change.change-index in
    let x = c.change-item.result in
    let lt = c.loop-change-test.true in
    let more = ap length (joined_more change_bytes xs i x lt) in
    let short = front_short change_bytes xs (i + 1) in
    let sum = length-append (joined (map change_bytes (take i xs))) (change_bytes (get_or xs i x)) in
    let size : c.size_of-len.result ≡ length (change_bytes (get_or xs i x)) = c.size_of-len.ensures ∙ ap (λ y. length (change_bytes y)) c.change-item.is in
    let so_far : c.loop-change.len ≡ length (joined (map change_bytes (take i xs))) = c.loop-change.invariant in
    let limit : length (joined (map change_bytes xs)) ≤ 8388608 = c.requires in
    omega (arith, more, short, sum, size, so_far, limit)

pub loop-change-preserved : goal.loop-change-preserved
loop-change-preserved c =
    let xs = c.args.changes.now in
    let i = c.loop-change.change-index in
    let x = c.change-item.result in
    let lt = c.loop-change-test.true in
    let more = ap length (joined_more change_bytes xs i x lt) in
    let sum = length-append (joined (map change_bytes (take i xs))) (change_bytes (get_or xs i x)) in
    let size : c.size_of-len.result ≡ length (change_bytes (get_or xs i x)) = c.size_of-len.ensures ∙ ap (λ y. length (change_bytes y)) c.change-item.is in
    let so_far : c.loop-change.len ≡ length (joined (map change_bytes (take i xs))) = c.loop-change.invariant in
    omega (arith, more, sum, size, so_far)
