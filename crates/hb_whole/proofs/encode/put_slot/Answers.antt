use Rattle.std.proofs.Common.{◌∙◌, ◌++◌, ap, sym, List, ℕ}
use Rattle.hb_types.specs.Records.{change_bytes}
use Rattle.hb_disks.specs.WholeImage.{as_change}
use Rattle.hb_whole.proofs.Encoded.{one_row}
use Rattle.hb_whole.proofs.encode.put_slot.Goals as goal

pub returns-in_ok-put_row : goal.returns-in_ok-put_row
returns-in_ok-put_row c =
    c.in_ok-put_row.ensures ∙ ap (λ (b : List ℕ). c.args.out.now.items ++ b)
    (ap (λ (r : List ℕ). change_bytes (as_change (record { place = c.args.place; row = r }))) c.as_slice.ensures ∙ sym (one_row c.args.place c.args.slot.now _ c.in-Some.is))
