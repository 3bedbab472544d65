use Rattle.std.proofs.Common.{◌≡◌, ◌++◌, ◌≤◌, length, map}
use Rattle.std.specs.Prelude.{IfSome}
use Rattle.hb_types.specs.Lists.{Each, joined}
use Rattle.hb_types.specs.Records.{change_bytes}
use Rattle.hb_disks.specs.WholeImage.{as_change, image_bytes}
use Rattle.hb_whole.specs.Slots.{rows_of}
use Rattle.hb_whole.proofs.encode.image.Given as goal

-- the bytes so far and those of what is left are all
abbrev pub invariant-loop-place : goal.invariant-loop-place
invariant-loop-place l = (l.out.items ++ joined (map (λ r. change_bytes (as_change r)) (rows_of l.place-iterator)) ≡ image_bytes (rows_of l.map.entries))
    × Each (λ e. IfSome e.1.row (λ row. length row ≤ 4000)) l.place-iterator
