use Rattle.std.proofs.Common.{◌≡◌, ◌++◌}
use Rattle.std.specs.BTreeMap.Range.{entries_between}
use Rattle.std.specs.declared.ops.Bound.TheVariants.{Included}
use Rattle.hb_whole.specs.Ranges.{first_under, last_under}
use Rattle.hb_whole.specs.Slots.{rows_of}
use Rattle.hb_whole.proofs.Keys.{order}
use Rattle.hb_whole.proofs.listing.rows_in.Given as goal

-- the rows so far and those of what is left are all
abbrev pub invariant-loop-place : goal.invariant-loop-place
invariant-loop-place l = l.rows ++ rows_of l.place-iterator ≡ rows_of (entries_between order (Included (first_under l.fn.path)) (Included (last_under l.fn.path)) l.map.entries)
