use Rattle.std.proofs.Common.{◌≡◌, ◌++◌, ◌≤◌, length}
use Rattle.std.specs.BTreeMap.Range.{entries_between}
use Rattle.std.specs.declared.ops.Bound.TheVariants.{Included}
use Rattle.hb_types.specs.declared.places.Path.TheVariants.{Group}
use Rattle.hb_store.specs.Meanings.{keys_of}
use Rattle.hb_whole.specs.Ranges.{first_under, last_under}
use Rattle.hb_whole.specs.Slots.{rows_of}
use Rattle.hb_whole.proofs.Keys.{order}
use Rattle.hb_whole.proofs.listing.keys_in.Given as goal

-- the keys so far and those of what is left are all, and those so far are no more than asked for
abbrev pub invariant-loop-place : goal.invariant-loop-place
invariant-loop-place l = (length l.keys ≤ l.most)
    × (l.keys ++ keys_of (rows_of l.place-iterator) ≡ keys_of (rows_of (entries_between order (Included (first_under (Group l.fn.space l.group))) (Included (last_under (Group l.fn.space l.group))) l.map.entries)))
