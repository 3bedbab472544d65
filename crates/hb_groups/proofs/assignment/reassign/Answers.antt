use Rattle.std.proofs.Common.{rules, ◌≡◌, ◌≤◌, List, get_or, set, unwrap_or, ap, sym, subst, ◌∙◌, arith, length-set, count_by}
use Rattle.std.specs.List.{AllZip}
use Rattle.hb_types.specs.declared.entry.Entry.{Entry}
use Rattle.hb_types.specs.declared.entry.Entry.TheVariants.{At}
use Rattle.hb_types.specs.Groups.{entry_after, target, position_of, reassign, is_moving}
use Rattle.hb_groups.specs.Counts.{StaysOrMoves, count_at, IsPlaced}
use Rattle.hb_groups.proofs.Folding.{set-map_from, get_or-map_from, map_from-all, AllZip-map_from}
use Rattle.hb_groups.proofs.Counting.{stays_or_moves}
use Rattle.hb_groups.proofs.Seeing.{seen_more, seen_below, made_here}
use Rattle.hb_groups.proofs.Reassigned.{kept_at, count-moving}
use Rattle.hb_groups.proofs.assignment.reassign.Goals as goal

-- the entry that the walk reads is the one from before
entry_is : (c : goal.After-reassigned) → get_or c.loop-entry.entries c.loop-entry.entry-index (At 0) ≡ get_or c.args.entries.now c.loop-entry.entry-index (At 0)
entry_is c =
    ap (λ es. get_or es c.loop-entry.entry-index (At 0)) c.loop-entry.invariant.entries
    ∙ get_or-map_from (entry_after c.args.entries.now c.args.areas.now c.args.added) 0 c.args.entries.now c.loop-entry.entry-index (At 0) c.loop-entry-test.true

-- and the place in the list is that of its area
place_is : (c : goal.After-reassigned) → c.unwrap_or-position.result ≡ position_of c.args.areas.now (target (get_or c.args.entries.now c.loop-entry.entry-index (At 0)))
place_is c =
    c.unwrap_or-position.ensures ∙ ap (λ o. unwrap_or o 0) c.find.ensures
    ∙ ap (position_of c.args.areas.now) (c.target-area.ensures ∙ ap target (entry_is c))

placed_here : (c : goal.After-reassigned) → IsPlaced c.args.areas.now (get_or c.args.entries.now c.loop-entry.entry-index (At 0))
placed_here c = c.requires.placed c.loop-entry.entry-index (At 0) c.loop-entry-test.true

pub overflow_add-seen : goal.overflow_add-seen
overflow_add-seen c =
    let low : get_or c.loop-entry.seen c.unwrap_or-position.result 0 ≤ 1024 =
    omega (arith, seen_below c.args.areas.now c.loop-entry.seen c.args.entries.now c.loop-entry.entry-index c.unwrap_or-position.result (At 0) (placed_here c) (place_is c) c.loop-entry.invariant.seen) in
    search rules

pub loop-entry-preserved : goal.loop-entry-preserved
loop-entry-preserved c =
    let old = c.args.entries.now in
    let i = c.loop-entry.entry-index in
    let made = made_here c.args.areas.now c.loop-entry.seen old i c.unwrap_or-position.result c.quota-kept.result c.args.added (At 0)
    (get_or c.loop-entry.entries i (At 0)) c.reassigned.result (placed_here c) (place_is c) c.loop-entry.invariant.seen c.quota-kept.ensures (entry_is c) c.reassigned.ensures in
    let f = entry_after old c.args.areas.now c.args.added in
    record {
      room = length-set c.loop-entry.seen c.unwrap_or-position.result _ ∙ c.loop-entry.invariant.room;
      entries = ap (λ es. set es i c.reassigned.result) c.loop-entry.invariant.entries
          ∙ set-map_from f 0 old i (At 0) c.reassigned.result c.loop-entry-test.true (made ∙ ap (λ k. f k (get_or old i (At 0))) (omega arith));
      seen = seen_more c.args.areas.now c.loop-entry.seen old i c.unwrap_or-position.result (At 0) c.requires.distinct c.loop-entry-test.true
          (omega (arith, c.requires.few)) (placed_here c) (place_is c) c.loop-entry.invariant.seen;
    }

entries_are : (c : goal.After-loop-entry) → c.loop-entry.entries ≡ reassign c.args.entries.now c.args.areas.now c.args.added
entries_are c =
    c.loop-entry.invariant.entries
    ∙ map_from-all (entry_after c.args.entries.now c.args.areas.now c.args.added) 0 c.args.entries.now c.loop-entry.entry-index c.loop-entry-test.false

pub returns-clause-change : goal.returns-clause-change
returns-clause-change c =
    let P : List Entry → Type 0 = AllZip (StaysOrMoves c.args.added) c.args.entries.now in
    subst P (sym (entries_are c))
    (AllZip-map_from (StaysOrMoves c.args.added) (entry_after c.args.entries.now c.args.areas.now c.args.added) (λ n x. stays_or_moves _ _ c.args.added x) 0 c.args.entries.now)

pub returns-clause-kept : goal.returns-clause-kept
returns-clause-kept c = λ i l.
    ap (λ es. count_at es (get_or c.args.areas.now i 0)) (entries_are c)
    ∙ kept_at c.args.entries.now c.args.areas.now c.args.added i c.requires.distinct l (c.requires.enough i l)

pub returns-clause-moved : goal.returns-clause-moved
returns-clause-moved c =
    ap (count_by is_moving) (entries_are c)
    ∙ count-moving c.args.entries.now c.args.areas.now c.args.added c.requires.distinct c.requires.few c.requires.full c.requires.placed c.requires.enough
