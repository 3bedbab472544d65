use Rattle.std.proofs.Common.{◌≡◌, ◌∙◌, ap, sym, arith, get_or, ℕ, if◌then◌else◌}
use Rattle.hb_types.specs.declared.change.Change.{Change}
use Rattle.hb_types.specs.Places.{same_place}
use Rattle.hb_whole.proofs.Counts.{count_more}
use Rattle.hb_whole.proofs.rooms.make_room.Goals as goal

pub loop-at-preserved : goal.loop-at-preserved
loop-at-preserved c =
    let item = c.index-changes-at.result in (
      omega (arith, c.loop-at-test.true),
      λ q. let more = count_more q c.args.changes.now c.loop-at.at item c.loop-at-test.true (sym c.index-changes-at.is) in
          let same : ◌≡◌ {A = ℕ} (if same_place q item.place then 1 else 0) (if same_place q (get_or c.args.changes.now c.loop-at.at item).place then 1 else 0) = ap (λ (d : Change). if same_place q d.place then 1 else 0) c.index-changes-at.is in
          omega (arith, c.loop-at.invariant.1 q, c.in-Ok.ensures.added q, more, same),
      c.add_room.ensures.rows ∙ c.loop-at.invariant.2,
      c.add_room.ensures.sound,
    )
