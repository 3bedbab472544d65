use Rattle.std.proofs.Common.{◌∙◌, sym, refl, arith}
use Rattle.hb_whole.specs.Slots.{room_at}
use Rattle.hb_whole.proofs.Counts.{count_more, room_left}
use Rattle.hb_whole.proofs.rooms.give_back.Goals as goal

pub take_room-requires-clause-there : goal.take_room-requires-clause-there
take_room-requires-clause-there c =
    let item = c.change-item.result in
    room_left item.place c.args.changes.now c.loop-change.change-index (room_at c.args.map.now.entries item.place) (room_at c.loop-change.map.entries item.place) item c.loop-change-test.true (sym c.change-item.is) refl
    (c.loop-change.invariant.0 item.place) (c.requires.there item.place)

pub loop-change-preserved : goal.loop-change-preserved
loop-change-preserved c =
    let item = c.change-item.result in (
      λ q. let more = count_more q c.args.changes.now c.loop-change.change-index item c.loop-change-test.true (sym c.change-item.is) in omega (arith, c.loop-change.invariant.0 q, c.take_room.ensures.room q, more),
      c.take_room.ensures.rows ∙ c.loop-change.invariant.1,
      c.take_room.ensures.sound,
    )
