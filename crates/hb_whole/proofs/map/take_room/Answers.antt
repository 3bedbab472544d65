use Rattle.std.proofs.Common.{◌+◌, None, sym, ◌∙◌, ap, if◌then◌else◌}
use Rattle.hb_types.specs.Places.{same_place}
use Rattle.hb_whole.specs.Slots.{room_in, row_in}
use Rattle.hb_whole.proofs.Keys.{slot_is}
use Rattle.hb_whole.proofs.SlotRows.{room_kept, rows_kept, sound_changed}
use Rattle.hb_whole.proofs.map.take_room.Goals as goal

pub returns-then-lower-clause-rows : goal.returns-then-lower-clause-rows
returns-then-lower-clause-rows c =
    let mid = c.lower.new.map.entries in
    rows_kept mid c.remove.new.self.entries c.args.place None c.lower.ensures.ordered c.remove.ensures.ordered c.remove.ensures.updates.0
    (sym (ap row_in (slot_is mid c.args.place) ∙ (c.lower.ensures.nothing c.if-lower.true).0)) ∙ c.lower.ensures.rows

pub returns-then-lower-clause-room : goal.returns-then-lower-clause-room
returns-then-lower-clause-room c =
    let mid = c.lower.new.map.entries in
    λ q. c.lower.ensures.room q ∙ ap (λ n. n + (if same_place q c.args.place then 1 else 0))
    (sym (room_kept mid c.remove.new.self.entries c.args.place None c.remove.ensures.updates.0
    (sym (ap room_in (slot_is mid c.args.place) ∙ (c.lower.ensures.nothing c.if-lower.true).1)) q))

pub returns-then-lower-clause-sound : goal.returns-then-lower-clause-sound
returns-then-lower-clause-sound c =
    sound_changed c.lower.new.map.entries c.remove.new.self.entries c.args.place None c.remove.ensures.updates.0 c.lower.ensures.sound tt
