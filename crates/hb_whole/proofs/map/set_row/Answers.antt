use Rattle.std.proofs.Common.{Some, None, refl, subst, ap, Option, arith}
use Rattle.std.specs.Prelude.{IsSome}
use Rattle.hb_whole.specs.declared.map.Slot.{Slot}
use Rattle.hb_whole.specs.Slots.{room_in}
use Rattle.hb_whole.proofs.SlotRows.{found_room, found_slot, room_kept, rows_put, sound_changed}
use Rattle.hb_whole.proofs.map.set_row.Goals as goal

pub returns-in-Some-clause-rows : goal.returns-in-Some-clause-rows
returns-in-Some-clause-rows c =
    let old = c.args.map.now.entries in
    let w : Slot = record { row = c.args.row; room = c.in-Some.slot.now.room } in
    let updates = (c.get_mut.follows.holds w).3 (subst (λ (o : Option Slot). IsSome o) c.in-Some.ensures.value refl) in
    rows_put old (c.get_mut.follows.lender w).entries c.args.place (Some w) c.get_mut.ensures.ordered (c.get_mut.follows.holds w).4 updates.0

pub returns-in-Some-clause-room : goal.returns-in-Some-clause-room
returns-in-Some-clause-room c =
    let old = c.args.map.now.entries in
    let w : Slot = record { row = c.args.row; room = c.in-Some.slot.now.room } in
    let updates = (c.get_mut.follows.holds w).3 (subst (λ (o : Option Slot). IsSome o) c.in-Some.ensures.value refl) in
    room_kept old (c.get_mut.follows.lender w).entries c.args.place (Some w) updates.0 (ap room_in c.in-Some.ensures.value)

pub returns-in-Some-clause-sound : goal.returns-in-Some-clause-sound
returns-in-Some-clause-sound c =
    let old = c.args.map.now.entries in
    let w : Slot = record { row = c.args.row; room = c.in-Some.slot.now.room } in
    let updates = (c.get_mut.follows.holds w).3 (subst (λ (o : Option Slot). IsSome o) c.in-Some.ensures.value refl) in
    let was = found_slot old c.args.place c.in-Some.slot.now c.in-Some.ensures.value c.requires.sound in
    sound_changed old (c.get_mut.follows.lender w).entries c.args.place (Some w) updates.0 c.requires.sound (was.0, c.requires.fits)

pub returns-in_default-clause-rows : goal.returns-in_default-clause-rows
returns-in_default-clause-rows c =
    let r = found_room c.args.map.now.entries c.args.place None c.in_default.ensures.value in
    absurd (omega (arith, r, c.requires.there))
