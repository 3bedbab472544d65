use Rattle.std.proofs.Common.{◌+◌, Some, None, refl, subst, ◌∙◌, ap, Option}
use Rattle.std.specs.Prelude.{IsSome}
use Rattle.hb_whole.specs.declared.map.Slot.{Slot}
use Rattle.hb_whole.specs.Slots.{Entries, room_in, row_in}
use Rattle.hb_whole.proofs.SlotRows.{Changed, found_slot, room_raised, room_kept, rows_kept, sound_changed}
use Rattle.hb_whole.proofs.map.add_room.Goals as goal

pub returns-in-Some-checked_add-clause-added : goal.returns-in-Some-checked_add-clause-added
returns-in-Some-checked_add-clause-added c =
    let old = c.args.map.now.entries in
    let w : Slot = record { row = c.in-Some.slot.now.row; room = c.in-Some-checked_add.room } in
    let updates = (c.get_mut.follows.holds w).3 (subst (λ (o : Option Slot). IsSome o) c.in-Some.ensures.value refl) in
    room_raised old (c.get_mut.follows.lender w).entries c.args.place (Some w) updates.0 (c.in-Some-checked_add.ensures.1 ∙ ap (λ o. room_in o + 1) c.in-Some.ensures.value)

pub returns-in-Some-checked_add-clause-rows : goal.returns-in-Some-checked_add-clause-rows
returns-in-Some-checked_add-clause-rows c =
    let old = c.args.map.now.entries in
    let w : Slot = record { row = c.in-Some.slot.now.row; room = c.in-Some-checked_add.room } in
    let updates = (c.get_mut.follows.holds w).3 (subst (λ (o : Option Slot). IsSome o) c.in-Some.ensures.value refl) in
    rows_kept old (c.get_mut.follows.lender w).entries c.args.place (Some w) c.get_mut.ensures.ordered (c.get_mut.follows.holds w).4 updates.0 (ap row_in c.in-Some.ensures.value)

pub returns-in-Some-checked_add-clause-sound : goal.returns-in-Some-checked_add-clause-sound
returns-in-Some-checked_add-clause-sound c =
    let old = c.args.map.now.entries in
    let w : Slot = record { row = c.in-Some.slot.now.row; room = c.in-Some-checked_add.room } in
    let updates = (c.get_mut.follows.holds w).3 (subst (λ (o : Option Slot). IsSome o) c.in-Some.ensures.value refl) in
    sound_changed old (c.get_mut.follows.lender w).entries c.args.place (Some w) updates.0 c.requires (found_slot old c.args.place c.in-Some.slot.now c.in-Some.ensures.value c.requires)

pub returns-in-None-clause-none : goal.returns-in-None-clause-none
returns-in-None-clause-none c =
    let old = c.args.map.now.entries in
    let w : Slot = c.in-Some.slot.now in
    let updates = (c.get_mut.follows.holds w).3 (subst (λ (o : Option Slot). IsSome o) c.in-Some.ensures.value refl) in
    room_kept old (c.get_mut.follows.lender w).entries c.args.place (Some w) updates.0 (ap room_in c.in-Some.ensures.value)

pub returns-in-None-clause-rows : goal.returns-in-None-clause-rows
returns-in-None-clause-rows c =
    let old = c.args.map.now.entries in
    let w : Slot = c.in-Some.slot.now in
    let updates = (c.get_mut.follows.holds w).3 (subst (λ (o : Option Slot). IsSome o) c.in-Some.ensures.value refl) in
    rows_kept old (c.get_mut.follows.lender w).entries c.args.place (Some w) c.get_mut.ensures.ordered (c.get_mut.follows.holds w).4 updates.0 (ap row_in c.in-Some.ensures.value)

pub returns-in-None-clause-sound : goal.returns-in-None-clause-sound
returns-in-None-clause-sound c =
    let old = c.args.map.now.entries in
    let w : Slot = c.in-Some.slot.now in
    let updates = (c.get_mut.follows.holds w).3 (subst (λ (o : Option Slot). IsSome o) c.in-Some.ensures.value refl) in
    sound_changed old (c.get_mut.follows.lender w).entries c.args.place (Some w) updates.0 c.requires (found_slot old c.args.place c.in-Some.slot.now c.in-Some.ensures.value c.requires)

pub returns-clause-added : goal.returns-clause-added
returns-clause-added c =
    let old = c.args.map.now.entries in
    let w : Slot = record { row = None; room = 1 } in
    let changed = subst (λ (es : Entries). Changed es c.insert.new.self.entries c.args.place (Some w)) (ap (λ m. m.entries) c.get_mut.follows.holds-at-none) c.in_ok-insert.ensures.updates.0 in
    room_raised old c.insert.new.self.entries c.args.place (Some w) changed (ap (λ o. room_in o + 1) c.in_default.ensures.value)

pub returns-clause-rows : goal.returns-clause-rows
returns-clause-rows c =
    let old = c.args.map.now.entries in
    let w : Slot = record { row = None; room = 1 } in
    let changed = subst (λ (es : Entries). Changed es c.insert.new.self.entries c.args.place (Some w)) (ap (λ m. m.entries) c.get_mut.follows.holds-at-none) c.in_ok-insert.ensures.updates.0 in
    rows_kept old c.insert.new.self.entries c.args.place (Some w) c.get_mut.ensures.ordered c.insert.ensures.ordered changed (ap row_in c.in_default.ensures.value)

pub returns-clause-sound : goal.returns-clause-sound
returns-clause-sound c =
    let old = c.args.map.now.entries in
    let w : Slot = record { row = None; room = 1 } in
    let changed = subst (λ (es : Entries). Changed es c.insert.new.self.entries c.args.place (Some w)) (ap (λ m. m.entries) c.get_mut.follows.holds-at-none) c.in_ok-insert.ensures.updates.0 in
    sound_changed old c.insert.new.self.entries c.args.place (Some w) changed c.requires (c.places_are_places.ensures, tt)
