use Rattle.std.proofs.Common.{◌≡◌, ◌+◌, ◌-◌, Some, None, refl, subst, sym, ◌∙◌, ap, Option, List, arith}
use Rattle.std.specs.Prelude.{IsSome, is_some, false, not, ℕ}
use Rattle.hb_whole.specs.declared.map.Slot.{Slot}
use Rattle.hb_whole.specs.Slots.{room_in, row_in}
use Rattle.hb_whole.proofs.SlotRows.{found_room, found_slot, room_lowered, rows_kept, slot_here, sound_changed}
use Rattle.hb_whole.proofs.map.lower.Goals as goal

pub overflow_sub-slot : goal.overflow_sub-slot
overflow_sub-slot c =
    let r = found_room c.args.map.now.entries c.args.place _ c.in-Some.ensures.value in
    omega (arith, r, c.requires.there)

pub returns-then-slot-eq0-clause-rows : goal.returns-then-slot-eq0-clause-rows
returns-then-slot-eq0-clause-rows c =
    let old = c.args.map.now.entries in
    let w : Slot = record { row = c.in-Some.slot.now.row; room = c.in-Some.slot.now.room - 1 } in
    let updates = (c.get_mut.follows.holds w).3 (subst (λ (o : Option Slot). IsSome o) c.in-Some.ensures.value refl) in
    rows_kept old (c.get_mut.follows.lender w).entries c.args.place (Some w) c.get_mut.ensures.ordered (c.get_mut.follows.holds w).4 updates.0 (ap row_in c.in-Some.ensures.value)

pub returns-then-slot-eq0-clause-room : goal.returns-then-slot-eq0-clause-room
returns-then-slot-eq0-clause-room c =
    let old = c.args.map.now.entries in
    let w : Slot = record { row = c.in-Some.slot.now.row; room = c.in-Some.slot.now.room - 1 } in
    let updates = (c.get_mut.follows.holds w).3 (subst (λ (o : Option Slot). IsSome o) c.in-Some.ensures.value refl) in
    let r = found_room old c.args.place _ c.in-Some.ensures.value in
    let less : c.in-Some.slot.now.room ≡ c.in-Some.slot.now.room - 1 + 1 = omega (arith, r, c.requires.there) in
    room_lowered old (c.get_mut.follows.lender w).entries c.args.place (Some w) updates.0 (sym (ap room_in c.in-Some.ensures.value) ∙ less)

pub returns-then-slot-eq0-clause-sound : goal.returns-then-slot-eq0-clause-sound
returns-then-slot-eq0-clause-sound c =
    let old = c.args.map.now.entries in
    let w : Slot = record { row = c.in-Some.slot.now.row; room = c.in-Some.slot.now.room - 1 } in
    let updates = (c.get_mut.follows.holds w).3 (subst (λ (o : Option Slot). IsSome o) c.in-Some.ensures.value refl) in
    sound_changed old (c.get_mut.follows.lender w).entries c.args.place (Some w) updates.0 c.requires.sound (found_slot old c.args.place c.in-Some.slot.now c.in-Some.ensures.value c.requires.sound)

pub returns-else-slot-eq0-clause-rows : goal.returns-else-slot-eq0-clause-rows
returns-else-slot-eq0-clause-rows c =
    let old = c.args.map.now.entries in
    let w : Slot = record { row = c.in-Some.slot.now.row; room = c.in-Some.slot.now.room - 1 } in
    let updates = (c.get_mut.follows.holds w).3 (subst (λ (o : Option Slot). IsSome o) c.in-Some.ensures.value refl) in
    rows_kept old (c.get_mut.follows.lender w).entries c.args.place (Some w) c.get_mut.ensures.ordered (c.get_mut.follows.holds w).4 updates.0 (ap row_in c.in-Some.ensures.value)

pub returns-else-slot-eq0-clause-room : goal.returns-else-slot-eq0-clause-room
returns-else-slot-eq0-clause-room c =
    let old = c.args.map.now.entries in
    let w : Slot = record { row = c.in-Some.slot.now.row; room = c.in-Some.slot.now.room - 1 } in
    let updates = (c.get_mut.follows.holds w).3 (subst (λ (o : Option Slot). IsSome o) c.in-Some.ensures.value refl) in
    let r = found_room old c.args.place _ c.in-Some.ensures.value in
    let less : c.in-Some.slot.now.room ≡ c.in-Some.slot.now.room - 1 + 1 = omega (arith, r, c.requires.there) in
    room_lowered old (c.get_mut.follows.lender w).entries c.args.place (Some w) updates.0 (sym (ap room_in c.in-Some.ensures.value) ∙ less)

pub returns-else-slot-eq0-clause-sound : goal.returns-else-slot-eq0-clause-sound
returns-else-slot-eq0-clause-sound c =
    let old = c.args.map.now.entries in
    let w : Slot = record { row = c.in-Some.slot.now.row; room = c.in-Some.slot.now.room - 1 } in
    let updates = (c.get_mut.follows.holds w).3 (subst (λ (o : Option Slot). IsSome o) c.in-Some.ensures.value refl) in
    sound_changed old (c.get_mut.follows.lender w).entries c.args.place (Some w) updates.0 c.requires.sound (found_slot old c.args.place c.in-Some.slot.now c.in-Some.ensures.value c.requires.sound)

pub returns-in-None-clause-room : goal.returns-in-None-clause-room
returns-in-None-clause-room c =
    let r = found_room c.args.map.now.entries c.args.place None c.in-None.ensures.value in
    absurd (omega (arith, r, c.requires.there))

pub returns-then-slot-eq0-clause-nothing : goal.returns-then-slot-eq0-clause-nothing
returns-then-slot-eq0-clause-nothing c is =
    let old = c.args.map.now.entries in
    let w : Slot = record { row = c.in-Some.slot.now.row; room = c.in-Some.slot.now.room - 1 } in
    let updates = (c.get_mut.follows.holds w).3 (subst (λ (o : Option Slot). IsSome o) c.in-Some.ensures.value refl) in
    let here = slot_here old (c.get_mut.follows.lender w).entries c.args.place (Some w) updates.0 in
    let zero : c.in-Some.slot.now.room - 1 ≡ 0 = c.if-slot-eq0.true in
    (ap row_in here ∙ is_none_row c.in-Some.slot.now.row (c.is_none.ensures ∙ ap not is), ap room_in here ∙ zero)
  where
    is_none_row : (o : Option (List ℕ)) → is_some o ≡ false → o ≡ None
    is_none_row None e = refl
    is_none_row (Some row) e = cc
