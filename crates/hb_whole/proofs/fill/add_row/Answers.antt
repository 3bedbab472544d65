use Rattle.std.proofs.Common.{Some}
use Rattle.hb_whole.specs.declared.map.Slot.{Slot}
use Rattle.hb_whole.proofs.Filling.{still_bare}
use Rattle.hb_whole.proofs.SlotRows.{rows_put, sound_changed}
use Rattle.hb_whole.proofs.fill.add_row.Goals as goal

pub returns-clause-rows : goal.returns-clause-rows
returns-clause-rows c =
    let slot : Slot = record { row = Some c.args.row.row; room = 0 } in
    rows_put c.args.map.now.entries c.insert.new.self.entries c.args.row.place (Some slot) c.requires.ordered c.insert.ensures.ordered c.in_ok-insert.ensures.updates.0

pub returns-clause-bare : goal.returns-clause-bare
returns-clause-bare c = still_bare c.args.map.now.entries c.insert.new.self.entries c.args.row.place c.args.row.row c.in_ok-insert.ensures.updates.0 c.requires.bare

pub returns-clause-sound : goal.returns-clause-sound
returns-clause-sound c =
    let slot : Slot = record { row = Some c.args.row.row; room = 0 } in
    sound_changed c.args.map.now.entries c.insert.new.self.entries c.args.row.place (Some slot) c.in_ok-insert.ensures.updates.0 c.requires.sound c.requires.fits
