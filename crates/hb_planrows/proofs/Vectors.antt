-- The sizes of changes, with a row and without one.
use Rattle.std.proofs.Common.{◌≡◌, pos, length, refl, Some, None}
use Rattle.hb_types.specs.declared.entry.Entry.TheVariants.{At}
use Rattle.hb_types.specs.declared.places.Place.{Place}
use Rattle.hb_types.specs.Records.{change_bytes}
use Rattle.hb_types.specs.Rows.{row_bytes}
use Rattle.hb_model.specs.Dictionary.{entry_row}

abbrev entry_place : Place
entry_place = record { space = record { area = 0; table = 4 }; group = 1; key = pos 0 }

put_size : length (change_bytes (record { place = entry_place; row = Some (row_bytes (entry_row (At 257))) })) ≡ 29
put_size = refl

removal_size : length (change_bytes (record { place = entry_place; row = None })) ≡ 15
removal_size = refl
