-- Rows of the dictionary with their bytes.
use Rattle.std.proofs.Common.{◌≡◌, [], ◌∷◌, refl, codes, Some, None}
use Rattle.hb_types.specs.declared.entry.Entry.TheVariants.{At, Moving}
use Rattle.hb_types.specs.Rows.{row_bytes}
use Rattle.hb_model.specs.Dictionary.{area_row, member_row, entry_row}
use Rattle.hb_model.specs.Told.{entry_of}
use Rattle.hb_dict.specs.DictionaryRows.{table_values}

an_area : row_bytes (area_row (record { number = 769; name = codes "A1" })) ≡ 1 ∷ 2 ∷ 2 ∷ 2 ∷ 0x41 ∷ 0x31 ∷ 1 ∷ 3 ∷ 0 ∷ 0 ∷ 0 ∷ []
an_area = refl

a_member : row_bytes (member_row 257) ≡ 1 ∷ 1 ∷ 1 ∷ 1 ∷ 1 ∷ 0 ∷ 0 ∷ []
a_member = refl

an_entry : row_bytes (entry_row (At 257)) ≡ 1 ∷ 2 ∷ 1 ∷ 1 ∷ 1 ∷ 0 ∷ 0 ∷ 1 ∷ 0 ∷ 0 ∷ 0 ∷ 0 ∷ []
an_entry = refl

an_entry_that_moves : row_bytes (entry_row (Moving 257 513)) ≡ 1 ∷ 2 ∷ 1 ∷ 1 ∷ 1 ∷ 0 ∷ 0 ∷ 1 ∷ 1 ∷ 2 ∷ 0 ∷ 0 ∷ []
an_entry_that_moves = refl

an_entry_read : entry_of (Some (1 ∷ 2 ∷ 1 ∷ 1 ∷ 1 ∷ 0 ∷ 0 ∷ 1 ∷ 1 ∷ 2 ∷ 0 ∷ 0 ∷ [])) ≡ Some (Moving 257 513)
an_entry_read = refl

an_entry_of_ds : entry_of (Some (row_bytes (entry_row (At 0)))) ≡ None
an_entry_of_ds = refl

-- T (K INTEGER, V VARCHAR(20)) by K
a_table : row_bytes (table_values (record { name = codes "T"; hash = 1; key = 0; columns = record { name = codes "K"; size = 0 } ∷ record { name = codes "V"; size = 20 } ∷ [] }))
    ≡ 1 ∷ 7 ∷ 2 ∷ 1 ∷ 0x54 ∷ 1 ∷ 1 ∷ 0 ∷ 0 ∷ 0 ∷ 1 ∷ 0 ∷ 0 ∷ 0 ∷ 0 ∷ 2 ∷ 1 ∷ 0x4b ∷ 1 ∷ 0 ∷ 0 ∷ 0 ∷ 0 ∷ 2 ∷ 1 ∷ 0x56 ∷ 1 ∷ 20 ∷ 0 ∷ 0 ∷ 0 ∷ []
a_table = refl
