-- The calls on rows of pdrbal's transactions, with their answers: a check, a batch and a finish.
use Rattle.std.specs.Prelude.{ℕ, ℤ, List, [], ◌∷◌, ◌++◌, Option, Some, None}
use Rattle.hb_types.specs.declared.change.Stored.{Stored}
use Rattle.hb_types.specs.declared.entry.Entry.TheVariants.{At, Moving}
use Rattle.hb_types.specs.declared.names.Tx.{Tx}
use Rattle.hb_types.specs.declared.answer.Answer.TheVariants as answer
use Rattle.hb_types.specs.declared.trail.Call.{Call}
use Rattle.hb_types.specs.declared.request.Request.TheVariants as request
use Rattle.hb_types.specs.Places.{node_of_area}
use Rattle.hb_types.specs.Rows.{row_bytes}
use Rattle.hb_model.specs.Answers.{call}
use Rattle.hb_model.specs.Dictionary.{entry_row}
use Rattle.hb_model.specs.Spots.{ds, tables_space, entries_space, dictionary_space, entry_place, space_in, place_in}

-- a group that a check found Moving
pub record Hint : Type 0 where
  pub table : ℕ
  pub group : ℕ
  pub old : ℕ
  pub new : ℕ

-- a check: the names, and the entries of the table
abbrev pub check_calls : Tx → ℕ → List Stored → List Stored → List Call
check_calls tx table names entries =
    call ds (request.Scan tx (dictionary_space tables_space)) (answer.Rows names)
    ∷ call ds (request.ScanGroup tx (dictionary_space entries_space) table) (answer.Rows entries) ∷ []

-- the entry of the hinted group, as it was hinted
abbrev pub entry_call : Tx → Hint → Call
entry_call tx h = call ds (request.Read tx (entry_place h.table h.group)) (answer.Row (Some (row_bytes (entry_row (Moving h.old h.new)))))

-- a key of a batch, with what stood in the old area: where a row stood there, it is put in the new area and left in the old one
abbrev pub key_calls : Tx → Hint → ℤ → Option (List ℕ) → List Call
key_calls tx h key None = call (node_of_area h.old) (request.Read tx (place_in h.old h.table key)) (answer.Row None) ∷ []
key_calls tx h key (Some row) =
    call (node_of_area h.old) (request.Read tx (place_in h.old h.table key)) (answer.Row (Some row))
    ∷ call (node_of_area h.new) (request.Write tx (record { place = place_in h.new h.table key; row = Some row })) answer.Done
    ∷ call (node_of_area h.old) (request.Write tx (record { place = place_in h.old h.table key; row = None })) answer.Done ∷ []

-- a key with what stood at it
abbrev pub Keyed : Type 0
Keyed = ℤ × Option (List ℕ)

abbrev pub keys_calls : Tx → Hint → List Keyed → List Call
keys_calls tx h [] = []
keys_calls tx h (k ∷ ks) = key_calls tx h k.0 k.1 ++ keys_calls tx h ks

abbrev pub batch_calls : Tx → Hint → List Keyed → List Call
batch_calls tx h keys = entry_call tx h ∷ keys_calls tx h keys

-- a finish: the entry, the group in the old area without a row, and the entry written
abbrev pub finish_calls : Tx → Hint → List Call
finish_calls tx h =
    entry_call tx h
    ∷ call (node_of_area h.old) (request.ScanGroup tx (space_in h.old h.table) h.group) (answer.Rows [])
    ∷ call ds (request.Write tx (record { place = entry_place h.table h.group; row = Some (row_bytes (entry_row (At h.new))) })) answer.Done ∷ []
