-- The entry of a group is what its row in the dictionary was read as.
use Rattle.std.proofs.Common.{◌≡◌, ℕ, ◌≤◌, List, Option, Some, None, refl, sym, ap, ◌∙◌}
use Rattle.std.specs.Prelude.{option_map, option_and_then, slice_get}
use Rattle.hb_types.specs.declared.entry.Entry.{Entry}
use Rattle.hb_types.specs.Lists.{IsIn}
use Rattle.hb_types.specs.Put.{lookup}
use Rattle.hb_types.specs.Rows.{row_bytes}
use Rattle.hb_model.specs.Answers.{rows_of}
use Rattle.hb_model.specs.Dictionary.{entry_row}
use Rattle.hb_model.specs.Families.{Family}
use Rattle.hb_model.specs.Spots.{ds, entry_place}
use Rattle.hb_model.specs.State.{State, Spread}
use Rattle.hb_model.specs.System.{Sys}
use Rattle.hb_model.specs.Told.{entry_of}
use Rattle.hb_model.proofs.NumberedRows.{entry_by_number}
use Rattle.hb_planlaws.proofs.Walks.{entry_told, numbered}

some_none : (row : List ℕ) → Some row ≡ None → ⊥
some_none row e = cc

module _ (back_ends : ℕ) (family : Family) (s : State) (few : back_ends ≤ 8) (sys : Sys back_ends family s) (p : Spread) (there : IsIn p s.layout.spreads) where
  no_entry : (g : ℕ) → slice_get p.entries g ≡ None → lookup (entry_place p.number g) (rows_of ds family) ≡ None
  no_entry g none =
      sys.dictionary_rows (entry_place p.number g) ∙ entry_by_number back_ends s sys.state p.number g
      ∙ ap (option_and_then (λ (t : Spread). option_map (λ x. row_bytes (entry_row x)) (slice_get t.entries g))) (numbered 1 s.layout.spreads p sys.state.spreads_numbered there)
      ∙ ap (option_map (λ x. row_bytes (entry_row x))) none

  pub entry_is : (g : ℕ) (e : Entry) → entry_of (Some (row_bytes (entry_row e))) ≡ Some e → Some (row_bytes (entry_row e)) ≡ lookup (entry_place p.number g) (rows_of ds family) → slice_get p.entries g ≡ Some e
  entry_is g e back read = by (slice_get p.entries g) refl
    where
      by : (o : Option Entry) → slice_get p.entries g ≡ o → o ≡ Some e
      by None none = absurd (some_none (row_bytes (entry_row e)) (read ∙ no_entry g none))
      by (Some x) at = sym (entry_told back_ends family s sys few p there g x at) ∙ ap entry_of (sym read) ∙ back
