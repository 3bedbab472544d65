-- What a world with rows is given of its table: disks that stand for a state with it tell it, and the rows that its creation puts are
-- those of such a state.
use Rattle.std.proofs.Common.{◌≡◌, ℕ, zero, suc, ◌+◌, ◌≤◌, ◌<◌, List, [], ◌∷◌, length, map, get_or, Some, None, refl, sym, subst, ap, ◌∙◌, arith, lit≤, lit<, inl}
use Rattle.std.specs.Prelude.{codes, option_map, slice_get}
use Rattle.std.specs.List.{AllZip}
use Rattle.hb_types.specs.declared.change.Change.{Change}
use Rattle.hb_types.specs.declared.change.LogItem.{LogItem}
use Rattle.hb_types.specs.declared.change.LogItem.TheVariants as item
use Rattle.hb_types.specs.declared.change.Placed.{Placed}
use Rattle.hb_types.specs.declared.change.Stored.{Stored}
use Rattle.hb_types.specs.declared.entry.Entry.{Entry}
use Rattle.hb_types.specs.declared.entry.Entry.TheVariants.{At, Moving}
use Rattle.hb_types.specs.declared.lock.Held.{Held}
use Rattle.hb_types.specs.declared.places.Place.{Place}
use Rattle.hb_types.specs.Groups.{group_of, groups}
use Rattle.hb_types.specs.Lists.{Each}
use Rattle.hb_types.specs.Logs.{RecordsFrom, readable}
use Rattle.hb_types.specs.Places.{node_of_area}
use Rattle.hb_types.specs.Put.{lookup, put, put_all, rows_under}
use Rattle.hb_types.specs.Records.{HasRecord, body_bytes, record_length}
use Rattle.hb_types.specs.Rows.{row_bytes}
use Rattle.hb_types.proofs.Ascending.{Each-append}
use Rattle.hb_groups.specs.Counts.{IsEvenShare, IsPlaced, count_at}
use Rattle.hb_model.specs.declared.table.Table.{Table}
use Rattle.hb_model.specs.Answers.{put_at, rows_of}
use Rattle.hb_model.specs.Dictionary.{area_row, at_place, entry_row, entry_rows, member_row, member_rows}
use Rattle.hb_model.specs.Families.{Family}
use Rattle.hb_model.specs.Spots.{areas_space, entries_space, members_space}
use Rattle.hb_model.specs.State.{Spread, State}
use Rattle.hb_model.specs.System.{Sys}
use Rattle.hb_model.specs.Valid.{IsSpread, IsState, IsTable}
use Rattle.hb_model.proofs.NumberedRows.{entry_by_number}
use Rattle.hb_disks.specs.Disks.{written as in_format}
use Rattle.hb_disks.specs.Images.{HasItems, Images, ServerImages, decided, family}
use Rattle.hb_disks.specs.Redo.{redo}
use Rattle.hb_disks.specs.StandsFor.{StandsWith}
use Rattle.hb_talk.specs.PlansDefine.{new_rows, put_row}
use Rattle.hb_planlaws.proofs.Scans.{tables_scanned}
use Rattle.hb_planlaws.proofs.Told.{contained}
use Rattle.hb_planwrites.proofs.Closing.{written}
use Rattle.hb_plantables.proofs.NewSpread.{is_spread, settled_at}
use Rattle.hb_plantables.proofs.NextSystem.{sys_after}
use Rattle.hb_plantables.proofs.Puts.{each_numbered, put_written}
use Rattle.hb_worlds.proofs.AreaMade.{area, end, n1, vote}
use Rattle.hb_worlds.proofs.RowCalls.{entry, entry_bytes, key, n2, t2, table, table_stored, tables}
use Rattle.hb_worlds.proofs.RowMade.{TellTable, before, ds_before}

-- ---- the states before and behind the creation of the table

abbrev pub area_there : State
area_there = record { tables = []; layout = record { areas = area ∷ []; spreads = [] } }

abbrev pub spread : List Entry → Spread
spread entries = record { number = 1; name = codes "T"; members = 257 ∷ []; entries = entries }

abbrev pub table_there : List Entry → State
table_there entries = record { tables = table ∷ []; layout = record { areas = area ∷ []; spreads = spread entries ∷ [] } }

-- ---- rows of such a state tell the table

module _ (changes : List Change) (granted : List Held) (entries : List Entry)
    (sys : Sys 1 (family (before changes granted) (decided (before changes granted))) (table_there entries)) where
  tells_table : table_stored ∷ [] ≡ rows_under tables (redo (ds_before changes granted)).rows
  tells_table = sym (tables_scanned 1 (family (before changes granted) (decided (before changes granted))) (table_there entries) sys)

  tells_entry : slice_get entries (group_of key) ≡ Some (At 257) → Some entry_bytes ≡ lookup entry (redo (ds_before changes granted)).rows
  tells_entry at =
      sym (sys.dictionary_rows entry ∙ (entry_by_number 1 (table_there entries) sys.state 1 (group_of key) ∙ ap (option_map (λ (e : Entry). row_bytes (entry_row e))) at))

-- the items of an image have records
records_fit : (image : List ℕ) (from : ℕ) (placed : List Placed) → RecordsFrom image from placed → Each (λ (i : LogItem). HasRecord i) (map (λ (p : Placed). p.item) placed)
records_fit image from [] r = tt
records_fit image from (p ∷ ps) r = (r.1.has_record, records_fit image (from + record_length p.item) ps r.2)

pub items_fit : (image : List ℕ) (items : List LogItem) → HasItems image items → Each (λ (i : LogItem). HasRecord i) items
items_fit image items h = subst (Each (λ (i : LogItem). HasRecord i)) h.2 (records_fit (readable image) 0 h.0 h.1)

pub first_log : (servers : List ServerImages) (log : List LogItem) (logs : List (List LogItem)) → AllZip (λ (s : ServerImages) l. HasItems s.log l) servers (log ∷ logs)
    → Each (λ (i : LogItem). HasRecord i) log
first_log [] log logs h = absurd h
first_log (s ∷ ss) log logs h = items_fit s.log log h.0

pub short_by : (n : ℕ) → n ≤ 8388608 → 0 + record_length vote + record_length end + (5 + n) + record_length (item.Commit t2 n2) ≤ 16777216
short_by n le =
    let a : record_length vote ≤ 1000 = lit≤ tt in
    let b : record_length end ≤ 1000 = lit≤ tt in
    let c : record_length (item.Commit t2 n2) ≤ 1000 = lit≤ tt in
    omega (arith, le, a, b, c)

pub table_is_told : (changes : List Change) (granted : List Held) (entries : List Entry) (images : Images) → slice_get entries (group_of key) ≡ Some (At 257)
    → StandsWith in_format images (before changes granted) (table_there entries) → TellTable changes granted
table_is_told changes granted entries images at stood =
    record {
      the_table = tells_table changes granted entries stood.system;
      the_entry = tells_entry changes granted entries stood.system at;
      short = short_by (length (body_bytes (item.Prepare t2 n1 granted changes))) (first_log images.servers (ds_before changes granted) ([] ∷ []) stood.read.servers).1.1.0.1;
    }

-- ---- the system with the area

abbrev area_stored : Stored
area_stored = at_place areas_space 0 257 (area_row area)

abbrev area_family : Family
area_family = (area_stored ∷ []) ∷ [] ∷ []

nowhere : (node : ℕ) (p : Place) (row : List ℕ) → 2 ≤ node → lookup p (rows_of node area_family) ≡ Some row → ⊥
nowhere zero p row two h = omega (arith, two)
nowhere (suc zero) p row two h = omega (arith, two)
nowhere (suc (suc zero)) p row two h = cc
nowhere (suc (suc (suc n))) p row two h = cc

area_state : IsState 1 area_there
area_state =
    record {
      areas = record {
        few = lit≤ tt;
        ascend = tt;
        names_differ = refl;
        each = (record { named = refl; low = lit≤ tt; high = lit≤ tt; first = lit≤ tt; last = lit≤ tt }, tt);
      };
      few_tables = lit≤ tt;
      tables_ascend = tt;
      tables = tt;
      one_spread_each = refl;
      spreads_numbered = refl;
      spread_names_differ = refl;
      spreads = tt;
    }

no_table : {A : Type 0} (t : Table) → None ≡ Some t → A
no_table t h = cc

area_system : Sys 1 area_family area_there
area_system =
    record {
      servers = refl;
      ascending = (tt, (tt, tt));
      state = area_state;
      dictionary_rows = λ p. refl;
      of_tables = λ node p row two h. absurd (nowhere node p row two h);
      tables = λ name t spread h k. no_table t h;
    }

-- ---- the rows that the creation puts

each_put : (P : Change → Type 0) (rows : List Stored) → Each (λ r. P (put_row r)) rows → Each P (map put_row rows)
each_put P [] e = tt
each_put P (r ∷ rows) e = (e.0, each_put P rows e.1)

-- changes at ds alone
put_at_ds : (rows : List Stored) (more : Family) (cs : List Change) → Each (λ (c : Change). c.place.space.area ≡ 0) cs
    → written (rows ∷ more) cs ≡ put_all rows cs ∷ more
put_at_ds rows more [] e = refl
put_at_ds rows more (c ∷ cs) e = ap (λ n. written (put_at n c (rows ∷ more)) cs) (ap node_of_area e.0) ∙ put_at_ds (put rows c) more cs e.1

table_fits : IsTable table
table_fits =
    record {
      named = refl;
      some_columns = lit≤ tt;
      few_columns = lit≤ tt;
      columns_named = ((refl, lit≤ tt), tt);
      columns_differ = refl;
      key_is_number = refl;
      rows_ascend = tt;
      rows_fit = tt;
    }

-- each group lies in the one area
entry_at : (es : List Entry) (k : ℕ) → Each (IsPlaced (257 ∷ [])) es → k < length es → slice_get es k ≡ Some (At 257)
entry_at [] k placed l = absurd (omega (arith, l))
entry_at (At a ∷ es) zero placed l = ap (λ n. Some (At n)) (contained (λ m. m ≡ 257) (257 ∷ []) a (refl, tt) placed.0)
entry_at (At a ∷ es) (suc k) placed l = entry_at es k placed.1 (omega (arith, l))
entry_at (Moving a b ∷ es) k placed l = absurd placed.0

module _ (entries : List Entry) (full : length entries ≡ groups) (placed : Each (IsPlaced (257 ∷ [])) entries)
    (even : (i : ℕ) → i < 1 → IsEvenShare (count_at entries (get_or (257 ∷ []) i 0)) 1) where
  abbrev changes : List Change
  changes = map put_row (new_rows table (spread entries))

  at_ds : Each (λ (c : Change). c.place.space.area ≡ 0) changes
  at_ds =
      each_put (λ (c : Change). c.place.space.area ≡ 0) (new_rows table (spread entries)) (
        refl,
        Each-append (λ (r : Stored). r.place.space.area ≡ 0) (member_rows (spread entries)) (entry_rows (spread entries))
            (each_numbered members_space 1 member_row (λ q. q.space.area ≡ 0) (λ i. refl) 1 (257 ∷ []))
            (each_numbered entries_space 1 entry_row (λ q. q.space.area ≡ 0) (λ i. refl) 0 entries),
      )

  spread_fits : IsSpread (table_there entries) (spread entries)
  spread_fits = is_spread (table_there entries) (spread entries) refl (lit≤ tt) (lit≤ tt) refl (inl refl, tt) full placed even

  pub system_written : Sys 1 (put_all (area_stored ∷ []) changes ∷ [] ∷ []) (table_there entries)
  system_written =
      subst (λ f. Sys 1 f (table_there entries)) (put_at_ds (area_stored ∷ []) ([] ∷ []) changes at_ds)
      (sys_after 1 area_family (written area_family changes) area_there area_system table (spread entries) (record { number = refl; named = refl; free = refl }) (lit< tt) table_fits refl
      spread_fits (settled_at (257 ∷ []) entries (lit≤ tt, tt) placed) (put_written area_family changes (lit≤ tt) at_ds))

  -- whatever locks it was granted
  pub system_given : (granted : List Held) → Sys 1 (family (before changes granted) (decided (before changes granted))) (table_there entries)
  system_given granted = system_written

  pub entry_given : slice_get entries (group_of key) ≡ Some (At 257)
  entry_given = entry_at entries (group_of key) placed (subst (λ n. group_of key < n) (sym full) (lit< tt))
