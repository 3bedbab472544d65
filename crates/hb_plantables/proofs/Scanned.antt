-- What a scan of the tables' rows tells to who makes a new one.
use Rattle.std.proofs.Common.{◌≡◌, ℕ, suc, ◌≤◌, List, [], ◌∷◌, ◌++◌, length, map, Option, Some, None, refl, sym, ap, ◌∙◌}
use Rattle.std.specs.Prelude.{find, filter_map, flat_map, is_some, option_and_then, option_map, unwrap_or, IsSome}
use Rattle.std.specs.Str.{bytes_eq}
use Rattle.std.proofs.lemmas.Bool.{false≢true}
use Rattle.hb_types.specs.declared.change.Stored.{Stored}
use Rattle.hb_types.specs.declared.value.Column.{Column}
use Rattle.hb_types.specs.declared.value.Value.{Value}
use Rattle.hb_types.specs.Lists.{Each}
use Rattle.hb_types.specs.Put.{rows_under}
use Rattle.hb_types.specs.Rows.{row_bytes, values_in}
use Rattle.hb_types.proofs.Ascending.{Each-of, in_Each}
use Rattle.hb_types.proofs.PutLaws.{by_test}
use Rattle.hb_dict.specs.declared.table.TableDef.{TableDef}
use Rattle.hb_dict.specs.DictionaryRows.{IsTaken}
use Rattle.hb_dict.proofs.Tells.{table_tells}
use Rattle.hb_dict.proofs.TableSteps.{table_has_row}
use Rattle.hb_model.specs.declared.table.Table.{Table}
use Rattle.hb_model.specs.Answers.{rows_of}
use Rattle.hb_model.specs.Dictionary.{at_place, table_in, table_row, table_rows}
use Rattle.hb_model.specs.Families.{Family}
use Rattle.hb_model.specs.Needs.{no_rows}
use Rattle.hb_model.specs.Spots.{ds, tables_space}
use Rattle.hb_model.specs.State.{State, Spread, nothing, table_named}
use Rattle.hb_model.specs.System.{Sys}
use Rattle.hb_model.specs.Told.{Found, found_in, table_among}
use Rattle.hb_model.specs.Valid.{IsName, IsSpread, IsTable}
use Rattle.hb_talk.specs.PlansDefine.{named_only, with_tables}
use Rattle.hb_planlaws.proofs.Named.{find_holds, spread_there}
use Rattle.hb_planlaws.proofs.Scans.{tables, tables_scanned}
use Rattle.hb_planlaws.proofs.Told.{name_short, no_table_told, table_told}

-- ---- a table's row

abbrev with_number : ℕ → Table → Found
with_number n u = (n, u)

over_values : (n : ℕ) (t : Table) (o : Option (List Value)) → option_and_then table_in o ≡ Some t → option_and_then (λ values. option_map (with_number n) (table_in values)) o ≡ Some (n, t)
over_values n t None h = cc
over_values n t (Some values) h = ap (option_map (with_number n)) h

told_with : (n : ℕ) (t : Table) (bytes : List ℕ) → option_and_then table_in (values_in bytes) ≡ Some t
    → option_and_then (λ values. option_map (with_number n) (table_in values)) (values_in bytes) ≡ Some (n, t)
told_with n t bytes h = over_values n t (values_in bytes) h

row_tells : (u : Table) (n : ℕ) → IsTable u → found_in (at_place tables_space 0 n (table_row u)) ≡ Some (n, no_rows u)
row_tells u n is =
    let d : TableDef = record { name = u.name; hash = 1; key = u.key; columns = u.columns } in
    let taken : IsTaken d = record {
      hash = refl;
      some = is.some_columns;
      few = is.few_columns;
      key = is.key_is_number;
      sizes = Each-of (λ (c : Column). IsName c.name × (c.size ≤ 255)) (λ c. c.size ≤ 255) u.columns (λ c h. h.1) is.columns_named;
    } in
    let has = table_has_row d taken (name_short u.name is.named) (Each-of (λ (c : Column). IsName c.name × (c.size ≤ 255)) (λ c. length c.name ≤ 30) u.columns (λ c h. name_short c.name h.0) is.columns_named) in
    told_with n (no_rows u) (row_bytes (table_row u)) (table_tells (row_bytes (table_row u)) d (record { taken = taken; spelled = record { values_fit = has; spelled = refl } }))

-- ---- how many there are

there : (o : Option Table) → IsSome o → (u : Table) × (o ≡ Some u)
there None h = absurd (false≢true h)
there (Some u) h = (u, refl)

abbrev rows_if : ℕ → Option Table → List Stored
rows_if n o = unwrap_or (option_map (λ u. at_place tables_space 0 n (table_row u) ∷ []) o) []

kept : {A B : Type 0} (f : A → Option B) (x : A) (xs : List A) (y : B) → f x ≡ Some y → filter_map f (x ∷ xs) ≡ y ∷ filter_map f xs
kept f x xs y h = rw h refl

count_found : (s : State) → Each IsTable s.tables → (ss : List Spread) → Each (IsSpread s) ss → length (filter_map found_in (flat_map (table_rows s) ss)) ≡ length ss
count_found s each [] have = refl
count_found s each (q ∷ ss) have =
    let t = there (table_named s q.name) have.0.of_table in
    let f = find_holds (λ (w : Table). bytes_eq w.name q.name) s.tables t.0 t.1 in
    let tells = row_tells t.0 q.number (in_Each IsTable t.0 s.tables f.1 each) in
    ap (λ o. length (filter_map found_in (rows_if q.number o ++ flat_map (table_rows s) ss))) t.1
    ∙ ap (λ fs. length fs) (kept found_in (at_place tables_space 0 q.number (table_row t.0)) (flat_map (table_rows s) ss) (q.number, no_rows t.0) tells)
    ∙ ap (λ n. suc n) (count_found s each ss have.1)

length-map : {A B : Type 0} (f : A → B) (xs : List A) → length (map f xs) ≡ length xs
length-map f [] = refl
length-map f (x ∷ xs) = ap (λ n. suc n) (length-map f xs)

-- ---- whether one is there

some_mapped : (name : List ℕ) (fs : List Found) → is_some (find (λ (t : Table). bytes_eq t.name name) (map (λ (f : Found). f.1) fs)) ≡ is_some (find (λ (f : Found). bytes_eq f.1.name name) fs)
some_mapped name [] = refl
some_mapped name (f ∷ fs) = by_test (bytes_eq f.1.name name) (λ y. rw y refl) (λ n. rw n (some_mapped name fs))

module _ (back_ends : ℕ) (family : Family) (s : State) (sys : Sys back_ends family s) where
  abbrev pub scanned : State
  scanned = with_tables nothing (rows_under tables (rows_of ds family))

  count : length (filter_map found_in (rows_under tables (rows_of ds family))) ≡ length s.layout.spreads
  count = ap (λ rows. length (filter_map found_in rows)) (tables_scanned back_ends family s sys) ∙ count_found s sys.state.tables s.layout.spreads sys.state.spreads

  pub spreads_counted : length scanned.layout.spreads ≡ length s.layout.spreads
  spreads_counted = length-map named_only (filter_map found_in (rows_under tables (rows_of ds family))) ∙ count

  pub tables_counted : length scanned.tables ≡ length s.tables
  tables_counted = length-map (λ (f : Found). f.1) (filter_map found_in (rows_under tables (rows_of ds family))) ∙ count ∙ sys.state.one_spread_each

  pub name_told : (name : List ℕ) → is_some (table_named scanned name) ≡ is_some (table_named s name)
  name_told name = some_mapped name (filter_map found_in (rows_under tables (rows_of ds family))) ∙ by (table_named s name) refl
    where
      by : (o : Option Table) → table_named s name ≡ o → is_some (table_among (rows_under tables (rows_of ds family)) name) ≡ is_some (table_named s name)
      by None e = ap is_some (no_table_told back_ends family s sys name e) ∙ sym (ap is_some e)
      by (Some t) e = let p = spread_there back_ends s sys.state name t e in ap is_some (table_told back_ends family s sys name t p.0 e p.1) ∙ sym (ap is_some e)
