-- A row of an area that stands in the rows of a state is a row of one of its tables.
use Rattle.std.proofs.Common.{◌≡◌, ◌⊎◌, ◌∙◌, ℕ, zero, suc, ◌+◌, ◌≤◌, ℤ, List, [], ◌∷◌, ◌++◌, Option, Some, None, ap, arith, inl, inr, map, refl, sym}
use Rattle.std.specs.Prelude.{IsSome, flat_map, option_map, slice_get, unwrap_or}
use Rattle.std.specs.Option.{option_or}
use Rattle.std.specs.Str.{bytes_eq}
use Rattle.std.proofs.lemmas.Bool.{false≢true}
use Rattle.std.proofs.lemmas.Slice.Eq.{bytes_eq-Decides}
use Rattle.hb_types.specs.declared.change.Stored.{Stored}
use Rattle.hb_types.specs.declared.entry.Entry.{Entry}
use Rattle.hb_types.specs.declared.entry.Entry.TheVariants.{At, Moving}
use Rattle.hb_types.specs.declared.places.Place.{Place}
use Rattle.hb_types.specs.declared.value.Value.{Value}
use Rattle.hb_types.specs.Groups.{group_of, map_from, route}
use Rattle.hb_types.specs.Lists.{Each, IsIn}
use Rattle.hb_types.specs.Places.{node_of_area, same_place}
use Rattle.hb_types.specs.Put.{lookup}
use Rattle.hb_types.specs.Rows.{row_bytes, values_in}
use Rattle.hb_types.proofs.Ascending.{Each-append, in_Each}
use Rattle.hb_types.proofs.PutLaws.{by_test}
use Rattle.hb_types.proofs.SamePlace.{same_place-eq}
use Rattle.hb_loglaws.proofs.Members.{found}
use Rattle.hb_model.specs.declared.table.Table.{Table}
use Rattle.hb_model.specs.Answers.{rows_of}
use Rattle.hb_model.specs.Dictionary.{area_row, area_rows, at_place, dictionary, entry_row, entry_rows, member_row, member_rows, table_row, table_rows}
use Rattle.hb_model.specs.Families.{Family}
use Rattle.hb_model.specs.Spots.{areas_space, entries_space, members_space, place_in, tables_space}
use Rattle.hb_model.specs.State.{Area, Spread, State, table_named}
use Rattle.hb_model.specs.System.{Sys}
use Rattle.hb_model.specs.TableRows.{IsPlaced, TableRows, along, has_key, row_of, standing}
use Rattle.hb_model.specs.Valid.{FitsAll, IsSpread, IsTable}
use Rattle.hb_planlaws.proofs.KeyRows.{row_back}
use Rattle.hb_planlaws.proofs.Named.{find_holds, finds, is_false, names_apart, names_in}
use Rattle.hb_planlaws.proofs.Pigeons.{Apart}
use Rattle.hb_planwrites.proofs.ListWrites.{is_in}
use Rattle.hb_whose.proofs.Parts.{none_some, some_is}

-- ---- the dictionary lies in no area

abbrev LieInNone : List Stored → Type 0
LieInNone rows = Each (λ (r : Stored). r.place.space.area ≡ 0) rows

areas_in_none : (areas : List Area) → LieInNone (map (λ a. at_place areas_space 0 a.number (area_row a)) areas)
areas_in_none [] = tt
areas_in_none (a ∷ more) = (refl, areas_in_none more)

numbered_in_none : {A : Type 0} (space group n : ℕ) (row : A → List Value) (xs : List A) → LieInNone (map_from (λ i x. at_place space group i (row x)) n xs)
numbered_in_none space group n row [] = tt
numbered_in_none space group n row (x ∷ xs) = (refl, numbered_in_none space group (n + 1) row xs)

tables_in_none : (s : State) (spreads : List Spread) → LieInNone (flat_map (table_rows s) spreads)
tables_in_none s [] = tt
tables_in_none s (t ∷ more) = Each-append _ (table_rows s t) (flat_map (table_rows s) more) (one (table_named s t.name)) (tables_in_none s more)
  where
    one : (o : Option Table) → LieInNone (unwrap_or (option_map (λ u. at_place tables_space 0 t.number (table_row u) ∷ []) o) [])
    one None = tt
    one (Some u) = (refl, tt)

members_in_none : (spreads : List Spread) → LieInNone (flat_map member_rows spreads)
members_in_none [] = tt
members_in_none (t ∷ more) = Each-append _ (member_rows t) (flat_map member_rows more) (numbered_in_none members_space t.number 1 member_row t.members) (members_in_none more)

entries_in_none : (spreads : List Spread) → LieInNone (flat_map entry_rows spreads)
entries_in_none [] = tt
entries_in_none (t ∷ more) = Each-append _ (entry_rows t) (flat_map entry_rows more) (numbered_in_none entries_space t.number 0 entry_row t.entries) (entries_in_none more)

dictionary_in_none : (s : State) → LieInNone (dictionary s)
dictionary_in_none s =
    Each-append _ ((area_rows s ++ flat_map (table_rows s) s.layout.spreads) ++ flat_map member_rows s.layout.spreads) (flat_map entry_rows s.layout.spreads)
    (Each-append _ (area_rows s ++ flat_map (table_rows s) s.layout.spreads) (flat_map member_rows s.layout.spreads)
    (Each-append _ (area_rows s) (flat_map (table_rows s) s.layout.spreads) (areas_in_none s.layout.areas) (tables_in_none s s.layout.spreads)) (members_in_none s.layout.spreads))
    (entries_in_none s.layout.spreads)

in_none : (p : Place) (row : List ℕ) (rows : List Stored) → LieInNone rows → lookup p rows ≡ Some row → p.space.area ≡ 0
in_none p row [] e h = absurd (none_some row h)
in_none p row (r ∷ rs) e h =
    by_test (same_place p r.place) (λ t. ap (λ (q : Place). q.space.area) (same_place-eq p r.place t) ∙ e.0) (λ f. in_none p row rs e.1 (rw f at h))

-- ---- a spread by its name

one_named : (ss : List Spread) → Apart (map (λ (p : Spread). p.name) ss) → (a b : Spread) → IsIn a ss → IsIn b ss → a.name ≡ b.name → a ≡ b
one_named [] e a b i j h = absurd i
one_named (q ∷ ss) e a b (inl i) (inl j) h = sym i ∙ j
one_named (q ∷ ss) e a b (inl i) (inr j) h =
    absurd (in_Each (λ n. q.name ≡ n → ⊥) b.name (map (λ (p : Spread). p.name) ss) (names_in (λ (p : Spread). p.name) ss b j) e.0 (ap (λ (z : Spread). z.name) i ∙ h))
one_named (q ∷ ss) e a b (inr i) (inl j) h =
    absurd (in_Each (λ n. q.name ≡ n → ⊥) a.name (map (λ (p : Spread). p.name) ss) (names_in (λ (p : Spread). p.name) ss a i) e.0 (ap (λ (z : Spread). z.name) j ∙ sym h))
one_named (q ∷ ss) e a b (inr i) (inr j) h = one_named ss e.1 a b i j h

of_option : {A : Type 0} (o : Option A) → IsSome o → (x : A) × (o ≡ Some x)
of_option None h = absurd (false≢true h)
of_option (Some x) h = (x, refl)

-- ---- what stands along a route

stands_along : (family : Family) (t : Table) (spread : Spread) (key : ℤ) (e : Entry) (area : ℕ) (row : List ℕ) → TableRows family t spread
    → slice_get spread.entries (group_of key) ≡ Some e → IsIn area (route e) → standing family spread.number key area ≡ Some row
    → along family spread.number key (route e) ≡ Some row
stands_along family t spread key (At a) area row rows at (inl i) h =
    ap (λ o. option_or o None) (ap (standing family spread.number key) i ∙ h)
stands_along family t spread key (At a) area row rows at (inr i) h = absurd i
stands_along family t spread key (Moving a b) area row rows at (inl i) h =
    ap (λ o. option_or o (option_or (standing family spread.number key b) None)) (ap (standing family spread.number key) i ∙ h)
stands_along family t spread key (Moving a b) area row rows at (inr (inl i)) h = by (rows.once key a b at)
  where
    there : standing family spread.number key b ≡ Some row
    there = ap (standing family spread.number key) i ∙ h

    by : (standing family spread.number key a ≡ None) ⊎ (standing family spread.number key b ≡ None)
        → option_or (standing family spread.number key a) (option_or (standing family spread.number key b) None) ≡ Some row
    by (inl n) = ap (λ o. option_or o (option_or (standing family spread.number key b) None)) n ∙ ap (λ o. option_or o None) there
    by (inr n) = absurd (none_some row (sym n ∙ there))
stands_along family t spread key (Moving a b) area row rows at (inr (inr i)) h = absurd i

-- ---- a row of a table

pub record StandsIn (s : State) (bytes : List ℕ) : Type 0 where
  pub table : Table
  pub row : List Value
  pub known : IsIn table s.tables
  pub among : IsIn row table.rows
  pub values : values_in bytes ≡ Some row

mapped : (o : Option (List Value)) (bytes : List ℕ) → option_map row_bytes o ≡ Some bytes → (row : List Value) × (o ≡ Some row) × (row_bytes row ≡ bytes)
mapped None bytes h = absurd (none_some bytes h)
mapped (Some row) bytes h = (row, refl, some_is (row_bytes row) bytes h)

module _ (back_ends : ℕ) (family : Family) (s : State) (sys : Sys back_ends family s) (p : Place) (bytes : List ℕ) where
  of_table : (t : Table) (spread : Spread) → TableRows family t spread → IsIn t s.tables → p.space.table ≡ spread.number → (node : ℕ) → 2 ≤ node
      → lookup p (rows_of node family) ≡ Some bytes
      → StandsIn s bytes
  of_table t spread rows known numbered node two h =
      let k : IsPlaced spread node p = rows.placed node p bytes two numbered h in
      let same : place_in p.space.area spread.number p.key ≡ p =
      λ i. record { space = record { area = p.space.area; table = sym numbered i }; group = sym k.group i; key = p.key } in
      let here : standing family spread.number p.key p.space.area ≡ Some bytes = ap (λ q. lookup q (rows_of (node_of_area p.space.area) family)) same
      ∙ ap (λ n. lookup p (rows_of n family)) k.on_node ∙ h in
      let at : slice_get spread.entries (group_of p.key) ≡ Some k.area.0 = ap (slice_get spread.entries) (sym k.group) ∙ k.area.1 in
      let all = stands_along family t spread p.key k.area.0 p.space.area bytes rows at (is_in p.space.area k.area.0 k.area.2) here in
      let r = mapped (row_of t p.key) bytes (sym (rows.same p.key k.area.0 at) ∙ all) in
      let f = find_holds (has_key t p.key) t.rows r.0 r.1 in
      let is : IsTable t = in_Each IsTable t s.tables known sys.state.tables in
      record {
        table = t;
        row = r.0;
        known = known;
        among = f.1;
        values = ap values_in (sym r.2) ∙ row_back t r.0 is (in_Each (FitsAll t.columns) r.0 t.rows f.1 is.rows_fit);
      }

  of_back_end : (node : ℕ) → 2 ≤ node → lookup p (rows_of node family) ≡ Some bytes → StandsIn s bytes
  of_back_end node two h =
      let sp = found (λ (t : Spread). t.number ≡ p.space.table) s.layout.spreads (sys.of_tables node p bytes two h) in
      let is : IsSpread s sp.0 = in_Each (IsSpread s) sp.0 s.layout.spreads sp.1 sys.state.spreads in
      let t = of_option (table_named s sp.0.name) is.of_table in
      let known = find_holds (λ (u : Table). bytes_eq u.name sp.0.name) s.tables t.0 t.1 in
      let q = finds (λ (u : Spread). bytes_eq u.name sp.0.name) s.layout.spreads sp.0 sp.1 ((bytes_eq-Decides sp.0.name sp.0.name).1 refl) in
      let there = find_holds (λ (u : Spread). bytes_eq u.name sp.0.name) s.layout.spreads q.0 q.1 in
      let same : q.0 ≡ sp.0 = one_named s.layout.spreads (names_apart (λ (u : Spread). u.name) s.layout.spreads (is_false _ sys.state.spread_names_differ)) q.0 sp.0 there.1 sp.1
      ((bytes_eq-Decides q.0.name sp.0.name).0 there.0) in
      of_table t.0 sp.0 (sys.tables sp.0.name t.0 sp.0 t.1 (q.1 ∙ ap (λ z. Some z) same)) known.1 (sym sp.2) node two h

  pub stands_in : (place : ℕ) → 1 ≤ p.space.area → lookup p (rows_of (suc place) family) ≡ Some bytes → StandsIn s bytes
  stands_in zero user h = absurd (clash (in_none p bytes (dictionary s) (dictionary_in_none s) (sym (sys.dictionary_rows p) ∙ h)))
    where
      clash : p.space.area ≡ 0 → ⊥
      clash e = omega (arith, e, user)
  stands_in (suc k) user h = of_back_end (suc (suc k)) (omega arith) h
