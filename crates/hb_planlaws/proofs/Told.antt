-- What the dictionary's rows tell of a state: its tables by name, and the entries of each.
use Rattle.std.proofs.Common.{◌≡◌, inl, inr, ℕ, zero, suc, ◌+◌, ◌-◌, ◌≤◌, ◌<◌, List, [], ◌∷◌, ◌++◌, Option, Some, None, Bool, true, false, cond, refl, subst, sym, ap, ◌∙◌, length, pos, arith}
use Rattle.std.specs.Prelude.{◌&&◌, nat_le, IsTrue, IsSome, find, flat_map, filter_map, option_map, option_and_then, unwrap_or, slice_get, slice_index_or, Contains}
use Rattle.std.specs.Option.{option_to_list}
use Rattle.std.specs.Str.{bytes_eq}
use Rattle.std.proofs.lemmas.Bool.{false≢true}
use Rattle.std.proofs.lemmas.Bool.Decides.{nat_tests}
use Rattle.std.proofs.lemmas.Slice.Eq.{bytes_eq-Decides}
use Rattle.hb_types.specs.declared.change.Stored.{Stored}
use Rattle.hb_types.specs.declared.entry.Entry.{Entry}
use Rattle.hb_types.specs.declared.entry.Entry.TheVariants.{At, Moving}
use Rattle.hb_types.specs.declared.value.Column.{Column}
use Rattle.hb_types.specs.Groups.{map_from, route}
use Rattle.hb_types.specs.Lists.{Each, Has, IsIn}
use Rattle.hb_types.specs.Numbers.{is_integer}
use Rattle.hb_types.specs.Put.{rows_under}
use Rattle.hb_types.specs.declared.value.Value.{Value}
use Rattle.hb_types.specs.Rows.{row_bytes, values_in, HasBytes}
use Rattle.std.proofs.lemmas.List.Elements.{All-from_recursion}
use Rattle.std.proofs.lemmas.Int.{ints}
use Rattle.hb_types.proofs.Ascending.{Each-of, in_Each}
use Rattle.hb_dict.specs.declared.table.TableDef.{TableDef}
use Rattle.hb_dict.specs.DictionaryRows.{IsTaken, AreAreas}
use Rattle.hb_dict.proofs.Tells.{table_tells, entry_tells}
use Rattle.hb_dict.proofs.TableSteps.{table_has_row}
use Rattle.hb_model.specs.declared.table.Table.{Table}
use Rattle.hb_model.specs.Answers.{rows_of}
use Rattle.hb_model.specs.Dictionary.{at_place, table_row, table_rows, entry_row, table_in}
use Rattle.hb_model.specs.Families.{Family}
use Rattle.hb_model.specs.Needs.{no_rows}
use Rattle.hb_model.specs.Needs as needs
use Rattle.hb_model.specs.Spots.{ds, tables_space, entries_space, ascending}
use Rattle.hb_model.specs.State.{State, Area, Spread, table_named, spread_named}
use Rattle.hb_model.specs.System.{Sys}
use Rattle.hb_model.specs.Told.{Found, found_in, table_among, entry_of}
use Rattle.hb_model.specs.Valid.{IsState, IsArea, IsTable, IsSpread, IsEntry, IsName}
use Rattle.hb_talk.specs.Plans.{areas_of_routes}
use Rattle.hb_planlaws.proofs.Named.{find_holds}
use Rattle.hb_planlaws.proofs.Scans.{tables, entries_of, tables_scanned, entries_scanned}

-- ---- a table's row

middle : (a b c : Bool) → IsTrue (a && (b && c)) → IsTrue b
middle true true c h = refl
middle true false c h = absurd (false≢true h)
middle false b c h = absurd (false≢true h)

pub name_short : (name : List ℕ) → IsName name → length name ≤ 30
name_short [] h = absurd (false≢true h)
name_short (b ∷ bs) h =
    let f : IsTrue (nat_le (length bs) 29) = middle _ _ _ h in
    let l : length bs ≤ 29 = grind (arith, nat_tests) in omega (arith, l)

abbrev with_number : ℕ → Table → Found
with_number n u = (n, u)

over_values : (n : ℕ) (t : Table) (o : Option (List Value)) → option_and_then table_in o ≡ Some t → option_and_then (λ values. option_map (with_number n) (table_in values)) o ≡ Some (n, t)
over_values n t None h = cc
over_values n t (Some values) h = ap (option_map (with_number n)) h

told_with : (n : ℕ) (t : Table) (bytes : List ℕ) → option_and_then table_in (values_in bytes) ≡ Some t
    → option_and_then (λ values. option_map (with_number n) (table_in values)) (values_in bytes) ≡ Some (n, t)
told_with n t bytes h = over_values n t (values_in bytes) h

row_tells : (u : Table) (n : ℕ) → IsTable u → found_in (at_place tables_space 0 n (table_row u)) ≡ Some (n, no_rows u)
row_tells u n is =
    let d : TableDef = record { name = u.name; hash = 1; key = u.key; columns = u.columns } in
    let taken : IsTaken d = record {
      hash = refl;
      some = is.some_columns;
      few = is.few_columns;
      key = is.key_is_number;
      sizes = Each-of (λ (c : Column). IsName c.name × (c.size ≤ 255)) (λ c. c.size ≤ 255) u.columns (λ c h. h.1) is.columns_named;
    } in
    let has = table_has_row d taken (name_short u.name is.named) (Each-of (λ (c : Column). IsName c.name × (c.size ≤ 255)) (λ c. length c.name ≤ 30) u.columns (λ c h. name_short c.name h.0) is.columns_named) in
    told_with n (no_rows u) (row_bytes (table_row u)) (table_tells (row_bytes (table_row u)) d (record { taken = taken; spelled = record { values_fit = has; spelled = refl } }))

-- ---- a table by its name

kept : {A B : Type 0} (f : A → Option B) (x : A) (xs : List A) (y : B) → f x ≡ Some y → filter_map f (x ∷ xs) ≡ y ∷ filter_map f xs
kept f x xs y h = rw h refl

abbrev found_as : State → Spread → Option Found
found_as s p = option_map (λ u. (p.number, no_rows u)) (table_named s p.name)

abbrev is_named : List ℕ → Found → Bool
is_named name f = bytes_eq f.1.name name

there : (o : Option Table) → IsSome o → (u : Table) × (o ≡ Some u)
there None h = absurd (false≢true h)
there (Some u) h = (u, refl)

abbrev row_if : ℕ → Option Table → List Stored
row_if n o = unwrap_or (option_map (λ u. at_place tables_space 0 n (table_row u) ∷ []) o) []

module _ (s : State) (each : Each IsTable s.tables) (name : List ℕ) where
  first_found : (q : Spread) (u : Table) (found : Found) (rest : Option Found) (more : Option Spread) (b : Bool) → found_as s q ≡ Some found
      → rest ≡ option_and_then (found_as s) more → cond b (Some found) rest ≡ option_and_then (found_as s) (cond b (Some q) more)
  first_found q u found rest more true e f = sym e
  first_found q u found rest more false e f = f

  by_name : (ps : List Spread) → Each (IsSpread s) ps
      → find (is_named name) (filter_map found_in (flat_map (table_rows s) ps)) ≡ option_and_then (found_as s) (find (λ q. bytes_eq q.name name) ps)
  by_name [] have = refl
  by_name (q ∷ ps) have =
      let t = there (table_named s q.name) have.0.of_table in
      let u : Table = t.0 in
      let f = find_holds (λ (w : Table). bytes_eq w.name q.name) s.tables u t.1 in
      let named : u.name ≡ q.name = (bytes_eq-Decides u.name q.name).0 f.0 in
      let row : table_rows s q ≡ at_place tables_space 0 q.number (table_row u) ∷ [] = ap (row_if q.number) t.1 in
      let tells : found_in (at_place tables_space 0 q.number (table_row u)) ≡ Some (q.number, no_rows u) = row_tells u q.number (in_Each IsTable u s.tables f.1 each) in
      let rows : filter_map found_in (flat_map (table_rows s) (q ∷ ps)) ≡ (q.number, no_rows u) ∷ filter_map found_in (flat_map (table_rows s) ps) =
      ap (λ xs. filter_map found_in (xs ++ flat_map (table_rows s) ps)) row ∙ kept found_in (at_place tables_space 0 q.number (table_row u)) (flat_map (table_rows s) ps) (q.number, no_rows u) tells in
      ap (find (is_named name)) rows
      ∙ ap (λ n. cond (bytes_eq n name) (Some (q.number, no_rows u)) (find (is_named name) (filter_map found_in (flat_map (table_rows s) ps)))) named
      ∙ first_found q u (q.number, no_rows u) _ (find (λ (x : Spread). bytes_eq x.name name) ps) (bytes_eq q.name name) (ap (option_map (λ (w : Table). (q.number, no_rows w))) t.1) (by_name ps have.1)

-- ---- entries

append_none : {A : Type 0} (xs : List A) → xs ++ [] ≡ xs
append_none [] = refl
append_none (x ∷ xs) = ap (λ ys. x ∷ ys) (append_none xs)

small : (k : ℕ) → k ≤ 65535 → IsTrue (is_integer (pos k))
small k le = grind (arith, ints)

pub entry_back : (e : Entry) → AreAreas e → entry_of (Some (row_bytes (entry_row e))) ≡ Some e
entry_back (At a) are = entry_tells (row_bytes (entry_row (At a))) (At a) (record {
  areas = are;
  spelled = record { values_fit = record { few = omega arith; fit = All-from_recursion HasBytes (entry_row (At a)) (small a are.1, (small 0 (omega arith), tt)) }; spelled = refl };
})
entry_back (Moving a b) are = entry_tells (row_bytes (entry_row (Moving a b))) (Moving a b) (record {
  areas = are;
  spelled = record { values_fit = record { few = omega arith; fit = All-from_recursion HasBytes (entry_row (Moving a b)) (small a are.0.1, (small b are.1.1, tt)) }; spelled = refl };
})

abbrev routes : Stored → List ℕ
routes r = flat_map route (option_to_list (entry_of (Some r.row)))

routes_listed : (n first : ℕ) (es : List Entry) → Each AreAreas es → flat_map routes (map_from (λ g e. at_place entries_space n g (entry_row e)) first es) ≡ flat_map route es
routes_listed n first [] each = refl
routes_listed n first (e ∷ es) each =
    ap (λ o. flat_map route (option_to_list o) ++ flat_map routes (map_from (λ g e. at_place entries_space n g (entry_row e)) (first + 1) es)) (entry_back e each.0)
    ∙ ap (λ zs. zs ++ flat_map routes (map_from (λ g e. at_place entries_space n g (entry_row e)) (first + 1) es)) (append_none (route e))
    ∙ ap (λ zs. route e ++ zs) (routes_listed n (first + 1) es each.1)

-- an area of one of eight back ends
abbrev Sited : ℕ → Type 0
Sited a = (256 ≤ a) × (a < 2304)

sited : (back_ends : ℕ) (s : State) (areas : List Area) (m : ℕ) → back_ends ≤ 8 → Each (IsArea back_ends s) areas → Has (λ a. a.number ≡ m) areas → Sited m
sited back_ends s [] m few each h = absurd h
sited back_ends s (a ∷ areas) m few each (inl e) =
    let low = each.0.low in let high = each.0.high in
    (omega (arith, e, low), omega (arith, e, high, few))
sited back_ends s (a ∷ areas) m few each (inr h) = sited back_ends s areas m few each.1 h

each_at : (P : ℕ → Type 0) (xs : List ℕ) (k d : ℕ) → Each P xs → k < length xs → P (slice_index_or xs k d)
each_at P [] k d each lt = absurd (omega (arith, lt))
each_at P (x ∷ xs) zero d each lt = each.0
each_at P (x ∷ xs) (suc k) d each lt = each_at P xs k d each.1 (omega (arith, lt))

pub each_got : (P : ℕ → Type 0) (xs : List ℕ) (k b : ℕ) → Each P xs → slice_get xs k ≡ Some b → P b
each_got P [] k b each e = cc
each_got P (x ∷ xs) zero b each e = let same : x ≡ b = cc in subst P same each.0
each_got P (x ∷ xs) (suc k) b each e = each_got P xs k b each.1 e

pub contained : (P : ℕ → Type 0) (xs : List ℕ) (a : ℕ) → Each P xs → Contains xs a → P a
contained P xs a each c = subst P c.2 (each_at P xs c.0 a each c.1)

entry_sited : (members : List ℕ) (e : Entry) → Each Sited members → IsEntry members (slice_get members (length members - 1)) e → AreAreas e
entry_sited members (At a) each is = let h = contained Sited members a each is in (omega (arith, h.0), omega (arith, h.1))
entry_sited members (Moving a b) each is =
    let h = contained Sited members a each is.0 in
    let k = each_got Sited members (length members - 1) b each is.2 in
    ((omega (arith, h.0), omega (arith, h.1)), (omega (arith, k.0), omega (arith, k.1)))

pub entries_sited : (back_ends : ℕ) (s : State) → back_ends ≤ 8 → IsState back_ends s → (p : Spread) → IsIn p s.layout.spreads → Each AreAreas p.entries
entries_sited back_ends s few is p i =
    let sp : IsSpread s p = in_Each (IsSpread s) p s.layout.spreads i is.spreads in
    let members : Each Sited p.members = Each-of (λ m. Has (λ (a : Area). a.number ≡ m) s.layout.areas) Sited p.members (λ m h. sited back_ends s s.layout.areas m few is.areas.each h) sp.members_are_areas in
    Each-of (IsEntry p.members (slice_get p.members (length p.members - 1))) AreAreas p.entries (λ e h. entry_sited p.members e members h) sp.entries_among

-- ---- of a system

module _ (back_ends : ℕ) (family : Family) (s : State) (sys : Sys back_ends family s) where
  told : (name : List ℕ) → table_among (rows_under tables (rows_of ds family)) name ≡ option_and_then (found_as s) (spread_named s name)
  told name = ap (λ rows. table_among rows name) (tables_scanned back_ends family s sys) ∙ by_name s sys.state.tables name s.layout.spreads sys.state.spreads

  pub table_told : (name : List ℕ) (t : Table) (p : Spread) → table_named s name ≡ Some t → spread_named s name ≡ Some p
      → table_among (rows_under tables (rows_of ds family)) name ≡ Some (p.number, no_rows t)
  table_told name t p is at =
      let named : p.name ≡ name = (bytes_eq-Decides p.name name).0 (find_holds (λ (q : Spread). bytes_eq q.name name) s.layout.spreads p at).0 in
      told name ∙ ap (option_and_then (found_as s)) at ∙ ap (λ n. option_map (λ u. (p.number, no_rows u)) (table_named s n)) named ∙ ap (option_map (λ u. (p.number, no_rows u))) is

  pub no_table_told : (name : List ℕ) → table_named s name ≡ None → table_among (rows_under tables (rows_of ds family)) name ≡ None
  no_table_told name none = told name ∙ over (spread_named s name) refl
    where
      over : (o : Option Spread) → spread_named s name ≡ o → option_and_then (found_as s) o ≡ None
      over None e = refl
      over (Some p) e =
          let named : p.name ≡ name = (bytes_eq-Decides p.name name).0 (find_holds (λ (q : Spread). bytes_eq q.name name) s.layout.spreads p e).0 in
          ap (λ n. option_map (λ u. (p.number, no_rows u)) (table_named s n)) named ∙ ap (option_map (λ u. (p.number, no_rows u))) none

  pub routes_told : back_ends ≤ 8 → (p : Spread) → IsIn p s.layout.spreads → areas_of_routes (rows_under (entries_of p.number) (rows_of ds family)) ≡ needs.areas_of_routes p
  routes_told few p i =
      ap areas_of_routes (entries_scanned back_ends family s sys p i) ∙ ap ascending (routes_listed p.number 0 p.entries (entries_sited back_ends s few sys.state p i))
