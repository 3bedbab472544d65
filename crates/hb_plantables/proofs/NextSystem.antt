-- A system behind the writes of a new table's rows is one of the state with that table.
use Rattle.std.proofs.Common.{◌≡◌, inl, inr, ℕ, ◌≤◌, ◌<◌, ℤ, List, [], ◌∷◌, ◌++◌, length, map, Option, Some, None, true, false, cond, refl, subst, sym, ap, ◌∙◌, arith}
use Rattle.std.specs.Prelude.{find, slice_get, option_map}
use Rattle.std.specs.Option.{option_or}
use Rattle.std.specs.Str.{bytes_eq}
use Rattle.std.proofs.lemmas.Bool.{false≢true}
use Rattle.std.proofs.lemmas.Slice.Eq.{bytes_eq-Decides}
use Rattle.hb_types.specs.declared.entry.Entry.{Entry}
use Rattle.hb_types.specs.declared.entry.Entry.TheVariants.{At, Moving}
use Rattle.hb_types.specs.declared.places.Place.{Place}
use Rattle.hb_types.specs.Groups.{group_of, route}
use Rattle.hb_types.specs.Lists.{Each, IsIn}
use Rattle.hb_types.specs.Places.{node_of_area}
use Rattle.hb_types.specs.Put.{lookup}
use Rattle.hb_types.specs.Rows.{row_bytes}
use Rattle.hb_types.proofs.Ascending.{Has-front, pick}
use Rattle.hb_types.proofs.PutLaws.{by_test}
use Rattle.hb_model.specs.declared.table.Table.{Table}
use Rattle.hb_model.specs.Answers.{rows_of}
use Rattle.hb_model.specs.Define.{create_table}
use Rattle.hb_model.specs.Families.{Family}
use Rattle.hb_model.specs.Spots.{ds, place_in}
use Rattle.hb_model.specs.State.{State, Spread, spread_named, table_named}
use Rattle.hb_model.specs.System.{Sys}
use Rattle.hb_model.specs.TableRows.{TableRows, along, has_key, standing}
use Rattle.hb_model.specs.Valid.{IsSpread, IsTable}
use Rattle.hb_model.proofs.DictionaryRows.{not_true}
use Rattle.hb_talk.specs.PlansDefine.{new_rows, put_row}
use Rattle.hb_planlaws.proofs.Named.{find_holds}
use Rattle.hb_planwrites.proofs.KeyWrites.{IsBackEnd, route_on_back_ends}
use Rattle.hb_plantables.proofs.Longer.{IsNext, below_next, dictionary_with, new_apart, other_table, own_table, name_free}
use Rattle.hb_plantables.proofs.NextState.{state_after}
use Rattle.hb_plantables.proofs.Puts.{IsPut, put_last}

-- ---- rows of the back ends that stay

module _ (family after : Family) (kept : (node : ℕ) → 2 ≤ node → rows_of node after ≡ rows_of node family) where
  pub standing_kept : (table : ℕ) (key : ℤ) (a : ℕ) → IsBackEnd family a → standing after table key a ≡ standing family table key a
  standing_kept table key a is = ap (lookup (place_in a table key)) (kept (node_of_area a) is.behind)

  pub along_kept : (table : ℕ) (key : ℤ) (areas : List ℕ) → Each (IsBackEnd family) areas → along after table key areas ≡ along family table key areas
  along_kept table key [] e = refl
  along_kept table key (a ∷ more) e =
      ap (λ o. option_or o (along after table key more)) (standing_kept table key a e.0) ∙ ap (λ o. option_or (standing family table key a) o) (along_kept table key more e.1)

  pub rows_kept : (back_ends : ℕ) (s : State) → Sys back_ends family s → (t : Table) (p : Spread) → IsIn p s.layout.spreads → TableRows family t p → TableRows after t p
  rows_kept back_ends s sys t p there rows = record {
    placed = λ node q row two table stands. rows.placed node q row two table (ap (lookup q) (sym (kept node two)) ∙ stands);
    once = λ key a b h. let on = route_on_back_ends back_ends family s sys p there (group_of key) (Moving a b) h in
        elim (rows.once key a b h) [ inl x ↦ inl (standing_kept p.number key a on.0 ∙ x) | inr x ↦ inr (standing_kept p.number key b on.1.0 ∙ x) ];
    same = λ key e h. along_kept p.number key (route e) (route_on_back_ends back_ends family s sys p there (group_of key) e h) ∙ rows.same key e h;
  }

-- a group of a new table lies in one area, on a back end
abbrev pub IsSettled : Entry → Type 0
IsSettled (At a) = 2 ≤ node_of_area a
IsSettled (Moving a b) = ⊥

-- ---- found among spreads with one more

found_front : (name : List ℕ) (ss : List Spread) (p : Spread) → bytes_eq p.name name ≡ false
    → find (λ (q : Spread). bytes_eq q.name name) (ss ++ p ∷ []) ≡ find (λ (q : Spread). bytes_eq q.name name) ss
found_front name [] p f = rw f refl
found_front name (q ∷ ss) p f = ap (λ o. cond (bytes_eq q.name name) (Some q) o) (found_front name ss p f)

found_last : (name : List ℕ) (ss : List Spread) (p : Spread) → bytes_eq p.name name ≡ true → Each (λ (q : Spread). bytes_eq q.name name ≡ false) ss
    → find (λ (q : Spread). bytes_eq q.name name) (ss ++ p ∷ []) ≡ Some p
found_last name [] p y e = rw y refl
found_last name (q ∷ ss) p y e = rw e.0 (found_last name ss p y e.1)

some_of : {A : Type 0} (x y : A) → Some x ≡ Some y → x ≡ y
some_of x y h = cc

-- ---- the system

module _ (back_ends : ℕ) (family after : Family) (s : State) (sys : Sys back_ends family s) (t : Table) (p : Spread) (next : IsNext s t p) (few : length s.tables < 64) (table : IsTable t)
    (empty : t.rows ≡ []) (spread : IsSpread (create_table s t p) p) (settled : (g : ℕ) (e : Entry) → slice_get p.entries g ≡ Some e → IsSettled e)
    (is_put : IsPut family (map put_row (new_rows t p)) after) where
  abbrev with_it : State
  with_it = create_table s t p

  numbers_below : Each (λ (q : Spread). q.number < p.number) s.layout.spreads
  numbers_below = let is = next.number in below_next 1 p.number s.layout.spreads sys.state.spreads_numbered (omega (arith, is))

  -- no row of a back end has the new number
  none_of_it : (node : ℕ) (x : Place) (row : List ℕ) → 2 ≤ node → x.space.table ≡ p.number → lookup x (rows_of node after) ≡ Some row → ⊥
  none_of_it node x row two is stands =
      let has = sys.of_tables node x row two (ap (lookup x) (sym (is_put.others node two)) ∙ stands) in
      let one = pick (λ (q : Spread). q.number ≡ x.space.table) (λ (q : Spread). q.number < p.number) s.layout.spreads has numbers_below in
      let same = one.one in
      let below = one.other in
      absurd (omega (arith, same, below, is))

  nothing_stands : (key : ℤ) (a : ℕ) → 2 ≤ node_of_area a → standing after p.number key a ≡ None
  nothing_stands key a two = by (standing after p.number key a) refl
    where
      by : (o : Option (List ℕ)) → standing after p.number key a ≡ o → o ≡ None
      by None e = refl
      by (Some row) e = absurd (none_of_it (node_of_area a) (place_in a p.number key) row two refl e)

  nothing_along : (key : ℤ) (e : Entry) → IsSettled e → along after p.number key (route e) ≡ None
  nothing_along key (At a) two = ap (λ o. option_or o None) (nothing_stands key a two)
  nothing_along key (Moving a b) never = absurd never

  own_rows : TableRows after t p
  own_rows = record {
    placed = λ node x row two is stands. absurd (none_of_it node x row two is stands);
    once = λ key a b h. absurd (settled (group_of key) (Moving a b) h);
    same = λ key e h. nothing_along key e (settled (group_of key) e h) ∙ ap (λ rs. option_map row_bytes (find (has_key t key) rs)) (sym empty);
  }

  spreads_unlike : (name : List ℕ) → t.name ≡ name → Each (λ (q : Spread). bytes_eq q.name name ≡ false) s.layout.spreads
  spreads_unlike name is = unlike s.layout.spreads sys.state.spreads
    where
      unlike : (ss : List Spread) → Each (IsSpread s) ss → Each (λ (q : Spread). bytes_eq q.name name ≡ false) ss
      unlike [] e = tt
      unlike (q ∷ ss) e =
          (not_true (bytes_eq q.name name) (λ y. false≢true (sym (name_free s t p next q e.0) ∙ (bytes_eq-Decides t.name q.name).1 (is ∙ sym ((bytes_eq-Decides q.name name).0 y)))), unlike ss e.1)

  pub sys_after : Sys back_ends after with_it
  sys_after = record {
    servers = is_put.servers ∙ sys.servers;
    ascending = is_put.ascending sys.ascending;
    state = state_after back_ends s sys.state t p next few table spread;
    dictionary_rows = λ x. is_put.dictionary x ∙ put_last x (new_rows t p) (lookup x (rows_of ds family)) (new_apart t p)
        ∙ ap (λ o. option_or (lookup x (new_rows t p)) o) (sys.dictionary_rows x) ∙ sym (dictionary_with s t p next sys.state.spreads_numbered sys.state.spreads x);
    of_tables = λ node x row two stands. Has-front (λ (q : Spread). q.number ≡ x.space.table) s.layout.spreads (p ∷ [])
        (sys.of_tables node x row two (ap (lookup x) (sym (is_put.others node two)) ∙ stands));
    tables = tables;
  }
    where
      own : (name : List ℕ) (u : Table) (q : Spread) → t.name ≡ name → table_named with_it name ≡ Some u → spread_named with_it name ≡ Some q → TableRows after u q
      own name u q is found at =
          let first : t ≡ u = some_of t u (sym (own_table s t p next) ∙ ap (table_named with_it) is ∙ found) in
          let second : p ≡ q =
          some_of p q (sym (found_last name s.layout.spreads p ((bytes_eq-Decides p.name name).1 (next.named ∙ is)) (spreads_unlike name is)) ∙ at) in
          subst (λ (x : Table). TableRows after x q) first (subst (λ (y : Spread). TableRows after t y) second own_rows)

      other : (name : List ℕ) (u : Table) (q : Spread) → bytes_eq t.name name ≡ false → table_named with_it name ≡ Some u → spread_named with_it name ≡ Some q → TableRows after u q
      other name u q apart found at =
          let unlike : bytes_eq p.name name ≡ false = ap (λ n. bytes_eq n name) next.named ∙ apart in
          let was : spread_named s name ≡ Some q = sym (found_front name s.layout.spreads p unlike) ∙ at in
          rows_kept family after is_put.others back_ends s sys u q (find_holds (λ (r : Spread). bytes_eq r.name name) s.layout.spreads q was).1
          (sys.tables name u q (sym (other_table s t p next name apart) ∙ found) was)

      tables : (name : List ℕ) (u : Table) (q : Spread) → table_named with_it name ≡ Some u → spread_named with_it name ≡ Some q → TableRows after u q
      tables name u q found at =
          by_test (bytes_eq t.name name) (λ y. own name u q ((bytes_eq-Decides t.name name).0 y) found at) (λ f. other name u q f found at)
