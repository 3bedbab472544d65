-- A key's row is put in the new area of its group and taken out of the old one.
use Rattle.std.proofs.Common.{◌≡◌, inl, inr, ◌⊎◌, ℕ, ◌≤◌, ℤ, List, [], ◌∷◌, Some, None, false, refl, subst, sym, ap, ◌∙◌, arith}
use Rattle.std.specs.Prelude.{◌==◌, option_map, slice_get}
use Rattle.std.specs.Option.{option_or}
use Rattle.std.specs.Ordering.{int_eq}
use Rattle.std.specs.Str.{bytes_eq}
use Rattle.std.proofs.lemmas.Bool.{false≢true}
use Rattle.std.proofs.lemmas.Bool.Decides.{Decides-eqb, Decides-int_eq}
use Rattle.hb_types.specs.declared.change.Change.{Change}
use Rattle.hb_types.specs.declared.entry.Entry.{Entry}
use Rattle.hb_types.specs.declared.entry.Entry.TheVariants.{Moving}
use Rattle.hb_types.specs.declared.places.Place.{Place}
use Rattle.hb_types.specs.Groups.{group_of, route}
use Rattle.hb_types.specs.Lists.{Has, IsIn}
use Rattle.hb_types.specs.Places.{node_of_area, same_place}
use Rattle.hb_types.specs.Put.{lookup}
use Rattle.hb_types.specs.Rows.{row_bytes}
use Rattle.hb_types.proofs.Ascending.{Has-of}
use Rattle.hb_types.proofs.PutLaws.{by_test}
use Rattle.hb_types.proofs.SamePlace.{same_place-eq, same_place-refl}
use Rattle.hb_model.specs.declared.table.Table.{Table}
use Rattle.hb_model.specs.Answers.{put_at, rows_of}
use Rattle.hb_model.specs.Families.{Family}
use Rattle.hb_model.specs.Spots.{place_in}
use Rattle.hb_model.specs.State.{State, Spread, spread_named, table_named}
use Rattle.hb_model.specs.System.{Sys}
use Rattle.hb_model.specs.TableRows.{IsPlaced, TableRows, along, row_of, standing}
use Rattle.hb_model.proofs.DictionaryRows.{not_true}
use Rattle.hb_planlaws.proofs.Named.{find_holds}
use Rattle.hb_planwrites.proofs.Changed.{IsAside, aside_put, aside_then, at_elsewhere, at_here, at_length, at_other}
use Rattle.hb_planwrites.proofs.KeyWrites.{IsBackEnd}
use Rattle.hb_movelaws.proofs.Settling.{same_of_number}

some_none : {A : Type 0} (x : A) → Some x ≡ None → ⊥
some_none x e = cc

some_of : {A : Type 0} (x y : A) → Some x ≡ Some y → x ≡ y
some_of x y h = cc

moving_of : (a b c d : ℕ) → Moving a b ≡ Moving c d → a ≡ c
moving_of a b c d e = cc

-- ---- other tables

module _ (number : ℕ) (family after : Family) (aside : IsAside number family after) (u : Table) (r : Spread) (apart : r.number ≡ number → ⊥) where
  standing_aside : (key : ℤ) (a : ℕ) → standing after r.number key a ≡ standing family r.number key a
  standing_aside key a = aside.others (node_of_area a) (place_in a r.number key) apart

  along_aside : (key : ℤ) (areas : List ℕ) → along after r.number key areas ≡ along family r.number key areas
  along_aside key [] = refl
  along_aside key (a ∷ more) = ap (λ o. option_or o (along after r.number key more)) (standing_aside key a) ∙ ap (λ o. option_or (standing family r.number key a) o) (along_aside key more)

  others_kept : TableRows family u r → TableRows after u r
  others_kept rows = record {
    placed = λ node q row two table there. rows.placed node q row two table (sym (aside.others node q (λ e. apart (sym table ∙ e))) ∙ there);
    once = λ key a b h. elim (rows.once key a b h) [ inl x ↦ inl (standing_aside key a ∙ x) | inr x ↦ inr (standing_aside key b ∙ x) ];
    same = λ key e h. along_aside key (route e) ∙ rows.same key e h;
  }

-- ---- a system whose one table lies otherwise

module _ (back_ends : ℕ) (family after : Family) (s : State) (sys : Sys back_ends family s) (p : Spread) (there : IsIn p s.layout.spreads) (aside : IsAside p.number family after)
    (mine : (t : Table) → TableRows family t p → TableRows after t p) where
  of_tables : (node : ℕ) (x : Place) (row : List ℕ) → 2 ≤ node → lookup x (rows_of node after) ≡ Some row → Has (λ (q : Spread). q.number ≡ x.space.table) s.layout.spreads
  of_tables node x row two stands =
      by_test (x.space.table == p.number)
      (λ y. Has-of (λ q. q ≡ p) (λ (q : Spread). q.number ≡ x.space.table) s.layout.spreads
      (λ q e. ap (λ (z : Spread). z.number) e ∙ sym ((Decides-eqb x.space.table p.number).0 y)) there)
      (λ n. sys.of_tables node x row two (sym (aside.others node x (λ e. false≢true (sym n ∙ (Decides-eqb x.space.table p.number).1 e))) ∙ stands))

  tables : (name : List ℕ) (t : Table) (r : Spread) → table_named s name ≡ Some t → spread_named s name ≡ Some r → TableRows after t r
  tables name t r found is =
      let in_it = (find_holds (λ (z : Spread). bytes_eq z.name name) s.layout.spreads r is).1 in
      let rows : TableRows family t r = sys.tables name t r found is in
      by_test (r.number == p.number)
      (λ y. let same : r ≡ p = same_of_number s.layout.spreads r p sys.state.spreads_numbered in_it there ((Decides-eqb r.number p.number).0 y) in
      subst (TableRows after t) (sym same) (mine t (subst (TableRows family t) same rows)))
      (λ n. others_kept p.number family after aside t r (λ e. false≢true (sym n ∙ (Decides-eqb r.number p.number).1 e)) rows)

  pub sys_aside : Sys back_ends after s
  sys_aside = record {
    servers = aside.servers ∙ sys.servers;
    ascending = aside.ascending sys.ascending;
    state = sys.state;
    dictionary_rows = λ x. aside.dictionary x ∙ sys.dictionary_rows x;
    of_tables = of_tables;
    tables = tables;
  }

-- ---- one key

module _ (family : Family) (p : Spread) (key : ℤ) (old new : ℕ) (apart : old ≡ new → ⊥) (on_old : IsBackEnd family old) (on_new : IsBackEnd family new) (row : List ℕ) where
  abbrev pub from : Place
  from = place_in old p.number key

  abbrev pub to : Place
  to = place_in new p.number key

  abbrev put_new : Change
  put_new = record { place = to; row = Some row }

  abbrev put_old : Change
  put_old = record { place = from; row = None }

  abbrev middle : Family
  middle = put_at (node_of_area new) put_new family

  abbrev pub moved : Family
  moved = put_at (node_of_area old) put_old middle

  pub key_aside : IsAside p.number family moved
  key_aside =
      aside_then p.number family middle moved (aside_put p.number (node_of_area new) put_new family on_new.behind refl)
      (aside_put p.number (node_of_area old) put_old middle on_old.behind refl)

  from_to : from ≡ to → ⊥
  from_to e = apart (ap (λ (q : Place). q.space.area) e)

  not_at : (q r : Place) → (q ≡ r → ⊥) → same_place q r ≡ false
  not_at q r n = not_true (same_place q r) (λ y. n (same_place-eq q r y))

  pub gone : lookup from (rows_of (node_of_area old) moved) ≡ None
  gone =
      let two = on_old.behind in let among = on_old.among in let size = at_length (node_of_area new) put_new family in
      at_here (node_of_area old) put_old middle (omega (arith, two)) (omega (arith, among, size))

  pub come : lookup to (rows_of (node_of_area new) moved) ≡ Some row
  come =
      let two = on_new.behind in
      at_other (node_of_area new) (node_of_area old) put_old middle to (not_at to from (λ e. from_to (sym e)))
      ∙ at_here (node_of_area new) put_new family (omega (arith, two)) on_new.among

  pub elsewhere : (node : ℕ) (q : Place) → (q ≡ from → ⊥) → (q ≡ to → ⊥) → lookup q (rows_of node moved) ≡ lookup q (rows_of node family)
  elsewhere node q n m = at_other node (node_of_area old) put_old middle q (not_at q from n) ∙ at_other node (node_of_area new) put_new family q (not_at q to m)

  beside_old : (node : ℕ) (q : Place) → (node ≡ node_of_area old → ⊥) → (q ≡ to → ⊥) → lookup q (rows_of node moved) ≡ lookup q (rows_of node family)
  beside_old node q n m = ap (lookup q) (at_elsewhere node (node_of_area old) put_old middle n) ∙ at_other node (node_of_area new) put_new family q (not_at q to m)

  beside_new : (node : ℕ) (q : Place) → (node ≡ node_of_area new → ⊥) → (q ≡ from → ⊥) → lookup q (rows_of node moved) ≡ lookup q (rows_of node family)
  beside_new node q n m = at_other node (node_of_area old) put_old middle q (not_at q from m) ∙ ap (lookup q) (at_elsewhere node (node_of_area new) put_new family n)

  pub standing_other : (j : ℤ) (b : ℕ) → (j ≡ key → ⊥) → standing moved p.number j b ≡ standing family p.number j b
  standing_other j b n = elsewhere (node_of_area b) (place_in b p.number j) (λ e. n (ap (λ (q : Place). q.key) e)) (λ e. n (ap (λ (q : Place). q.key) e))

  along_other : (j : ℤ) → (j ≡ key → ⊥) → (areas : List ℕ) → along moved p.number j areas ≡ along family p.number j areas
  along_other j n [] = refl
  along_other j n (b ∷ more) = ap (λ o. option_or o (along moved p.number j more)) (standing_other j b n) ∙ ap (λ o. option_or (standing family p.number j b) o) (along_other j n more)

  module _ (t : Table) (rows : TableRows family t p) (entry : slice_get p.entries (group_of key) ≡ Some (Moving old new)) (stood : standing family p.number key old ≡ Some row) where
    pub free : standing family p.number key new ≡ None
    free = elim (rows.once key old new entry) [ inl x ↦ absurd (some_none row (sym stood ∙ x)) | inr x ↦ x ]

    placed_to : (node : ℕ) (q : Place) (bytes : List ℕ) → 2 ≤ node → q.space.table ≡ p.number → lookup q (rows_of node moved) ≡ Some bytes → q ≡ to → IsPlaced p node q
    placed_to node q bytes two table stands is =
        by_test (node == node_of_area new)
        (λ z. subst (λ x. IsPlaced p node x) (sym is) (record { group = refl; on_node = sym ((Decides-eqb node (node_of_area new)).0 z); area = (Moving old new, entry, (1, omega arith, refl)) }))
        (λ z. rows.placed node q bytes two table
        (sym (beside_new node q (λ h. false≢true (sym z ∙ (Decides-eqb node (node_of_area new)).1 h)) (λ h. from_to (sym h ∙ is))) ∙ stands))

    placed_from : (node : ℕ) (q : Place) (bytes : List ℕ) → 2 ≤ node → q.space.table ≡ p.number → lookup q (rows_of node moved) ≡ Some bytes → q ≡ from → IsPlaced p node q
    placed_from node q bytes two table stands is =
        by_test (node == node_of_area old)
        (λ z. let n : node ≡ node_of_area old = (Decides-eqb node (node_of_area old)).0 z in
        absurd (some_none bytes (sym stands ∙ ap (λ m. lookup q (rows_of m moved)) n ∙ ap (λ x. lookup x (rows_of (node_of_area old) moved)) is ∙ gone)))
        (λ z. rows.placed node q bytes two table
        (sym (beside_old node q (λ h. false≢true (sym z ∙ (Decides-eqb node (node_of_area old)).1 h)) (λ h. from_to (sym is ∙ h))) ∙ stands))

    is_not : (q r : Place) → same_place q r ≡ false → q ≡ r → ⊥
    is_not q r n e = false≢true (sym n ∙ ap (λ x. same_place x r) e ∙ same_place-refl r)

    placed_after : (node : ℕ) (q : Place) (bytes : List ℕ) → 2 ≤ node → q.space.table ≡ p.number → lookup q (rows_of node moved) ≡ Some bytes → IsPlaced p node q
    placed_after node q bytes two table stands =
        by_test (same_place q to)
        (λ y. placed_to node q bytes two table stands (same_place-eq q to y))
        (λ n. by_test (same_place q from)
        (λ y. placed_from node q bytes two table stands (same_place-eq q from y))
        (λ m. rows.placed node q bytes two table (sym (elsewhere node q (is_not q from m) (is_not q to n)) ∙ stands)))

    its_entry : (j : ℤ) (e : Entry) → key ≡ j → slice_get p.entries (group_of j) ≡ Some e → Moving old new ≡ e
    its_entry j e is h = some_of (Moving old new) e (sym entry ∙ ap (λ k. slice_get p.entries (group_of k)) is ∙ h)

    once_after : (j : ℤ) (x y : ℕ) → slice_get p.entries (group_of j) ≡ Some (Moving x y) → (standing moved p.number j x ≡ None) ⊎ (standing moved p.number j y ≡ None)
    once_after j x y h =
        by_test (int_eq j key)
        (λ z. let is : key ≡ j = sym ((Decides-int_eq j key).0 z) in
        let same : old ≡ x = moving_of old new x y (its_entry j (Moving x y) is h) in
        inl (subst (λ k. standing moved p.number k x ≡ None) is (subst (λ a. standing moved p.number key a ≡ None) same gone)))
        (λ z. let n : j ≡ key → ⊥ = λ q. false≢true (sym z ∙ (Decides-int_eq j key).1 q) in
        elim (rows.once j x y h) [ inl k ↦ inl (standing_other j x n ∙ k) | inr k ↦ inr (standing_other j y n ∙ k) ])

    along_key : along moved p.number key (old ∷ new ∷ []) ≡ along family p.number key (old ∷ new ∷ [])
    along_key =
        ap (λ o. option_or o (option_or (standing moved p.number key new) None)) gone ∙ ap (λ o. option_or o None) come
        ∙ sym (ap (λ o. option_or o (option_or (standing family p.number key new) None)) stood)

    same_after : (j : ℤ) (e : Entry) → slice_get p.entries (group_of j) ≡ Some e → along moved p.number j (route e) ≡ option_map row_bytes (row_of t j)
    same_after j e h =
        by_test (int_eq j key)
        (λ z. let is : key ≡ j = sym ((Decides-int_eq j key).0 z) in
        subst (λ x. along moved p.number j (route x) ≡ option_map row_bytes (row_of t j)) (its_entry j e is h)
        (subst (λ k. along moved p.number k (old ∷ new ∷ []) ≡ option_map row_bytes (row_of t k)) is (along_key ∙ rows.same key (Moving old new) entry)))
        (λ z. let n : j ≡ key → ⊥ = λ q. false≢true (sym z ∙ (Decides-int_eq j key).1 q) in
        along_other j n (route e) ∙ rows.same j e h)

    pub rows_moved : TableRows moved t p
    rows_moved = record { placed = placed_after; once = once_after; same = same_after }
