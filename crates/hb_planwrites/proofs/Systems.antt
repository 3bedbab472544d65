-- A system whose one table has other rows is a system again.
use Rattle.std.proofs.Common.{◌≡◌, inl, inr, ℕ, suc, ◌≤◌, ℤ, List, [], ◌∷◌, ◌++◌, length, map, Option, Some, None, Bool, true, false, refl, subst, sym, ap, ◌∙◌, arith}
use Rattle.std.specs.Prelude.{◌==◌, find, flat_map, option_map, unwrap_or, IsSome}
use Rattle.std.specs.Str.{bytes_eq}
use Rattle.std.specs.Option.{option_or}
use Rattle.std.specs.declared.cmp.Ordering.{Ordering}
use Rattle.std.specs.declared.cmp.Ordering.TheVariants.{Less}
use Rattle.std.proofs.lemmas.Bool.{false≢true}
use Rattle.std.proofs.lemmas.Bool.Decides.{Decides-eqb}
use Rattle.std.proofs.lemmas.Cmp.{nat_list_cmp_total, on_total}
use Rattle.std.proofs.lemmas.Slice.Eq.{bytes_eq-Decides}
use Rattle.hb_types.specs.declared.change.Stored.{Stored}
use Rattle.hb_types.specs.declared.places.Place.{Place}
use Rattle.hb_types.specs.declared.value.Value.{Value}
use Rattle.hb_types.specs.Groups.{route}
use Rattle.hb_types.specs.Lists.{Ascends, Each, Has, IsIn}
use Rattle.hb_types.specs.Places.{node_of_area}
use Rattle.hb_types.specs.Put.{lookup}
use Rattle.hb_types.proofs.Ascending.{Ascends-first, Ascends-tail, Each-of, Has-of, in_Each, irreflexive}
use Rattle.hb_types.proofs.PutLaws.{by_test}
use Rattle.hb_model.specs.declared.table.Table.{Table}
use Rattle.hb_model.specs.Answers.{rows_of}
use Rattle.hb_model.specs.Dictionary.{at_place, dictionary, table_row, table_rows, area_rows, member_rows, entry_rows}
use Rattle.hb_model.specs.Does.{rows_put, with_rows}
use Rattle.hb_model.specs.Families.{Family}
use Rattle.hb_model.specs.Names.{text_cmp}
use Rattle.hb_model.specs.Rows.{AreByKey}
use Rattle.hb_model.specs.Spots.{place_in, tables_space}
use Rattle.hb_model.specs.State.{State, Area, Spread, table_named, spread_named}
use Rattle.hb_model.specs.System.{Sys}
use Rattle.hb_model.specs.TableRows.{TableRows, along, standing}
use Rattle.hb_model.specs.Valid.{IsState, IsArea, AreAreas, IsTable, IsSpread, FitsAll}
use Rattle.hb_model.proofs.DictionaryRows.{not_true}
use Rattle.hb_planlaws.proofs.Named.{find_holds}
use Rattle.hb_planlaws.proofs.Walks.{numbered}
use Rattle.hb_planwrites.proofs.Changed.{IsAside}

-- ---- lists

pub find-mapped : {A : Type 0} (p : A → Bool) (f : A → A) (xs : List A) → ((y : A) → p (f y) ≡ p y) → find p (map f xs) ≡ option_map f (find p xs)
find-mapped p f [] same = refl
find-mapped p f (x ∷ xs) same =
    by_test (p x)
    (λ t. let u : p (f x) ≡ true = same x ∙ t in rw (t, u) refl)
    (λ n. let u : p (f x) ≡ false = same x ∙ n in rw (n, u) (find-mapped p f xs same))

length-mapped : {A B : Type 0} (f : A → B) (xs : List A) → length (map f xs) ≡ length xs
length-mapped f [] = refl
length-mapped f (x ∷ xs) = ap (λ n. suc n) (length-mapped f xs)

pub each_mapped : {A B : Type 0} (P : B → Type 0) (f : A → B) (xs : List A) → ((x : A) → IsIn x xs → P (f x)) → Each P (map f xs)
each_mapped P f [] h = tt
each_mapped P f (x ∷ xs) h = (h x (inl refl), each_mapped P f xs (λ y i. h y (inr i)))

none_some : {A : Type 0} (x : A) → None ≡ Some x → ⊥
none_some x h = cc

some_of : {A : Type 0} (x y : A) → Some x ≡ Some y → x ≡ y
some_of x y h = cc

-- ---- tables by name

abbrev by_name : Table → Table → Ordering
by_name a b = text_cmp a.name b.name

found_itself : (us : List Table) → Ascends by_name us → (u : Table) → IsIn u us → find (λ (x : Table). bytes_eq x.name u.name) us ≡ Some u
found_itself [] a u i = absurd i
found_itself (v ∷ us) a u (inl e) =
    subst (λ (x : Table). find (λ (y : Table). bytes_eq y.name x.name) (v ∷ us) ≡ Some x) e (rw ((bytes_eq-Decides v.name v.name).1 refl) refl)
found_itself (v ∷ us) a u (inr i) =
    let order = on_total (λ (x : Table). x.name) nat_list_cmp_total in
    let below : text_cmp v.name u.name ≡ Less = in_Each (λ (y : Table). text_cmp v.name y.name ≡ Less) u us i (Ascends-first by_name order v us a) in
    let apart : bytes_eq v.name u.name ≡ false =
    not_true (bytes_eq v.name u.name) (λ y. irreflexive text_cmp nat_list_cmp_total u.name (subst (λ n. text_cmp n u.name ≡ Less) ((bytes_eq-Decides v.name u.name).0 y) below)) in
    rw apart (found_itself us (Ascends-tail by_name order v us a) u i)

-- tables of one name are one
pub one_of_name : (us : List Table) → Ascends by_name us → (u v : Table) → IsIn u us → IsIn v us → u.name ≡ v.name → u ≡ v
one_of_name us a u v i j e =
    some_of u v (sym (found_itself us a u i) ∙ ap (λ n. find (λ (x : Table). bytes_eq x.name n) us) e ∙ found_itself us a v j)

put_name : (n : List ℕ) (rows : List (List Value)) (name : List ℕ) (t : Table) → bytes_eq (rows_put n rows t).name name ≡ bytes_eq t.name name
put_name n rows name t = by_test (bytes_eq t.name n) (λ e. rw e refl) (λ f. rw f refl)

put_cmp : (n : List ℕ) (rows : List (List Value)) (t u : Table) → by_name (rows_put n rows t) (rows_put n rows u) ≡ by_name t u
put_cmp n rows t u = ap (λ a. text_cmp a (rows_put n rows u).name) (kept t) ∙ ap (λ b. text_cmp t.name b) (kept u)
  where
    kept : (x : Table) → (rows_put n rows x).name ≡ x.name
    kept x = by_test (bytes_eq x.name n) (λ e. rw e refl) (λ f. rw f refl)

names_ascend : (n : List ℕ) (rows : List (List Value)) (us : List Table) → Ascends by_name us → Ascends by_name (map (rows_put n rows) us)
names_ascend n rows [] a = tt
names_ascend n rows (u ∷ []) a = tt
names_ascend n rows (u ∷ v ∷ us) a = (put_cmp n rows u v ∙ a.0, names_ascend n rows (v ∷ us) a.1)

pub table_after : (t : Table) (rows : List (List Value)) → IsTable t → AreByKey t rows → Each (FitsAll t.columns) rows → IsTable (record t { rows = rows })
table_after t rows is a f = record {
  named = is.named;
  some_columns = is.some_columns;
  few_columns = is.few_columns;
  columns_named = is.columns_named;
  columns_differ = is.columns_differ;
  key_is_number = is.key_is_number;
  rows_ascend = a;
  rows_fit = f;
}

-- ---- the state

module _ (s : State) (t : Table) (rows : List (List Value)) where
  abbrev put_rows : Table → Table
  put_rows = rows_put t.name rows

  abbrev after_state : State
  after_state = with_rows s t rows

  pub table_named_after : (n : List ℕ) → table_named after_state n ≡ option_map put_rows (table_named s n)
  table_named_after n = find-mapped (λ (u : Table). bytes_eq u.name n) put_rows s.tables (put_name t.name rows n)

  row_kept : (u : Table) → table_row (put_rows u) ≡ table_row u
  row_kept u = by_test (bytes_eq u.name t.name) (λ e. rw e refl) (λ f. rw f refl)

  abbrev rows_if : ℕ → Option Table → List Stored
  rows_if n o = unwrap_or (option_map (λ u. at_place tables_space 0 n (table_row u) ∷ []) o) []

  rows_kept : (n : ℕ) (o : Option Table) → rows_if n (option_map put_rows o) ≡ rows_if n o
  rows_kept n None = refl
  rows_kept n (Some u) = ap (λ r. at_place tables_space 0 n r ∷ []) (row_kept u)

  all_kept : (ss : List Spread) → flat_map (table_rows after_state) ss ≡ flat_map (table_rows s) ss
  all_kept [] = refl
  all_kept (p ∷ ss) =
      let first : table_rows after_state p ≡ table_rows s p = ap (rows_if p.number) (table_named_after p.name) ∙ rows_kept p.number (table_named s p.name) in
      ap (λ xs. xs ++ flat_map (table_rows after_state) ss) first ∙ ap (λ xs. table_rows s p ++ xs) (all_kept ss)

  -- the dictionary tells nothing of rows
  dictionary_kept : dictionary after_state ≡ dictionary s
  dictionary_kept = ap (λ xs. area_rows s ++ xs ++ flat_map member_rows s.layout.spreads ++ flat_map entry_rows s.layout.spreads) (all_kept s.layout.spreads)

  some_kept : (o : Option Table) → IsSome o → IsSome (option_map put_rows o)
  some_kept None h = absurd (false≢true h)
  some_kept (Some u) h = refl

  spread_kept : (p : Spread) → IsSpread s p → IsSpread after_state p
  spread_kept p is = record {
    of_table = subst IsSome (sym (table_named_after p.name)) (some_kept (table_named s p.name) is.of_table);
    some_members = is.some_members;
    few_members = is.few_members;
    members_differ = is.members_differ;
    members_are_areas = is.members_are_areas;
    all_groups = is.all_groups;
    entries_among = is.entries_among;
    fair = is.fair;
  }

  area_kept : (back_ends : ℕ) (a : Area) → IsArea back_ends s a → IsArea back_ends after_state a
  area_kept back_ends a is = record { named = is.named; low = is.low; high = is.high; first = is.first; last = is.last }

  areas_kept : (back_ends : ℕ) → AreAreas back_ends s → AreAreas back_ends after_state
  areas_kept back_ends is = record {
    few = is.few;
    ascend = is.ascend;
    names_differ = is.names_differ;
    each = Each-of (IsArea back_ends s) (IsArea back_ends after_state) s.layout.areas (area_kept back_ends) is.each;
  }

  module _ (back_ends : ℕ) (is : IsState back_ends s) (there : IsIn t s.tables) (ascend : AreByKey t rows) (fit : Each (FitsAll t.columns) rows) where
    each_table : (u : Table) → IsIn u s.tables → IsTable (put_rows u)
    each_table u i =
        by_test (bytes_eq u.name t.name)
        (λ y. let e : u ≡ t = one_of_name s.tables is.tables_ascend u t i there ((bytes_eq-Decides u.name t.name).0 y) in
        let after : IsTable (record t { rows = rows }) = table_after t rows (in_Each IsTable t s.tables there is.tables) ascend fit in
        rw y (subst (λ (x : Table). IsTable (record x { rows = rows })) (sym e) after))
        (λ n. rw n (in_Each IsTable u s.tables i is.tables))

    state_after : IsState back_ends after_state
    state_after = record {
      areas = areas_kept back_ends is.areas;
      few_tables = let e = length-mapped put_rows s.tables in let f = is.few_tables in omega (arith, e, f);
      tables_ascend = names_ascend t.name rows s.tables is.tables_ascend;
      tables = each_mapped IsTable put_rows s.tables each_table;
      one_spread_each = is.one_spread_each ∙ sym (length-mapped put_rows s.tables);
      spreads_numbered = is.spreads_numbered;
      spread_names_differ = is.spread_names_differ;
      spreads = Each-of (IsSpread s) (IsSpread after_state) s.layout.spreads spread_kept is.spreads;
    }

-- ---- other tables

module _ (number : ℕ) (family after : Family) (aside : IsAside number family after) (u : Table) (r : Spread) (apart : r.number ≡ number → ⊥) where
  standing_kept : (key : ℤ) (a : ℕ) → standing after r.number key a ≡ standing family r.number key a
  standing_kept key a = aside.others (node_of_area a) (place_in a r.number key) apart

  along_kept : (key : ℤ) (areas : List ℕ) → along after r.number key areas ≡ along family r.number key areas
  along_kept key [] = refl
  along_kept key (a ∷ more) = ap (λ o. option_or o (along after r.number key more)) (standing_kept key a) ∙ ap (λ o. option_or (standing family r.number key a) o) (along_kept key more)

  others_kept : TableRows family u r → TableRows after u r
  others_kept rows = record {
    placed = λ node p row two table there. rows.placed node p row two table (sym (aside.others node p (λ e. apart (sym table ∙ e))) ∙ there);
    once = λ key a b h. elim (rows.once key a b h) [ inl x ↦ inl (standing_kept key a ∙ x) | inr x ↦ inr (standing_kept key b ∙ x) ];
    same = λ key e h. along_kept key (route e) ∙ rows.same key e h;
  }

-- ---- the system

module _ (back_ends : ℕ) (family after : Family) (s : State) (sys : Sys back_ends family s) (name : List ℕ) (t : Table) (p : Spread)
    (is : table_named s name ≡ Some t) (there : spread_named s name ≡ Some p) (rows : List (List Value)) (aside : IsAside p.number family after) where
  table_in : (bytes_eq t.name name ≡ true) × IsIn t s.tables
  table_in = find_holds (λ (x : Table). bytes_eq x.name name) s.tables t is

  spread_in : (bytes_eq p.name name ≡ true) × IsIn p s.layout.spreads
  spread_in = find_holds (λ (x : Spread). bytes_eq x.name name) s.layout.spreads p there

  -- of each table that is found by another name
  other_table : (n : List ℕ) (u : Table) (r : Spread) → table_named s n ≡ Some u → spread_named s n ≡ Some r → bytes_eq u.name t.name ≡ false → TableRows after u r
  other_table n u r found at apart =
      let mine = find_holds (λ (x : Table). bytes_eq x.name n) s.tables u found in
      let here = find_holds (λ (x : Spread). bytes_eq x.name n) s.layout.spreads r at in
      let numbers : (q : Spread) → IsIn q s.layout.spreads → find (λ (z : Spread). q.number == z.number) s.layout.spreads ≡ Some q =
      λ q i. numbered 1 s.layout.spreads q sys.state.spreads_numbered i in
      let away : r.number ≡ p.number → ⊥ = λ e.
      let same : r ≡ p = some_of r p (sym (numbers r here.1) ∙ ap (λ k. find (λ (z : Spread). k == z.number) s.layout.spreads) e ∙ numbers p spread_in.1) in
      let names : u.name ≡ t.name =
      (bytes_eq-Decides u.name n).0 mine.0 ∙ sym ((bytes_eq-Decides r.name n).0 here.0) ∙ ap (λ (z : Spread). z.name) same ∙ (bytes_eq-Decides p.name name).0 spread_in.0
      ∙ sym ((bytes_eq-Decides t.name name).0 table_in.0) in
      false≢true (sym apart ∙ (bytes_eq-Decides u.name t.name).1 names) in
      others_kept p.number family after aside u r away (sys.tables n u r found at)

  pub sys_after : TableRows after (record t { rows = rows }) p → AreByKey t rows → Each (FitsAll t.columns) rows → Sys back_ends after (with_rows s t rows)
  sys_after mine ascend fit = record {
    servers = aside.servers ∙ sys.servers;
    ascending = aside.ascending sys.ascending;
    state = state_after s t rows back_ends sys.state table_in.1 ascend fit;
    dictionary_rows = λ x. aside.dictionary x ∙ sys.dictionary_rows x ∙ ap (lookup x) (sym (dictionary_kept s t rows));
    of_tables = of_tables;
    tables = tables;
  }
    where
      of_tables : (node : ℕ) (x : Place) (row : List ℕ) → 2 ≤ node → lookup x (rows_of node after) ≡ Some row → Has (λ (q : Spread). q.number ≡ x.space.table) s.layout.spreads
      of_tables node x row two stands =
          by_test (x.space.table == p.number)
          (λ y. Has-of (λ q. q ≡ p) (λ (q : Spread). q.number ≡ x.space.table) s.layout.spreads
          (λ q e. ap (λ (z : Spread). z.number) e ∙ sym ((Decides-eqb x.space.table p.number).0 y)) spread_in.1)
          (λ n. sys.of_tables node x row two (sym (aside.others node x (λ e. false≢true (sym n ∙ (Decides-eqb x.space.table p.number).1 e))) ∙ stands))

      found : (n : List ℕ) (v : Table) (r : Spread) → spread_named s n ≡ Some r → (o : Option Table) → table_named s n ≡ o → option_map (rows_put t.name rows) o ≡ Some v → TableRows after v r
      found n v r at None none e = absurd (none_some v e)
      found n v r at (Some u) some e =
          let put : rows_put t.name rows u ≡ v = some_of (rows_put t.name rows u) v e in
          let in_u = find_holds (λ (x : Table). bytes_eq x.name n) s.tables u some in
          subst (λ (x : Table). TableRows after x r) put
          (by_test (bytes_eq u.name t.name)
          (λ y. let same : u ≡ t = one_of_name s.tables sys.state.tables_ascend u t in_u.1 table_in.1 ((bytes_eq-Decides u.name t.name).0 y) in
          let names : n ≡ name = sym ((bytes_eq-Decides u.name n).0 in_u.0) ∙ ap (λ (x : Table). x.name) same ∙ (bytes_eq-Decides t.name name).0 table_in.0 in
          let here : p ≡ r = some_of p r (sym there ∙ ap (λ k. spread_named s k) (sym names) ∙ at) in
          rw y (subst (λ (x : Table). TableRows after (record x { rows = rows }) r) (sym same) (subst (λ (q : Spread). TableRows after (record t { rows = rows }) q) here mine)))
          (λ f. rw f (other_table n u r some at f)))

      tables : (n : List ℕ) (v : Table) (r : Spread) → table_named (with_rows s t rows) n ≡ Some v → spread_named s n ≡ Some r → TableRows after v r
      tables n v r h at = found n v r at (table_named s n) refl (sym (table_named_after s t rows n) ∙ h)
