-- What a scan of a table's rows in all areas of its routes reads: the table's rows.
use Rattle.std.proofs.Common.{◌≡◌, ◌⊎◌, inl, inr, ℕ, zero, suc, ℤ, List, [], ◌∷◌, ◌++◌, map, filter, Option, Some, None, true, false, cond, refl, subst, sym, ap, ◌∙◌}
use Rattle.std.specs.Prelude.{◌==◌, find, filter_map, flat_map, option_map, slice_get, Contains}
use Rattle.std.specs.Option.{option_or}
use Rattle.std.specs.Ordering.{nat_cmp, int_cmp, ordering_then}
use Rattle.std.specs.declared.cmp.Ordering.{Ordering}
use Rattle.std.specs.declared.cmp.Ordering.TheVariants.{Less}
use Rattle.std.proofs.lemmas.Bool.{false≢true}
use Rattle.std.proofs.lemmas.Bool.Decides.{Decides-int_eq, Decides-eqb}
use Rattle.std.proofs.lemmas.Cmp.{int_cmp_total, nat_cmp_total, on_total}
use Rattle.hb_types.specs.declared.change.Stored.{Stored}
use Rattle.hb_types.specs.declared.entry.Entry.{Entry}
use Rattle.hb_types.specs.declared.entry.Entry.TheVariants.{At, Moving}
use Rattle.hb_types.specs.declared.places.Path.{Path}
use Rattle.hb_types.specs.declared.places.Path.TheVariants as path
use Rattle.hb_types.specs.declared.places.Place.{Place}
use Rattle.hb_types.specs.declared.places.Space.{Space}
use Rattle.hb_types.specs.declared.value.Value.{Value}
use Rattle.hb_types.specs.Groups.{group_of, route}
use Rattle.hb_types.specs.Lists.{Ascends, Each, IsIn}
use Rattle.hb_types.specs.Places.{is_under, node_of_area, place_cmp, same_place}
use Rattle.hb_types.specs.Put.{lookup, rows_under}
use Rattle.hb_types.specs.Rows.{row_bytes, values_in}
use Rattle.hb_types.proofs.Ascending.{Ascends-first, Ascends-tail, Each-append, Each-in, Each-of, in_Each, irreflexive, same_members}
use Rattle.hb_types.proofs.PutLaws.{by_test}
use Rattle.hb_types.proofs.SamePlace.{same_place-eq, same_space-eq, same_space-refl}
use Rattle.hb_laws.proofs.Places.{place_total, stored_total}
use Rattle.hb_laws.proofs.RowLaws.{less_apart_back, lookup_first}
use Rattle.hb_branch.proofs.Views.{under_ascends}
use Rattle.hb_model.specs.declared.table.Table.{Table}
use Rattle.hb_model.specs.Answers.{rows_of, rows_in}
use Rattle.hb_model.specs.Families.{Family}
use Rattle.hb_model.specs.Needs as needs
use Rattle.hb_model.specs.Rows.{AreByKey, key_of}
use Rattle.hb_model.specs.Spots.{place_in, space_in}
use Rattle.hb_model.specs.State.{Spread}
use Rattle.hb_model.specs.System.{AreAscending}
use Rattle.hb_model.specs.TableRows.{IsPlaced, TableRows, along, has_key, row_of, standing}
use Rattle.hb_model.specs.Valid.{IsTable}
use Rattle.hb_model.proofs.DictionaryRows.{not_true}
use Rattle.hb_talk.specs.Plans.{Lying, lying, lying_rows}
use Rattle.hb_planlaws.proofs.KeyRows.{readable}
use Rattle.hb_planlaws.proofs.Named.{find_holds}
use Rattle.hb_planwrites.proofs.Gather.{Gathered}
use Rattle.hb_planwrites.proofs.KeyWrites.{IsApart, IsBackEnd, of_table}
use Rattle.hb_planwrites.proofs.ListWrites.{Lies, by_key, is_in, others}
use Rattle.hb_planwrites.proofs.RowsPut.{joined_ascend}
use Rattle.hb_planwrites.proofs.Sorting.{KeysApart, each_sorted, number_in, numbers_ascend, sorted_ascends, sorted_in}

-- what a scan reads in these areas
abbrev pub scanned : Family → ℕ → List ℕ → List Stored
scanned family table [] = []
scanned family table (a ∷ more) = rows_under (path.Whole (space_in a table)) (rows_of (node_of_area a) family) ++ scanned family table more

-- ---- lists

none_some : {A : Type 0} (x : A) → None ≡ Some x → ⊥
none_some x h = cc

same_some : {A : Type 0} (x y : A) → Some x ≡ Some y → x ≡ y
same_some x y h = cc

in_append : {A : Type 0} (x : A) (xs ys : List A) → IsIn x (xs ++ ys) → IsIn x xs ⊎ IsIn x ys
in_append x [] ys i = inr i
in_append x (z ∷ xs) ys (inl e) = inl (inl e)
in_append x (z ∷ xs) ys (inr i) = elim (in_append x xs ys i) [ inl j ↦ inl (inr j) | inr j ↦ inr j ]

append_left : {A : Type 0} (x : A) (xs ys : List A) → IsIn x xs → IsIn x (xs ++ ys)
append_left x [] ys i = absurd i
append_left x (z ∷ xs) ys (inl e) = inl e
append_left x (z ∷ xs) ys (inr i) = inr (append_left x xs ys i)

append_right : {A : Type 0} (x : A) (xs ys : List A) → IsIn x ys → IsIn x (xs ++ ys)
append_right x [] ys i = i
append_right x (z ∷ xs) ys i = inr (append_right x xs ys i)

mapped_in : {A B : Type 0} (f : A → B) (x : A) (xs : List A) → IsIn x xs → IsIn (f x) (map f xs)
mapped_in f x [] i = absurd i
mapped_in f x (y ∷ ys) (inl e) = inl (ap f e)
mapped_in f x (y ∷ ys) (inr i) = inr (mapped_in f x ys i)

pub of_mapped : {A B : Type 0} (f : A → B) (y : B) (xs : List A) → IsIn y (map f xs) → (x : A) × IsIn x xs × (f x ≡ y)
of_mapped f y [] i = absurd i
of_mapped f y (x ∷ xs) (inl e) = (x, inl refl, e)
of_mapped f y (x ∷ xs) (inr i) = let r = of_mapped f y xs i in (r.0, inr r.1, r.2)

all_pass : {A : Type 0} (xs : List A) → filter (λ x. true) xs ≡ xs
all_pass [] = refl
all_pass (x ∷ xs) = ap (λ ys. x ∷ ys) (all_pass xs)

route_in : (es : List Entry) (g : ℕ) (e : Entry) (a : ℕ) → slice_get es g ≡ Some e → IsIn a (route e) → IsIn a (flat_map route es)
route_in [] g e a at i = absurd (none_some e at)
route_in (x ∷ es) zero e a at i = let same : x ≡ e = cc in append_left a (route x) (flat_map route es) (subst (λ z. IsIn a (route z)) (sym same) i)
route_in (x ∷ es) (suc g) e a at i = append_right a (route x) (flat_map route es) (route_in es g e a at i)

-- ---- rows under a path

under_first : (p : Path) (x : Stored) (rows : List Stored) (r : Stored) → is_under p x.place ≡ true → (IsIn r (rows_under p rows) → IsIn r rows × (is_under p r.place ≡ true))
    → IsIn r (x ∷ rows_under p rows) → IsIn r (x ∷ rows) × (is_under p r.place ≡ true)
under_first p x rows r t rest (inl e) = (inl e, subst (λ (z : Stored). is_under p z.place ≡ true) e t)
under_first p x rows r t rest (inr j) = let h = rest j in (inr h.0, h.1)

under_in : (p : Path) (rows : List Stored) (r : Stored) → IsIn r (rows_under p rows) → IsIn r rows × (is_under p r.place ≡ true)
under_in p [] r i = absurd i
under_in p (x ∷ rows) r i =
    by_test (is_under p x.place)
    (λ t. under_first p x rows r t (λ j. under_in p rows r j) (subst (λ b. IsIn r (cond b (x ∷ rows_under p rows) (rows_under p rows))) t i))
    (λ f. let h = under_in p rows r (subst (λ b. IsIn r (cond b (x ∷ rows_under p rows) (rows_under p rows))) f i) in (inr h.0, h.1))

in_under : (p : Path) (rows : List Stored) (r : Stored) → IsIn r rows → is_under p r.place ≡ true → IsIn r (rows_under p rows)
in_under p [] r i t = absurd i
in_under p (x ∷ rows) r (inl e) t = let h : is_under p x.place ≡ true = subst (λ (z : Stored). is_under p z.place ≡ true) (sym e) t in rw h (inl e)
in_under p (x ∷ rows) r (inr i) t = by_test (is_under p x.place) (λ h. rw h (inr (in_under p rows r i t))) (λ f. rw f (in_under p rows r i t))

abbrev stored_cmp : Stored → Stored → Ordering
stored_cmp a b = place_cmp a.place b.place

looked_up : (rows : List Stored) (r : Stored) → AreAscending rows → IsIn r rows → lookup r.place rows ≡ Some r.row
looked_up [] r a i = absurd i
looked_up (x ∷ rows) r a (inl e) = subst (λ (z : Stored). lookup z.place (x ∷ rows) ≡ Some z.row) e (lookup_first x rows)
looked_up (x ∷ rows) r a (inr i) =
    let below : stored_cmp x r ≡ Less = in_Each (λ y. stored_cmp x y ≡ Less) r rows i (Ascends-first stored_cmp stored_total x rows a) in
    rw (less_apart_back x.place r.place below) (looked_up rows r (Ascends-tail stored_cmp stored_total x rows a) i)

stands_in : (rows : List Stored) (q : Place) (row : List ℕ) → lookup q rows ≡ Some row → IsIn (record { place = q; row = row }) rows
stands_in [] q row h = absurd (none_some row h)
stands_in (x ∷ rows) q row h =
    by_test (same_place q x.place)
    (λ t. let at : x.place ≡ q = sym (same_place-eq q x.place t) in
    let is : x.row ≡ row = same_some x.row row (sym (ap (λ b. cond b (Some x.row) (lookup q rows)) t) ∙ h) in
    inl (λ i. record { place = at i; row = is i }))
    (λ f. inr (stands_in rows q row (sym (ap (λ b. cond b (Some x.row) (lookup q rows)) f) ∙ h)))

rows_in_ascend : (n : ℕ) (fs : Family) → Each AreAscending fs → AreAscending (rows_in n fs)
rows_in_ascend n [] e = tt
rows_in_ascend zero (rows ∷ more) e = e.0
rows_in_ascend (suc n) (rows ∷ more) e = rows_in_ascend n more e.1

rows_ascend : (n : ℕ) (fs : Family) → Each AreAscending fs → AreAscending (rows_of n fs)
rows_ascend zero fs e = tt
rows_ascend (suc n) fs e = rows_in_ascend n fs e

-- the key of a row that lies is its place's
pub key_is : (family : Family) (t : Table) (p : Spread) (l : Lying) → Lies family p (row_of t) l → key_of t l.1 ≡ l.0.key
key_is family t p l x = (Decides-int_eq (key_of t l.1) l.0.key).0 (find_holds (has_key t l.0.key) t.rows l.1 x.is).0

-- ---- a table's rows

module _ (family : Family) (t : Table) (p : Spread) (fits : IsTable t) (rows : TableRows family t p) (ascend : Each AreAscending family)
    (apart : (g : ℕ) (e : Entry) → slice_get p.entries g ≡ Some e → IsApart e)
    (back_ends : (g : ℕ) (e : Entry) → slice_get p.entries g ≡ Some e → Each (IsBackEnd family) (route e)) where
  abbrev areas : List ℕ
  areas = needs.areas_of_routes p

  -- a row that was read, with its values
  record Read (r : Stored) : Type 0 where
    values : List Value
    lies : Lies family p (row_of t) (r.place, values)
    row : r.row ≡ row_bytes values

  along_standing : (key : ℤ) (a : ℕ) (row : List ℕ) (e : Entry) → slice_get p.entries (group_of key) ≡ Some e → IsIn a (route e) → standing family p.number key a ≡ Some row
      → along family p.number key (route e) ≡ Some row
  along_standing key a row (At x) entry (inl is) stands = ap (λ o. option_or o None) (ap (λ z. standing family p.number key z) is ∙ stands)
  along_standing key a row (At x) entry (inr h) stands = absurd h
  along_standing key a row (Moving x y) entry (inl is) stands =
      ap (λ o. option_or o (option_or (standing family p.number key y) None)) (ap (λ z. standing family p.number key z) is ∙ stands)
  along_standing key a row (Moving x y) entry (inr (inl is)) stands = by (rows.once key x y entry)
    where
      there : standing family p.number key y ≡ Some row
      there = ap (λ z. standing family p.number key z) is ∙ stands

      by : (standing family p.number key x ≡ None) ⊎ (standing family p.number key y ≡ None) → option_or (standing family p.number key x) (option_or (standing family p.number key y) None) ≡ Some row
      by (inl none) = ap (λ o. option_or o (option_or (standing family p.number key y) None)) none ∙ ap (λ o. option_or o None) there
      by (inr none) = absurd (none_some row (sym none ∙ there))
  along_standing key a row (Moving x y) entry (inr (inr h)) stands = absurd h

  of_row : (row : List ℕ) (o : Option (List Value)) → Some row ≡ option_map row_bytes o → (v : List Value) × (o ≡ Some v) × (row ≡ row_bytes v)
  of_row row None h = absurd (none_some row (sym h))
  of_row row (Some v) h = (v, refl, same_some row (row_bytes v) h)

  read_one : (a : ℕ) → IsBackEnd family a → (r : Stored) → IsIn r (rows_under (path.Whole (space_in a p.number)) (rows_of (node_of_area a) family)) → Read r
  read_one a back_end r i =
      let h = under_in (path.Whole (space_in a p.number)) (rows_of (node_of_area a) family) r i in
      let space : space_in a p.number ≡ r.place.space = same_space-eq (space_in a p.number) r.place.space h.1 in
      let here : lookup r.place (rows_of (node_of_area a) family) ≡ Some r.row = looked_up (rows_of (node_of_area a) family) r (rows_ascend (node_of_area a) family ascend) h.0 in
      let placed : IsPlaced p (node_of_area a) r.place = rows.placed (node_of_area a) r.place r.row back_end.behind (ap (λ (z : Space). z.table) (sym space)) here in
      let area : a ≡ r.place.space.area = ap (λ (z : Space). z.area) space in
      let back : r.place.space ≡ space_in a p.number = sym space in
      let at : r.place ≡ place_in a p.number r.place.key = λ j. record { space = back j; group = placed.group j; key = r.place.key } in
      let stands : standing family p.number r.place.key a ≡ Some r.row = ap (λ q. lookup q (rows_of (node_of_area a) family)) (sym at) ∙ here in
      let entry : slice_get p.entries (group_of r.place.key) ≡ Some placed.area.0 = ap (λ g. slice_get p.entries g) (sym placed.group) ∙ placed.area.1 in
      let on : IsIn a (route placed.area.0) = is_in a placed.area.0 (subst (λ z. Contains (route placed.area.0) z) (sym area) placed.area.2) in
      let v = of_row r.row (row_of t r.place.key) (sym (along_standing r.place.key a r.row placed.area.0 entry on stands) ∙ rows.same r.place.key placed.area.0 entry) in
      record {
        values = v.0;
        lies = record {
          at = at ∙ ap (λ z. place_in z p.number r.place.key) area;
          back_end = subst (IsBackEnd family) area back_end;
          stands = ap (λ z. standing family p.number r.place.key z) (sym area) ∙ stands ∙ ap (λ b. Some b) v.2;
          is = v.1;
        };
        row = v.2;
      }

  read_all : (some : List ℕ) → Each (IsBackEnd family) some → Each Read (scanned family p.number some)
  read_all [] e = tt
  read_all (a ∷ some) e =
      Each-append Read (rows_under (path.Whole (space_in a p.number)) (rows_of (node_of_area a) family)) (scanned family p.number some)
      (Each-in Read (rows_under (path.Whole (space_in a p.number)) (rows_of (node_of_area a) family)) (read_one a e.0)) (read_all some e.1)

  -- the rows of one key lie in one area
  one_area : (l m : Lying) → Lies family p (row_of t) l → Lies family p (row_of t) m → m.0.key ≡ l.0.key → m.0.space.area ≡ l.0.space.area
  one_area l m x y same =
      by_test (m.0.space.area == l.0.space.area)
      (λ h. (Decides-eqb m.0.space.area l.0.space.area).0 h)
      (λ f. let n : m.0.space.area ≡ l.0.space.area → ⊥ = λ h. false≢true (sym f ∙ (Decides-eqb m.0.space.area l.0.space.area).1 h) in
      let mine : IsPlaced p (node_of_area l.0.space.area) (place_in l.0.space.area p.number l.0.key) =
      rows.placed (node_of_area l.0.space.area) (place_in l.0.space.area p.number l.0.key) (row_bytes l.1) x.back_end.behind refl x.stands in
      let there : standing family p.number l.0.key m.0.space.area ≡ Some (row_bytes m.1) = ap (λ k. standing family p.number k m.0.space.area) (sym same) ∙ y.stands in
      let its : IsPlaced p (node_of_area m.0.space.area) (place_in m.0.space.area p.number l.0.key) =
      rows.placed (node_of_area m.0.space.area) (place_in m.0.space.area p.number l.0.key) (row_bytes m.1) y.back_end.behind refl there in
      let e = mine.area in
      let one : its.area.0 ≡ e.0 = same_some its.area.0 e.0 (sym its.area.1 ∙ e.1) in
      let on : IsIn m.0.space.area (route e.0) = is_in m.0.space.area e.0 (subst (λ z. Contains (route z) m.0.space.area) one its.area.2) in
      let none : standing family p.number l.0.key m.0.space.area ≡ None =
      others p (λ v. None) apart family (row_of t) (of_table family p t rows) l x e.0 e.1 (is_in l.0.space.area e.0 e.2) m.0.space.area on n in
      absurd (none_some (row_bytes m.1) (sym none ∙ there)))

  -- ---- their order

  abbrev under : ℕ → List Stored
  under a = rows_under (path.Whole (space_in a p.number)) (rows_of (node_of_area a) family)

  of_area : (a : ℕ) (r : Stored) → IsIn r (under a) → r.place.space ≡ space_in a p.number
  of_area a r i = sym (same_space-eq (space_in a p.number) r.place.space (under_in (path.Whole (space_in a p.number)) (rows_of (node_of_area a) family) r i).1)

  abbrev InAreas : List ℕ → Stored → Type 0
  InAreas some r = (a : ℕ) × IsIn a some × (r.place.space ≡ space_in a p.number)

  each_area : (some : List ℕ) → Each (InAreas some) (scanned family p.number some)
  each_area [] = tt
  each_area (a ∷ some) =
      Each-append (InAreas (a ∷ some)) (under a) (scanned family p.number some)
      (Each-in (InAreas (a ∷ some)) (under a) (λ r i. (a, inl refl, of_area a r i)))
      (Each-of (InAreas some) (InAreas (a ∷ some)) (scanned family p.number some) (λ r h. (h.0, inr h.1, h.2)) (each_area some))

  areas_less : (q r : Place) (a b : ℕ) → q.space ≡ space_in a p.number → r.space ≡ space_in b p.number → nat_cmp a b ≡ Less → place_cmp q r ≡ Less
  areas_less q r a b e f l =
      ap (λ x. ordering_then (ordering_then (nat_cmp x.area r.space.area) (nat_cmp x.table r.space.table)) (ordering_then (nat_cmp q.group r.group) (int_cmp q.key r.key))) e
      ∙ ap (λ x. ordering_then (ordering_then (nat_cmp a x.area) (nat_cmp p.number x.table)) (ordering_then (nat_cmp q.group r.group) (int_cmp q.key r.key))) f
      ∙ ap (λ o. ordering_then (ordering_then o (nat_cmp p.number p.number)) (ordering_then (nat_cmp q.group r.group) (int_cmp q.key r.key))) l

  scanned_ascends : (some : List ℕ) → Ascends nat_cmp some → AreAscending (scanned family p.number some)
  scanned_ascends [] a = tt
  scanned_ascends (x ∷ some) a =
      let first : Each (λ y. nat_cmp x y ≡ Less) some = Ascends-first nat_cmp nat_cmp_total x some a in
      joined_ascend stored_cmp stored_total (under x) (scanned family p.number some)
      (under_ascends (path.Whole (space_in x p.number)) (rows_of (node_of_area x) family) (rows_ascend (node_of_area x) family ascend))
      (scanned_ascends some (Ascends-tail nat_cmp nat_cmp_total x some a))
      (Each-in (λ r. Each (λ y. stored_cmp r y ≡ Less) (scanned family p.number some)) (under x)
      (λ r i. Each-of (InAreas some) (λ y. stored_cmp r y ≡ Less) (scanned family p.number some)
      (λ y h. areas_less r.place y.place x h.0 (of_area x r i) h.2 (in_Each (λ z. nat_cmp x z ≡ Less) h.0 some h.1 first)) (each_area some)))

  -- ---- with their values

  abbrev with_values : (rs : List Stored) → Each Read rs → List Lying
  with_values [] e = []
  with_values (r ∷ rs) e = (r.place, e.0.values) ∷ with_values rs e.1

  kept : (r : Stored) (rs : List Stored) (l : Lying) → lying r ≡ Some l → filter_map lying (r ∷ rs) ≡ l ∷ filter_map lying rs
  kept r rs l h = rw h refl

  told : (rs : List Stored) (e : Each Read rs) → filter_map lying rs ≡ with_values rs e
  told [] e = refl
  told (r ∷ rs) e =
      let back : values_in r.row ≡ Some e.0.values = ap values_in e.0.row ∙ readable family t p fits rows r.place.key e.0.values e.0.lies.is in
      kept r rs (r.place, e.0.values) (ap (option_map (λ values. (r.place, values))) back) ∙ ap (λ ls. (r.place, e.0.values) ∷ ls) (told rs e.1)

  values_lie : (rs : List Stored) (e : Each Read rs) → Each (Lies family p (row_of t)) (with_values rs e)
  values_lie [] e = tt
  values_lie (r ∷ rs) e = (e.0.lies, values_lie rs e.1)

  keys_other : (r : Stored) (v : List Value) (rs : List Stored) (e : Each Read rs) → Lies family p (row_of t) (r.place, v) → Each (λ s. stored_cmp r s ≡ Less) rs
      → Each (λ (m : Lying). m.0.key ≡ r.place.key → ⊥) (with_values rs e)
  keys_other r v [] e x below = tt
  keys_other r v (s ∷ rs) e x below = (
    λ same. let area : s.place.space.area ≡ r.place.space.area = one_area (r.place, v) (s.place, e.0.values) x e.0.lies same in
        let place : s.place ≡ r.place =
        e.0.lies.at ∙ ap (λ z. place_in z p.number s.place.key) area ∙ ap (λ k. place_in r.place.space.area p.number k) same ∙ sym x.at in
        irreflexive place_cmp place_total r.place (subst (λ q. place_cmp r.place q ≡ Less) place below.0),
    keys_other r v rs e.1 x below.1,
  )

  keys_apart : (rs : List Stored) (e : Each Read rs) → AreAscending rs → KeysApart (with_values rs e)
  keys_apart [] e a = tt
  keys_apart (r ∷ rs) e a =
      (keys_other r e.0.values rs e.1 e.0.lies (Ascends-first stored_cmp stored_total r rs a), keys_apart rs e.1 (Ascends-tail stored_cmp stored_total r rs a))

  value_in : (rs : List Stored) (e : Each Read rs) (r : Stored) (v : List Value) → IsIn r rs → r.row ≡ row_bytes v → row_of t r.place.key ≡ Some v → IsIn (r.place, v) (with_values rs e)
  value_in [] e r v i bytes is = absurd i
  value_in (x ∷ rs) e r v (inl same) bytes is =
      let key : row_of t x.place.key ≡ Some v = subst (λ (z : Stored). row_of t z.place.key ≡ Some v) (sym same) is in
      let one : e.0.values ≡ v = same_some e.0.values v (sym e.0.lies.is ∙ key) in
      let place : x.place ≡ r.place = ap (λ (z : Stored). z.place) same in
      inl (λ j. (place j, one j))
  value_in (x ∷ rs) e r v (inr i) bytes is = inr (value_in rs e.1 r v i bytes is)

  -- ---- they are the table's rows

  row_itself : (rs : List (List Value)) → AreByKey t rs → (z : List Value) → IsIn z rs → find (has_key t (key_of t z)) rs ≡ Some z
  row_itself [] a z i = absurd i
  row_itself (x ∷ rs) a z (inl e) =
      subst (λ (y : List Value). find (has_key t (key_of t y)) (x ∷ rs) ≡ Some y) e (rw ((Decides-int_eq (key_of t x) (key_of t x)).1 refl) refl)
  row_itself (x ∷ rs) a z (inr i) =
      let order = on_total (key_of t) int_cmp_total in
      let below : int_cmp (key_of t x) (key_of t z) ≡ Less = in_Each (λ y. int_cmp (key_of t x) (key_of t y) ≡ Less) z rs i (Ascends-first (λ a b. int_cmp (key_of t a) (key_of t b)) order x rs a) in
      let no : has_key t (key_of t z) x ≡ false =
      not_true (has_key t (key_of t z) x) (λ y. irreflexive int_cmp int_cmp_total (key_of t z) (subst (λ k. int_cmp k (key_of t z) ≡ Less) ((Decides-int_eq (key_of t x) (key_of t z)).0 y) below)) in
      rw no (row_itself rs (Ascends-tail (λ a b. int_cmp (key_of t a) (key_of t b)) order x rs a) z i)

  mapped_ascend : (ls : List Lying) → Each (Lies family p (row_of t)) ls → Ascends by_key ls → AreByKey t (map (λ l. l.1) ls)
  mapped_ascend [] e a = tt
  mapped_ascend (l ∷ []) e a = tt
  mapped_ascend (l ∷ m ∷ ls) e a =
      (ap (λ k. int_cmp k (key_of t m.1)) (key_is family t p l e.0) ∙ ap (λ k. int_cmp l.0.key k) (key_is family t p m e.1.0) ∙ a.0, mapped_ascend (m ∷ ls) e.1 a.1)

  area_of : (key : ℤ) (e : Entry) (row : List ℕ) → along family p.number key (route e) ≡ Some row → (a : ℕ) × IsIn a (route e) × (standing family p.number key a ≡ Some row)
  area_of key (At x) row h = (x, inl refl, single (standing family p.number key x) h)
    where
      single : (o : Option (List ℕ)) → option_or o None ≡ Some row → o ≡ Some row
      single None h = h
      single (Some z) h = h
  area_of key (Moving x y) row h = pick (standing family p.number key x) (standing family p.number key y) refl refl h
    where
      pick : (o q : Option (List ℕ)) → standing family p.number key x ≡ o → standing family p.number key y ≡ q → option_or o (option_or q None) ≡ Some row
          → (a : ℕ) × IsIn a (x ∷ y ∷ []) × (standing family p.number key a ≡ Some row)
      pick (Some z) q e f h = (x, inl refl, e ∙ h)
      pick None (Some z) e f h = (y, inr (inl refl), f ∙ h)
      pick None None e f h = absurd (none_some row h)

  scanned_in : (some : List ℕ) (a : ℕ) (r : Stored) → IsIn a some → IsIn r (under a) → IsIn r (scanned family p.number some)
  scanned_in [] a r i j = absurd i
  scanned_in (x ∷ some) a r (inl e) j = append_left r (under x) (scanned family p.number some) (subst (λ z. IsIn r (under z)) (sym e) j)
  scanned_in (x ∷ some) a r (inr i) j = append_right r (under x) (scanned family p.number some) (scanned_in some a r i j)

  module _ (entry_of_key : (key : ℤ) → (e : Entry) × (slice_get p.entries (group_of key) ≡ Some e)) (on_back_ends : Each (IsBackEnd family) areas) where
    reads : Each Read (scanned family p.number areas)
    reads = read_all areas on_back_ends

    abbrev read_values : List Lying
    read_values = with_values (scanned family p.number areas) reads

    -- each row of the table was read
    row_read : (z : List Value) → IsIn z t.rows → (q : Place) × IsIn (q, z) read_values
    row_read z i =
        let key : ℤ = key_of t z in
        let is : row_of t key ≡ Some z = row_itself t.rows fits.rows_ascend z i in
        let e = entry_of_key key in
        let stands : along family p.number key (route e.0) ≡ Some (row_bytes z) = rows.same key e.0 e.1 ∙ ap (option_map row_bytes) is in
        let a = area_of key e.0 (row_bytes z) stands in
        let r : Stored = record { place = place_in a.0 p.number key; row = row_bytes z } in
        let here : IsIn r (rows_of (node_of_area a.0) family) = stands_in (rows_of (node_of_area a.0) family) (place_in a.0 p.number key) (row_bytes z) a.2 in
        let there : IsIn r (under a.0) = in_under (path.Whole (space_in a.0 p.number)) (rows_of (node_of_area a.0) family) r here (same_space-refl (space_in a.0 p.number)) in
        let in_areas : IsIn a.0 areas = number_in a.0 (flat_map route p.entries) (route_in p.entries (group_of key) e.0 a.0 e.1 a.1) in
        (place_in a.0 p.number key, value_in (scanned family p.number areas) reads r z (scanned_in areas a.0 r in_areas there) refl is)

    pub gathered_all : Gathered family p t None (lying_rows (scanned family p.number areas))
    gathered_all =
        let listed : filter_map lying (scanned family p.number areas) ≡ read_values = told (scanned family p.number areas) reads in
        let lie : Each (Lies family p (row_of t)) (lying_rows (scanned family p.number areas)) =
        each_sorted (Lies family p (row_of t)) (filter_map lying (scanned family p.number areas)) [] tt
        (subst (Each (Lies family p (row_of t))) (sym listed) (values_lie (scanned family p.number areas) reads)) in
        let order : Ascends by_key (lying_rows (scanned family p.number areas)) =
        sorted_ascends (filter_map lying (scanned family p.number areas))
        (subst KeysApart (sym listed) (keys_apart (scanned family p.number areas) reads (scanned_ascends areas (numbers_ascend (flat_map route p.entries))))) in
        record {
          lies = lie;
          ascend = order;
          read = same_members (λ a b. int_cmp (key_of t a) (key_of t b)) (on_total (key_of t) int_cmp_total) (map (λ l. l.1) (lying_rows (scanned family p.number areas))) t.rows
              (mapped_ascend (lying_rows (scanned family p.number areas)) lie order) fits.rows_ascend
              (λ z i. let l = of_mapped (λ (x : Lying). x.1) z (lying_rows (scanned family p.number areas)) i in
              let x : Lies family p (row_of t) l.0 = in_Each (Lies family p (row_of t)) l.0 (lying_rows (scanned family p.number areas)) l.1 lie in
              subst (λ y. IsIn y t.rows) l.2 (find_holds (has_key t l.0.0.key) t.rows l.0.1 x.is).1)
              (λ z i. let q = row_read z i in
              mapped_in (λ (x : Lying). x.1) (q.0, z) (lying_rows (scanned family p.number areas))
              (sorted_in (q.0, z) (filter_map lying (scanned family p.number areas)) [] (subst (IsIn (q.0, z)) (sym listed) q.1)))
              ∙ sym (all_pass t.rows);
        }
