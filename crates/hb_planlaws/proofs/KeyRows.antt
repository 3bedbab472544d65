-- The row of a key: what is read along a route, and what a statement on the key sees of its table.
use Rattle.std.proofs.Common.{◌≡◌, ◌⊎◌, inl, inr, ℕ, suc, ◌≤◌, ℤ, List, [], ◌∷◌, ◌++◌, length, map, Option, Some, None, Bool, false, cond, refl, subst, sym, ap, ◌∙◌, arith}
use Rattle.std.specs.Prelude.{◌&&◌, ◌||◌, find, filter, fold, filter_map, option_map, slice_get}
use Rattle.std.specs.Option.{option_or, option_to_list}
use Rattle.std.specs.List.{list_any, AllByRecursion}
use Rattle.std.specs.Ordering.{int_cmp}
use Rattle.std.specs.declared.cmp.Ordering.TheVariants.{Less}
use Rattle.std.proofs.lemmas.Bool.Decides.{Decides-int_eq}
use Rattle.std.proofs.lemmas.Cmp.{int_cmp_total, on_total}
use Rattle.std.proofs.lemmas.List.Elements.{All-from_recursion}
use Rattle.hb_types.specs.declared.change.Stored.{Stored}
use Rattle.hb_types.specs.declared.entry.Entry.{Entry}
use Rattle.hb_types.specs.declared.entry.Entry.TheVariants.{At, Moving}
use Rattle.hb_types.specs.declared.places.Place.{Place}
use Rattle.hb_types.specs.declared.value.Column.{Column}
use Rattle.hb_types.specs.declared.value.Value.{Value}
use Rattle.hb_types.specs.declared.value.Value.TheVariants.{Int, Text}
use Rattle.hb_types.specs.Groups.{group_of, route}
use Rattle.hb_types.specs.Lists.{Each}
use Rattle.hb_types.specs.Rows.{HasBytes, row_bytes, values_in}
use Rattle.hb_types.proofs.Ascending.{irreflexive, Ascends-first, Ascends-tail, Each-of, in_Each}
use Rattle.hb_types.proofs.PutLaws.{by_test}
use Rattle.hb_dict.proofs.ValuesBack.{values_back}
use Rattle.hb_model.specs.declared.table.Table.{Table}
use Rattle.hb_model.specs.Families.{Family}
use Rattle.hb_model.specs.Rows.{key_of, AreByKey}
use Rattle.hb_model.specs.Spots.{place_in}
use Rattle.hb_model.specs.State.{Spread}
use Rattle.hb_model.specs.TableRows.{TableRows, standing, has_key, row_of}
use Rattle.hb_model.specs.Valid.{IsTable, FitsAll, IsName}
use Rattle.hb_model.proofs.DictionaryRows.{not_true}
use Rattle.hb_talk.specs.Plans.{Lying, by_key, lying, lying_rows, stored_at}
use Rattle.hb_planlaws.proofs.Named.{find_holds}

-- ---- a row's bytes give its values

has_bytes : (cs : List Column) (row : List Value) → Each (λ (c : Column). c.size ≤ 255) cs → FitsAll cs row → AllByRecursion HasBytes row × (length row ≡ length cs)
has_bytes [] [] small fits = (tt, refl)
has_bytes [] (v ∷ vs) small fits = absurd fits
has_bytes (c ∷ cs) [] small fits = absurd fits
has_bytes (c ∷ cs) (Int n ∷ vs) small fits = let r = has_bytes cs vs small.1 fits.1 in ((fits.0.1, r.0), ap (λ k. suc k) r.1)
has_bytes (c ∷ cs) (Text t ∷ vs) small fits =
    let r = has_bytes cs vs small.1 fits.1 in
    let short : length t ≤ 255 = omega (arith, fits.0.0, small.0) in ((short, r.0), ap (λ k. suc k) r.1)

pub row_back : (t : Table) (row : List Value) → IsTable t → FitsAll t.columns row → values_in (row_bytes row) ≡ Some row
row_back t row is fits =
    let h = has_bytes t.columns row (Each-of (λ (c : Column). IsName c.name × (c.size ≤ 255)) (λ c. c.size ≤ 255) t.columns (λ c e. e.1) is.columns_named) fits in
    values_back (row_bytes row) row (record { values_fit = record { few = omega (arith, h.1, is.few_columns); fit = All-from_recursion HasBytes row h.0 }; spelled = refl })

-- ---- rows as they lie

abbrev sorted : List Lying → List (List Value)
sorted ls = map (λ l. l.1) (fold (λ ms l. by_key l ms) [] ls)

abbrev pub values_of : List Stored → List (List Value)
values_of rows = map (λ l. l.1) (lying_rows rows)

kept : {A B : Type 0} (f : A → Option B) (x : A) (xs : List A) (y : B) → f x ≡ Some y → filter_map f (x ∷ xs) ≡ y ∷ filter_map f xs
kept f x xs y h = rw h refl

lies : (p : Place) (bytes : List ℕ) (row : List Value) → values_in bytes ≡ Some row → values_of (record { place = p; row = bytes } ∷ []) ≡ row ∷ []
lies p bytes row h = ap sorted (kept lying (record { place = p; row = bytes }) [] (p, row) (ap (option_map (λ (values : List Value). (p, values))) h))

one_row : (p : Place) (o : Option (List Value)) → ((row : List Value) → o ≡ Some row → values_in (row_bytes row) ≡ Some row)
    → values_of (stored_at p (option_map row_bytes o)) ≡ option_to_list o
one_row p None back = refl
one_row p (Some row) back = lies p (row_bytes row) row (back row refl)

-- what lies at a key in these areas
abbrev pub found : Family → ℕ → ℤ → List ℕ → List Stored
found family table key [] = []
found family table key (a ∷ more) = stored_at (place_in a table key) (standing family table key a) ++ found family table key more

append_none : (xs : List Stored) → xs ++ [] ≡ xs
append_none [] = refl
append_none (x ∷ xs) = ap (λ ys. x ∷ ys) (append_none xs)

or_none : {A : Type 0} (o : Option A) → option_or o None ≡ o
or_none None = refl
or_none (Some x) = refl

first_only : (p : Place) (x : Option (List ℕ)) (o : Option (List Value)) → ((row : List Value) → o ≡ Some row → values_in (row_bytes row) ≡ Some row)
    → option_or x None ≡ option_map row_bytes o → values_of (stored_at p x ++ []) ≡ option_to_list o
first_only p x o back h =
    ap values_of (append_none (stored_at p x)) ∙ ap (λ z. values_of (stored_at p z)) (sym (or_none x) ∙ h) ∙ one_row p o back

one_of_two : (p q : Place) (x y : Option (List ℕ)) (o : Option (List Value)) → ((row : List Value) → o ≡ Some row → values_in (row_bytes row) ≡ Some row)
    → (x ≡ None) ⊎ (y ≡ None) → option_or x (option_or y None) ≡ option_map row_bytes o → values_of (stored_at p x ++ (stored_at q y ++ [])) ≡ option_to_list o
one_of_two p q x y o back (inl none) h =
    ap (λ z. values_of (stored_at p z ++ (stored_at q y ++ []))) none ∙ first_only q y o back (ap (λ z. option_or z (option_or y None)) (sym none) ∙ h)
one_of_two p q x y o back (inr none) h =
    ap (λ z. values_of (stored_at p x ++ (stored_at q z ++ []))) none ∙ first_only p x o back (ap (λ z. option_or x (option_or z None)) (sym none) ∙ h)

module _ (family : Family) (t : Table) (p : Spread) (is : IsTable t) (rows : TableRows family t p) (key : ℤ) where
  pub readable : (row : List Value) → row_of t key ≡ Some row → values_in (row_bytes row) ≡ Some row
  readable row e = row_back t row is (in_Each (FitsAll t.columns) row t.rows (find_holds (has_key t key) t.rows row e).1 is.rows_fit)

  -- what is read along a route is the row of the key
  pub read_along : (e : Entry) → slice_get p.entries (group_of key) ≡ Some e → values_of (found family p.number key (route e)) ≡ option_to_list (row_of t key)
  read_along (At a) at = first_only (place_in a p.number key) (standing family p.number key a) (row_of t key) readable (rows.same key (At a) at)
  read_along (Moving a b) at =
      one_of_two (place_in a p.number key) (place_in b p.number key) (standing family p.number key a) (standing family p.number key b) (row_of t key) readable
      (rows.once key a b at) (rows.same key (Moving a b) at)

-- ---- a table's rows of one key

module _ (t : Table) (key : ℤ) where
  none_at : (rows : List (List Value)) → Each (λ r. int_cmp key (key_of t r) ≡ Less) rows → filter (has_key t key) rows ≡ []
  none_at [] e = refl
  none_at (r ∷ rs) e =
      let apart : has_key t key r ≡ false =
      not_true (has_key t key r) (λ y. irreflexive int_cmp int_cmp_total key (subst (λ k. int_cmp key k ≡ Less) ((Decides-int_eq (key_of t r) key).0 y) e.0)) in
      rw apart (none_at rs e.1)

  pub one_of_key : (rows : List (List Value)) → AreByKey t rows → filter (has_key t key) rows ≡ option_to_list (find (has_key t key) rows)
  one_of_key [] a = refl
  one_of_key (r ∷ rs) a =
      let order = on_total (key_of t) int_cmp_total in
      by_test (has_key t key r)
      (λ y. let e : key_of t r ≡ key = (Decides-int_eq (key_of t r) key).0 y in
      let first : Each (λ z. int_cmp (key_of t r) (key_of t z) ≡ Less) rs = Ascends-first (λ x z. int_cmp (key_of t x) (key_of t z)) order r rs a in
      let none : filter (has_key t key) rs ≡ [] = none_at rs (subst (λ k. Each (λ z. int_cmp k (key_of t z) ≡ Less) rs) e first) in
      rw (y, none) refl)
      (λ n. rw n (one_of_key rs (Ascends-tail (λ x z. int_cmp (key_of t x) (key_of t z)) order r rs a)))

-- a test and more, among those that pass the test
pub any_among : {A : Type 0} (p q : A → Bool) (xs : List A) → list_any (λ x. p x && q x) (filter p xs) ≡ list_any (λ x. p x && q x) xs
any_among p q [] = refl
any_among p q (x ∷ xs) =
    by_test (p x) (λ y. rw (y, y) (ap (λ b. q x || b) (any_among p q xs))) (λ n. rw n (any_among p q xs))

pub filter_among : {A : Type 0} (p q : A → Bool) (xs : List A) → filter (λ x. p x && q x) (filter p xs) ≡ filter (λ x. p x && q x) xs
filter_among p q [] = refl
filter_among p q (x ∷ xs) =
    by_test (p x) (λ y. rw (y, y) (ap (λ zs. cond (q x) (x ∷ zs) zs) (filter_among p q xs))) (λ n. rw n (filter_among p q xs))
