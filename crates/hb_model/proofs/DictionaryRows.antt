-- What stands at a place of the dictionary, by the space of the place and by number.
use Rattle.std.proofs.Common.{◌≡◌, ◌≢◌, ◌⊎◌, inl, inr, ℕ, ◌+◌, pos, List, [], ◌∷◌, ◌++◌, Option, Some, None, Bool, true, false, refl, subst, sym, ap, ◌∙◌, map}
use Rattle.std.specs.Prelude.{◌==◌, ◌&&◌, if◌then◌else◌, flat_map, find, option_map, unwrap_or, nat_abs, IsSome}
use Rattle.std.specs.Option.{option_or}
use Rattle.std.specs.Ordering.{int_eq}
use Rattle.std.proofs.lemmas.Bool.Decides.{Decides-eqb, Decides-int_eq, eqb_tells}
use Rattle.std.proofs.lemmas.Bool.{false≢true}
use Rattle.hb_types.specs.declared.change.Stored.{Stored}
use Rattle.hb_types.specs.declared.places.Place.{Place}
use Rattle.hb_types.specs.declared.value.Value.{Value}
use Rattle.hb_types.specs.Groups.{map_from}
use Rattle.hb_types.specs.Lists.{Each, Has}
use Rattle.hb_types.specs.Places.{same_place}
use Rattle.hb_types.specs.Put.{lookup}
use Rattle.hb_types.specs.Rows.{row_bytes}
use Rattle.hb_types.proofs.Ascending.{Each-append}
use Rattle.hb_model.specs.declared.table.Table.{Table}
use Rattle.hb_model.specs.ByNumber.{table_place}
use Rattle.hb_model.specs.Dictionary.{dictionary, rows_in_space, area_rows, table_rows, member_rows, entry_rows, at_place, area_row, table_row, member_row, entry_row}
use Rattle.hb_model.specs.Spots.{dictionary_space, areas_space, tables_space, members_space, entries_space}
use Rattle.hb_model.specs.State.{State, Area, Spread, table_named}
use Rattle.hb_model.specs.Valid.{IsSpread}

-- ---- rows one behind another

or_step : (b : Bool) (row : List ℕ) (whole front back : Option (List ℕ)) → whole ≡ option_or front back
    → (if b then Some row else whole) ≡ option_or (if b then Some row else front) back
or_step true row whole front back e = refl
or_step false row whole front back e = e

pub lookup_behind : (p : Place) (xs ys : List Stored) → lookup p (xs ++ ys) ≡ option_or (lookup p xs) (lookup p ys)
lookup_behind p [] ys = refl
lookup_behind p (x ∷ xs) ys = or_step (same_place p x.place) x.row (lookup p (xs ++ ys)) (lookup p xs) (lookup p ys) (lookup_behind p xs ys)

pub or_none : (o : Option (List ℕ)) → option_or o None ≡ o
or_none None = refl
or_none (Some x) = refl

-- ---- rows of one space

abbrev AllIn : ℕ → List Stored → Type 0
AllIn space rows = Each (λ r. r.place.space.table ≡ space) rows

not_both : (a b c : Bool) → b ≡ false → ((a && b) && c) ≡ false
not_both true b c e = rw e refl
not_both false b c e = refl

elsewhere : (p : Place) (space : ℕ) (rows : List Stored) → AllIn space rows → (p.space.table == space) ≡ false → lookup p rows ≡ None
elsewhere p space [] all e = refl
elsewhere p space (r ∷ rows) all e =
    let apart : same_place p r.place ≡ false = not_both _ _ _ (subst (λ n. (p.space.table == n) ≡ false) (sym all.0) e) in
    rw apart (elsewhere p space rows all.1 e)

areas_in : (areas : List Area) → AllIn areas_space (map (λ a. at_place areas_space 0 a.number (area_row a)) areas)
areas_in [] = tt
areas_in (a ∷ areas) = (refl, areas_in areas)

tables_in : (s : State) (spreads : List Spread) → AllIn tables_space (flat_map (table_rows s) spreads)
tables_in s [] = tt
tables_in s (t ∷ spreads) = Each-append _ (table_rows s t) (flat_map (table_rows s) spreads) (one (table_named s t.name)) (tables_in s spreads)
  where
    one : (o : Option Table) → AllIn tables_space (unwrap_or (option_map (λ u. at_place tables_space 0 t.number (table_row u) ∷ []) o) [])
    one None = tt
    one (Some u) = (refl, tt)

numbered_in : {A : Type 0} (space group n : ℕ) (row : A → List Value) (xs : List A) → AllIn space (map_from (λ i x. at_place space group i (row x)) n xs)
numbered_in space group n row [] = tt
numbered_in space group n row (x ∷ xs) = (refl, numbered_in space group (n + 1) row xs)

members_in : (spreads : List Spread) → AllIn members_space (flat_map member_rows spreads)
members_in [] = tt
members_in (t ∷ spreads) = Each-append _ (member_rows t) (flat_map member_rows spreads) (numbered_in members_space t.number 1 member_row t.members) (members_in spreads)

entries_in : (spreads : List Spread) → AllIn entries_space (flat_map entry_rows spreads)
entries_in [] = tt
entries_in (t ∷ spreads) = Each-append _ (entry_rows t) (flat_map entry_rows spreads) (numbered_in entries_space t.number 0 entry_row t.entries) (entries_in spreads)

-- ---- by space

choose : (b c d f : Bool) (rs ts ms es : List Stored) (p : Place)
    → (b ≡ false → lookup p rs ≡ None) → (c ≡ false → lookup p ts ≡ None) → (d ≡ false → lookup p ms ≡ None) → (f ≡ false → lookup p es ≡ None)
    → (b ≡ true → (c ≡ false) × (d ≡ false) × (f ≡ false)) → (c ≡ true → (d ≡ false) × (f ≡ false)) → (d ≡ true → f ≡ false)
    → option_or (option_or (option_or (lookup p rs) (lookup p ts)) (lookup p ms)) (lookup p es)
    ≡ lookup p (if b then rs else (if c then ts else (if d then ms else (if f then es else []))))
choose true c d f rs ts ms es p na nt nm ne ob oc od =
    let o = ob refl in rw (nt o.0, nm o.1, ne o.2) (or_none _ ∙ or_none _ ∙ or_none (lookup p rs))
choose false true d f rs ts ms es p na nt nm ne ob oc od =
    let o = oc refl in rw (na refl, nm o.0, ne o.1) (or_none _ ∙ or_none (lookup p ts))
choose false false true f rs ts ms es p na nt nm ne ob oc od = rw (na refl, nt refl, ne (od refl)) (or_none (lookup p ms))
choose false false false true rs ts ms es p na nt nm ne ob oc od = rw (na refl, nt refl, nm refl) refl
choose false false false false rs ts ms es p na nt nm ne ob oc od = rw (na refl, nt refl, nm refl, ne refl) refl

-- a number that is one is no other
other : (n j k : ℕ) → (j == k) ≡ false → (n == j) ≡ true → (n == k) ≡ false
other n j k apart is = subst (λ m. (m == k) ≡ false) (sym ((Decides-eqb n j).0 is)) apart

pub by_space : (s : State) (p : Place) → lookup p (dictionary s) ≡ lookup p (rows_in_space s p.space.table)
by_space s p =
    let n : ℕ = p.space.table in
    let rs : List Stored = area_rows s in
    let ts : List Stored = flat_map (table_rows s) s.layout.spreads in
    let ms : List Stored = flat_map member_rows s.layout.spreads in
    let es : List Stored = flat_map entry_rows s.layout.spreads in
    lookup_behind p (rs ++ ts ++ ms) es
    ∙ ap (λ o. option_or o (lookup p es)) (lookup_behind p (rs ++ ts) ms ∙ ap (λ o. option_or o (lookup p ms)) (lookup_behind p rs ts))
    ∙ choose (n == areas_space) (n == tables_space) (n == members_space) (n == entries_space) rs ts ms es p
    (elsewhere p areas_space rs (areas_in s.layout.areas)) (elsewhere p tables_space ts (tables_in s s.layout.spreads))
    (elsewhere p members_space ms (members_in s.layout.spreads)) (elsewhere p entries_space es (entries_in s.layout.spreads))
    (λ y. (other n 1 2 refl y, other n 1 3 refl y, other n 1 4 refl y)) (λ y. (other n 2 3 refl y, other n 2 4 refl y)) (λ y. other n 3 4 refl y)

-- ---- by number

found_step : (b : Bool) (a : Area) (l : Option (List ℕ)) (m : Option Area) → l ≡ option_map (λ a. row_bytes (area_row a)) m
    → (if b then Some (row_bytes (area_row a)) else l) ≡ option_map (λ a. row_bytes (area_row a)) (if b then Some a else m)
found_step true a l m e = refl
found_step false a l m e = e

pub not_true : (b : Bool) → (b ≡ true → ⊥) → b ≡ false
not_true true f = absurd (f refl)
not_true false f = refl

same_number : (n m : ℕ) → int_eq (pos n) (pos m) ≡ (n == m)
same_number n m = by (eqb_tells n m)
  where
    by : (((n == m) ≡ true) × (n ≡ m)) ⊎ (((n == m) ≡ false) × (n ≢ m)) → int_eq (pos n) (pos m) ≡ (n == m)
    by (inl h) = (Decides-int_eq (pos n) (pos m)).1 (ap (λ k. pos k) h.1) ∙ sym h.0
    by (inr h) = not_true (int_eq (pos n) (pos m)) (λ y. h.1 (ap (λ z. nat_abs z) ((Decides-int_eq (pos n) (pos m)).0 y))) ∙ sym h.0

area_found : (n : ℕ) (areas : List Area)
    → lookup (record { space = dictionary_space areas_space; group = 0; key = pos n }) (map (λ a. at_place areas_space 0 a.number (area_row a)) areas)
    ≡ option_map (λ a. row_bytes (area_row a)) (find (λ a. n == a.number) areas)
area_found n [] = refl
area_found n (a ∷ areas) =
    subst (λ b. (if b then Some (row_bytes (area_row a)) else lookup (record { space = dictionary_space areas_space; group = 0; key = pos n }) (map (λ a. at_place areas_space 0 a.number (area_row a)) areas))
    ≡ option_map (λ a. row_bytes (area_row a)) (if n == a.number then Some a else find (λ a. n == a.number) areas))
    (sym (same_number n a.number)) (found_step (n == a.number) a _ _ (area_found n areas))

pub area_by_number : (s : State) (n : ℕ)
    → lookup (record { space = dictionary_space areas_space; group = 0; key = pos n }) (dictionary s)
    ≡ option_map (λ a. row_bytes (area_row a)) (find (λ a. n == a.number) s.layout.areas)
area_by_number s n = by_space s (record { space = dictionary_space areas_space; group = 0; key = pos n }) ∙ area_found n s.layout.areas

-- ---- tables

some_none : {A : Type 0} (x : A) → Some x ≡ None → ⊥
some_none x e = cc

here : (n : ℕ) → same_place (table_place n) (table_place n) ≡ true
here n = (Decides-int_eq (pos n) (pos n)).1 refl

or_rest : (front back : Option (List ℕ)) → option_or front back ≡ None → back ≡ None
or_rest None back e = e
or_rest (Some row) back e = absurd (some_none row e)

stands_first : (n m : ℕ) (o : Option Table) (rows : List Stored) → m ≡ n → IsSome o
    → lookup (table_place n) (unwrap_or (option_map (λ u. at_place tables_space 0 m (table_row u) ∷ []) o) [] ++ rows) ≡ None → ⊥
stands_first n m None rows e some none = absurd (false≢true some)
stands_first n m (Some u) rows e some none =
    let found : lookup (table_place n) (at_place tables_space 0 n (table_row u) ∷ rows) ≡ Some (row_bytes (table_row u)) = rw (here n) refl in
    let same : lookup (table_place n) (at_place tables_space 0 n (table_row u) ∷ rows) ≡ None = subst (λ k. lookup (table_place n) (at_place tables_space 0 k (table_row u) ∷ rows) ≡ None) e none in
    some_none (row_bytes (table_row u)) (sym found ∙ same)

-- of a table that is there with its number, a row stands at the number
pub table_stands : (s : State) (n : ℕ) (spreads : List Spread) → Has (λ t. t.number ≡ n) spreads → Each (IsSpread s) spreads
    → lookup (table_place n) (flat_map (table_rows s) spreads) ≡ None → ⊥
table_stands s n [] h each none = absurd h
table_stands s n (t ∷ spreads) (inl e) each none = stands_first n t.number (table_named s t.name) (flat_map (table_rows s) spreads) e each.0.of_table none
table_stands s n (t ∷ spreads) (inr h) each none =
    table_stands s n spreads h each.1 (or_rest _ _ (sym (lookup_behind (table_place n) (table_rows s t) (flat_map (table_rows s) spreads)) ∙ none))
