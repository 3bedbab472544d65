-- The rows of the areas, read and with one more.
use Rattle.std.proofs.Common.{◌≡◌, ℕ, ◌≤◌, ◌<◌, pos, List, [], ◌∷◌, ◌++◌, length, map, Option, Some, None, Bool, true, false, refl, subst, sym, ap, ◌∙◌, arith}
use Rattle.std.specs.Prelude.{◌/◌, nat_abs, IsTrue, filter_map, flat_map, option_and_then, if◌then◌else◌}
use Rattle.std.specs.Option.{option_or}
use Rattle.std.specs.Ordering.{nat_cmp, is_lt, MatchOrdering}
use Rattle.std.specs.declared.cmp.Ordering.{Ordering}
use Rattle.std.specs.declared.cmp.Ordering.TheVariants.{Less, Equal, Greater}
use Rattle.std.proofs.lemmas.Cmp.{ranked}
use Rattle.std.proofs.lemmas.Int.{ints}
use Rattle.std.proofs.lemmas.List.Elements.{All-from_recursion}
use Rattle.hb_types.specs.declared.change.Stored.{Stored}
use Rattle.hb_types.specs.declared.places.Path.{Path}
use Rattle.hb_types.specs.declared.places.Path.TheVariants as path
use Rattle.hb_types.specs.declared.places.Place.{Place}
use Rattle.hb_types.specs.Lists.{Ascends, Each}
use Rattle.hb_types.specs.Numbers.{is_integer}
use Rattle.hb_types.specs.Places.{same_place}
use Rattle.hb_types.specs.Put.{lookup, rows_under}
use Rattle.hb_types.specs.Rows.{HasBytes, row_bytes, values_in}
use Rattle.hb_types.proofs.PutLaws.{by_test}
use Rattle.hb_types.proofs.SamePlace.{int_eq-refl, same_place-eq}
use Rattle.hb_dict.proofs.ValuesBack.{values_back}
use Rattle.hb_model.specs.Answers.{rows_of}
use Rattle.hb_model.specs.ByNumber.{area_place}
use Rattle.hb_model.specs.Dictionary.{area_in, area_row, area_rows, at_place, dictionary, table_rows, member_rows, entry_rows}
use Rattle.hb_model.specs.Families.{Family}
use Rattle.hb_model.specs.Spots.{ds, areas_space, dictionary_space}
use Rattle.hb_model.specs.State.{State, Area, with_area}
use Rattle.hb_model.specs.System.{AreAscending, Sys}
use Rattle.hb_model.specs.Valid.{IsArea}
use Rattle.hb_model.specs.Define.{create_area}
use Rattle.hb_model.proofs.DictionaryRows.{lookup_behind}
use Rattle.hb_talk.specs.PlansDefine.{area_of}
use Rattle.hb_planlaws.proofs.Scans.{ds_ascends, keys_less, of_space, under_same}
use Rattle.hb_planlaws.proofs.Told.{name_short}

-- ---- as a scan reads them

abbrev pub areas_path : Path
areas_path = path.Whole (dictionary_space areas_space)

abbrev pub row_at : Area → Stored
row_at a = at_place areas_space 0 a.number (area_row a)

under_all : (areas : List Area) → rows_under areas_path (map row_at areas) ≡ map row_at areas
under_all [] = refl
under_all (a ∷ areas) = ap (λ rs. row_at a ∷ rs) (under_all areas)

below_at : (n m : ℕ) (o : Ordering) → MatchOrdering o (n < m) (n ≡ m) (m < n) → o ≡ Less → n < m
below_at n m Less h e = h
below_at n m Equal h e = cc
below_at n m Greater h e = cc

pub number_below : (n m : ℕ) → nat_cmp n m ≡ Less → n < m
number_below n m e = below_at n m (nat_cmp n m) (ranked n m (nat_cmp n m) refl) e

rows_ascend : (areas : List Area) → Ascends (λ a b. nat_cmp a.number b.number) areas → AreAscending (map row_at areas)
rows_ascend [] h = tt
rows_ascend (a ∷ []) h = tt
rows_ascend (a ∷ b ∷ areas) h = (keys_less areas_space 0 a.number b.number (number_below a.number b.number h.0), rows_ascend (b ∷ areas) h.1)

-- ---- what they tell

area_back : (back_ends : ℕ) (s : State) (a : Area) → back_ends ≤ 8 → IsArea back_ends s a → area_of (row_at a) ≡ Some a
area_back back_ends s a few is =
    let short = name_short a.name is.named in
    let high = is.high in
    let within : IsTrue (is_integer (pos (a.number / 256))) = (let l : a.number / 256 ≤ 8 = omega (arith, high, few) in small (a.number / 256) l) in
    let back : values_in (row_bytes (area_row a)) ≡ Some (area_row a) =
    values_back (row_bytes (area_row a)) (area_row a)
    (record { values_fit = record { few = omega arith; fit = All-from_recursion HasBytes (area_row a) (text short, (within, tt)) }; spelled = refl }) in
    ap (option_and_then (area_in a.number)) back ∙ ap (λ b. if b then Some a else None) (int_eq-refl (pos (a.number / 256)))
  where
    small : (k : ℕ) → k ≤ 8 → IsTrue (is_integer (pos k))
    small k le = grind (arith, ints)

    text : length a.name ≤ 30 → length a.name ≤ 255
    text l = omega (arith, l)

kept : {A B : Type 0} (f : A → Option B) (x : A) (xs : List A) (y : B) → f x ≡ Some y → filter_map f (x ∷ xs) ≡ y ∷ filter_map f xs
kept f x xs y h = rw h refl

told : (back_ends : ℕ) (s : State) (areas : List Area) → back_ends ≤ 8 → Each (IsArea back_ends s) areas → filter_map area_of (map row_at areas) ≡ areas
told back_ends s [] few each = refl
told back_ends s (a ∷ areas) few each = kept area_of (row_at a) (map row_at areas) a (area_back back_ends s a few each.0) ∙ ap (λ xs. a ∷ xs) (told back_ends s areas few each.1)

-- a scan of the areas' rows tells the areas
pub areas_told : (back_ends : ℕ) (family : Family) (s : State) → Sys back_ends family s → back_ends ≤ 8 → filter_map area_of (rows_under areas_path (rows_of ds family)) ≡ s.layout.areas
areas_told back_ends family s sys few =
    let rows : rows_under areas_path (rows_of ds family) ≡ map row_at s.layout.areas =
    under_same areas_path (rows_of ds family) (map row_at s.layout.areas) (ds_ascends back_ends family s sys family sys.ascending)
    (subst AreAscending (sym (under_all s.layout.areas)) (rows_ascend s.layout.areas sys.state.areas.ascend)) (λ x t. of_space back_ends family s sys areas_space x t)
    ∙ under_all s.layout.areas in
    ap (filter_map area_of) rows ∙ told back_ends s s.layout.areas few sys.state.areas.each

-- ---- one more

places_apart : (n m : ℕ) → (n ≡ m → ⊥) → area_place n ≡ area_place m → ⊥
places_apart n m d e = d (ap (λ (q : Place). nat_abs q.key) e)

lookup_more : (p : Place) (a : Area) (areas : List Area) → Each (λ (b : Area). b.number ≡ a.number → ⊥) areas
    → lookup p (map row_at (with_area a areas)) ≡ (if same_place p (area_place a.number) then Some (row_bytes (area_row a)) else lookup p (map row_at areas))
lookup_more p a [] apart = refl
lookup_more p a (b ∷ areas) apart =
    by_test (is_lt (nat_cmp a.number b.number))
    (λ t. rw t refl)
    (λ f. rw f (behind (same_place p (area_place b.number)) (same_place p (area_place a.number)) refl refl (lookup_more p a areas apart.1)))
  where
    behind : (x y : Bool) → same_place p (area_place b.number) ≡ x → same_place p (area_place a.number) ≡ y
        → lookup p (map row_at (with_area a areas)) ≡ (if same_place p (area_place a.number) then Some (row_bytes (area_row a)) else lookup p (map row_at areas))
        → (if x then Some (row_bytes (area_row b)) else lookup p (map row_at (with_area a areas)))
        ≡ (if y then Some (row_bytes (area_row a)) else (if x then Some (row_bytes (area_row b)) else lookup p (map row_at areas)))
    behind true true e f rest =
        absurd (places_apart b.number a.number apart.0 (sym (same_place-eq p (area_place b.number) e) ∙ same_place-eq p (area_place a.number) f))
    behind true false e f rest = refl
    behind false y e f rest = rest ∙ ap (λ z. if z then Some (row_bytes (area_row a)) else lookup p (map row_at areas)) f

or_step : (b : Bool) (row : List ℕ) (front back : Option (List ℕ)) → option_or (if b then Some row else front) back ≡ (if b then Some row else option_or front back)
or_step true row front back = refl
or_step false row front back = refl

abbrev rest_of : State → List Stored
rest_of s = flat_map (table_rows s) s.layout.spreads ++ flat_map member_rows s.layout.spreads ++ flat_map entry_rows s.layout.spreads

append_assoc : (xs ys zs : List Stored) → (xs ++ ys) ++ zs ≡ xs ++ (ys ++ zs)
append_assoc [] ys zs = refl
append_assoc (x ∷ xs) ys zs = ap (λ r. x ∷ r) (append_assoc xs ys zs)

front_of : (s : State) → dictionary s ≡ area_rows s ++ rest_of s
front_of s =
    let ts = flat_map (table_rows s) s.layout.spreads in
    let ms = flat_map member_rows s.layout.spreads in
    let es = flat_map entry_rows s.layout.spreads in
    ap (λ xs. xs ++ es) (append_assoc (area_rows s) ts ms) ∙ append_assoc (area_rows s) (ts ++ ms) es

-- the dictionary has one row more, at the area's place
pub dictionary_more : (s : State) (a : Area) (p : Place) → Each (λ (b : Area). b.number ≡ a.number → ⊥) s.layout.areas
    → lookup p (dictionary (create_area s a)) ≡ (if same_place p (area_place a.number) then Some (row_bytes (area_row a)) else lookup p (dictionary s))
dictionary_more s a p apart =
    ap (lookup p) (front_of (create_area s a)) ∙ lookup_behind p (map row_at (with_area a s.layout.areas)) (rest_of s)
    ∙ ap (λ o. option_or o (lookup p (rest_of s))) (lookup_more p a s.layout.areas apart)
    ∙ or_step (same_place p (area_place a.number)) (row_bytes (area_row a)) (lookup p (map row_at s.layout.areas)) (lookup p (rest_of s))
    ∙ ap (λ o. if same_place p (area_place a.number) then Some (row_bytes (area_row a)) else o)
    (sym (lookup_behind p (area_rows s) (rest_of s)) ∙ ap (lookup p) (sym (front_of s)))
