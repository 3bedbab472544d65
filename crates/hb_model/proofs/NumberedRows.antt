-- What stands at a place of the dictionary, by the number of a table, and by position or group.
use Rattle.std.proofs.Common.{◌≡◌, ◌≢◌, ℕ, zero, suc, ◌+◌, ◌<◌, pos, List, [], ◌∷◌, Option, Some, None, Bool, true, false, refl, subst, sym, ap, ◌∙◌, map, length, arith}
use Rattle.std.specs.Prelude.{◌==◌, ◌&&◌, if◌then◌else◌, flat_map, find, option_map, option_and_then, unwrap_or, slice_get, nat_abs}
use Rattle.std.specs.List.{range_with_len}
use Rattle.std.specs.Option.{option_or}
use Rattle.std.specs.Ordering.{int_eq}
use Rattle.std.proofs.lemmas.Bool.Decides.{Decides-eqb, Decides-int_eq}
use Rattle.hb_types.specs.declared.change.Stored.{Stored}
use Rattle.hb_types.specs.declared.places.Place.{Place}
use Rattle.hb_types.specs.declared.value.Value.{Value}
use Rattle.hb_types.specs.Groups.{map_from}
use Rattle.hb_types.specs.Places.{same_place}
use Rattle.hb_types.specs.Put.{lookup}
use Rattle.hb_types.specs.Rows.{row_bytes}
use Rattle.hb_model.specs.declared.table.Table.{Table}
use Rattle.hb_model.specs.Dictionary.{dictionary, table_rows, at_place, table_row, member_row, entry_row}
use Rattle.hb_model.specs.Spots.{dictionary_space, tables_space, members_space, entries_space}
use Rattle.hb_model.specs.State.{State, Spread, table_named}
use Rattle.hb_model.specs.Valid.{IsState}
use Rattle.hb_model.proofs.DictionaryRows.{by_space, lookup_behind, or_none, not_true}

-- ---- places

abbrev pub place_of : ℕ → ℕ → ℕ → Place
place_of space group key = record { space = dictionary_space space; group = group; key = pos key }

hit : (space group key : ℕ) → same_place (place_of space group key) (place_of space group key) ≡ true
hit space group key = rw ((Decides-eqb space space).1 refl, (Decides-eqb group group).1 refl, (Decides-int_eq (pos key) (pos key)).1 refl) refl

last_false : (a b c : Bool) → c ≡ false → (a && (b && c)) ≡ false
last_false true true c e = e
last_false true false c e = refl
last_false false b c e = refl

middle_false : (a b c : Bool) → b ≡ false → (a && (b && c)) ≡ false
middle_false true true c e = absurd (wrong e)
  where
    wrong : true ≡ false → ⊥
    wrong e = cc
middle_false true false c e = refl
middle_false false b c e = refl

keys_apart : (j k : ℕ) → j ≢ k → int_eq (pos j) (pos k) ≡ false
keys_apart j k apart = not_true (int_eq (pos j) (pos k)) (λ y. apart (ap (λ z. nat_abs z) ((Decides-int_eq (pos j) (pos k)).0 y)))

other_key : (space group j k : ℕ) → j ≢ k → same_place (place_of space group j) (place_of space group k) ≡ false
other_key space group j k apart = last_false _ _ _ (keys_apart j k apart)

other_group : (space n m j k : ℕ) → (n == m) ≡ false → same_place (place_of space n j) (place_of space m k) ≡ false
other_group space n m j k apart = middle_false _ _ _ apart

numbers_apart : (n m : ℕ) → n ≢ m → (n == m) ≡ false
numbers_apart n m apart = not_true (n == m) (λ y. apart ((Decides-eqb n m).0 y))

-- ---- a list at one number

module _ {A : Type 0} (space : ℕ) (row : A → List Value) where
  abbrev pub listed : ℕ → ℕ → List A → List Stored
  listed number first xs = map_from (λ i x. at_place space number i (row x)) first xs

  abbrev pub bytes_of : Option A → Option (List ℕ)
  bytes_of o = option_map (λ x. row_bytes (row x)) o

  at_number : (n j first g : ℕ) (xs : List A) → j ≡ first + g → lookup (place_of space n j) (listed n first xs) ≡ bytes_of (slice_get xs g)
  at_number n j first g [] e = refl
  at_number n j first zero (x ∷ xs) e =
      let is : j ≡ first = omega (arith, e) in
      subst (λ k. lookup (place_of space n j) (at_place space n k (row x) ∷ listed n (first + 1) xs) ≡ Some (row_bytes (row x))) is (rw (hit space n j) refl)
  at_number n j first (suc g) (x ∷ xs) e = rw (other_key space n j first (λ is. omega (arith, e, is))) (at_number n j (first + 1) g xs (omega (arith, e)))

  at_other : (n m j first : ℕ) (xs : List A) → (n == m) ≡ false → lookup (place_of space n j) (listed m first xs) ≡ None
  at_other n m j first [] e = refl
  at_other n m j first (x ∷ xs) e = rw (other_group space n m j first e) (at_other n m j (first + 1) xs e)

-- ---- numbered tables

-- the numbers go up from this one
abbrev pub GoUp : ℕ → List Spread → Type 0
GoUp first spreads = map (λ t. t.number) spreads ≡ range_with_len first (length spreads)

head_is : (t : Spread) (first : ℕ) (spreads : List Spread) → GoUp first (t ∷ spreads) → t.number ≡ first
head_is t first spreads e = cc

tail_is : (t : Spread) (first : ℕ) (spreads : List Spread) → GoUp first (t ∷ spreads) → GoUp (first + 1) spreads
tail_is t first spreads e = cc

-- rows of each table, of which those of another number are not at the place
module _ (p : Place) (n : ℕ) (rows : Spread → List Stored) (there : Spread → Option (List ℕ))
    (mine : (t : Spread) → n ≡ t.number → lookup p (rows t) ≡ there t) (others : (t : Spread) → (n == t.number) ≡ false → lookup p (rows t) ≡ None) where
  none_later : (first : ℕ) (spreads : List Spread) → GoUp first spreads → n < first → lookup p (flat_map rows spreads) ≡ None
  none_later first [] e low = refl
  none_later first (t ∷ spreads) e low =
      lookup_behind p (rows t) (flat_map rows spreads)
      ∙ rw (others t (numbers_apart n t.number (λ is. omega (arith, is, low, head_is t first spreads e)))) (none_later (first + 1) spreads (tail_is t first spreads e) (omega (arith, low)))

  found_here : (b : Bool) (first : ℕ) (t : Spread) (spreads : List Spread) → (n == t.number) ≡ b → GoUp first (t ∷ spreads)
      → lookup p (flat_map rows spreads) ≡ option_and_then there (find (λ u. n == u.number) spreads)
      → option_or (lookup p (rows t)) (lookup p (flat_map rows spreads)) ≡ option_and_then there (if b then Some t else find (λ u. n == u.number) spreads)
  found_here true first t spreads is e rest =
      let same : n ≡ t.number = (Decides-eqb n t.number).0 is in
      rw (none_later (first + 1) spreads (tail_is t first spreads e) (omega (arith, same, head_is t first spreads e))) (or_none (lookup p (rows t)) ∙ mine t same)
  found_here false first t spreads is e rest = rw (others t is) rest

  pub by_find : (first : ℕ) (spreads : List Spread) → GoUp first spreads → lookup p (flat_map rows spreads) ≡ option_and_then there (find (λ u. n == u.number) spreads)
  by_find first [] e = refl
  by_find first (t ∷ spreads) e =
      lookup_behind p (rows t) (flat_map rows spreads) ∙ found_here (n == t.number) first t spreads refl e (by_find (first + 1) spreads (tail_is t first spreads e))

-- ---- members, entries and tables

abbrev row_in : {A : Type 0} → (A → List Value) → List A → ℕ → Option (List ℕ)
row_in row xs i = option_map (λ x. row_bytes (row x)) (slice_get xs i)

pub entry_by_number : (back_ends : ℕ) (s : State) → IsState back_ends s → (n g : ℕ)
    → lookup (place_of entries_space n g) (dictionary s) ≡ option_and_then (λ t. row_in entry_row t.entries g) (find (λ t. n == t.number) s.layout.spreads)
entry_by_number back_ends s is n g =
    by_space s (place_of entries_space n g)
    ∙ by_find (place_of entries_space n g) n (λ t. listed entries_space entry_row t.number 0 t.entries) (λ t. row_in entry_row t.entries g)
    (λ t e. subst (λ m. lookup (place_of entries_space n g) (listed entries_space entry_row m 0 t.entries) ≡ row_in entry_row t.entries g) e
    (at_number entries_space entry_row n g 0 g t.entries (omega arith)))
    (λ t e. at_other entries_space entry_row n t.number g 0 t.entries e) 1 s.layout.spreads is.spreads_numbered

pub member_by_number : (back_ends : ℕ) (s : State) → IsState back_ends s → (n i : ℕ)
    → lookup (place_of members_space n (1 + i)) (dictionary s) ≡ option_and_then (λ t. row_in member_row t.members i) (find (λ t. n == t.number) s.layout.spreads)
member_by_number back_ends s is n i =
    by_space s (place_of members_space n (1 + i))
    ∙ by_find (place_of members_space n (1 + i)) n (λ t. listed members_space member_row t.number 1 t.members) (λ t. row_in member_row t.members i)
    (λ t e. subst (λ m. lookup (place_of members_space n (1 + i)) (listed members_space member_row m 1 t.members) ≡ row_in member_row t.members i) e
    (at_number members_space member_row n (1 + i) 1 i t.members refl))
    (λ t e. at_other members_space member_row n t.number (1 + i) 1 t.members e) 1 s.layout.spreads is.spreads_numbered

table_at : (n m : ℕ) (o : Option Table) → n ≡ m
    → lookup (place_of tables_space 0 n) (unwrap_or (option_map (λ u. at_place tables_space 0 m (table_row u) ∷ []) o) []) ≡ option_map (λ u. row_bytes (table_row u)) o
table_at n m None e = refl
table_at n m (Some u) e =
    subst (λ k. lookup (place_of tables_space 0 n) (at_place tables_space 0 k (table_row u) ∷ []) ≡ Some (row_bytes (table_row u))) e (rw (hit tables_space 0 n) refl)

no_table_at : (n m : ℕ) (o : Option Table) → (n == m) ≡ false
    → lookup (place_of tables_space 0 n) (unwrap_or (option_map (λ u. at_place tables_space 0 m (table_row u) ∷ []) o) []) ≡ None
no_table_at n m None e = refl
no_table_at n m (Some u) e = rw (other_key tables_space 0 n m (λ is. apart is e)) refl
  where
    false_true : false ≡ true → ⊥
    false_true e = cc

    apart : n ≡ m → (n == m) ≡ false → ⊥
    apart is e = false_true (sym e ∙ (Decides-eqb n m).1 is)

pub table_by_number : (back_ends : ℕ) (s : State) → IsState back_ends s → (n : ℕ)
    → lookup (place_of tables_space 0 n) (dictionary s)
    ≡ option_and_then (λ t. option_map (λ u. row_bytes (table_row u)) (table_named s t.name)) (find (λ t. n == t.number) s.layout.spreads)
table_by_number back_ends s is n =
    by_space s (place_of tables_space 0 n)
    ∙ by_find (place_of tables_space 0 n) n (table_rows s) (λ t. option_map (λ u. row_bytes (table_row u)) (table_named s t.name))
    (λ t e. table_at n t.number (table_named s t.name) e) (λ t e. no_table_at n t.number (table_named s t.name) e) 1 s.layout.spreads is.spreads_numbered
