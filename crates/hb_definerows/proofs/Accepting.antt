-- A draft that is not refused: its columns and its key are those of a table, and each of its areas is known.
use Rattle.std.proofs.Common.{◌≡◌, ℕ, zero, suc, ◌≤◌, ◌==◌, Bool, true, false, true≢false, not, ◌&&◌, ◌||◌, List, [], ◌∷◌, length, drop, Option, Some, None, MatchOption, refl, ap, sym, ◌∙◌, subst, arith}
use Rattle.std.specs.Prelude.{cond, find, position, ◌<◌, nat_le, nat_lt, slice_get, unwrap_or, option_map, is_none, is_some}
use Rattle.std.specs.List.{cons_option, list_any, position_or_len}
use Rattle.std.specs.Str.{bytes_eq}
use Rattle.std.proofs.lemmas.Bool.{eqb-true, lt-ltb, ltb-false, ltb-true}
use Rattle.std.proofs.lemmas.Bool.Decides.{nat_tests}
use Rattle.std.proofs.lemmas.List.Folds.{find_at}
use Rattle.std.proofs.lemmas.Slice.Eq.{bytes_eq-Decides}
use Rattle.hb_types.specs.declared.value.Column.{Column}
use Rattle.hb_types.specs.Lists.{Each, has_twins}
use Rattle.hb_model.specs.declared.reply.Reply.{Reply}
use Rattle.hb_model.specs.declared.reply.Reply.TheVariants as reply
use Rattle.hb_model.specs.Define.{create_table_refusals, is_key_number, key_position, numbers_of}
use Rattle.hb_model.specs.Refusals.{first_refusal}
use Rattle.hb_model.specs.Told.{Found}
use Rattle.hb_dict.specs.DictionaryRows.{IsTaken}
use Rattle.hb_definerows.specs.declared.create_table.Draft.{Draft}
use Rattle.hb_definerows.specs.DefineRows.{state_told}
use Rattle.hb_definerows.specs.Drafts.{IsAccepted, IsNamed}
use Rattle.hb_model.specs.State.{State, Area, area_named, table_named}
use Rattle.hb_definerows.proofs.Twins.{twins_more}

none_is : (r : Reply) → Some r ≡ None → ⊥
none_is r is = true≢false (ap (λ o. is_some o) is)

-- the first of some refusals does not come, and none behind it
pub not_first : (b : Bool) (r : Reply) (rs : List (Bool × Reply)) → first_refusal ((b, r) ∷ rs) ≡ None → (b ≡ false) × (first_refusal rs ≡ None)
not_first true r rs h = absurd (none_is r h)
not_first false r rs h = (refl, h)

pub neither : (a b : Bool) → (a || b) ≡ false → (a ≡ false) × (b ≡ false)
neither true b is = absurd (true≢false is)
neither false b is = (refl, is)

pub both : (a b : Bool) → (a && b) ≡ true → (a ≡ true) × (b ≡ true)
both true b is = (refl, is)
both false b is = absurd (true≢false (sym is))

pub unless_not : (b : Bool) → not b ≡ false → b ≡ true
unless_not true is = refl
unless_not false is = absurd (true≢false is)

-- what a draft that is not refused has
pub record Accepted (s : State) (name : List ℕ) (columns : List Column) (key : List ℕ) (areas : List (List ℕ)) : Type 0 where
  pub few_tables : nat_le 64 (length s.tables) ≡ false
  pub few_columns : nat_lt 16 (length columns) ≡ false
  pub few_areas : nat_lt 16 (length areas) ≡ false
  pub columns_differ : has_twins (λ (a b : Column). bytes_eq a.name b.name) columns ≡ false
  pub key_is_column : list_any (λ (c : Column). bytes_eq c.name key) columns ≡ true
  pub key_is_number : is_key_number columns key ≡ true
  pub sizes : list_any (λ (c : Column). nat_lt 255 c.size) columns ≡ false
  pub known : list_any (λ a. is_none (area_named s a)) areas ≡ false

pub accepted : (s : State) (name : List ℕ) (columns : List Column) (key : List ℕ) (areas : List (List ℕ))
    → first_refusal (create_table_refusals s name columns key areas) ≡ None → Accepted s name columns key areas
accepted s name columns key areas is =
    let all = create_table_refusals s name columns key areas in
    let b = not_first (is_some (table_named s name)) reply.TableThere (drop 1 all) is in
    let c = not_first (nat_le 64 (length s.tables) || (nat_lt 16 (length columns) || nat_lt 16 (length areas))) reply.TooMany (drop 2 all) b.1 in
    let d = not_first (has_twins (λ (a b : Column). bytes_eq a.name b.name) columns) reply.ColumnTwice (drop 3 all) c.1 in
    let e = not_first (not (list_any (λ (c : Column). bytes_eq c.name key) columns)) reply.NoColumn (drop 4 all) d.1 in
    let f = not_first (not (is_key_number columns key) || list_any (λ (c : Column). nat_lt 255 c.size) columns) reply.WrongType (drop 5 all) e.1 in
    let g = not_first (list_any (λ a. is_none (area_named s a)) areas) reply.NoArea (drop 6 all) f.1 in
    let many = neither (nat_le 64 (length s.tables)) _ c.0 in
    let more = neither (nat_lt 16 (length columns)) _ many.1 in
    let typed = neither (not (is_key_number columns key)) _ f.0 in
    record {
      few_tables = many.0;
      few_columns = more.0;
      few_areas = more.1;
      columns_differ = d.0;
      key_is_column = unless_not _ e.0;
      key_is_number = unless_not _ typed.0;
      sizes = typed.1;
      known = g.0;
    }

-- ---- areas

one_known : (o : Option Area) (rest : List ℕ) → is_none o ≡ false → length (cons_option (option_map (λ (a : Area). a.number) o) rest) ≡ suc (length rest)
one_known None rest is = absurd (true≢false is)
one_known (Some a) rest is = refl

pub all_known : (s : State) (areas : List (List ℕ)) → list_any (λ a. is_none (area_named s a)) areas ≡ false → length (numbers_of s areas) ≡ length areas
all_known s [] known = refl
all_known s (a ∷ areas) known =
    let here = neither (is_none (area_named s a)) (list_any (λ a. is_none (area_named s a)) areas) known in
    one_known (area_named s a) (numbers_of s areas) here.0 ∙ ap suc (all_known s areas here.1)

-- ---- columns

sizes_small : (cs : List Column) → list_any (λ (c : Column). nat_lt 255 c.size) cs ≡ false → Each (λ (c : Column). c.size ≤ 255) cs
sizes_small [] is = tt
sizes_small (c ∷ cs) is =
    let here = neither (nat_lt 255 c.size) (list_any (λ (c : Column). nat_lt 255 c.size) cs) is in
    let small : c.size ≤ 255 = grind (arith, nat_tests) in
    (small, sizes_small cs here.1)

abbrev is_key : List ℕ → Column → Bool
is_key key c = bytes_eq c.name key

same_names : (a b c : List ℕ) → bytes_eq a c ≡ true → bytes_eq b c ≡ true → bytes_eq a b ≡ true
same_names a b c first second =
    let one : a ≡ c = (bytes_eq-Decides a c).0 first in
    let two : b ≡ c = (bytes_eq-Decides b c).0 second in
    (bytes_eq-Decides a b).1 (one ∙ sym two)

abbrev is_number_key : List ℕ → Column → Bool
is_number_key key c = bytes_eq c.name key && (c.size == 0)

or_later : (b x : Bool) → x ≡ true → (b || x) ≡ true
or_later true x is = refl
or_later false x is = is

-- a later column of the key's name is a twin of one of that name
like_later : (c : Column) (key : List ℕ) (cs : List Column) → is_key key c ≡ true → list_any (is_number_key key) cs ≡ true
    → list_any (λ (d : Column). bytes_eq c.name d.name) cs ≡ true
like_later c key [] named is = is
like_later c key (d ∷ ds) named is = by_one (is_number_key key d) refl is (like_later c key ds named)
  where
    by_one : (b : Bool) → is_number_key key d ≡ b → (b || list_any (is_number_key key) ds) ≡ true
        → (list_any (is_number_key key) ds ≡ true → list_any (λ (e : Column). bytes_eq c.name e.name) ds ≡ true)
        → (bytes_eq c.name d.name || list_any (λ (e : Column). bytes_eq c.name e.name) ds) ≡ true
    by_one true e any more = ap (λ (b : Bool). b || list_any (λ (e : Column). bytes_eq c.name e.name) ds) (same_names c.name d.name key named (both (is_key key d) (d.size == 0) e).0)
    by_one false e any more = or_later (bytes_eq c.name d.name) _ (more any)

-- the first column of the key's name is of numbers
key_found : (key : List ℕ) (cs : List Column) → has_twins (λ (a b : Column). bytes_eq a.name b.name) cs ≡ false → list_any (is_number_key key) cs ≡ true
    → MatchOption (find (is_key key) cs) ⊥ (λ (c : Column). c.size ≡ 0)
key_found key [] differ is = absurd (true≢false (sym is))
key_found key (c ∷ cs) differ is = by_name (is_key key c) refl (key_found key cs apart.1)
  where
    apart : (list_any (λ (d : Column). bytes_eq c.name d.name) cs ≡ false) × (has_twins (λ (a b : Column). bytes_eq a.name b.name) cs ≡ false)
    apart = neither _ _ (sym (twins_more (λ (a b : Column). bytes_eq a.name b.name) c cs) ∙ differ)

    by_size : (z : Bool) → (c.size == 0) ≡ z → is_key key c ≡ true → ((true && z) || list_any (is_number_key key) cs) ≡ true → c.size ≡ 0
    by_size true e named any = eqb-true c.size 0 e
    by_size false e named any = absurd (true≢false (sym (like_later c key cs named any) ∙ apart.0))

    by_name : (b : Bool) → is_key key c ≡ b → (list_any (is_number_key key) cs ≡ true → MatchOption (find (is_key key) cs) ⊥ (λ (d : Column). d.size ≡ 0))
        → MatchOption (cond b (Some c) (find (is_key key) cs)) ⊥ (λ (d : Column). d.size ≡ 0)
    by_name true e more = by_size (c.size == 0) refl e (sym (ap (λ (b : Bool). (b && (c.size == 0)) || list_any (is_number_key key) cs) e) ∙ is)
    by_name false e more = more (sym (ap (λ (b : Bool). (b && (c.size == 0)) || list_any (is_number_key key) cs) e) ∙ is)

some_within : (cs : List Column) (k : ℕ) → MatchOption (slice_get cs k) ⊥ (λ (c : Column). c.size ≡ 0) → k < length cs
some_within [] k is = absurd is
some_within (c ∷ cs) zero is = omega arith
some_within (c ∷ cs) (suc k) is = let lt = some_within cs k is in omega (arith, lt)

-- the key's column is of numbers
pub key_of_numbers : (key : List ℕ) (cs : List Column) → has_twins (λ (a b : Column). bytes_eq a.name b.name) cs ≡ false → is_key_number cs key ≡ true
    → MatchOption (slice_get cs (key_position cs key)) ⊥ (λ (c : Column). c.size ≡ 0)
key_of_numbers key cs differ is =
    let k = position_or_len (is_key key) cs in
    let there : MatchOption (slice_get cs k) ⊥ (λ (c : Column). c.size ≡ 0) = subst (λ (o : Option Column). MatchOption o ⊥ (λ (c : Column). c.size ≡ 0)) (find_at (is_key key) cs) (key_found key cs differ is) in
    let below : nat_lt k (length cs) ≡ true = lt-ltb k (length cs) (some_within cs k there) in
    let at : key_position cs key ≡ k = ap (λ (b : Bool). unwrap_or (cond b (Some k) None) 0) below in
    subst (λ (n : ℕ). MatchOption (slice_get cs n) ⊥ (λ (c : Column). c.size ≡ 0)) (sym at) there

any_some : (key : List ℕ) (cs : List Column) → list_any (is_key key) cs ≡ true → 1 ≤ length cs
any_some key [] is = absurd (true≢false (sym is))
any_some key (c ∷ cs) is = omega arith

-- the definition of a draft that is not refused
pub taken : (s : State) (name : List ℕ) (columns : List Column) (key : List ℕ) (areas : List (List ℕ)) (k : ℕ)
    → first_refusal (create_table_refusals s name columns key areas) ≡ None → k ≡ key_position columns key
    → IsTaken (record { name = name; hash = 1; key = k; columns = columns })
taken s name columns key areas k is at =
    let a = accepted s name columns key areas is in
    record {
      hash = refl;
      some = any_some key columns a.key_is_column;
      few = ltb-false 16 (length columns) a.few_columns;
      key = subst (λ (n : ℕ). MatchOption (slice_get columns n) ⊥ (λ (c : Column). c.size ≡ 0)) (sym at) (key_of_numbers key columns a.columns_differ a.key_is_number);
      sizes = sizes_small columns a.sizes;
    }

-- the areas of a draft that is not refused are as many as it names
pub members_counted : (tables : List Found) (there : List Area) (d : Draft) (ms : List ℕ) → IsAccepted (state_told tables there) d → IsNamed d
    → ms ≡ numbers_of (state_told [] there) d.areas → (1 ≤ length ms) × (length ms ≤ 16)
members_counted tables there d ms is named same =
    let a = accepted (state_told tables there) d.name d.columns d.key d.areas is in
    let count : length ms ≡ length d.areas = ap length same ∙ all_known (state_told tables there) d.areas a.known in
    let few : length d.areas ≤ 16 = ltb-false 16 (length d.areas) a.few_areas in
    (omega (arith, count, named.areas), omega (arith, count, few))

-- a position is within the list
pub place_below : {A : Type 0} (p : A → Bool) (xs : List A) (k : ℕ) → position p xs ≡ Some k → k < length xs
place_below p xs k is = by_test (nat_lt (position_or_len p xs) (length xs)) refl is
  where
    by_test : (b : Bool) → nat_lt (position_or_len p xs) (length xs) ≡ b → cond b (Some (position_or_len p xs)) None ≡ Some k → k < length xs
    by_test true e same = let at : position_or_len p xs ≡ k = cc in subst (λ (n : ℕ). n < length xs) at (ltb-true _ _ e)
    by_test false e same = absurd (true≢false (sym (ap (λ o. is_some o) same)))
