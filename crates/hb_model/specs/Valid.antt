-- States that the system can have: names, limits, numbers, and how groups are spread.
use Rattle.std.specs.Prelude.{◌≡◌, ◌≢◌, ℕ, ◌+◌, ◌-◌, ◌*◌, ◌/◌, ◌%◌, ◌≤◌, ◌<◌, ◌==◌, nat_le, Bool, false, ◌&&◌, ◌||◌, not, IsTrue, List, [], ◌∷◌, length, map, Contains, count_by, slice_get, Option, Some, IsSome, MatchOption}
use Rattle.std.specs.List.{range_with_len, list_all}
use Rattle.std.specs.Ordering.{nat_cmp}
use Rattle.hb_types.specs.declared.entry.Entry.{Entry}
use Rattle.hb_types.specs.declared.entry.Entry.TheVariants.{At, Moving}
use Rattle.hb_types.specs.declared.value.Value.{Value}
use Rattle.hb_types.specs.declared.value.Value.TheVariants as value
use Rattle.hb_types.specs.declared.value.Column.{Column}
use Rattle.hb_types.specs.Groups.{groups, target}
use Rattle.hb_types.specs.Lists.{Ascends, Each, Has, has_twins}
use Rattle.hb_types.specs.Numbers.{is_integer}
use Rattle.hb_model.specs.declared.table.Table.{Table}
use Rattle.hb_model.specs.Define.{areas_of}
use Rattle.hb_model.specs.Names.{text_cmp}
use Rattle.hb_model.specs.Rows.{AreByKey}
use Rattle.hb_model.specs.State.{State, Area, Spread, table_named}
use Rattle.std.specs.Str.{bytes_eq}

abbrev pub is_letter : ℕ → Bool
is_letter b = (nat_le 65 b && nat_le b 90) || (nat_le 97 b && nat_le b 122)

abbrev pub is_digit : ℕ → Bool
is_digit b = nat_le 48 b && nat_le b 57

-- a letter, and up to 29 letters, digits and underlines
abbrev pub is_name : List ℕ → Bool
is_name [] = false
is_name (b ∷ bs) = is_letter b && (nat_le (length bs) 29 && list_all (λ c. is_letter c || (is_digit c || (c == 95))) bs)

abbrev pub IsName : List ℕ → Type 0
IsName name = IsTrue (is_name name)

-- no two are alike
abbrev pub AllApart : {A : Type 0} → (A → A → Bool) → List A → Type 0
AllApart alike xs = IsTrue (not (has_twins alike xs))

-- ---- areas

-- an area of a back end of this run, numbered within its areas
pub record IsArea (back_ends : ℕ) (s : State) (a : Area) : Type 0 where
  pub named : IsName a.name
  pub low : 1 ≤ a.number / 256
  pub high : a.number / 256 ≤ back_ends
  pub first : 1 ≤ a.number % 256
  pub last : a.number % 256 ≤ areas_of s (a.number / 256)

pub record AreAreas (back_ends : ℕ) (s : State) : Type 0 where
  pub few : length s.layout.areas ≤ 64
  pub ascend : Ascends (λ a b. nat_cmp a.number b.number) s.layout.areas
  pub names_differ : AllApart (λ a b. bytes_eq a.name b.name) s.layout.areas
  pub each : Each (IsArea back_ends s) s.layout.areas

-- ---- tables

-- a value that a column takes
abbrev pub Fits : Column → Value → Type 0
Fits c (value.Int n) = (c.size ≡ 0) × IsTrue (is_integer n)
Fits c (value.Text t) = (length t ≤ c.size) × (c.size ≢ 0)

-- values that a table takes as a row
abbrev pub FitsAll : List Column → List Value → Type 0
FitsAll [] [] = Unit {0}
FitsAll (c ∷ cs) (v ∷ vs) = Fits c v × FitsAll cs vs
FitsAll _ _ = ⊥

-- a table as CREATE TABLE takes it, with rows that fit it
pub record IsTable (t : Table) : Type 0 where
  pub named : IsName t.name
  pub some_columns : 1 ≤ length t.columns
  pub few_columns : length t.columns ≤ 16
  pub columns_named : Each (λ c. IsName c.name × (c.size ≤ 255)) t.columns
  pub columns_differ : AllApart (λ a b. bytes_eq a.name b.name) t.columns
  pub key_is_number : MatchOption (slice_get t.columns t.key) ⊥ (λ c. c.size ≡ 0)
  pub rows_ascend : AreByKey t t.rows
  pub rows_fit : Each (FitsAll t.columns) t.rows

-- ---- spreads

-- an entry among the areas of its table; groups move only to the last area
abbrev pub IsEntry : List ℕ → Option ℕ → Entry → Type 0
IsEntry members last (At a) = Contains members a
IsEntry members last (Moving a b) = Contains members a × (a ≢ b) × (last ≡ Some b)

-- how many groups have or are to have their rows in this area
abbrev pub share : Spread → ℕ → ℕ
share t area = count_by (λ e. target e == area) t.entries

-- a share differs from 1,024 over the count of areas by less than 1
abbrev pub IsFair : Spread → ℕ → Type 0
IsFair t area = (share t area * length t.members < groups + length t.members) × (groups < share t area * length t.members + length t.members)

pub record IsSpread (s : State) (t : Spread) : Type 0 where
  pub of_table : IsSome (table_named s t.name)
  pub some_members : 1 ≤ length t.members
  pub few_members : length t.members ≤ 16
  pub members_differ : AllApart (λ a b. a == b) t.members
  pub members_are_areas : Each (λ m. Has (λ a. a.number ≡ m) s.layout.areas) t.members
  pub all_groups : length t.entries ≡ groups
  pub entries_among : Each (IsEntry t.members (slice_get t.members (length t.members - 1))) t.entries
  pub fair : Each (IsFair t) t.members

-- a state that the system of so many back ends can have
pub record IsState (back_ends : ℕ) (s : State) : Type 0 where
  pub areas : AreAreas back_ends s
  pub few_tables : length s.tables ≤ 64
  pub tables_ascend : Ascends (λ a b. text_cmp a.name b.name) s.tables
  pub tables : Each IsTable s.tables
  pub one_spread_each : length s.layout.spreads ≡ length s.tables
  pub spreads_numbered : map (λ t. t.number) s.layout.spreads ≡ range_with_len 1 (length s.layout.spreads)
  pub spread_names_differ : AllApart (λ a b. bytes_eq a.name b.name) s.layout.spreads
  pub spreads : Each (IsSpread s) s.layout.spreads
