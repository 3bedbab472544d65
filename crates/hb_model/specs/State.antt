-- The state of the system: tables as lists of rows, and beside them where their rows lie.
use Rattle.std.specs.Prelude.{ℕ, List, [], ◌∷◌, Option, find, cond}
use Rattle.std.specs.Str.{bytes_eq}
use Rattle.std.specs.Ordering.{is_lt, nat_cmp}
use Rattle.hb_types.specs.declared.entry.Entry.{Entry}
use Rattle.hb_model.specs.declared.table.Table.{Table}
use Rattle.hb_model.specs.Names.{text_cmp}

-- an area by its number
pub record Area : Type 0 where
  pub number : ℕ
  pub name : List ℕ

-- where a table lies: its number, its areas in order, and the entry of each of its 1,024 groups
pub record Spread : Type 0 where
  pub number : ℕ
  pub name : List ℕ
  pub members : List ℕ
  pub entries : List Entry

-- areas and spreads, each by ascending number
pub record Layout : Type 0 where
  pub areas : List Area
  pub spreads : List Spread

-- tables by ascending name, and the layout
pub record State : Type 0 where
  pub tables : List Table
  pub layout : Layout

-- the state of empty disks
abbrev pub nothing : State
nothing = record { tables = []; layout = record { areas = []; spreads = [] } }

abbrev pub table_named : State → List ℕ → Option Table
table_named s name = find (λ t. bytes_eq t.name name) s.tables

abbrev pub spread_named : State → List ℕ → Option Spread
spread_named s name = find (λ t. bytes_eq t.name name) s.layout.spreads

abbrev pub area_named : State → List ℕ → Option Area
area_named s name = find (λ a. bytes_eq a.name name) s.layout.areas

-- a table at its place by name
abbrev pub with_table : Table → List Table → List Table
with_table t [] = t ∷ []
with_table t (u ∷ us) = cond (is_lt (text_cmp t.name u.name)) (t ∷ u ∷ us) (u ∷ with_table t us)

-- an area at its place by number
abbrev pub with_area : Area → List Area → List Area
with_area a [] = a ∷ []
with_area a (b ∷ bs) = cond (is_lt (nat_cmp a.number b.number)) (a ∷ b ∷ bs) (b ∷ with_area a bs)
