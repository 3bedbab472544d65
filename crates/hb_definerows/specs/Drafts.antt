-- A table to be created.
use Rattle.std.specs.Prelude.{◌≡◌, ◌≤◌, length, None}
use Rattle.hb_types.specs.Lists.{Each}
use Rattle.hb_model.specs.declared.table.Table.{Table}
use Rattle.hb_model.specs.Define.{new_table, create_table_refusals}
use Rattle.hb_model.specs.Refusals.{first_refusal}
use Rattle.hb_model.specs.State.{State}
use Rattle.hb_dict.specs.declared.table.TableDef.{TableDef}
use Rattle.hb_definerows.specs.declared.create_table.Draft.{Draft}

-- names of at most 30 bytes, and some area
pub record IsNamed (d : Draft) : Type 0 where
  pub name : length d.name ≤ 30
  pub columns : Each (λ c. length c.name ≤ 30) d.columns
  pub areas : 1 ≤ length d.areas

-- a draft that a state doesn't refuse
abbrev pub IsAccepted : State → Draft → Type 0
IsAccepted s d = first_refusal (create_table_refusals s d.name d.columns d.key d.areas) ≡ None

abbrev pub table_of_draft : Draft → Table
table_of_draft d = new_table d.name d.columns d.key

-- a definition with names of at most 30 bytes
pub record AreNamed (d : TableDef) : Type 0 where
  pub name : length d.name ≤ 30
  pub columns : Each (λ c. length c.name ≤ 30) d.columns
