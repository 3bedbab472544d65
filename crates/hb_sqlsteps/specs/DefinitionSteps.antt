-- CREATE RDAREA, CREATE TABLE, ALTER TABLE and LOCK TABLE, token by token.
use Rattle.std.specs.Prelude.{ℕ, true, false, if◌then◌else◌, List, [], Option, Some, option_map}
use Rattle.hb_types.specs.declared.value.Column.{Column}
use Rattle.hb_model.specs.declared.statement.Statement.TheVariants as statement
use Rattle.hb_model.specs.declared.line.Work.{Work}
use Rattle.hb_model.specs.declared.line.Work.TheVariants as work
use Rattle.hb_sqltoken.specs.declared.token.Token.{Token}
use Rattle.hb_sqltoken.specs.declared.token.Word.TheVariants as word
use Rattle.hb_sqlsteps.specs.declared.marks.Mark.TheVariants as mark
use Rattle.hb_sqlsteps.specs.declared.lists.Names.{Names}
use Rattle.hb_sqlsteps.specs.declared.lists.Names.TheVariants as names
use Rattle.hb_sqlsteps.specs.declared.columns.Columns.{Columns}
use Rattle.hb_sqlsteps.specs.declared.columns.Columns.TheVariants as columns
use Rattle.hb_sqlsteps.specs.declared.definitions.CreateArea.{CreateArea}
use Rattle.hb_sqlsteps.specs.declared.definitions.CreateArea.TheVariants as create_area
use Rattle.hb_sqlsteps.specs.declared.definitions.AddArea.{AddArea}
use Rattle.hb_sqlsteps.specs.declared.definitions.AddArea.TheVariants as add_area
use Rattle.hb_sqlsteps.specs.declared.definitions.LockTable.{LockTable}
use Rattle.hb_sqlsteps.specs.declared.definitions.LockTable.TheVariants as lock_table
use Rattle.hb_sqlsteps.specs.declared.create_table.NewTable.{NewTable}
use Rattle.hb_sqlsteps.specs.declared.create_table.CreateTable.{CreateTable}
use Rattle.hb_sqlsteps.specs.declared.create_table.CreateTable.TheVariants as create_table
use Rattle.hb_sqlsteps.specs.declared.position.Position.{Position}
use Rattle.hb_sqlsteps.specs.declared.position.Position.TheVariants as position
use Rattle.hb_sqlsteps.specs.Marks.{is_word, is_mark, on_word, on_mark, on_name}
use Rattle.hb_sqlsteps.specs.ListSteps.{step_names, whole_names, step_columns}

abbrev pub step_create_area : CreateArea → Token → Option Position
step_create_area create_area.Start t = on_name t (λ name. position.CreateArea (create_area.Named name))
step_create_area (create_area.Named name) t = on_word word.On t (position.CreateArea (create_area.On name))
step_create_area (create_area.On name) t = on_name t (λ node. position.Whole (work.Sql (statement.CreateArea name node)))

abbrev pub step_add_area : AddArea → Token → Option Position
step_add_area add_area.Start t = on_word word.Table t (position.AddArea add_area.Table)
step_add_area add_area.Table t = on_name t (λ table. position.AddArea (add_area.Named table))
step_add_area (add_area.Named table) t = on_word word.Add t (position.AddArea (add_area.Add table))
step_add_area (add_area.Add table) t = on_word word.Rdarea t (position.AddArea (add_area.Area table))
step_add_area (add_area.Area table) t = on_name t (λ area. position.Whole (work.Sql (statement.AddArea table area)))

abbrev pub lock_mode : List ℕ → Token → Option Position
lock_mode table t = if is_word word.Share t then Some (position.LockTable (lock_table.Mode table false)) else on_word word.Exclusive t (position.LockTable (lock_table.Mode table true))

abbrev pub step_lock_table : LockTable → Token → Option Position
step_lock_table lock_table.Start t = on_word word.Table t (position.LockTable lock_table.Table)
step_lock_table lock_table.Table t = on_name t (λ table. position.LockTable (lock_table.Named table))
step_lock_table (lock_table.Named table) t = on_word word.In t (position.LockTable (lock_table.In table))
step_lock_table (lock_table.In table) t = lock_mode table t
step_lock_table (lock_table.Mode table exclusive) t = on_word word.Mode t (position.Whole (work.Sql (statement.LockTable table exclusive)))

-- ---- CREATE TABLE

abbrev pub new_table : List ℕ → List Column → List ℕ → NewTable
new_table name columns key = record { name = name; columns = columns; key = key }

abbrev pub with_areas : NewTable → List (List ℕ) → Work
with_areas table areas = work.Sql (statement.CreateTable table.name table.columns table.key areas)

abbrev pub go_columns : List ℕ → Columns → Position
go_columns name c = position.CreateTable (create_table.Columns name c)

abbrev pub in_columns : List ℕ → Columns → Token → Option Position
in_columns name (columns.Have xs) t = if is_mark mark.Close t then Some (position.CreateTable (create_table.Closed name xs)) else option_map (go_columns name) (step_columns (columns.Have xs) t)
in_columns name c t = option_map (go_columns name) (step_columns c t)

abbrev pub go_areas : NewTable → Names → Position
go_areas table areas = position.CreateTable (create_table.Areas table areas)

abbrev pub in_areas : NewTable → Names → Token → Option Position
in_areas table areas t = if is_mark mark.Close t then option_map (λ xs. position.Whole (with_areas table xs)) (whole_names areas) else option_map (go_areas table) (step_names areas t)

abbrev pub step_create_table : CreateTable → Token → Option Position
step_create_table create_table.Start t = on_name t (λ name. position.CreateTable (create_table.Named name))
step_create_table (create_table.Named name) t = on_mark mark.Open t (go_columns name (columns.Want []))
step_create_table (create_table.Columns name c) t = in_columns name c t
step_create_table (create_table.Closed name xs) t = on_word word.Hash t (position.CreateTable (create_table.Hash name xs))
step_create_table (create_table.Hash name xs) t = on_word word.Hasha t (position.CreateTable (create_table.Hasha name xs))
step_create_table (create_table.Hasha name xs) t = on_word word.By t (position.CreateTable (create_table.By name xs))
step_create_table (create_table.By name xs) t = on_name t (λ key. position.CreateTable (create_table.Keyed (new_table name xs key)))
step_create_table (create_table.Keyed table) t = on_word word.In t (position.CreateTable (create_table.In table))
step_create_table (create_table.In table) t = on_mark mark.Open t (go_areas table (names.Want []))
step_create_table (create_table.Areas table areas) t = in_areas table areas t
