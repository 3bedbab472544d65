-- From each place in a statement some tokens make it whole.
use Rattle.std.proofs.Common.{ℕ, false, List, [], ◌∷◌, Some, None, option_map, refl, ap}
use Rattle.hb_types.specs.declared.value.Column.{Column}
use Rattle.hb_model.specs.declared.statement.What.{What}
use Rattle.hb_model.specs.declared.statement.What.TheVariants as what
use Rattle.hb_model.specs.declared.statement.Statement.TheVariants as statement
use Rattle.hb_model.specs.declared.line.Work.{Work}
use Rattle.hb_model.specs.declared.line.Work.TheVariants as work
use Rattle.hb_sqltoken.specs.declared.token.Token.{Token}
use Rattle.hb_sqltoken.specs.declared.token.Token.TheVariants as token
use Rattle.hb_sqlcond.specs.declared.pred_parser.PredParser.{PredParser}
use Rattle.hb_sqlcond.specs.Grammar.{IsExpr, IsPred}
use Rattle.hb_sqlcond.specs.ExprSteps.{start_expr, step_expr, whole_expr}
use Rattle.hb_sqlcond.specs.PredSteps.{start_pred, step_pred, whole_pred}
use Rattle.hb_sqlcond.specs.Runs.{here, next, Completes, Reads, in_expr, in_pred}
use Rattle.hb_sqlsteps.specs.declared.lists.Names.{Names}
use Rattle.hb_sqlsteps.specs.declared.lists.Names.TheVariants as names
use Rattle.hb_sqlsteps.specs.declared.lists.Values.{Values}
use Rattle.hb_sqlsteps.specs.declared.lists.Values.TheVariants as values
use Rattle.hb_sqlsteps.specs.declared.columns.Columns.{Columns}
use Rattle.hb_sqlsteps.specs.declared.columns.Columns.TheVariants as columns
use Rattle.hb_sqlsteps.specs.declared.sets.Sets.{Sets}
use Rattle.hb_sqlsteps.specs.declared.sets.Sets.TheVariants as sets
use Rattle.hb_sqlsteps.specs.declared.definitions.CreateArea.{CreateArea}
use Rattle.hb_sqlsteps.specs.declared.definitions.CreateArea.TheVariants as create_area_at
use Rattle.hb_sqlsteps.specs.declared.definitions.AddArea.{AddArea}
use Rattle.hb_sqlsteps.specs.declared.definitions.AddArea.TheVariants as add_area_at
use Rattle.hb_sqlsteps.specs.declared.definitions.LockTable.{LockTable}
use Rattle.hb_sqlsteps.specs.declared.definitions.LockTable.TheVariants as lock_table_at
use Rattle.hb_sqlsteps.specs.declared.create_table.NewTable.{NewTable}
use Rattle.hb_sqlsteps.specs.declared.create_table.CreateTable.{CreateTable}
use Rattle.hb_sqlsteps.specs.declared.create_table.CreateTable.TheVariants as create_table_at
use Rattle.hb_sqlsteps.specs.declared.select.Select.{Select}
use Rattle.hb_sqlsteps.specs.declared.select.Select.TheVariants as select_at
use Rattle.hb_sqlsteps.specs.declared.rows.Insert.{Insert}
use Rattle.hb_sqlsteps.specs.declared.rows.Insert.TheVariants as insert_at
use Rattle.hb_sqlsteps.specs.declared.rows.Update.{Update}
use Rattle.hb_sqlsteps.specs.declared.rows.Update.TheVariants as update_at
use Rattle.hb_sqlsteps.specs.declared.rows.Delete.{Delete}
use Rattle.hb_sqlsteps.specs.declared.rows.Delete.TheVariants as delete_at
use Rattle.hb_sqlsteps.specs.declared.rebalance.Options.{Options}
use Rattle.hb_sqlsteps.specs.declared.rebalance.Options.TheVariants as options_at
use Rattle.hb_sqlsteps.specs.declared.rebalance.Limits.{Limits}
use Rattle.hb_sqlsteps.specs.declared.rebalance.Limits.TheVariants as limits_at
use Rattle.hb_sqlsteps.specs.declared.rebalance.Rebalance.{Rebalance}
use Rattle.hb_sqlsteps.specs.declared.rebalance.Rebalance.TheVariants as rebalance_at
use Rattle.hb_sqlsteps.specs.declared.position.Filtered.{Filtered}
use Rattle.hb_sqlsteps.specs.declared.position.Filtered.TheVariants as filtered
use Rattle.hb_sqlsteps.specs.declared.position.Position.{Position}
use Rattle.hb_sqlsteps.specs.declared.position.Position.TheVariants as position
use Rattle.hb_sqlparse.specs.Keywords.{ADD, BY, FROM, HASH, HASHA, IN, INTO, MODE, ON, RDAREA, SET, SHARE, TABLE, VALUES, COMMIT, LETTER_K, LETTER_T, LETTER_C, LETTER_N}
use Rattle.hb_sqlsteps.specs.DefinitionSteps.{with_areas, new_table, go_columns, go_areas}
use Rattle.hb_sqlsteps.specs.RowSteps.{go_shown, go_values, go_sets}
use Rattle.hb_sqlsteps.specs.RebalanceSteps.{go_limits}
use Rattle.hb_sqlsteps.specs.Positions.{with_pred, step_position, whole_position}
use Rattle.hb_sqlparse.proofs.Going.{ends_here, ends_then, ends_next, frame, and_then}
use Rattle.hb_sqlparse.proofs.NameLists.{reads_names, reads_values}
use Rattle.hb_sqlparse.proofs.ColumnLists.{reads_columns}
use Rattle.hb_sqlparse.proofs.SetLists.{reads_sets}
use Rattle.hb_sqlparse.proofs.Nesting.{in_the_areas, areas_close, in_the_shown, shown_from, in_the_values, in_the_columns, columns_close, in_the_condition, in_the_sets}

abbrev pub Ends : Position → Type 0
Ends p = Completes step_position whole_position p

-- a name
abbrev any : List ℕ
any = 97 ∷ []

abbrev NAME : Token
NAME = token.Name any

whole_ends : (w : Work) → Ends (position.Whole w)
whole_ends w = ends_here (position.Whole w) w refl

unfiltered_ends : (f : Filtered) → Ends (position.Unfiltered f)
unfiltered_ends f = ends_here (position.Unfiltered f) (with_pred f None) refl

create_area_ends : (p : CreateArea) → Ends (position.CreateArea p)
create_area_ends (create_area_at.On name) = ends_next NAME refl (whole_ends (work.Sql (statement.CreateArea name any)))
create_area_ends (create_area_at.Named name) = ends_next ON refl (ends_next NAME refl (whole_ends (work.Sql (statement.CreateArea name any))))
create_area_ends create_area_at.Start = ends_next NAME refl (ends_next ON refl (ends_next NAME refl (whole_ends (work.Sql (statement.CreateArea any any)))))

area_ends : (table : List ℕ) → Ends (position.AddArea (add_area_at.Area table))
area_ends table = ends_next NAME refl (whole_ends (work.Sql (statement.AddArea table any)))

named_ends : (table : List ℕ) → Ends (position.AddArea (add_area_at.Named table))
named_ends table = ends_next ADD refl (ends_next RDAREA refl (area_ends table))

add_area_ends : (p : AddArea) → Ends (position.AddArea p)
add_area_ends (add_area_at.Area table) = area_ends table
add_area_ends (add_area_at.Add table) = ends_next RDAREA refl (area_ends table)
add_area_ends (add_area_at.Named table) = named_ends table
add_area_ends add_area_at.Table = ends_next NAME refl (named_ends any)
add_area_ends add_area_at.Start = ends_next TABLE refl (ends_next NAME refl (named_ends any))

in_ends : (table : List ℕ) → Ends (position.LockTable (lock_table_at.In table))
in_ends table = ends_next SHARE refl (ends_next MODE refl (whole_ends (work.Sql (statement.LockTable table false))))

lock_table_ends : (p : LockTable) → Ends (position.LockTable p)
lock_table_ends (lock_table_at.Mode table exclusive) = ends_next MODE refl (whole_ends (work.Sql (statement.LockTable table exclusive)))
lock_table_ends (lock_table_at.In table) = in_ends table
lock_table_ends (lock_table_at.Named table) = ends_next IN refl (in_ends table)
lock_table_ends lock_table_at.Table = ends_next NAME refl (ends_next IN refl (in_ends any))
lock_table_ends lock_table_at.Start = ends_next TABLE refl (ends_next NAME refl (ends_next IN refl (in_ends any)))

-- ---- CREATE TABLE

areas_ends : (table : NewTable) (c : Names) → Ends (go_areas table c)
areas_ends table c =
    let e = reads_names.completes c in
    ends_then (and_then (in_the_areas table (frame e.finds.leads (token.Close ∷ []))) (next (areas_close table e.finds.last e.tree e.finds.is) here)) (whole_ends (with_areas table e.tree))

open_ends : (table : NewTable) → Ends (position.CreateTable (create_table_at.In table))
open_ends table = ends_next token.Open refl (areas_ends table (names.Want []))

key_ends : (name : List ℕ) (xs : List Column) → Ends (position.CreateTable (create_table_at.By name xs))
key_ends name xs = ends_next NAME refl (ends_next IN refl (open_ends (new_table name xs any)))

closed_ends : (name : List ℕ) (xs : List Column) → Ends (position.CreateTable (create_table_at.Closed name xs))
closed_ends name xs = ends_next HASH refl (ends_next HASHA refl (ends_next BY refl (key_ends name xs)))

columns_ends : (name : List ℕ) (c : Columns) → Ends (go_columns name c)
columns_ends name c =
    let e = reads_columns.completes c in
    ends_then (and_then (in_the_columns name (frame e.finds.leads (token.Close ∷ []))) (next (columns_close name e.finds.last e.tree e.finds.is) here)) (closed_ends name e.tree)

create_table_ends : (p : CreateTable) → Ends (position.CreateTable p)
create_table_ends (create_table_at.Areas table c) = areas_ends table c
create_table_ends (create_table_at.In table) = open_ends table
create_table_ends (create_table_at.Keyed table) = ends_next IN refl (open_ends table)
create_table_ends (create_table_at.By name xs) = key_ends name xs
create_table_ends (create_table_at.Hasha name xs) = ends_next BY refl (key_ends name xs)
create_table_ends (create_table_at.Hash name xs) = ends_next HASHA refl (ends_next BY refl (key_ends name xs))
create_table_ends (create_table_at.Closed name xs) = closed_ends name xs
create_table_ends (create_table_at.Columns name c) = columns_ends name c
create_table_ends (create_table_at.Named name) = ends_next token.Open refl (columns_ends name (columns.Want []))
create_table_ends create_table_at.Start = ends_next NAME refl (ends_next token.Open refl (columns_ends any (columns.Want [])))

-- ---- SELECT, INSERT and DELETE

from_ends : (shown : What) → Ends (position.Select (select_at.From shown))
from_ends shown = ends_next NAME refl (unfiltered_ends (filtered.Select shown any))

shows_ends : (shown : What) → Ends (position.Select (select_at.Shown shown))
shows_ends shown = ends_next FROM refl (from_ends shown)

shown_ends : (c : Names) → Ends (go_shown c)
shown_ends c =
    let e = reads_names.completes c in
    ends_then (and_then (in_the_shown (frame e.finds.leads (FROM ∷ []))) (next (shown_from e.finds.last e.tree e.finds.is) here)) (from_ends (what.Names e.tree))

select_ends : (p : Select) → Ends (position.Select p)
select_ends select_at.Start = ends_next token.Star refl (shows_ends what.All)
select_ends (select_at.Names c) = shown_ends c
select_ends select_at.Count = ends_next token.Open refl (ends_next token.Star refl (ends_next token.Close refl (shows_ends what.Count)))
select_ends select_at.CountOpen = ends_next token.Star refl (ends_next token.Close refl (shows_ends what.Count))
select_ends select_at.CountStar = ends_next token.Close refl (shows_ends what.Count)
select_ends select_at.Sum = ends_next token.Open refl (ends_next NAME refl (ends_next token.Close refl (shows_ends (what.Sum any))))
select_ends select_at.SumOpen = ends_next NAME refl (ends_next token.Close refl (shows_ends (what.Sum any)))
select_ends (select_at.SumNamed name) = ends_next token.Close refl (shows_ends (what.Sum name))
select_ends (select_at.Shown shown) = shows_ends shown
select_ends (select_at.From shown) = from_ends shown

row_ends : (table : List ℕ) (c : Values) → Ends (go_values table c)
row_ends table c =
    let e = reads_values.completes c in
    ends_then (and_then (in_the_values table (frame e.finds.leads (token.Close ∷ []))) (next (ap (option_map (λ xs. position.Whole (work.Sql (statement.Insert table xs)))) e.finds.is) here))
    (whole_ends (work.Sql (statement.Insert table e.tree)))

insert_ends : (p : Insert) → Ends (position.Insert p)
insert_ends (insert_at.Row table c) = row_ends table c
insert_ends (insert_at.Values table) = ends_next token.Open refl (row_ends table (values.Want []))
insert_ends (insert_at.Named table) = ends_next VALUES refl (ends_next token.Open refl (row_ends table (values.Want [])))
insert_ends insert_at.Into = ends_next NAME refl (ends_next VALUES refl (ends_next token.Open refl (row_ends any (values.Want []))))
insert_ends insert_at.Start = ends_next INTO refl (ends_next NAME refl (ends_next VALUES refl (ends_next token.Open refl (row_ends any (values.Want [])))))

delete_ends : (p : Delete) → Ends (position.Delete p)
delete_ends delete_at.From = ends_next NAME refl (unfiltered_ends (filtered.Delete any))
delete_ends delete_at.Start = ends_next FROM refl (ends_next NAME refl (unfiltered_ends (filtered.Delete any)))

-- ---- PDRBAL

turns_end : (table : List ℕ) (n : ℕ) → Ends (go_limits table (limits_at.Turns n))
turns_end table n = ends_next (token.Number 1) refl (whole_ends (work.Rebalance table n 1))

counted_end : (table : List ℕ) (n : ℕ) → Ends (go_limits table (limits_at.Counted n))
counted_end table n = ends_next token.Minus refl (ends_next LETTER_N refl (turns_end table n))

limits_end : (table : List ℕ) (l : Limits) → Ends (go_limits table l)
limits_end table (limits_at.Turns n) = turns_end table n
limits_end table (limits_at.TurnsMinus n) = ends_next LETTER_N refl (turns_end table n)
limits_end table (limits_at.Counted n) = counted_end table n
limits_end table limits_at.Rows = ends_next (token.Number 1) refl (counted_end table 1)
limits_end table limits_at.RowsMinus = ends_next LETTER_C refl (ends_next (token.Number 1) refl (counted_end table 1))
limits_end table limits_at.Named = ends_next token.Minus refl (ends_next LETTER_C refl (ends_next (token.Number 1) refl (counted_end table 1)))

table_ends : Ends (position.Rebalance (rebalance_at.Options options_at.Table))
table_ends = ends_next NAME refl (limits_end any limits_at.Named)

options_end : (o : Options) → Ends (position.Rebalance (rebalance_at.Options o))
options_end options_at.Table = table_ends
options_end options_at.TableMinus = ends_next LETTER_T refl table_ends
options_end options_at.Share = ends_next token.Minus refl (ends_next LETTER_T refl table_ends)
options_end options_at.Keep = ends_next SHARE refl (ends_next token.Minus refl (ends_next LETTER_T refl table_ends))
options_end options_at.KeepMinus = ends_next LETTER_K refl (ends_next SHARE refl (ends_next token.Minus refl (ends_next LETTER_T refl table_ends)))
options_end options_at.Start = ends_next token.Minus refl (ends_next LETTER_K refl (ends_next SHARE refl (ends_next token.Minus refl (ends_next LETTER_T refl table_ends))))

rebalance_ends : (p : Rebalance) → Ends (position.Rebalance p)
rebalance_ends (rebalance_at.Options o) = options_end o
rebalance_ends (rebalance_at.Limits table l) = limits_end table l

module _ (ex : Reads start_expr step_expr whole_expr in_expr IsExpr) (pr : Reads start_pred step_pred whole_pred in_pred IsPred) where
  sets_end : (table : List ℕ) (c : Sets) → Ends (go_sets table c)
  sets_end table c =
      let e = (reads_sets ex).completes c in
      ends_then (in_the_sets ex table e.finds.leads) (ends_here (go_sets table e.finds.last) _ (ap (option_map (λ xs. with_pred (filtered.Update table xs) None)) e.finds.is))

  update_ends : (p : Update) → Ends (position.Update p)
  update_ends (update_at.Sets table c) = sets_end table c
  update_ends (update_at.Named table) = ends_next SET refl (sets_end table (sets.Want []))
  update_ends update_at.Start = ends_next NAME refl (ends_next SET refl (sets_end any (sets.Want [])))

  where_ends : (f : Filtered) (c : PredParser) → Ends (position.Where f c)
  where_ends f c =
      let e = pr.completes c in
      ends_then (in_the_condition f e.finds.leads) (ends_here (position.Where f e.finds.last) _ (ap (option_map (λ p. with_pred f (Some p))) e.finds.is))

  pub work_ends : (p : Position) → Ends p
  work_ends position.Start = ends_next COMMIT refl (whole_ends (work.Sql statement.Commit))
  work_ends position.Create = ends_next RDAREA refl (create_area_ends create_area_at.Start)
  work_ends (position.CreateArea p) = create_area_ends p
  work_ends (position.CreateTable p) = create_table_ends p
  work_ends (position.AddArea p) = add_area_ends p
  work_ends (position.LockTable p) = lock_table_ends p
  work_ends (position.Insert p) = insert_ends p
  work_ends (position.Select p) = select_ends p
  work_ends (position.Update p) = update_ends p
  work_ends (position.Delete p) = delete_ends p
  work_ends (position.Rebalance p) = rebalance_ends p
  work_ends (position.Unfiltered f) = unfiltered_ends f
  work_ends (position.Where f c) = where_ends f c
  work_ends (position.Whole w) = whole_ends w
