-- A statement, token by token.
use Rattle.std.specs.Prelude.{ℕ, if◌then◌else◌, List, Option, Some, None, option_map}
use Rattle.hb_model.specs.declared.condition.Pred.{Pred}
use Rattle.hb_model.specs.declared.statement.Statement.TheVariants as statement
use Rattle.hb_model.specs.declared.line.Work.{Work}
use Rattle.hb_model.specs.declared.line.Work.TheVariants as work
use Rattle.hb_sqlcond.specs.declared.pred_parser.PredParser.{PredParser}
use Rattle.hb_sqlcond.specs.PredSteps.{start_pred, step_pred, whole_pred}
use Rattle.hb_sqltoken.specs.declared.token.Word.{Word}
use Rattle.hb_sqltoken.specs.declared.token.Word.TheVariants as word
use Rattle.hb_sqltoken.specs.declared.token.Token.{Token}
use Rattle.hb_sqltoken.specs.declared.token.Token.TheVariants as token
use Rattle.hb_sqlsteps.specs.declared.definitions.CreateArea.TheVariants as create_area
use Rattle.hb_sqlsteps.specs.declared.definitions.AddArea.TheVariants as add_area
use Rattle.hb_sqlsteps.specs.declared.definitions.LockTable.TheVariants as lock_table
use Rattle.hb_sqlsteps.specs.declared.create_table.CreateTable.TheVariants as create_table
use Rattle.hb_sqlsteps.specs.declared.sets.Sets.{Sets}
use Rattle.hb_sqlsteps.specs.declared.select.Select.TheVariants as select
use Rattle.hb_sqlsteps.specs.declared.rows.Insert.TheVariants as insert
use Rattle.hb_sqlsteps.specs.declared.rows.Update.{Update}
use Rattle.hb_sqlsteps.specs.declared.rows.Update.TheVariants as update
use Rattle.hb_sqlsteps.specs.declared.rows.Delete.TheVariants as delete
use Rattle.hb_sqlsteps.specs.declared.rebalance.Options.TheVariants as options
use Rattle.hb_sqlsteps.specs.declared.rebalance.Rebalance.TheVariants as rebalance
use Rattle.hb_sqlsteps.specs.declared.position.Filtered.{Filtered}
use Rattle.hb_sqlsteps.specs.declared.position.Filtered.TheVariants as filtered
use Rattle.hb_sqlsteps.specs.declared.position.Position.{Position}
use Rattle.hb_sqlsteps.specs.declared.position.Position.TheVariants as position
use Rattle.hb_sqlsteps.specs.Marks.{is_word, on_word}
use Rattle.hb_sqlsteps.specs.SetSteps.{whole_sets}
use Rattle.hb_sqlsteps.specs.DefinitionSteps.{step_create_area, step_add_area, step_lock_table, step_create_table}
use Rattle.hb_sqlsteps.specs.RowSteps.{step_select, step_insert, step_update, step_delete}
use Rattle.hb_sqlsteps.specs.RebalanceSteps.{step_rebalance}

abbrev pub with_pred : Filtered → Option Pred → Work
with_pred (filtered.Select shown table) pred = work.Sql (statement.Select shown table pred)
with_pred (filtered.Update table sets) pred = work.Sql (statement.Update table sets pred)
with_pred (filtered.Delete table) pred = work.Sql (statement.Delete table pred)

abbrev pub first_word : Word → Option Position
first_word word.Create = Some position.Create
first_word word.Alter = Some (position.AddArea add_area.Start)
first_word word.Lock = Some (position.LockTable lock_table.Start)
first_word word.Insert = Some (position.Insert insert.Start)
first_word word.Select = Some (position.Select select.Start)
first_word word.Update = Some (position.Update update.Start)
first_word word.Delete = Some (position.Delete delete.Start)
first_word word.Commit = Some (position.Whole (work.Sql statement.Commit))
first_word word.Rollback = Some (position.Whole (work.Sql statement.Rollback))
first_word word.Pdrbal = Some (position.Rebalance (rebalance.Options options.Start))
first_word _ = None

abbrev pub start_work : Token → Option Position
start_work (token.Word w) = first_word w
start_work _ = None

abbrev pub step_create : Token → Option Position
step_create t = if is_word word.Rdarea t then Some (position.CreateArea create_area.Start) else on_word word.Table t (position.CreateTable create_table.Start)

abbrev pub step_where : Filtered → PredParser → Token → Option Position
step_where f p t = option_map (position.Where f) (step_pred p t)

abbrev pub step_position : Position → Token → Option Position
step_position position.Start t = start_work t
step_position position.Create t = step_create t
step_position (position.CreateArea p) t = step_create_area p t
step_position (position.CreateTable p) t = step_create_table p t
step_position (position.AddArea p) t = step_add_area p t
step_position (position.LockTable p) t = step_lock_table p t
step_position (position.Insert p) t = step_insert p t
step_position (position.Select p) t = step_select p t
step_position (position.Update p) t = step_update p t
step_position (position.Delete p) t = step_delete p t
step_position (position.Rebalance p) t = step_rebalance p t
step_position (position.Unfiltered f) t = on_word word.Where t (position.Where f start_pred)
step_position (position.Where f p) t = step_where f p t
step_position (position.Whole w) t = None

abbrev pub whole_where : Filtered → PredParser → Option Work
whole_where f p = option_map (λ pred. with_pred f (Some pred)) (whole_pred p)

abbrev pub whole_update : List ℕ → Sets → Option Work
whole_update table s = option_map (λ xs. with_pred (filtered.Update table xs) None) (whole_sets s)

abbrev pub whole_updating : Update → Option Work
whole_updating (update.Sets table s) = whole_update table s
whole_updating _ = None

-- the work, where it is whole
abbrev pub whole_position : Position → Option Work
whole_position (position.Whole w) = Some w
whole_position (position.Unfiltered f) = Some (with_pred f None)
whole_position (position.Where f p) = whole_where f p
whole_position (position.Update p) = whole_updating p
whole_position _ = None
