-- INSERT, SELECT, UPDATE and DELETE, up to their conditions, token by token.
use Rattle.std.specs.Prelude.{ℕ, if◌then◌else◌, List, [], Option, Some, option_map}
use Rattle.hb_model.specs.declared.statement.What.{What}
use Rattle.hb_model.specs.declared.statement.What.TheVariants as what
use Rattle.hb_model.specs.declared.statement.Statement.TheVariants as statement
use Rattle.hb_model.specs.declared.line.Work.TheVariants as work
use Rattle.hb_sqlcond.specs.PredSteps.{start_pred}
use Rattle.hb_sqltoken.specs.declared.token.Token.{Token}
use Rattle.hb_sqltoken.specs.declared.token.Word.TheVariants as word
use Rattle.hb_sqlsteps.specs.declared.marks.Mark.TheVariants as mark
use Rattle.hb_sqlsteps.specs.declared.lists.Names.{Names}
use Rattle.hb_sqlsteps.specs.declared.lists.Names.TheVariants as names
use Rattle.hb_sqlsteps.specs.declared.lists.Values.{Values}
use Rattle.hb_sqlsteps.specs.declared.lists.Values.TheVariants as values
use Rattle.hb_sqlsteps.specs.declared.sets.Sets.{Sets}
use Rattle.hb_sqlsteps.specs.declared.sets.Sets.TheVariants as sets
use Rattle.hb_sqlsteps.specs.declared.select.Select.{Select}
use Rattle.hb_sqlsteps.specs.declared.select.Select.TheVariants as select
use Rattle.hb_sqlsteps.specs.declared.rows.Insert.{Insert}
use Rattle.hb_sqlsteps.specs.declared.rows.Insert.TheVariants as insert
use Rattle.hb_sqlsteps.specs.declared.rows.Update.{Update}
use Rattle.hb_sqlsteps.specs.declared.rows.Update.TheVariants as update
use Rattle.hb_sqlsteps.specs.declared.rows.Delete.{Delete}
use Rattle.hb_sqlsteps.specs.declared.rows.Delete.TheVariants as delete
use Rattle.hb_sqlsteps.specs.declared.position.Filtered.TheVariants as filtered
use Rattle.hb_sqlsteps.specs.declared.position.Position.{Position}
use Rattle.hb_sqlsteps.specs.declared.position.Position.TheVariants as position
use Rattle.hb_sqlsteps.specs.Marks.{is_word, is_mark, on_word, on_mark, on_name}
use Rattle.hb_sqlsteps.specs.ListSteps.{step_names, whole_names, step_values, whole_values}
use Rattle.hb_sqlsteps.specs.SetSteps.{step_sets, whole_sets}

-- ---- SELECT

abbrev pub go_shown : Names → Position
go_shown n = position.Select (select.Names n)

abbrev pub shows : What → Position
shows shown = position.Select (select.Shown shown)

abbrev pub start_select : Token → Option Position
start_select t =
    if is_mark mark.Star t then Some (shows what.All) else
    if is_word word.Count t then Some (position.Select select.Count) else
    if is_word word.Sum t then Some (position.Select select.Sum) else
    option_map go_shown (step_names (names.Want []) t)

abbrev pub in_shown : Names → Token → Option Position
in_shown n t = if is_word word.From t then option_map (λ xs. position.Select (select.From (what.Names xs))) (whole_names n) else option_map go_shown (step_names n t)

abbrev pub step_select : Select → Token → Option Position
step_select select.Start t = start_select t
step_select (select.Names n) t = in_shown n t
step_select select.Count t = on_mark mark.Open t (position.Select select.CountOpen)
step_select select.CountOpen t = on_mark mark.Star t (position.Select select.CountStar)
step_select select.CountStar t = on_mark mark.Close t (shows what.Count)
step_select select.Sum t = on_mark mark.Open t (position.Select select.SumOpen)
step_select select.SumOpen t = on_name t (λ name. position.Select (select.SumNamed name))
step_select (select.SumNamed name) t = on_mark mark.Close t (shows (what.Sum name))
step_select (select.Shown shown) t = on_word word.From t (position.Select (select.From shown))
step_select (select.From shown) t = on_name t (λ table. position.Unfiltered (filtered.Select shown table))

-- ---- INSERT

abbrev pub go_values : List ℕ → Values → Position
go_values table v = position.Insert (insert.Row table v)

abbrev pub in_values : List ℕ → Values → Token → Option Position
in_values table v t = if is_mark mark.Close t then option_map (λ xs. position.Whole (work.Sql (statement.Insert table xs))) (whole_values v) else option_map (go_values table) (step_values v t)

abbrev pub step_insert : Insert → Token → Option Position
step_insert insert.Start t = on_word word.Into t (position.Insert insert.Into)
step_insert insert.Into t = on_name t (λ table. position.Insert (insert.Named table))
step_insert (insert.Named table) t = on_word word.Values t (position.Insert (insert.Values table))
step_insert (insert.Values table) t = on_mark mark.Open t (go_values table (values.Want []))
step_insert (insert.Row table v) t = in_values table v t

-- ---- UPDATE and DELETE

abbrev pub go_sets : List ℕ → Sets → Position
go_sets table s = position.Update (update.Sets table s)

abbrev pub in_sets : List ℕ → Sets → Token → Option Position
in_sets table s t = if is_word word.Where t then option_map (λ xs. position.Where (filtered.Update table xs) start_pred) (whole_sets s) else option_map (go_sets table) (step_sets s t)

abbrev pub step_update : Update → Token → Option Position
step_update update.Start t = on_name t (λ table. position.Update (update.Named table))
step_update (update.Named table) t = on_word word.Set t (go_sets table (sets.Want []))
step_update (update.Sets table s) t = in_sets table s t

abbrev pub step_delete : Delete → Token → Option Position
step_delete delete.Start t = on_word word.From t (position.Delete delete.From)
step_delete delete.From t = on_name t (λ table. position.Unfiltered (filtered.Delete table))
