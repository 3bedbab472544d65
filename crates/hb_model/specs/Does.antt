-- What one statement does to a state, and what it answers.
use Rattle.std.specs.Prelude.{ℕ, ◌+◌, ◌*◌, nat_le, Bool, false, not, if◌then◌else◌, List, length, map, filter, sum_by, Option, option_map, unwrap_or, Result, Ok, Err}
use Rattle.std.specs.Str.{bytes_eq}
use Rattle.std.specs.Option.{option_or}
use Rattle.hb_types.specs.declared.value.Value.{Value}
use Rattle.hb_types.specs.declared.value.Column.{Column}
use Rattle.hb_model.specs.declared.table.Table.{Table}
use Rattle.hb_model.specs.declared.reply.Reply.{Reply}
use Rattle.hb_model.specs.declared.reply.Reply.TheVariants as reply
use Rattle.hb_model.specs.declared.condition.Pred.{Pred}
use Rattle.hb_model.specs.declared.statement.Set.{Set}
use Rattle.hb_model.specs.declared.statement.What.{What}
use Rattle.hb_model.specs.declared.statement.What.TheVariants as what
use Rattle.hb_model.specs.declared.statement.Statement.{Statement}
use Rattle.hb_model.specs.declared.statement.Statement.TheVariants as statement
use Rattle.hb_model.specs.Define.{new_area, create_area, new_table, new_spread, create_table, create_table_refusals, create_area_refusals, add_area, add_area_refusals, changed_entries}
use Rattle.hb_model.specs.Dictionary.{area_row, table_row, member_row, entry_row}
use Rattle.hb_model.specs.Names.{back_end_named}
use Rattle.hb_model.specs.Rows.{chosen, chooses, shown, assigned, assigning_refusal, first_some, with_row}
use Rattle.hb_model.specs.State.{State, Area, Spread, table_named, spread_named, area_named}
use Rattle.hb_model.specs.Refusals.{Effect, first_refusal, unless, change_size, removal_size, update_refusals, select_refusals, insert_refusals}

-- ---- what a statement on a table that is there does

-- a table with these rows, if it has this name
abbrev pub rows_put : List ℕ → List (List Value) → Table → Table
rows_put name rows t = if bytes_eq t.name name then record t { rows = rows } else t

-- the state with other rows of this table
abbrev pub with_rows : State → Table → List (List Value) → State
with_rows s t rows = record s { tables = map (rows_put t.name rows) s.tables }

abbrev pub reads : State → Reply → Effect
reads s r = record { state = s; reply = r; bytes = 0 }

abbrev pub insert_in : State → List Value → Table → Result Effect Reply
insert_in s values t =
    unless (first_refusal (insert_refusals t values))
    record { state = with_rows s t (with_row t values); reply = reply.Inserted; bytes = change_size values }

abbrev pub select_in : State → What → Option Pred → Table → Result Effect Reply
select_in s w pred t = unless (first_refusal (select_refusals t w pred)) (reads s (reply.Rows (shown t w (chosen t pred))))

abbrev pub update_in : State → List Set → Option Pred → Table → Result Effect Reply
update_in s sets pred t =
    unless (option_or (first_refusal (update_refusals t sets pred)) (first_some (assigning_refusal t sets) (chosen t pred)))
    record {
      state = with_rows s t (map (λ row. if chooses t pred row then assigned t sets row else row) t.rows);
      reply = reply.Updated (length (chosen t pred));
      bytes = sum_by (λ row. change_size (assigned t sets row)) (chosen t pred);
    }

abbrev pub delete_in : State → Option Pred → Table → Result Effect Reply
delete_in s pred t =
    unless (first_refusal (select_refusals t what.All pred))
    record {
      state = with_rows s t (filter (λ row. not (chooses t pred row)) t.rows);
      reply = reply.Deleted (length (chosen t pred));
      bytes = removal_size * length (chosen t pred);
    }

-- a statement on the table of this name
abbrev pub on_table : State → List ℕ → (Table → Result Effect Reply) → Result Effect Reply
on_table s name f = unwrap_or (option_map f (table_named s name)) (Err reply.NoTable)

-- ---- definitions

abbrev pub area_in : ℕ → State → List ℕ → List ℕ → Result Effect Reply
area_in back_ends s name node =
    let area = new_area s name (unwrap_or (back_end_named back_ends node) 0) in
    unless (first_refusal (create_area_refusals back_ends s name node))
    record { state = create_area s area; reply = reply.Created; bytes = change_size (area_row area) }

abbrev pub table_in : State → List ℕ → List Column → List ℕ → List (List ℕ) → Result Effect Reply
table_in s name columns key areas =
    let spread = new_spread s name areas in
    unless (first_refusal (create_table_refusals s name columns key areas))
    record {
      state = create_table s (new_table name columns key) spread;
      reply = reply.Created;
      bytes = change_size (table_row (new_table name columns key))
          + (sum_by (λ a. change_size (member_row a)) spread.members + sum_by (λ e. change_size (entry_row e)) spread.entries);
    }

abbrev pub added_in : State → List ℕ → Option Area → Spread → Result Effect Reply
added_in s table area spread =
    let number = unwrap_or (option_map (λ a. a.number) area) 0 in
    unless (first_refusal (add_area_refusals spread area))
    record {
      state = add_area s table number;
      reply = reply.Added;
      bytes = change_size (member_row number) + sum_by (λ e. change_size (entry_row e)) (changed_entries spread number);
    }

abbrev pub add_in : State → List ℕ → List ℕ → Result Effect Reply
add_in s table area = unwrap_or (option_map (added_in s table (area_named s area)) (spread_named s table)) (Err reply.NoTable)

-- ---- one statement

-- the effect of a statement, or its refusal, without the limits of a transaction; that of a COMMIT or ROLLBACK has no reply of its own
unfoldable pub effect : ℕ → State → Statement → Result Effect Reply
effect back_ends s (statement.CreateArea name node) = area_in back_ends s name node
effect back_ends s (statement.CreateTable name columns key areas) = table_in s name columns key areas
effect back_ends s (statement.AddArea table area) = add_in s table area
effect back_ends s (statement.Insert table values) = on_table s table (insert_in s values)
effect back_ends s (statement.Select w table pred) = on_table s table (select_in s w pred)
effect back_ends s (statement.Update table sets pred) = on_table s table (update_in s sets pred)
effect back_ends s (statement.Delete table pred) = on_table s table (delete_in s pred)
effect back_ends s (statement.LockTable table exclusive) = on_table s table (λ t. Ok (reads s reply.Locked))
effect back_ends s statement.Commit = Ok (reads s reply.RolledBack)
effect back_ends s statement.Rollback = Ok (reads s reply.RolledBack)

-- the changes of one transaction, in bytes
abbrev pub most_bytes : ℕ
most_bytes = 1048576

-- whether a statement is refused by nothing but perhaps its Lock requests, once so many bytes were written
abbrev pub is_accepted : ℕ → Result Effect Reply → Bool
is_accepted spent (Ok e) = nat_le (spent + e.bytes) most_bytes
is_accepted spent (Err r) = false

-- what a statement leaves and answers, and what it writes in bytes
abbrev pub settled : State → ℕ → Result Effect Reply → Effect
settled s spent (Ok e) = if nat_le (spent + e.bytes) most_bytes then e else reads s reply.TooMuch
settled s spent (Err r) = reads s r

-- One statement of a transaction that has written so many bytes; `full` says that its Lock requests are too many.
unfoldable pub does : ℕ → State → ℕ → Bool → Statement → Effect
does back_ends s spent full st = if full then reads s reply.TooMuch else settled s spent (effect back_ends s st)
