-- The calls of a session that inserts a row, selects it by its key and commits; its statements are faithful by the law of plans.
use Rattle.std.proofs.Common.{◌≡◌, ℕ, false, List, [], ◌∷◌, ◌++◌, Some, None, Ok, refl, subst, arith, lit≤, true, sym}
use Rattle.std.specs.Prelude.{Bool, ℤ, pos, codes, map, Option, Result}
use Rattle.hb_types.specs.declared.answer.Answer.TheVariants as answer
use Rattle.hb_types.specs.declared.change.Change.{Change}
use Rattle.hb_types.specs.declared.change.Stored.{Stored}
use Rattle.hb_types.specs.declared.entry.Entry.TheVariants.{At}
use Rattle.hb_types.specs.declared.lock.Mode.TheVariants as mode
use Rattle.hb_types.specs.declared.names.Number.{Number}
use Rattle.hb_types.specs.declared.names.Tx.{Tx}
use Rattle.hb_types.specs.declared.places.Path.{Path}
use Rattle.hb_types.specs.declared.places.Path.TheVariants as path
use Rattle.hb_types.specs.declared.places.Place.{Place}
use Rattle.hb_types.specs.declared.request.Request.TheVariants as request
use Rattle.hb_types.specs.declared.request.Vote.{Vote}
use Rattle.hb_types.specs.declared.trail.Call.{Call}
use Rattle.hb_types.specs.declared.value.Value.{Value}
use Rattle.hb_types.specs.declared.value.Value.TheVariants as value
use Rattle.hb_types.specs.Groups.{group_of}
use Rattle.hb_types.specs.Rows.{row_bytes}
use Rattle.hb_model.specs.declared.reply.Reply.{Reply}
use Rattle.hb_model.specs.declared.reply.Reply.TheVariants as reply
use Rattle.hb_model.specs.declared.statement.Statement.{Statement}
use Rattle.hb_model.specs.declared.statement.Statement.TheVariants as statement
use Rattle.hb_model.specs.declared.table.Table.{Table}
use Rattle.hb_model.specs.Answers.{call}
use Rattle.hb_model.specs.Dictionary.{at_place, entry_row, table_row}
use Rattle.hb_model.specs.Faithful.{Faithful}
use Rattle.hb_model.specs.Items.{Item, calls_of, nothing_spent, sql, tending, spending}
use Rattle.hb_model.specs.Spots.{dictionary_space, entry_place, place_in, tables_space}
use Rattle.hb_talk.specs.Moves.{fresh}
use Rattle.hb_talk.specs.PlansDefine.{plan}
use Rattle.hb_talk.specs.Talk.{Follows, Use, asked, ends, Planning, Talk, ◌>>=◌, ◌>>◌, pure, refuse}
use Rattle.hb_plancalc.specs.Counted.{IsWithin}
use Rattle.hb_faithful.specs.Planned.{FollowsPlan}
use Rattle.hb_faithful.proofs.Does.{plan_does}
use Rattle.hb_faithful.proofs.Faithfuls.{plan_faithful}
use Rattle.hb_law.specs.Histories.{Labelled, Shown, Trails}
use Rattle.hb_law.specs.Transactions.{Txn}
use Rattle.hb_worlds.proofs.AreaMade.{by, no, s1, started}
use Rattle.hb_model.specs.declared.condition.Op.TheVariants as op
use Rattle.hb_model.specs.declared.condition.Pred.{Pred, fold_out-Pred}
use Rattle.hb_model.specs.declared.condition.Pred.TheVariants as pred
use Rattle.hb_model.specs.declared.condition.Pred.TheVariants.{outs-Test}
use Rattle.hb_model.specs.declared.expression.Expr.{fold_out-Expr}
use Rattle.hb_model.specs.declared.expression.Expr.TheVariants as expr
use Rattle.hb_model.specs.declared.expression.Expr.TheVariants.{outs-Name, outs-Int}
use Rattle.hb_model.specs.declared.statement.What.TheVariants as what
use Rattle.hb_model.specs.Refusals.{first_refusal, select_refusals}
use Rattle.hb_model.specs.Kinds.{is_typed, kind_of, names_in, names_in_pred}
use Rattle.hb_model.specs.Rows.{chosen, point, point_key, shown}
use Rattle.hb_model.specs.Values.{holds_at, value_of}
use Rattle.hb_talk.specs.Plans.{considered, lying_rows, with_lying}
use Rattle.hb_planwrites.proofs.SelectRows.{select_rightly}

-- ---- the calls

abbrev pub t2 : Tx
t2 = record { 0 = 2 }

-- the first one behind the numbers that the start found reserved
abbrev pub t3 : Tx
t3 = record { 0 = 1001 }

abbrev pub n2 : Number
n2 = record { 0 = 2 }

abbrev pub n3 : Number
n3 = record { 0 = 3 }

abbrev pub table : Table
table = record { name = codes "T"; columns = record { name = codes "K"; size = 0 } ∷ []; key = 0; rows = [] }

abbrev pub table_stored : Stored
table_stored = at_place tables_space 0 1 (table_row table)

abbrev pub values : List Value
values = value.Int (pos 7) ∷ []

abbrev pub key : ℤ
key = pos 7

abbrev pub entry : Place
entry = entry_place 1 (group_of key)

abbrev pub spot : Place
spot = place_in 257 1 key

abbrev pub entry_bytes : List ℕ
entry_bytes = row_bytes (entry_row (At 257))

abbrev pub made : Change
made = record { place = spot; row = Some (row_bytes values) }

abbrev pub tables : Path
tables = path.Whole (dictionary_space tables_space)

abbrev pub votes : List Vote
votes = record { node = record { 0 = 1 }; floor = n2 } ∷ record { node = record { 0 = 2 }; floor = record { 0 = 0 } } ∷ []

abbrev pub begins : Call
begins = call 0 (request.Begin s1) (answer.Begun t3)

abbrev pub enters : Call
enters = call 10 (request.Enter t3 s1) answer.Done

abbrev pub enlists_ds : Call
enlists_ds = call 1 (request.Enlist t3) answer.Done

abbrev pub locks_tables : Call
locks_tables = call 1 (request.Lock t3 tables mode.S) answer.Done

abbrev pub scans_tables : Call
scans_tables = call 1 (request.Scan t3 (dictionary_space tables_space)) (answer.Rows (table_stored ∷ []))

abbrev pub locks_entry : Call
locks_entry = call 1 (request.Lock t3 (path.Key entry) mode.S) answer.Done

abbrev pub reads_entry : Call
reads_entry = call 1 (request.Read t3 entry) (answer.Row (Some entry_bytes))

abbrev pub enlists_bes : Call
enlists_bes = call 2 (request.Enlist t3) answer.Done

abbrev pub locks_key : Call
locks_key = call 2 (request.Lock t3 (path.Key spot) mode.X) answer.Done

abbrev pub looks : Call
looks = call 2 (request.Read t3 spot) (answer.Row None)

abbrev pub inserts : Call
inserts = call 2 (request.Write t3 made) answer.Done

abbrev pub locks_row : Call
locks_row = call 2 (request.Lock t3 (path.Key spot) mode.S) answer.Done

abbrev pub reads_row : Call
reads_row = call 2 (request.Read t3 spot) (answer.Row (Some (row_bytes values)))

abbrev pub votes_ds : Call
votes_ds = call 1 (request.Prepare t3) (answer.Vote n2)

abbrev pub votes_bes : Call
votes_bes = call 2 (request.Prepare t3) (answer.Vote (record { 0 = 0 }))

abbrev pub decides : Call
decides = call 0 (request.Decide t3 votes) (answer.Decided n3)

abbrev pub commits_ds : Call
commits_ds = call 1 (request.Commit t3 n3) answer.Done

abbrev pub commits_bes : Call
commits_bes = call 2 (request.Commit t3 n3) answer.Done

abbrev pub leaves : Call
leaves = call 10 (request.End t3 (record { 0 = 0 })) answer.Done

abbrev pub opening : List Call
opening = started 0 ∷ started 1 ∷ started 2 ∷ []

abbrev pub planned : List Call
planned = enlists_ds ∷ locks_tables ∷ scans_tables ∷ locks_entry ∷ reads_entry ∷ enlists_bes ∷ locks_key ∷ looks ∷ inserts ∷ []

abbrev pub made_by : List Call
made_by = begins ∷ enters ∷ planned

abbrev pub shown_by : List Call
shown_by = locks_tables ∷ scans_tables ∷ locks_entry ∷ reads_entry ∷ locks_row ∷ reads_row ∷ []

abbrev pub committed_by : List Call
committed_by = votes_ds ∷ votes_bes ∷ decides ∷ commits_ds ∷ commits_bes ∷ leaves ∷ []

abbrev pub all_asked : List Call
all_asked = made_by ++ shown_by ++ committed_by ++ []

abbrev pub insert : Statement
insert = statement.Insert (codes "T") values

-- WHERE K = 7
abbrev pub of_key : Pred
of_key = pred.Test op.Eq (expr.Name (codes "K")) (expr.Int key)

abbrev pub select : Statement
select = statement.Select what.All (codes "T") (Some of_key)

abbrev pub the_row : Reply
the_row = reply.Rows (values ∷ [])

abbrev pub committed : Reply
committed = reply.Committed n3

abbrev pub opens : Item
opens = record { place = 0; doing = tending; calls = opening; lines = [] }

abbrev pub makes : Item
makes = record { place = 1; doing = sql insert; calls = made_by; lines = reply.Inserted ∷ [] }

abbrev pub shows : Item
shows = record { place = 2; doing = sql select; calls = shown_by; lines = the_row ∷ [] }

abbrev pub closes : Item
closes = record { place = 3; doing = sql statement.Commit; calls = committed_by; lines = committed ∷ [] }

abbrev pub all_lists : List (List Item)
all_lists = (opens ∷ []) ∷ (makes ∷ shows ∷ closes ∷ []) ∷ []

abbrev pub all_calls : List (List Call)
all_calls = map calls_of all_lists

abbrev pub fes_trail : List Labelled
fes_trail = by 0 (started 0) ∷ by 1 begins ∷ by 1 decides ∷ []

abbrev pub ds_trail : List Labelled
ds_trail =
    by 0 (started 1) ∷ by 1 enlists_ds ∷ by 1 locks_tables ∷ by 1 scans_tables ∷ by 1 locks_entry ∷ by 1 reads_entry
    ∷ by 1 locks_tables ∷ by 1 scans_tables ∷ by 1 locks_entry ∷ by 1 reads_entry ∷ by 1 votes_ds ∷ by 1 commits_ds ∷ []

abbrev pub bes_trail : List Labelled
bes_trail = by 0 (started 2) ∷ by 1 enlists_bes ∷ by 1 locks_key ∷ by 1 looks ∷ by 1 inserts ∷ by 1 locks_row ∷ by 1 reads_row ∷ by 1 votes_bes ∷ by 1 commits_bes ∷ []

abbrev pub all_trails : Trails
all_trails = fes_trail ∷ ds_trail ∷ bes_trail ∷ []

abbrev pub began : Txn
began = record { owner = s1; tx = 1001; items = makes ∷ shows ∷ closes ∷ [] }

abbrev pub all_lines : List Shown
all_lines = record { caller = 1; place = 1; reply = reply.Inserted } ∷ record { caller = 1; place = 2; reply = the_row } ∷ record { caller = 1; place = 3; reply = committed } ∷ []

-- the use of both nodes with three locks, and a change of so many bytes
abbrev pub in_the_end : Use
in_the_end = record (fresh 1001) { used = 6; locks = 3; bytes = 24 }

follows : Follows false (plan 1 insert (fresh 1001)) planned (Ok reply.Inserted, in_the_end)
unfolding plan
follows =
    asked answer.Done refl (asked answer.Done refl (asked (answer.Rows (table_stored ∷ [])) refl (asked answer.Done refl (asked (answer.Row (Some entry_bytes)) refl
    (asked answer.Done refl (asked answer.Done refl (asked (answer.Row None) refl (asked answer.Done refl ends))))))))

within : IsWithin (fresh 1001)
within = record { locks = omega arith; bytes = omega arith }

follows_plan : FollowsPlan 1 insert (fresh 1001) made_by reply.Inserted
follows_plan =
    record {
      front = begins ∷ enters ∷ [];
      asked = planned;
      back = [];
      parts = refl;
      outcome = Ok reply.Inserted;
      last = in_the_end;
      follows = follows;
      replies = refl;
      opens = record { beside = (refl, (refl, tt)); no_rows = refl; undoes_none = (refl, (refl, tt)) };
      closes = record { beside = tt; undone = λ h. no h };
    }

-- by the law of plans, whatever the rows are that these are the answers of
pub faithful : (full : Bool) × Faithful 1 nothing_spent full insert made_by reply.Inserted
faithful = plan_faithful insert (plan_does insert refl) 1 (fresh 1001) made_by reply.Inserted (lit≤ tt) within follows_plan

-- ---- the SELECT, from there

abbrev with_row : Table
with_row = record table { rows = values ∷ [] }

names : names_in_pred of_key ≡ codes "K" ∷ []
unfolding names_in_pred names_in
names = rw (fold_out-Pred, outs-Test) (rw (fold_out-Expr, outs-Name, fold_out-Expr, outs-Int) refl)

typed : is_typed table.columns of_key ≡ true
unfolding is_typed kind_of
typed = rw (fold_out-Pred, outs-Test) (rw (fold_out-Expr, outs-Name, fold_out-Expr, outs-Int) refl)

keyed : point_key (codes "K") of_key ≡ Some key
unfolding point_key
keyed = rw (fold_out-Pred, outs-Test) (rw (outs-Name, outs-Int) refl)

holds : holds_at table.columns values of_key ≡ Some true
unfolding holds_at value_of
holds = rw (fold_out-Pred, outs-Test) (rw (fold_out-Expr, outs-Name, fold_out-Expr, outs-Int) refl)

unrefused : first_refusal (select_refusals table what.All (Some of_key)) ≡ None
unrefused = rw (names, typed, keyed) refl

unrefused_row : first_refusal (select_refusals with_row what.All (Some of_key)) ≡ None
unrefused_row = rw (names, typed, keyed, holds) refl

chosen_row : chosen with_row (Some of_key) ≡ values ∷ []
chosen_row = rw (keyed, holds) refl

-- what follows the names of tables, by what is refused and the key of the condition
abbrev behind : Option Reply → Option ℤ → Planning Reply
behind o k =
    refuse o
    >> (considered mode.S (1, table) k >>= (λ rows.
    let t = with_lying table (lying_rows rows) in
    refuse (first_refusal (select_refusals t what.All (Some of_key))) >> pure (reply.Rows (shown t what.All (chosen t (Some of_key))))))

-- the use once the table was found, and at the end
abbrev amid : Use
amid = record in_the_end { locks = 4 }

abbrev at_last : Use
at_last = record in_the_end { locks = 6 }

-- what is said in the end, by what is refused and the rows that are chosen
abbrev said : Option Reply → List (List Value) → Talk (Result Reply Reply × Use)
said o rows = (refuse o >> pure (reply.Rows rows)) at_last

said_row : Follows false (said (first_refusal (select_refusals with_row what.All (Some of_key))) (chosen with_row (Some of_key))) [] (Ok the_row, at_last)
said_row =
    subst (λ o. Follows false (said o (chosen with_row (Some of_key))) [] (Ok the_row, at_last)) (sym unrefused_row)
    (subst (λ rows. Follows false (said None rows) [] (Ok the_row, at_last)) (sym chosen_row) ends)

abbrev behind_names : List Call
behind_names = locks_entry ∷ reads_entry ∷ locks_row ∷ reads_row ∷ []

behind_follows : Follows false (behind None (Some key) amid) behind_names (Ok the_row, at_last)
behind_follows = asked answer.Done refl (asked (answer.Row (Some entry_bytes)) refl (asked answer.Done refl (asked (answer.Row (Some (row_bytes values))) refl said_row)))

found_follows : Follows false (behind (first_refusal (select_refusals table what.All (Some of_key))) (point table (Some of_key)) amid) behind_names (Ok the_row, at_last)
found_follows =
    subst (λ o. Follows false (behind o (point table (Some of_key)) amid) behind_names (Ok the_row, at_last)) (sym unrefused)
    (subst (λ k. Follows false (behind None k amid) behind_names (Ok the_row, at_last)) (sym keyed) behind_follows)

shown_follows : Follows false (plan 1 select in_the_end) shown_by (Ok the_row, at_last)
unfolding plan
shown_follows = asked answer.Done refl (asked (answer.Rows (table_stored ∷ [])) refl found_follows)

within_then : IsWithin in_the_end
within_then = record { locks = omega arith; bytes = omega arith }

shown_plan : FollowsPlan 1 select in_the_end shown_by the_row
shown_plan =
    record {
      front = [];
      asked = shown_by;
      back = [];
      parts = refl;
      outcome = Ok the_row;
      last = at_last;
      follows = shown_follows;
      replies = refl;
      opens = record { beside = tt; no_rows = refl; undoes_none = tt };
      closes = record { beside = tt; undone = λ h. no h };
    }

pub shown_faithful : (full : Bool) × Faithful 1 (spending nothing_spent made_by) full select shown_by the_row
shown_faithful = plan_faithful select (select_rightly what.All (codes "T") (Some of_key)) 1 in_the_end shown_by the_row (lit≤ tt) within_then shown_plan
