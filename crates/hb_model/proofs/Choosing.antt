-- Conditions: UPDATE and DELETE of the rows that one chooses, and conditions and assignments that are refused, computed.
use Rattle.std.proofs.Common.{◌≡◌, ℕ, ℤ, pos, true, false, refl, ap, map, length, List, [], ◌∷◌, Some, None}
use Rattle.std.specs.Prelude.{codes, Option, sum_by, filter, not, ◌*◌, if◌then◌else◌}
use Rattle.std.specs.Option.{option_or}
use Rattle.hb_types.specs.declared.entry.Entry.TheVariants.{At}
use Rattle.hb_types.specs.declared.value.Value.{Value}
use Rattle.hb_types.specs.declared.value.Value.TheVariants as value
use Rattle.hb_model.specs.declared.condition.Op.TheVariants as op
use Rattle.hb_model.specs.declared.condition.Pred.{Pred, fold_out-Pred}
use Rattle.hb_model.specs.declared.condition.Pred.TheVariants as pred
use Rattle.hb_model.specs.declared.condition.Pred.TheVariants.{outs-Test}
use Rattle.hb_model.specs.declared.expression.Expr.{Expr, fold_out-Expr}
use Rattle.hb_model.specs.declared.expression.Expr.TheVariants as expr
use Rattle.hb_model.specs.declared.expression.Expr.TheVariants.{outs-Add, outs-Sub, outs-Name, outs-Int}
use Rattle.hb_model.specs.declared.reply.Reply.TheVariants as reply
use Rattle.hb_model.specs.declared.statement.Set.{Set}
use Rattle.hb_model.specs.declared.statement.Statement.TheVariants as statement
use Rattle.hb_model.specs.declared.statement.What.TheVariants as what
use Rattle.hb_model.specs.declared.table.Table.{Table}
use Rattle.hb_model.specs.Does.{does, effect, settled, with_rows}
use Rattle.hb_model.specs.Kinds.{number, kind_of, is_typed, names_in, names_in_pred}
use Rattle.hb_model.specs.Refusals.{unless, first_refusal, select_refusals, update_refusals, change_size, removal_size}
use Rattle.hb_model.specs.Rows.{point_key, chosen, chooses, assigned, assigning_refusal, first_some}
use Rattle.hb_model.specs.State.{State}
use Rattle.hb_model.specs.Values.{value_of, holds_at}
use Rattle.hb_model.proofs.Samples.{columns, number_column, sample, holding, row, reply_to}
use Rattle.hb_model.proofs.Storing.{the_table, key_is, setting, too_great, names-key, typed-key, point-key, holds-7, chosen-7, accepted-7, names-text, kind-text, value-text, names-great, kind-great, value-too-great, refused-select, refused-update, refused-delete}

-- ---- the row of a key

-- the parts of what an accepted UPDATE does
accepted-update : (spent : ℕ) (sets : List Set) (p : Option Pred) (rows some : List (List Value)) (bytes : ℕ)
    → option_or (first_refusal (update_refusals the_table sets p)) (first_some (assigning_refusal the_table sets) (chosen the_table p)) ≡ None
    → map (λ row. if chooses the_table p row then assigned the_table sets row else row) the_table.rows ≡ rows
    → chosen the_table p ≡ some
    → sum_by (λ row. change_size (assigned the_table sets row)) (chosen the_table p) ≡ bytes
    → does 2 sample spent false (statement.Update (codes "T") sets p)
    ≡ settled sample spent (unless None (record { state = with_rows sample the_table rows; reply = reply.Updated (length some); bytes = bytes }))
unfolding does effect
accepted-update spent sets p rows some bytes accepted left few written =
    λ i. settled sample spent (unless (accepted i) (record { state = with_rows sample the_table (left i); reply = reply.Updated (length (few i)); bytes = written i }))

abbrev to_x : List Set
to_x = setting (codes "V") (codes "x") ∷ []

update-accepted : option_or (first_refusal (update_refusals the_table to_x (Some (key_is 7)))) (first_some (assigning_refusal the_table to_x) (chosen the_table (Some (key_is 7)))) ≡ None
update-accepted =
    rw (names-text (codes "x"), names-key 7, kind-text (codes "x"), typed-key 7, point-key 7, holds-7) (rw (value-text (row 7 (codes "g")) (codes "x")) refl)

update-left :
    map (λ r. if chooses the_table (Some (key_is 7)) r then assigned the_table to_x r else r) the_table.rows ≡ row 5 (codes "e") ∷ row 7 (codes "x") ∷ []
update-left = rw (point-key 7, holds-7) (rw (value-text (row 7 (codes "g")) (codes "x")) refl)

update-written : sum_by (λ r. change_size (assigned the_table to_x r)) (chosen the_table (Some (key_is 7))) ≡ 27
update-written = rw (point-key 7, holds-7) (rw (value-text (row 7 (codes "g")) (codes "x")) refl)

update-point :
    does 2 sample 0 false (statement.Update (codes "T") to_x (Some (key_is 7)))
    ≡ record { state = holding (At 257 ∷ []) (row 5 (codes "e") ∷ row 7 (codes "x") ∷ []); reply = reply.Updated 1; bytes = 27 }
update-point = accepted-update 0 to_x (Some (key_is 7)) _ _ _ update-accepted update-left chosen-7 update-written

-- the limit of changes is passed by one
update-too-much : (does 2 sample 1048550 false (statement.Update (codes "T") to_x (Some (key_is 7)))).reply ≡ reply.TooMuch
update-too-much = ap (λ e. e.reply) (accepted-update 1048550 to_x (Some (key_is 7)) _ _ _ update-accepted update-left chosen-7 update-written)

-- the parts of what an accepted DELETE does
accepted-delete : (spent : ℕ) (p : Option Pred) (rows some : List (List Value))
    → first_refusal (select_refusals the_table what.All p) ≡ None
    → filter (λ row. not (chooses the_table p row)) the_table.rows ≡ rows
    → chosen the_table p ≡ some
    → does 2 sample spent false (statement.Delete (codes "T") p)
    ≡ settled sample spent (unless None (record { state = with_rows sample the_table rows; reply = reply.Deleted (length some); bytes = removal_size * length some }))
unfolding does effect
accepted-delete spent p rows some accepted left few =
    λ i. settled sample spent (unless (accepted i) (record { state = with_rows sample the_table (left i); reply = reply.Deleted (length (few i)); bytes = removal_size * length (few i) }))

delete-left : filter (λ r. not (chooses the_table (Some (key_is 7)) r)) the_table.rows ≡ row 5 (codes "e") ∷ []
delete-left = rw (point-key 7, holds-7) refl

delete-point :
    does 2 sample 0 false (statement.Delete (codes "T") (Some (key_is 7)))
    ≡ record { state = holding (At 257 ∷ []) (row 5 (codes "e") ∷ []); reply = reply.Deleted 1; bytes = 15 }
delete-point = accepted-delete 0 (Some (key_is 7)) _ _ accepted-7 delete-left chosen-7

delete-too-much : (does 2 sample 1048562 false (statement.Delete (codes "T") (Some (key_is 7)))).reply ≡ reply.TooMuch
delete-too-much = ap (λ e. e.reply) (accepted-delete 1048562 (Some (key_is 7)) _ _ accepted-7 delete-left chosen-7)

-- ---- conditions that are refused

abbrev seven_is : Expr → Pred
seven_is e = pred.Test op.Eq e (expr.Int (pos 7))

names-seven : (name : List ℕ) → names_in_pred (seven_is (expr.Name name)) ≡ name ∷ []
unfolding names_in_pred names_in
names-seven name = rw (fold_out-Pred, outs-Test) (rw (fold_out-Expr, outs-Name, fold_out-Expr, outs-Int) refl)

typed-seven : is_typed columns (seven_is (expr.Name (codes "V"))) ≡ false
unfolding is_typed kind_of
typed-seven = rw (fold_out-Pred, outs-Test) (rw (fold_out-Expr, outs-Name, fold_out-Expr, outs-Int) refl)

-- K + 2147483647 = 7: no literal is outside INTEGER, but the sum is at each row
names-number : (n : ℤ) → names_in (expr.Int n) ≡ []
unfolding names_in
names-number n = rw (fold_out-Expr, outs-Int) refl

names-sum : names_in_pred (seven_is too_great) ≡ codes "K" ∷ []
unfolding names_in_pred
names-sum = rw (fold_out-Pred, outs-Test) (rw (names-great, names-number (pos 7)) refl)

kind-number : (n : ℤ) → kind_of columns (expr.Int n) ≡ Some number
unfolding kind_of
kind-number n = rw (fold_out-Expr, outs-Int) refl

typed-sum : is_typed columns (seven_is too_great) ≡ true
unfolding is_typed
typed-sum = rw (fold_out-Pred, outs-Test) (rw (kind-great, kind-number (pos 7)) refl)

point-sum : point_key (codes "K") (seven_is too_great) ≡ None
unfolding point_key
point-sum = rw (fold_out-Pred, outs-Test) (rw outs-Add refl)

holds-sum : holds_at columns (row 5 (codes "e")) (seven_is too_great) ≡ None
unfolding holds_at
holds-sum = rw (fold_out-Pred, outs-Test) (rw value-too-great refl)

select-no-column : reply_to sample (statement.Select what.All (codes "T") (Some (seven_is (expr.Name (codes "Q"))))) ≡ reply.NoColumn
select-no-column = refused-select what.All (Some (seven_is (expr.Name (codes "Q")))) reply.NoColumn (rw (names-seven (codes "Q")) refl)

select-wrong-type : reply_to sample (statement.Select what.All (codes "T") (Some (seven_is (expr.Name (codes "V"))))) ≡ reply.WrongType
select-wrong-type = refused-select what.All (Some (seven_is (expr.Name (codes "V")))) reply.WrongType (rw (names-seven (codes "V"), typed-seven) refl)

select-sum : reply_to sample (statement.Select what.Count (codes "T") (Some (seven_is too_great))) ≡ reply.Overflow
select-sum = refused-select what.Count (Some (seven_is too_great)) reply.Overflow (rw (names-sum, typed-sum, point-sum, holds-sum) refl)

delete-no-column : reply_to sample (statement.Delete (codes "T") (Some (seven_is (expr.Name (codes "Q"))))) ≡ reply.NoColumn
delete-no-column = refused-delete (Some (seven_is (expr.Name (codes "Q")))) reply.NoColumn (rw (names-seven (codes "Q")) refl)

delete-wrong-type : reply_to sample (statement.Delete (codes "T") (Some (seven_is (expr.Name (codes "V"))))) ≡ reply.WrongType
delete-wrong-type = refused-delete (Some (seven_is (expr.Name (codes "V")))) reply.WrongType (rw (names-seven (codes "V"), typed-seven) refl)

delete-sum : reply_to sample (statement.Delete (codes "T") (Some (seven_is too_great))) ≡ reply.Overflow
delete-sum = refused-delete (Some (seven_is too_great)) reply.Overflow (rw (names-sum, typed-sum, point-sum, holds-sum) refl)

update-no-column : reply_to sample (statement.Update (codes "T") to_x (Some (seven_is (expr.Name (codes "Q"))))) ≡ reply.NoColumn
update-no-column =
    refused-update to_x (Some (seven_is (expr.Name (codes "Q")))) reply.NoColumn (rw (names-text (codes "x"), names-seven (codes "Q")) refl)

update-wrong-type : reply_to sample (statement.Update (codes "T") to_x (Some (seven_is (expr.Name (codes "V"))))) ≡ reply.WrongType
update-wrong-type =
    refused-update to_x (Some (seven_is (expr.Name (codes "V")))) reply.WrongType
    (rw (names-text (codes "x"), names-seven (codes "V"), kind-text (codes "x"), typed-seven) refl)

update-sum : reply_to sample (statement.Update (codes "T") to_x (Some (seven_is too_great))) ≡ reply.Overflow
update-sum =
    refused-update to_x (Some (seven_is too_great)) reply.Overflow
    (rw (names-text (codes "x"), names-sum, kind-text (codes "x"), typed-sum, point-sum, holds-sum) refl)

-- ---- an assignment whose number on the way is outside INTEGER

-- a table of two numbers
abbrev counts : Table
counts =
    record {
      name = codes "C";
      columns = number_column (codes "K") ∷ number_column (codes "N") ∷ [];
      key = 0;
      rows = (value.Int (pos 5) ∷ value.Int (pos 1) ∷ []) ∷ [];
    }

abbrev counting : State
counting = record { tables = counts ∷ []; layout = record { areas = []; spreads = [] } }

-- N = K + 2147483647 - 2147483647, which is K, but not the sum
abbrev there_and_back : Expr
there_and_back = expr.Sub too_great (expr.Int (pos 2147483647))

abbrev to_sum : List Set
to_sum = record { name = codes "N"; value = there_and_back } ∷ []

names-back : names_in there_and_back ≡ codes "K" ∷ []
unfolding names_in
names-back = rw (fold_out-Expr, outs-Sub, fold_out-Expr, outs-Add, fold_out-Expr, outs-Name, fold_out-Expr, outs-Int) refl

kind-back : kind_of counts.columns there_and_back ≡ Some number
unfolding kind_of
kind-back = rw (fold_out-Expr, outs-Sub, fold_out-Expr, outs-Add, fold_out-Expr, outs-Name, fold_out-Expr, outs-Int) refl

value-back : value_of counts.columns (value.Int (pos 5) ∷ value.Int (pos 1) ∷ []) there_and_back ≡ None
unfolding value_of
value-back = rw (fold_out-Expr, outs-Sub, fold_out-Expr, outs-Add, fold_out-Expr, outs-Name, fold_out-Expr, outs-Int) refl

update-overflow-on-the-way : reply_to counting (statement.Update (codes "C") to_sum None) ≡ reply.Overflow
unfolding does effect
update-overflow-on-the-way =
    ap (λ o. (settled counting 0 (unless o (record {
      state = with_rows counting counts (map (λ r. assigned counts to_sum r) counts.rows);
      reply = reply.Updated 1;
      bytes = sum_by (λ r. change_size (assigned counts to_sum r)) counts.rows;
    }))).reply) refused
  where
    refused : option_or (first_refusal (update_refusals counts to_sum None)) (first_some (assigning_refusal counts to_sum) counts.rows) ≡ Some reply.Overflow
    refused = rw (names-back, kind-back) (rw value-back refl)
