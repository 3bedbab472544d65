-- INSERT, SELECT, UPDATE, DELETE and LOCK TABLE, with each refusal, computed.
use Rattle.std.proofs.Common.{◌≡◌, ℕ, pos, true, false, refl, ap, ◌∙◌, map, length, List, [], ◌∷◌, Some, None}
use Rattle.std.specs.Prelude.{codes, Option, sum_by, filter, not, ◌*◌, if◌then◌else◌}
use Rattle.std.specs.Option.{option_or}
use Rattle.hb_types.specs.declared.entry.Entry.TheVariants.{At}
use Rattle.hb_types.specs.declared.value.Value.{Value}
use Rattle.hb_types.specs.declared.value.Value.TheVariants as value
use Rattle.hb_model.specs.declared.condition.Op.TheVariants as op
use Rattle.hb_model.specs.declared.condition.Pred.{Pred, fold_out-Pred}
use Rattle.hb_model.specs.declared.condition.Pred.TheVariants as pred
use Rattle.hb_model.specs.declared.condition.Pred.TheVariants.{outs-Test, outs-And}
use Rattle.hb_model.specs.declared.expression.Expr.{Expr, fold_out-Expr}
use Rattle.hb_model.specs.declared.expression.Expr.TheVariants as expr
use Rattle.hb_model.specs.declared.expression.Expr.TheVariants.{outs-Add, outs-Mul, outs-Name, outs-Int, outs-Text}
use Rattle.hb_model.specs.declared.reply.Reply.TheVariants as reply
use Rattle.hb_model.specs.declared.statement.Set.{Set}
use Rattle.hb_model.specs.declared.statement.Statement.TheVariants as statement
use Rattle.hb_model.specs.declared.statement.What.TheVariants as what
use Rattle.hb_model.specs.declared.reply.Reply.{Reply}
use Rattle.hb_model.specs.declared.statement.What.{What}
use Rattle.hb_model.specs.declared.table.Table.{Table}
use Rattle.hb_model.specs.Does.{does, effect, settled, reads, with_rows}
use Rattle.hb_model.specs.Refusals.{unless, first_refusal, select_refusals, update_refusals, change_size, removal_size}
use Rattle.hb_model.specs.Kinds.{letters, number, kind_of, is_typed, names_in, names_in_pred}
use Rattle.hb_model.specs.Rows.{point_key, chosen, chooses, shown, assigned, assigning_refusal, first_some}
use Rattle.hb_model.specs.Values.{value_of, holds_at}
use Rattle.hb_model.proofs.Samples.{columns, sample, holding, row, reply_to, replies_to}

-- ---- INSERT

insert :
    replies_to sample
    (statement.Insert (codes "T") (row 6 (codes "f")) ∷ statement.Insert (codes "U") (row 6 (codes "f")) ∷ statement.Insert (codes "T") (value.Int (pos 6) ∷ [])
    ∷ statement.Insert (codes "T") (row 2147483648 (codes "f")) ∷ statement.Insert (codes "T") (row 6 (codes "long")) ∷ statement.Insert (codes "T") (row 5 (codes "x")) ∷ [])
    ≡ reply.Inserted ∷ reply.NoTable ∷ reply.WrongType ∷ reply.Overflow ∷ reply.TooLong ∷ reply.KeyTaken ∷ []
unfolding does effect
insert = refl

-- the row stands at its place by key, and its change has 27 bytes
insert-state :
    (does 2 sample 0 false (statement.Insert (codes "T") (row 6 (codes "f")))).state
    ≡ holding (At 257 ∷ []) (row 5 (codes "e") ∷ row 6 (codes "f") ∷ row 7 (codes "g") ∷ [])
unfolding does effect
insert-state = refl

insert-bytes : (does 2 sample 0 false (statement.Insert (codes "T") (row 6 (codes "f")))).bytes ≡ 27
unfolding does effect
insert-bytes = refl

-- the limit of changes is met and passed
insert-limit : (does 2 sample 1048549 false (statement.Insert (codes "T") (row 6 (codes "f")))).reply ≡ reply.Inserted
unfolding does effect
insert-limit = refl

insert-too-much : (does 2 sample 1048550 false (statement.Insert (codes "T") (row 6 (codes "f")))).reply ≡ reply.TooMuch
unfolding does effect
insert-too-much = refl

-- too many Lock requests
insert-full : does 2 sample 0 true (statement.Insert (codes "T") (row 6 (codes "f"))) ≡ record { state = sample; reply = reply.TooMuch; bytes = 0 }
unfolding does effect
insert-full = refl

-- ---- SELECT and LOCK TABLE without a condition

select :
    replies_to sample
    (statement.Select what.All (codes "T") None ∷ statement.Select (what.Names (codes "V" ∷ [])) (codes "T") None ∷ statement.Select what.Count (codes "T") None
    ∷ statement.Select (what.Sum (codes "K")) (codes "T") None ∷ statement.Select what.All (codes "U") None
    ∷ statement.Select (what.Names (codes "Q" ∷ [])) (codes "T") None ∷ statement.Select (what.Sum (codes "V")) (codes "T") None ∷ [])
    ≡ reply.Rows (row 5 (codes "e") ∷ row 7 (codes "g") ∷ []) ∷ reply.Rows ((value.Text (codes "e") ∷ []) ∷ (value.Text (codes "g") ∷ []) ∷ [])
    ∷ reply.Rows ((value.Int (pos 2) ∷ []) ∷ []) ∷ reply.Rows ((value.Int (pos 12) ∷ []) ∷ []) ∷ reply.NoTable ∷ reply.NoColumn ∷ reply.WrongType ∷ []
unfolding does effect
select = refl

lock-table : replies_to sample (statement.LockTable (codes "T") true ∷ statement.LockTable (codes "U") false ∷ []) ≡ reply.Locked ∷ reply.NoTable ∷ []
unfolding does effect
lock-table = refl

delete-all : does 2 sample 0 false (statement.Delete (codes "T") None) ≡ record { state = holding (At 257 ∷ []) []; reply = reply.Deleted 2; bytes = 30 }
unfolding does effect
delete-all = refl

-- ---- conditions

abbrev pub key_is : ℕ → Pred
key_is n = pred.Test op.Eq (expr.Name (codes "K")) (expr.Int (pos n))

pub names-key : (n : ℕ) → names_in_pred (key_is n) ≡ codes "K" ∷ []
unfolding names_in_pred names_in
names-key n = rw (fold_out-Pred, outs-Test) (rw (fold_out-Expr, outs-Name, fold_out-Expr, outs-Int) refl)

pub typed-key : (n : ℕ) → is_typed columns (key_is n) ≡ true
unfolding is_typed kind_of
typed-key n = rw (fold_out-Pred, outs-Test) (rw (fold_out-Expr, outs-Name, fold_out-Expr, outs-Int) refl)

pub point-key : (n : ℕ) → point_key (codes "K") (key_is n) ≡ Some (pos n)
unfolding point_key
point-key n = rw (fold_out-Pred, outs-Test) (rw (outs-Name, outs-Int) refl)

pub holds-7 : holds_at columns (row 7 (codes "g")) (key_is 7) ≡ Some true
unfolding holds_at value_of
holds-7 = rw (fold_out-Pred, outs-Test) (rw (fold_out-Expr, outs-Name, fold_out-Expr, outs-Int) refl)

abbrev pub the_table : Table
the_table = record { name = codes "T"; columns = columns; key = 0; rows = row 5 (codes "e") ∷ row 7 (codes "g") ∷ [] }

-- a statement is refused by the first of its refusals
pub refused-select : (w : What) (p : Option Pred) (r : Reply) → first_refusal (select_refusals the_table w p) ≡ Some r
    → reply_to sample (statement.Select w (codes "T") p) ≡ r
unfolding does effect
refused-select w p r e = ap (λ o. (settled sample 0 (unless o (reads sample (reply.Rows (shown the_table w (chosen the_table p)))))).reply) e

accepted-select : (w : What) (p : Option Pred) → first_refusal (select_refusals the_table w p) ≡ None
    → reply_to sample (statement.Select w (codes "T") p) ≡ reply.Rows (shown the_table w (chosen the_table p))
unfolding does effect
accepted-select w p e = ap (λ o. (settled sample 0 (unless o (reads sample (reply.Rows (shown the_table w (chosen the_table p)))))).reply) e

pub accepted-7 : first_refusal (select_refusals the_table what.All (Some (key_is 7))) ≡ None
accepted-7 = rw (names-key 7, typed-key 7, point-key 7, holds-7) refl

pub chosen-7 : chosen the_table (Some (key_is 7)) ≡ row 7 (codes "g") ∷ []
chosen-7 = rw (point-key 7, holds-7) refl

select-point : reply_to sample (statement.Select what.All (codes "T") (Some (key_is 7))) ≡ reply.Rows (row 7 (codes "g") ∷ [])
select-point = accepted-select what.All (Some (key_is 7)) accepted-7 ∙ ap (λ rows. reply.Rows rows) chosen-7

select-overflow : reply_to sample (statement.Select what.All (codes "T") (Some (key_is 2147483648))) ≡ reply.Overflow
select-overflow =
    refused-select what.All (Some (key_is 2147483648)) reply.Overflow (rw (names-key 2147483648, typed-key 2147483648, point-key 2147483648) refl)

-- ---- UPDATE

abbrev pub setting : List ℕ → List ℕ → Set
setting name text = record { name = name; value = expr.Text text }

pub names-text : (t : List ℕ) → names_in (expr.Text t) ≡ []
unfolding names_in
names-text t = rw (fold_out-Expr, outs-Text) refl

pub kind-text : (t : List ℕ) → kind_of columns (expr.Text t) ≡ Some letters
unfolding kind_of
kind-text t = rw (fold_out-Expr, outs-Text) refl

pub value-text : (r : List Value) (t : List ℕ) → value_of columns r (expr.Text t) ≡ Some (value.Text t)
unfolding value_of
value-text r t = rw (fold_out-Expr, outs-Text) refl

-- K + 2147483647 is too great at each row
abbrev pub too_great : Expr
too_great = expr.Add (expr.Name (codes "K")) (expr.Int (pos 2147483647))

pub value-too-great : value_of columns (row 5 (codes "e")) too_great ≡ None
unfolding value_of
value-too-great = rw (fold_out-Expr, outs-Add, fold_out-Expr, outs-Name, fold_out-Expr, outs-Int) refl

pub refused-update : (sets : List Set) (p : Option Pred) (r : Reply) → option_or (first_refusal (update_refusals the_table sets p)) (first_some (assigning_refusal the_table sets) (chosen the_table p)) ≡ Some r
    → reply_to sample (statement.Update (codes "T") sets p) ≡ r
unfolding does effect
refused-update sets p r e =
    ap (λ o. (settled sample 0 (unless o (record {
      state = with_rows sample the_table (map (λ row. if chooses the_table p row then assigned the_table sets row else row) the_table.rows);
      reply = reply.Updated (length (chosen the_table p));
      bytes = sum_by (λ row. change_size (assigned the_table sets row)) (chosen the_table p);
    }))).reply) e

update-no-column : reply_to sample (statement.Update (codes "T") (setting (codes "Q") (codes "x") ∷ []) None) ≡ reply.NoColumn
update-no-column = refused-update (setting (codes "Q") (codes "x") ∷ []) None reply.NoColumn refl

update-twice : reply_to sample (statement.Update (codes "T") (setting (codes "V") (codes "x") ∷ setting (codes "V") (codes "y") ∷ []) None) ≡ reply.ColumnTwice
update-twice = refused-update (setting (codes "V") (codes "x") ∷ setting (codes "V") (codes "y") ∷ []) None reply.ColumnTwice (rw (names-text (codes "x"), names-text (codes "y")) refl)

update-key : reply_to sample (statement.Update (codes "T") (setting (codes "K") (codes "x") ∷ []) None) ≡ reply.KeyFixed
update-key = refused-update (setting (codes "K") (codes "x") ∷ []) None reply.KeyFixed (rw (names-text (codes "x")) refl)

update-too-long : reply_to sample (statement.Update (codes "T") (setting (codes "V") (codes "long") ∷ []) None) ≡ reply.TooLong
update-too-long =
    refused-update (setting (codes "V") (codes "long") ∷ []) None reply.TooLong
    (rw (names-text (codes "long"), kind-text (codes "long"), value-text (row 5 (codes "e")) (codes "long")) refl)

update-no-table : reply_to sample (statement.Update (codes "U") (setting (codes "V") (codes "x") ∷ []) None) ≡ reply.NoTable
unfolding does effect
update-no-table = refl

pub names-great : names_in too_great ≡ codes "K" ∷ []
unfolding names_in
names-great = rw (fold_out-Expr, outs-Add, fold_out-Expr, outs-Name, fold_out-Expr, outs-Int) refl

pub kind-great : kind_of columns too_great ≡ Some number
unfolding kind_of
kind-great = rw (fold_out-Expr, outs-Add, fold_out-Expr, outs-Name, fold_out-Expr, outs-Int) refl

update-wrong-type : reply_to sample (statement.Update (codes "T") (record { name = codes "V"; value = too_great } ∷ []) None) ≡ reply.WrongType
update-wrong-type = refused-update (record { name = codes "V"; value = too_great } ∷ []) None reply.WrongType (rw (names-great, kind-great) refl)

update-overflow : reply_to sample (statement.Update (codes "T") (setting (codes "V") (codes "x") ∷ []) (Some (key_is 2147483648))) ≡ reply.Overflow
update-overflow =
    refused-update (setting (codes "V") (codes "x") ∷ []) (Some (key_is 2147483648)) reply.Overflow
    (rw (names-text (codes "x"), names-key 2147483648, kind-text (codes "x"), typed-key 2147483648, point-key 2147483648) refl)

-- ---- DELETE

pub refused-delete : (p : Option Pred) (r : Reply) → first_refusal (select_refusals the_table what.All p) ≡ Some r
    → reply_to sample (statement.Delete (codes "T") p) ≡ r
unfolding does effect
refused-delete p r e =
    ap (λ o. (settled sample 0 (unless o (record {
      state = with_rows sample the_table (filter (λ row. not (chooses the_table p row)) the_table.rows);
      reply = reply.Deleted (length (chosen the_table p));
      bytes = removal_size * length (chosen the_table p);
    }))).reply) e

delete-overflow : reply_to sample (statement.Delete (codes "T") (Some (key_is 2147483648))) ≡ reply.Overflow
delete-overflow = refused-delete (Some (key_is 2147483648)) reply.Overflow (rw (names-key 2147483648, typed-key 2147483648, point-key 2147483648) refl)

delete-no-table : reply_to sample (statement.Delete (codes "U") None) ≡ reply.NoTable
unfolding does effect
delete-no-table = refl
