-- The refusals of a statement on a table that is there, in their order, and the bytes of its changes.
use Rattle.std.specs.Prelude.{ℕ, ◌+◌, ◌==◌, Bool, true, false, not, ◌&&◌, ◌||◌, if◌then◌else◌, List, [], ◌∷◌, ◌++◌, length, Option, Some, None, option_map, unwrap_or, Result, Ok, Err}
use Rattle.std.specs.Str.{bytes_eq}
use Rattle.std.specs.List.{list_any, list_all, zip}
use Rattle.std.specs.Ordering.{int_eq}
use Rattle.hb_types.specs.declared.value.Value.{Value}
use Rattle.hb_types.specs.declared.value.Value.TheVariants as value
use Rattle.hb_types.specs.Lists.{has_twins}
use Rattle.hb_types.specs.Numbers.{is_integer}
use Rattle.hb_types.specs.Rows.{row_bytes}
use Rattle.hb_model.specs.declared.table.Table.{Table}
use Rattle.hb_model.specs.declared.reply.Reply.{Reply}
use Rattle.hb_model.specs.declared.reply.Reply.TheVariants as reply
use Rattle.hb_model.specs.declared.condition.Pred.{Pred}
use Rattle.hb_model.specs.declared.statement.Set.{Set}
use Rattle.hb_model.specs.declared.statement.What.{What}
use Rattle.hb_model.specs.declared.statement.What.TheVariants as what
use Rattle.hb_model.specs.Kinds.{Kind, number, same_kind, kind_of_column, kind_of_value, kind_of, is_typed, names_in, names_in_pred}
use Rattle.hb_model.specs.Rows.{key_of, key_name, overflows, is_long}
use Rattle.hb_model.specs.State.{State}

-- what an accepted statement leaves, answers, and writes in bytes of changes
pub record Effect : Type 0 where
  pub state : State
  pub reply : Reply
  pub bytes : ℕ

-- the first reply whose test holds
abbrev pub first_refusal : List (Bool × Reply) → Option Reply
first_refusal [] = None
first_refusal (r ∷ rs) = if r.0 then Some r.1 else first_refusal rs

-- an effect, if nothing refuses it
abbrev pub unless : Option Reply → Effect → Result Effect Reply
unless None e = Ok e
unless (Some r) e = Err r

-- the bytes of a change with this row, and of one without
abbrev pub change_size : List Value → ℕ
change_size row = 17 + length (row_bytes row)

abbrev pub removal_size : ℕ
removal_size = 15

-- ---- static refusals of a statement on a table that is there

abbrev pub pred_names : Option Pred → List (List ℕ)
pred_names None = []
pred_names (Some p) = names_in_pred p

abbrev pub pred_typed : Table → Option Pred → Bool
pred_typed t None = true
pred_typed t (Some p) = is_typed t.columns p

abbrev pub what_names : What → List (List ℕ)
what_names (what.Names names) = names
what_names (what.Sum name) = name ∷ []
what_names _ = []

abbrev pub has_kind : Table → Kind → List ℕ → Bool
has_kind t k name = list_all (λ c. not (bytes_eq c.name name) || same_kind (kind_of_column c) k) t.columns

abbrev pub what_typed : Table → What → Bool
what_typed t (what.Sum name) = has_kind t number name
what_typed t _ = true

abbrev pub sets_names : List Set → List (List ℕ)
sets_names [] = []
sets_names (s ∷ ss) = s.name ∷ names_in s.value ++ sets_names ss

abbrev pub is_assignable : Table → Set → Bool
is_assignable t s = unwrap_or (option_map (λ k. has_kind t k s.name) (kind_of t.columns s.value)) false

-- whether a name is no column
abbrev pub is_unknown : Table → List ℕ → Bool
is_unknown t name = not (list_any (λ c. bytes_eq c.name name) t.columns)

abbrev pub values_typed : Table → List Value → Bool
values_typed t values =
    (length values == length t.columns) && list_all (λ p. same_kind (kind_of_column p.0) (kind_of_value p.1)) (zip t.columns values)

abbrev pub update_refusals : Table → List Set → Option Pred → List (Bool × Reply)
update_refusals t sets pred =
    (list_any (is_unknown t) (sets_names sets ++ pred_names pred), reply.NoColumn)
    ∷ (has_twins (λ a b. bytes_eq a.name b.name) sets, reply.ColumnTwice)
    ∷ (list_any (λ s. bytes_eq s.name (key_name t)) sets, reply.KeyFixed)
    ∷ (not (list_all (is_assignable t) sets && pred_typed t pred), reply.WrongType)
    ∷ (overflows t pred, reply.Overflow)
    ∷ []

abbrev pub select_refusals : Table → What → Option Pred → List (Bool × Reply)
select_refusals t w pred =
    (list_any (is_unknown t) (what_names w ++ pred_names pred), reply.NoColumn)
    ∷ (not (what_typed t w && pred_typed t pred), reply.WrongType)
    ∷ (overflows t pred, reply.Overflow)
    ∷ []

abbrev pub is_outside : Value → Bool
is_outside (value.Int n) = not (is_integer n)
is_outside (value.Text t) = false

abbrev pub insert_refusals : Table → List Value → List (Bool × Reply)
insert_refusals t values =
    (not (values_typed t values), reply.WrongType)
    ∷ (list_any is_outside values, reply.Overflow)
    ∷ (list_any (λ p. is_long p.0.size p.1) (zip t.columns values), reply.TooLong)
    ∷ (list_any (λ row. int_eq (key_of t row) (key_of t values)) t.rows, reply.KeyTaken)
    ∷ []
