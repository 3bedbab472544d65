-- A statement sees as much of the rows that it considers as of the whole table.
use Rattle.std.proofs.Common.{◌≡◌, List, [], ◌∷◌, ◌++◌, filter, Option, Some, None, Bool, true, false, not, refl, subst, sym, ap, ◌∙◌}
use Rattle.std.specs.Prelude.{◌&&◌, ◌||◌, is_none, unwrap_or}
use Rattle.std.specs.List.{list_any}
use Rattle.std.proofs.lemmas.Bool.{false≢true}
use Rattle.hb_types.specs.declared.value.Value.{Value}
use Rattle.hb_model.specs.declared.condition.Pred.{Pred}
use Rattle.hb_model.specs.declared.reply.Reply.{Reply}
use Rattle.hb_model.specs.declared.reply.Reply.TheVariants as reply
use Rattle.hb_model.specs.declared.statement.What.{What}
use Rattle.hb_model.specs.declared.statement.What.TheVariants as what
use Rattle.hb_model.specs.declared.table.Table.{Table}
use Rattle.hb_model.specs.Needs.{no_rows}
use Rattle.hb_model.specs.Refusals.{first_refusal, is_unknown, pred_names, pred_typed, select_refusals, what_names, what_typed}
use Rattle.hb_model.specs.Rows.{chooses, chosen, is_keyed, outside, overflows, point, shown, truth}
use Rattle.hb_planlaws.proofs.Ends.{is_too_much}
use Rattle.hb_planlaws.proofs.KeyRows.{any_among, filter_among}

abbrev pub only : Table → List (List Value) → Table
only t rows = record t { rows = rows }

-- the rows that a condition considers
abbrev pub seen : Table → Option Pred → List (List Value)
seen t pred = filter (is_keyed t (point t pred)) t.rows

pub truth_only : (t : Table) (rows : List (List Value)) (pred : Option Pred) → truth (only t rows) pred ≡ truth t pred
truth_only t rows None = refl
truth_only t rows (Some pd) = refl

pub chooses_only : (t : Table) (rows : List (List Value)) (pred : Option Pred) → chooses (only t rows) pred ≡ chooses t pred
chooses_only t rows None = refl
chooses_only t rows (Some pd) = refl

pub typed_only : (t : Table) (rows : List (List Value)) (pred : Option Pred) → pred_typed (only t rows) pred ≡ pred_typed t pred
typed_only t rows None = refl
typed_only t rows (Some pd) = refl

pub overflows_seen : (t : Table) (pred : Option Pred) → overflows (only t (seen t pred)) pred ≡ overflows t pred
overflows_seen t pred =
    ap (λ f. outside (point t pred) || list_any (λ row. is_keyed t (point t pred) row && is_none (f row)) (seen t pred)) (truth_only t (seen t pred) pred)
    ∙ ap (λ b. outside (point t pred) || b) (any_among (is_keyed t (point t pred)) (λ row. is_none (truth t pred row)) t.rows)

pub chosen_seen : (t : Table) (pred : Option Pred) → chosen (only t (seen t pred)) pred ≡ chosen t pred
chosen_seen t pred =
    ap (λ f. filter f (seen t pred)) (chooses_only t (seen t pred) pred) ∙ filter_among (is_keyed t (point t pred)) (λ row. unwrap_or (truth t pred row) false) t.rows

-- ---- refusals of SELECT and DELETE

-- the refusals, given whether a number overflows
abbrev refusals_with : Table → What → Option Pred → Bool → List (Bool × Reply)
refusals_with t w pred b =
    (list_any (is_unknown t) (what_names w ++ pred_names pred), reply.NoColumn) ∷ (not (what_typed t w && pred_typed t pred), reply.WrongType) ∷ (b, reply.Overflow) ∷ []

what_only : (t : Table) (rows : List (List Value)) (w : What) → what_typed (only t rows) w ≡ what_typed t w
what_only t rows what.All = refl
what_only t rows (what.Names names) = refl
what_only t rows what.Count = refl
what_only t rows (what.Sum name) = refl

refusals_only : (t : Table) (rows : List (List Value)) (w : What) (pred : Option Pred) → select_refusals (only t rows) w pred ≡ refusals_with t w pred (overflows (only t rows) pred)
refusals_only t rows w pred =
    ap (λ b. (list_any (is_unknown t) (what_names w ++ pred_names pred), reply.NoColumn) ∷ (not (b && pred_typed (only t rows) pred), reply.WrongType) ∷ (overflows (only t rows) pred, reply.Overflow) ∷ []) (what_only t rows w)
    ∙ ap (λ b. (list_any (is_unknown t) (what_names w ++ pred_names pred), reply.NoColumn) ∷ (not (what_typed t w && b), reply.WrongType) ∷ (overflows (only t rows) pred, reply.Overflow) ∷ []) (typed_only t rows pred)

pub refusals_seen : (t : Table) (w : What) (pred : Option Pred) → select_refusals (only t (seen t pred)) w pred ≡ select_refusals t w pred
refusals_seen t w pred = refusals_only t (seen t pred) w pred ∙ ap (refusals_with t w pred) (overflows_seen t pred)

pub shown_only : (t : Table) (w : What) (rows chosen_rows : List (List Value)) → shown (only t rows) w chosen_rows ≡ shown t w chosen_rows
shown_only t what.All rows xs = refl
shown_only t (what.Names names) rows xs = refl
shown_only t what.Count rows xs = refl
shown_only t (what.Sum name) rows xs = refl

still : (a b c d : Bool) (r : Reply) → (c ≡ true → d ≡ true) → first_refusal ((a, reply.NoColumn) ∷ (b, reply.WrongType) ∷ (c, reply.Overflow) ∷ []) ≡ Some r
    → first_refusal ((a, reply.NoColumn) ∷ (b, reply.WrongType) ∷ (d, reply.Overflow) ∷ []) ≡ Some r
still true b c d r h e = e
still false true c d r h e = e
still false false true d r h e = rw (h refl) e
still false false false d r h e = cc

pub or_more : (a b : Bool) → (a || false) ≡ true → (a || b) ≡ true
or_more true b e = refl
or_more false b e = absurd (false≢true e)

-- what is refused without rows is refused with them
pub refused_early : (t : Table) (w : What) (pred : Option Pred) (r : Reply) → first_refusal (select_refusals (no_rows t) w pred) ≡ Some r → first_refusal (select_refusals t w pred) ≡ Some r
refused_early t w pred r e =
    still (list_any (is_unknown t) (what_names w ++ pred_names pred)) (not (what_typed t w && pred_typed t pred)) (overflows (no_rows t) pred) (overflows t pred) r
    (λ h. or_more (outside (point t pred)) _ h) (ap first_refusal (sym (refusals_only t [] w pred)) ∙ e)

not_too_much : (a b c : Bool) (r : Reply) → first_refusal ((a, reply.NoColumn) ∷ (b, reply.WrongType) ∷ (c, reply.Overflow) ∷ []) ≡ Some r → is_too_much r ≡ false
not_too_much true b c r e = let same : reply.NoColumn ≡ r = cc in subst (λ x. is_too_much x ≡ false) same refl
not_too_much false true c r e = let same : reply.WrongType ≡ r = cc in subst (λ x. is_too_much x ≡ false) same refl
not_too_much false false true r e = let same : reply.Overflow ≡ r = cc in subst (λ x. is_too_much x ≡ false) same refl
not_too_much false false false r e = cc

pub refusal_other : (t : Table) (w : What) (pred : Option Pred) (r : Reply) → first_refusal (select_refusals t w pred) ≡ Some r → is_too_much r ≡ false
refusal_other t w pred r e =
    not_too_much (list_any (is_unknown t) (what_names w ++ pred_names pred)) (not (what_typed t w && pred_typed t pred)) (overflows t pred) r e
