-- The refusals of an UPDATE: what each part of its plan sees.
use Rattle.std.proofs.Common.{◌≡◌, inl, inr, ℕ, List, [], ◌∷◌, ◌++◌, Option, Some, None, Bool, true, false, not, refl, subst, sym, ap, ◌∙◌}
use Rattle.std.specs.Prelude.{◌&&◌, if◌then◌else◌}
use Rattle.std.specs.List.{list_any, list_all}
use Rattle.std.specs.Option.{option_or}
use Rattle.std.specs.Str.{bytes_eq}
use Rattle.std.proofs.lemmas.Bool.{false≢true}
use Rattle.hb_types.specs.declared.value.Column.{Column}
use Rattle.hb_types.specs.declared.value.Value.{Value}
use Rattle.hb_types.specs.Lists.{IsIn, has_twins}
use Rattle.hb_model.specs.declared.condition.Pred.{Pred}
use Rattle.hb_model.specs.declared.reply.Reply.{Reply}
use Rattle.hb_model.specs.declared.reply.Reply.TheVariants as reply
use Rattle.hb_model.specs.declared.statement.Set.{Set}
use Rattle.hb_model.specs.declared.table.Table.{Table}
use Rattle.hb_model.specs.Needs.{no_rows}
use Rattle.hb_model.specs.Refusals.{first_refusal, is_assignable, is_unknown, pred_names, pred_typed, sets_names, update_refusals}
use Rattle.hb_model.specs.Rows.{assigning_refusal, chosen, first_some, is_too_long, key_name, outside, overflows, point, value_refusal}
use Rattle.hb_model.specs.Values.{value_of}
use Rattle.hb_planlaws.proofs.Ends.{is_too_much}
use Rattle.hb_planwrites.proofs.Seen.{chosen_seen, only, or_more, overflows_seen, seen, typed_only}

-- ---- five refusals

abbrev five : Bool → Bool → Bool → Bool → Bool → Option Reply
five a b c d e = first_refusal ((a, reply.NoColumn) ∷ (b, reply.ColumnTwice) ∷ (c, reply.KeyFixed) ∷ (d, reply.WrongType) ∷ (e, reply.Overflow) ∷ [])

five_early : (a b c d e f : Bool) (r : Reply) → (e ≡ true → f ≡ true) → five a b c d e ≡ Some r → five a b c d f ≡ Some r
five_early true b c d e f r h is = is
five_early false true c d e f r h is = is
five_early false false true d e f r h is = is
five_early false false false true e f r h is = is
five_early false false false false true f r h is = rw (h refl) is
five_early false false false false false f r h is = cc

five_other : (a b c d e : Bool) (r : Reply) → five a b c d e ≡ Some r → is_too_much r ≡ false
five_other true b c d e r is = let same : reply.NoColumn ≡ r = cc in subst (λ x. is_too_much x ≡ false) same refl
five_other false true c d e r is = let same : reply.ColumnTwice ≡ r = cc in subst (λ x. is_too_much x ≡ false) same refl
five_other false false true d e r is = let same : reply.KeyFixed ≡ r = cc in subst (λ x. is_too_much x ≡ false) same refl
five_other false false false true e r is = let same : reply.WrongType ≡ r = cc in subst (λ x. is_too_much x ≡ false) same refl
five_other false false false false true r is = let same : reply.Overflow ≡ r = cc in subst (λ x. is_too_much x ≡ false) same refl
five_other false false false false false r is = cc

five_none : (a b c d e : Bool) → five a b c d e ≡ None → (c ≡ false) × (d ≡ false)
five_none true b c d e is = cc
five_none false true c d e is = cc
five_none false false true d e is = cc
five_none false false false true e is = cc
five_none false false false false true is = cc
five_none false false false false false is = (refl, refl)

-- ---- assignments

value_other : (o : Option Value) (columns : List Column) (name : List ℕ) (r : Reply) → value_refusal columns name o ≡ Some r → is_too_much r ≡ false
value_other None columns name r is = let same : reply.Overflow ≡ r = cc in subst (λ x. is_too_much x ≡ false) same refl
value_other (Some v) columns name r is = by (is_too_long columns name v) is
  where
    by : (b : Bool) → (if b then Some reply.TooLong else None) ≡ Some r → is_too_much r ≡ false
    by true e = let same : reply.TooLong ≡ r = cc in subst (λ x. is_too_much x ≡ false) same refl
    by false e = cc

some_or : {A : Type 0} (o p : Option A) (x : A) → option_or o p ≡ Some x → (P : Type 0) → (o ≡ Some x → P) → (p ≡ Some x → P) → P
some_or None p x is P f g = g is
some_or (Some y) p x is P f g = f is

none_or : {A : Type 0} (o p : Option A) → option_or o p ≡ None → (o ≡ None) × (p ≡ None)
none_or None p is = (refl, is)
none_or (Some y) p is = cc

first_other : {A : Type 0} (f : A → Option Reply) (xs : List A) (r : Reply) → ((x : A) → f x ≡ Some r → is_too_much r ≡ false) → first_some f xs ≡ Some r → is_too_much r ≡ false
first_other f [] r h is = cc
first_other f (x ∷ xs) r h is = some_or (f x) (first_some f xs) r is (is_too_much r ≡ false) (h x) (λ e. first_other f xs r h e)

none_of : {A : Type 0} (f : A → Option Reply) (xs : List A) (x : A) → first_some f xs ≡ None → IsIn x xs → f x ≡ None
none_of f [] x is i = absurd i
none_of {A} f (y ∷ ys) x is i =
    let n = none_or (f y) (first_some f ys) is in
    elim i [ inl e ↦ subst (λ (z : A). f z ≡ None) e n.0 | inr j ↦ none_of f ys x n.1 j ]

both_true : (a b : Bool) → not (a && b) ≡ false → a ≡ true
both_true true b e = refl
both_true false b e = absurd (false≢true (sym e))

module _ (t : Table) (sets : List Set) (pred : Option Pred) where
  abbrev refusal_if : Bool → Option Reply
  refusal_if b =
      five (list_any (is_unknown t) (sets_names sets ++ pred_names pred)) (has_twins (λ a b. bytes_eq a.name b.name) sets) (list_any (λ s. bytes_eq s.name (key_name t)) sets)
      (not (list_all (is_assignable t) sets && pred_typed t pred)) b

  refusal_only : (rows : List (List Value)) → first_refusal (update_refusals (only t rows) sets pred) ≡ refusal_if (overflows (only t rows) pred)
  refusal_only rows =
      ap (λ b. five (list_any (is_unknown t) (sets_names sets ++ pred_names pred)) (has_twins (λ a b. bytes_eq a.name b.name) sets) (list_any (λ s. bytes_eq s.name (key_name t)) sets)
      (not (list_all (is_assignable t) sets && b)) (overflows (only t rows) pred)) (typed_only t rows pred)

  -- what the statement is refused by, static or at a row
  abbrev pub refusal : Option Reply
  refusal = option_or (first_refusal (update_refusals t sets pred)) (first_some (assigning_refusal t sets) (chosen t pred))

  pub refusal_seen : option_or (first_refusal (update_refusals (only t (seen t pred)) sets pred)) (first_some (assigning_refusal t sets) (chosen (only t (seen t pred)) pred)) ≡ refusal
  refusal_seen =
      ap (λ o. option_or o (first_some (assigning_refusal t sets) (chosen (only t (seen t pred)) pred))) (refusal_only (seen t pred) ∙ ap refusal_if (overflows_seen t pred))
      ∙ ap (λ rows. option_or (first_refusal (update_refusals t sets pred)) (first_some (assigning_refusal t sets) rows)) (chosen_seen t pred)

  -- what is refused without rows is refused with them
  pub refused_early : (r : Reply) → first_refusal (update_refusals (no_rows t) sets pred) ≡ Some r → refusal ≡ Some r
  refused_early r h =
      ap (λ o. option_or o (first_some (assigning_refusal t sets) (chosen t pred)))
      (five_early (list_any (is_unknown t) (sets_names sets ++ pred_names pred)) (has_twins (λ a b. bytes_eq a.name b.name) sets) (list_any (λ s. bytes_eq s.name (key_name t)) sets)
      (not (list_all (is_assignable t) sets && pred_typed t pred)) (overflows (no_rows t) pred) (overflows t pred) r (λ e. or_more (outside (point t pred)) _ e) (sym (refusal_only []) ∙ h))

  pub refusal_other : (r : Reply) → refusal ≡ Some r → is_too_much r ≡ false
  refusal_other r h =
      some_or (first_refusal (update_refusals t sets pred)) (first_some (assigning_refusal t sets) (chosen t pred)) r h (is_too_much r ≡ false)
      (λ e. five_other (list_any (is_unknown t) (sets_names sets ++ pred_names pred)) (has_twins (λ a b. bytes_eq a.name b.name) sets) (list_any (λ s. bytes_eq s.name (key_name t)) sets)
      (not (list_all (is_assignable t) sets && pred_typed t pred)) (overflows t pred) r e)
      (λ e. first_other (assigning_refusal t sets) (chosen t pred) r
      (λ row k. first_other (λ (s : Set). value_refusal t.columns s.name (value_of t.columns row s.value)) sets r (λ s g. value_other (value_of t.columns row s.value) t.columns s.name r g) k) e)

  -- what holds where nothing refuses it
  pub record Unrefused : Type 0 where
    pub keys_stay : list_any (λ s. bytes_eq s.name (key_name t)) sets ≡ false
    pub assignable : list_all (is_assignable t) sets ≡ true
    pub accepted : (row : List Value) → IsIn row (chosen t pred) → assigning_refusal t sets row ≡ None

  pub unrefused : refusal ≡ None → Unrefused
  unrefused h =
      let n = none_or (first_refusal (update_refusals t sets pred)) (first_some (assigning_refusal t sets) (chosen t pred)) h in
      let f = five_none (list_any (is_unknown t) (sets_names sets ++ pred_names pred)) (has_twins (λ a b. bytes_eq a.name b.name) sets) (list_any (λ s. bytes_eq s.name (key_name t)) sets)
      (not (list_all (is_assignable t) sets && pred_typed t pred)) (overflows t pred) n.0 in
      record {
        keys_stay = f.0;
        assignable = both_true (list_all (is_assignable t) sets) (pred_typed t pred) f.1;
        accepted = λ row i. none_of (assigning_refusal t sets) (chosen t pred) row n.1 i;
      }
