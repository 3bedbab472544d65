-- Assignments, one after another.
use Rattle.std.proofs.Common.{◌≡◌, ℕ, zero, suc, ◌+◌, ◌<◌, List, [], ◌∷◌, ◌++◌, length, take, get_or, Some, None, refl, sym, ap, ◌∙◌, arith}
use Rattle.std.specs.Prelude.{Option}
use Rattle.std.specs.Option.{option_or}
use Rattle.std.proofs.lemmas.List.Sums.{fold-append}
use Rattle.hb_types.specs.declared.value.Value.{Value}
use Rattle.hb_types.specs.declared.value.Column.{Column}
use Rattle.hb_model.specs.declared.table.Table.{Table}
use Rattle.hb_model.specs.declared.statement.Set.{Set}
use Rattle.hb_model.specs.Values.{value_of, place_of}
use Rattle.hb_model.specs.Rows.{first_some, value_refusal, assigning_refusal, assigned, put_value}
use Rattle.hb_sqlrow.specs.declared.fault.SetFault.{SetFault}
use Rattle.hb_sqlrow.specs.declared.fault.SetFault.TheVariants as fault
use Rattle.hb_sqlrow.specs.Refused.{IsReplyOf}
use Rattle.hb_sqlrow.proofs.Steps.{Assigns, take_more}

behind : {B : Type 0} (o a b : Option B) (r : B) → option_or o a ≡ None → (a ≡ None → b ≡ Some r) → option_or o b ≡ Some r
behind None a b r none next = next none
behind (Some x) a b r none next = absurd cc

goes_on : {B : Type 0} (o a b : Option B) → option_or o a ≡ None → (a ≡ None → b ≡ None) → option_or o b ≡ None
goes_on None a b none next = next none
goes_on (Some x) a b none next = absurd cc

-- the first of a list, none before it
first_at : {A B : Type 0} (f : A → Option B) (xs : List A) (i : ℕ) (x : A) (r : B) → i < length xs → x ≡ get_or xs i x → first_some f (take i xs) ≡ None → f x ≡ Some r → first_some f xs ≡ Some r
first_at {A} {B} f xs i x r lt is none some = go xs i lt none (ap f (sym is) ∙ some)
  where
    go : (xs : List A) (i : ℕ) → i < length xs → first_some f (take i xs) ≡ None → f (get_or xs i x) ≡ Some r → first_some f xs ≡ Some r
    go [] i lt none some = absurd (omega (arith, lt))
    go (y ∷ ys) zero lt none some = rw some refl
    go (y ∷ ys) (suc i) lt none some = behind (f y) (first_some f (take i ys)) (first_some f ys) r none (λ n. go ys i (omega (arith, lt)) n some)

first_more : {A B : Type 0} (f : A → Option B) (xs : List A) (x : A) → first_some f xs ≡ None → f x ≡ None → first_some f (xs ++ x ∷ []) ≡ None
first_more f [] x none here = rw here refl
first_more f (y ∷ ys) x none here = goes_on (f y) (first_some f ys) (first_some f (ys ++ x ∷ [])) none (λ n. first_more f ys x n here)

pub refused_at : (t : Table) (sets : List Set) (row old : List Value) (i : ℕ) (s : Set) (e : SetFault) → i < length sets → s ≡ get_or sets i s → old ≡ row → assigning_refusal t (take i sets) row ≡ None
    → IsReplyOf e (value_refusal t.columns s.name (value_of t.columns old s.value)) → IsReplyOf e (assigning_refusal t sets row)
refused_at t sets row old i s fault.Overflow lt is same none here =
    first_at (λ (s : Set). value_refusal t.columns s.name (value_of t.columns row s.value)) sets i s _ lt is none (ap (λ (r : List Value). value_refusal t.columns s.name (value_of t.columns r s.value)) (sym same) ∙ here)
refused_at t sets row old i s fault.TooLong lt is same none here =
    first_at (λ (s : Set). value_refusal t.columns s.name (value_of t.columns row s.value)) sets i s _ lt is none (ap (λ (r : List Value). value_refusal t.columns s.name (value_of t.columns r s.value)) (sym same) ∙ here)
refused_at t sets row old i s fault.NoMemory lt is same none here = tt

pub assigns_more : (t : Table) (sets : List Set) (row old new next : List Value) (i : ℕ) (s : Set) (v : Value) (columns : List Column) (name : List ℕ) (at : Option ℕ) → i < length sets → s ≡ get_or sets i s → old ≡ row
    → value_of t.columns old s.value ≡ Some v → value_refusal t.columns s.name (value_of t.columns old s.value) ≡ None → columns ≡ t.columns → name ≡ s.name → at ≡ place_of columns name → next ≡ put_value new at (Some v)
    → Assigns t (take i sets) row new → Assigns t (take (i + 1) sets) row next
assigns_more t sets row old new next i s v columns name at lt is same value fine here called place put before = record {
  made =
      put ∙ ap (λ (l : List Value). put_value l at (Some v)) before.made
      ∙ ap (λ (a : Option ℕ). put_value (assigned t (take i sets) row) a (Some v)) (place ∙ ap (λ (cs : List Column). place_of cs name) here ∙ ap (place_of t.columns) called)
      ∙ ap (put_value (assigned t (take i sets) row) (place_of t.columns s.name)) (sym value ∙ ap (λ (r : List Value). value_of t.columns r s.value) same)
      ∙ sym (fold-append (λ (l : List Value) (s : Set). put_value l (place_of t.columns s.name) (value_of t.columns row s.value)) row (take i sets) (s ∷ []))
      ∙ ap (λ (l : List Set). assigned t l row) (sym (take_more sets i s lt is));
  accepted =
      ap (λ (l : List Set). assigning_refusal t l row) (take_more sets i s lt is)
      ∙ first_more (λ (s : Set). value_refusal t.columns s.name (value_of t.columns row s.value)) (take i sets) s before.accepted
      (ap (λ (r : List Value). value_refusal t.columns s.name (value_of t.columns r s.value)) (sym same) ∙ fine);
}
