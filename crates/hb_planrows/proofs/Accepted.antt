-- Values that a table takes as a row have bytes, and a key within INTEGER.
use Rattle.std.proofs.Common.{◌≡◌, ℕ, zero, suc, ◌≤◌, ◌==◌, Bool, true, false, true≢false, not, ◌&&◌, ◌||◌, List, [], ◌∷◌, length, pos, Some, None, IsTrue, All, refl, ap, sym, ◌∙◌, arith}
use Rattle.std.specs.Prelude.{Option, slice_get, unwrap_or, option_map, is_some}
use Rattle.std.specs.List.{list_any, list_all, zip, AllByRecursion}
use Rattle.std.proofs.lemmas.Bool.Decides.{nat_tests}
use Rattle.std.proofs.lemmas.List.Elements.{All-from_recursion}
use Rattle.hb_types.specs.declared.value.Value.{Value}
use Rattle.hb_types.specs.declared.value.Value.TheVariants.{Int, Text}
use Rattle.hb_types.specs.declared.value.Column.{Column}
use Rattle.hb_types.specs.Lists.{Each}
use Rattle.hb_types.specs.Numbers.{is_integer}
use Rattle.hb_types.specs.Rows.{HasBytes, HaveRow}
use Rattle.hb_model.specs.declared.table.Table.{Table}
use Rattle.hb_model.specs.declared.reply.Reply.{Reply}
use Rattle.hb_model.specs.declared.reply.Reply.TheVariants as reply
use Rattle.hb_model.specs.Refusals.{first_refusal, insert_refusals, values_typed, is_outside}
use Rattle.hb_model.specs.Rows.{key_of, number_of, is_long}
use Rattle.hb_planrows.specs.PlanRows.{IsPlain}

-- where none of the tests holds
pub record Passed (a b c : Bool) : Type 0 where
  pub first : a ≡ false
  pub second : b ≡ false
  pub third : c ≡ false

none_is : (r : Reply) → Some r ≡ None → ⊥
none_is r is = true≢false (ap (λ o. is_some o) is)

passed : (a b c d : Bool) (p q r s : Reply) → first_refusal ((a, p) ∷ (b, q) ∷ (c, r) ∷ (d, s) ∷ []) ≡ None → Passed a b c
passed true b c d p q r s is = absurd (none_is p is)
passed false true c d p q r s is = absurd (none_is q is)
passed false false true d p q r s is = absurd (none_is r is)
passed false false false d p q r s is = record { first = refl; second = refl; third = refl }

bool_or : (a b : Bool) → (a || b) ≡ false → (a ≡ false) × (b ≡ false)
bool_or true b is = absurd (true≢false is)
bool_or false b is = (refl, is)

inside : (b : Bool) → not b ≡ false → b ≡ true
inside true is = refl
inside false is = absurd (true≢false is)

fits : (v : Value) (size : ℕ) → size ≤ 255 → is_outside v ≡ false → is_long size v ≡ false → HasBytes v
fits (Int n) size small within short = inside (is_integer n) within
fits (Text t) size small within short = grind (arith, nat_tests)

all_fit : (cs : List Column) (vs : List Value) → Each (λ c. c.size ≤ 255) cs → length vs ≡ length cs → list_any is_outside vs ≡ false
    → list_any (λ p. is_long p.0.size p.1) (zip cs vs) ≡ false → AllByRecursion HasBytes vs
all_fit cs [] small count within short = tt
all_fit [] (v ∷ vs) small count within short = absurd (omega (arith, count))
all_fit (c ∷ cs) (v ∷ vs) small count within short =
    let in_v = bool_or (is_outside v) (list_any is_outside vs) within in
    let short_v = bool_or (is_long c.size v) (list_any (λ p. is_long p.0.size p.1) (zip cs vs)) short in
    (fits v c.size small.0 in_v.0 short_v.0, all_fit cs vs small.1 (omega (arith, count)) in_v.1 short_v.1)

pub counted : (a b : ℕ) (rest : Bool) → not ((a == b) && rest) ≡ false → a ≡ b
counted a b rest is = grind (arith, nat_tests)

number_within : (v : Value) → is_outside v ≡ false → is_integer (number_of v) ≡ true
number_within (Int n) within = inside (is_integer n) within
number_within (Text t) within = refl

value_within : (vs : List Value) (k : ℕ) → list_any is_outside vs ≡ false → is_integer (unwrap_or (option_map number_of (slice_get vs k)) (pos 0)) ≡ true
value_within [] k within = refl
value_within (v ∷ vs) zero within = number_within v (bool_or (is_outside v) (list_any is_outside vs) within).0
value_within (v ∷ vs) (suc k) within = value_within vs k (bool_or (is_outside v) (list_any is_outside vs) within).1

pub tests : (t : Table) (values : List Value) → first_refusal (insert_refusals t values) ≡ None
    → Passed (not (values_typed t values)) (list_any is_outside values) (list_any (λ p. is_long p.0.size p.1) (zip t.columns values))
tests t values is = passed _ _ _ _ _ _ _ _ is

pub key_within : (t : Table) (values : List Value) → first_refusal (insert_refusals t values) ≡ None → is_integer (key_of t values) ≡ true
key_within t values is = value_within values t.key (tests t values is).second

pub have_row : (t : Table) (values : List Value) → IsPlain t → first_refusal (insert_refusals t values) ≡ None → HaveRow values
have_row t values plain is =
    let ok = tests t values is in
    let count : length values ≡ length t.columns = counted (length values) (length t.columns) _ ok.first in
    record {
      few = omega (arith, count, plain.few);
      fit = All-from_recursion HasBytes values (all_fit t.columns values plain.sizes count ok.second ok.third);
    }

abbrev first_of_four : Bool → Bool → Bool → Bool → Option Reply
first_of_four a b c d = first_refusal ((a, reply.WrongType) ∷ (b, reply.Overflow) ∷ (c, reply.TooLong) ∷ (d, reply.KeyTaken) ∷ [])

pub first_same : (a p b q c r d s : Bool) → a ≡ p → b ≡ q → c ≡ r → d ≡ s → first_of_four a b c d ≡ first_of_four p q r s
first_same a p b q c r d s e f g h =
    ap (λ x. first_of_four x b c d) e ∙ ap (λ x. first_of_four p x c d) f ∙ ap (λ x. first_of_four p q x d) g ∙ ap (λ x. first_of_four p q r x) h
