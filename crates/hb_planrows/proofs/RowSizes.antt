-- The row of values that a table takes is short enough for a page.
use Rattle.std.proofs.Common.{◌≡◌, ℕ, zero, suc, ◌+◌, ◌*◌, ◌≤◌, ◌==◌, Bool, true, false, true≢false, not, ◌&&◌, ℤ, List, [], ◌∷◌, ◌++◌, length, map, Some, None, MatchOption, refl, ap, sym, ◌∙◌, subst, arith, length-append}
use Rattle.std.specs.Prelude.{slice_get, if◌then◌else◌, is_some}
use Rattle.std.specs.List.{list_all, zip, AllByRecursion}
use Rattle.std.proofs.lemmas.Bool.Decides.{nat_tests}
use Rattle.std.proofs.lemmas.List.Elements.{recursion_from_All}
use Rattle.hb_types.specs.declared.value.Value.{Value}
use Rattle.hb_types.specs.declared.value.Value.TheVariants.{Int, Text}
use Rattle.hb_types.specs.declared.value.Column.{Column}
use Rattle.hb_types.specs.Lists.{joined}
use Rattle.hb_types.specs.Rows.{HasBytes, HaveRow, IsRow, row_bytes, value_bytes}
use Rattle.hb_model.specs.declared.table.Table.{Table}
use Rattle.hb_model.specs.Kinds.{number, letters, same_kind, kind_of_column, kind_of_value}
use Rattle.hb_model.specs.Refusals.{first_refusal, insert_refusals, values_typed}
use Rattle.hb_planrows.specs.PlanRows.{IsPlain}
use Rattle.hb_planrows.proofs.Accepted.{tests, have_row, counted}

integer_length : (n : ℤ) → length (value_bytes (Int n)) ≡ 5
integer_length n = refl

value_short : (v : Value) → HasBytes v → length (value_bytes v) ≤ 257
value_short (Int n) has = omega (arith, integer_length n)
value_short (Text t) has = omega (arith, has)

all_short : (vs : List Value) → AllByRecursion HasBytes vs → length (joined (map value_bytes vs)) ≤ 257 * length vs
all_short [] have = omega arith
all_short (v ∷ vs) have = omega (arith, length-append (value_bytes v) (joined (map value_bytes vs)), value_short v have.0, all_short vs have.1)

with_integer : (vs : List Value) (k : ℕ) (n : ℤ) → slice_get vs k ≡ Some (Int n) → AllByRecursion HasBytes vs
    → length (joined (map value_bytes vs)) + 252 ≤ 257 * length vs
with_integer [] k n is have = absurd (true≢false (sym (ap (λ o. is_some o) is)))
with_integer (v ∷ vs) zero n is have =
    let e : v ≡ Int n = cc in
    let five : length (value_bytes v) ≡ 5 = ap (λ w. length (value_bytes w)) e ∙ integer_length n in
    omega (arith, length-append (value_bytes v) (joined (map value_bytes vs)), five, all_short vs have.1)
with_integer (v ∷ vs) (suc k) n is have =
    omega (arith, length-append (value_bytes v) (joined (map value_bytes vs)), value_short v have.0, with_integer vs k n is have.1)

typed : (a b : ℕ) (rest : Bool) → not ((a == b) && rest) ≡ false → rest ≡ true
typed a b true is = refl
typed a b false is = grind (arith, nat_tests)

both : (a b : Bool) → (a && b) ≡ true → (a ≡ true) × (b ≡ true)
both true b is = (refl, is)
both false b is = absurd (true≢false (sym is))

integer_of : (c : Column) (v : Value) → c.size ≡ 0 → same_kind (kind_of_column c) (kind_of_value v) ≡ true → (n : ℤ) × (v ≡ Int n)
integer_of c (Int n) size alike = (n, refl)
integer_of c (Text t) size alike =
    let zero_size : kind_of_column c ≡ number = ap (λ s. if s == 0 then number else letters) size in
    absurd (true≢false (sym alike ∙ ap (λ k. same_kind k letters) zero_size))

key_integer : (cs : List Column) (vs : List Value) (k : ℕ) → length vs ≡ length cs
    → list_all (λ p. same_kind (kind_of_column p.0) (kind_of_value p.1)) (zip cs vs) ≡ true → MatchOption (slice_get cs k) ⊥ (λ c. c.size ≡ 0)
    → (n : ℤ) × (slice_get vs k ≡ Some (Int n))
key_integer [] vs k count alike key = absurd key
key_integer (c ∷ cs) [] k count alike key = absurd (omega (arith, count))
key_integer (c ∷ cs) (v ∷ vs) zero count alike key =
    let here = both (same_kind (kind_of_column c) (kind_of_value v)) _ alike in
    let it = integer_of c v key here.0 in
    (it.0, ap (λ w. Some w) it.1)
key_integer (c ∷ cs) (v ∷ vs) (suc k) count alike key =
    let here = both (same_kind (kind_of_column c) (kind_of_value v)) _ alike in
    key_integer cs vs k (omega (arith, count)) here.1 key

pub is_row : (t : Table) (values : List Value) → IsPlain t → first_refusal (insert_refusals t values) ≡ None → IsRow (row_bytes values)
is_row t values plain is =
    let ok = tests t values is in
    let have = have_row t values plain is in
    let count : length values ≡ length t.columns = counted (length values) (length t.columns) _ ok.first in
    let alike = typed (length values) (length t.columns) _ ok.first in
    let key = key_integer t.columns values t.key count alike plain.key in
    let size = with_integer values t.key key.0 key.1 (recursion_from_All HasBytes values have.fit) in
    (omega (arith, size, count, plain.few), (values, record { values_fit = have; spelled = refl }))
