-- Values that fit their columns have a row, and numbers within INTEGER.
use Rattle.std.proofs.Common.{◌≡◌, ℕ, ◌==◌, Bool, true, false, not, ◌&&◌, List, [], ◌∷◌, length, Some, None, Option, All, MatchOption, refl, ap, arith}
use Rattle.std.specs.Prelude.{⊤, option_map, if◌then◌else◌, filter, filter_map, fold, cond}
use Rattle.std.specs.List.{cons_option, list_any, list_all, zip, AllByRecursion}
use Rattle.std.proofs.lemmas.Bool.Decides.{nat_tests}
use Rattle.std.proofs.lemmas.List.Elements.{recursion_from_All}
use Rattle.hb_types.specs.declared.change.Stored.{Stored}
use Rattle.hb_types.specs.declared.value.Value.{Value}
use Rattle.hb_types.specs.declared.value.Value.TheVariants.{Int, Text}
use Rattle.hb_types.specs.declared.value.Column.{Column}
use Rattle.hb_model.specs.declared.reply.Reply.TheVariants as reply
use Rattle.std.specs.Ordering.{int_cmp, is_lt}
use Rattle.hb_types.specs.Lists.{Each}
use Rattle.hb_types.specs.Rows.{HaveRow, IsRow, row_bytes, values_in}
use Rattle.hb_model.specs.declared.table.Table.{Table}
use Rattle.hb_model.specs.Kinds.{number, letters, same_kind, kind_of_column, kind_of_value}
use Rattle.hb_model.specs.Refusals.{first_refusal, insert_refusals, values_typed, is_outside}
use Rattle.hb_model.specs.Rows.{is_long}
use Rattle.hb_model.specs.Valid.{Fits, FitsAll}
use Rattle.hb_talk.specs.Plans.{Lying, by_key, lying, lying_rows}
use Rattle.hb_planrows.specs.PlanRows.{IsPlain, rows_in}
use Rattle.hb_planrows.proofs.Accepted.{have_row}
use Rattle.hb_planrows.proofs.RowSizes.{is_row}
use Rattle.hb_sqlrow.specs.Narrow.{AreNarrow}
use Rattle.hb_sqlrow.proofs.NarrowRows.{fitting_narrow}
use Rattle.hb_endings.specs.Rows.{AreOf, IsAtServer, IsFit, Suits}

-- ---- a row that fits is accepted by a table without rows

kind_fits : (c : Column) (v : Value) → Fits c v → same_kind (kind_of_column c) (kind_of_value v) ≡ true
kind_fits c (Int n) fits = ap (λ s. same_kind (if s == 0 then number else letters) number) fits.0
kind_fits c (Text t) fits =
    let some : (c.size == 0) ≡ false = grind (arith, nat_tests, fits.1) in
    ap (λ b. same_kind (if b then number else letters) letters) some

outside_fits : (c : Column) (v : Value) → Fits c v → is_outside v ≡ false
outside_fits c (Int n) fits = ap not fits.1
outside_fits c (Text t) fits = refl

long_fits : (c : Column) (v : Value) → Fits c v → is_long c.size v ≡ false
long_fits c (Int n) fits = refl
long_fits c (Text t) fits = grind (arith, nat_tests, fits.0)

record Passes (cs : List Column) (vs : List Value) : Type 0 where
  count : length vs ≡ length cs
  typed : list_all (λ p. same_kind (kind_of_column p.0) (kind_of_value p.1)) (zip cs vs) ≡ true
  inside : list_any is_outside vs ≡ false
  short : list_any (λ p. is_long p.0.size p.1) (zip cs vs) ≡ false

passes : (cs : List Column) (vs : List Value) → FitsAll cs vs → Passes cs vs
passes [] [] fits = record { count = refl; typed = refl; inside = refl; short = refl }
passes [] (v ∷ vs) fits = absurd fits
passes (c ∷ cs) [] fits = absurd fits
passes (c ∷ cs) (v ∷ vs) fits =
    let rest = passes cs vs fits.1 in
    record {
      count = omega (arith, rest.count);
      typed = rw (kind_fits c v fits.0) rest.typed;
      inside = rw (outside_fits c v fits.0) rest.inside;
      short = rw (long_fits c v fits.0) rest.short;
    }

abbrev without_rows : Table → Table
without_rows t = record t { rows = [] }

typed_free : (n m : ℕ) (b : Bool) → n ≡ m → b ≡ true → not ((n == m) && b) ≡ false
typed_free n m b same is = grind (arith, nat_tests)

accepted : (t : Table) (vs : List Value) → FitsAll t.columns vs → first_refusal (insert_refusals (without_rows t) vs) ≡ None
accepted t vs fits =
    let ok = passes t.columns vs fits in
    let typed : not (values_typed t vs) ≡ false = typed_free (length vs) (length t.columns) _ ok.count ok.typed in
    λ i. first_refusal ((typed i, reply.WrongType) ∷ (ok.inside i, reply.Overflow) ∷ (ok.short i, reply.TooLong) ∷ (false, reply.KeyTaken) ∷ [])

plain_too : (t : Table) → IsPlain t → IsPlain (without_rows t)
plain_too t plain = record { few = plain.few; sizes = plain.sizes; key = plain.key }

pub fits_have : (t : Table) (vs : List Value) → IsPlain t → FitsAll t.columns vs → HaveRow vs
fits_have t vs plain fits = have_row (without_rows t) vs (plain_too t plain) (accepted t vs fits)

pub fits_row : (t : Table) (vs : List Value) → IsPlain t → FitsAll t.columns vs → IsRow (row_bytes vs)
fits_row t vs plain fits = is_row (without_rows t) vs (plain_too t plain) (accepted t vs fits)

-- ---- rows with their places

all_fits : (t : Table) (ls : List Lying) → Each (IsFit t) ls → Each (FitsAll t.columns) (rows_in ls)
all_fits t [] each = tt
all_fits t (l ∷ ls) each = (each.0.1.1, all_fits t ls each.1)

pub all_narrow : (t : Table) (ls : List Lying) → Each (IsFit t) ls → AreNarrow (rows_in ls)
all_narrow t ls each = fitting_narrow t.columns (rows_in ls) (all_fits t ls each)

-- what holds of each item, of those that a test passes
pub each_passed : {A : Type 0} (P : A → Type 0) (test : A → Bool) (xs : List A) → Each P xs → Each P (filter test xs)
each_passed P test [] each = tt
each_passed P test (x ∷ xs) each = elim (test x) as (λ b. Each P (cond b (x ∷ filter test xs) (filter test xs))) [
  | true ↦ (each.0, each_passed P test xs each.1)
  | false ↦ each_passed P test xs each.1
]

by_key_each : (P : Lying → Type 0) (l : Lying) (ls : List Lying) → P l → Each P ls → Each P (by_key l ls)
by_key_each P l [] here each = (here, tt)
by_key_each P l (m ∷ ms) here each = elim (is_lt (int_cmp l.0.key m.0.key)) as (λ b. Each P (cond b (l ∷ m ∷ ms) (m ∷ by_key l ms))) [
  | true ↦ (here, each)
  | false ↦ (each.0, by_key_each P l ms here each.1)
]

sorted_each : (P : Lying → Type 0) (sorted ls : List Lying) → Each P sorted → Each P ls → Each P (fold (λ ls l. by_key l ls) sorted ls)
sorted_each P sorted [] done each = done
sorted_each P sorted (l ∷ ls) done each = sorted_each P (by_key l sorted) ls (by_key_each P l sorted each.0 done) each.1

abbrev suits_told : Table → Stored → Type 0
suits_told t r = IsAtServer r.place × MatchOption (values_in r.row) ⊤ (FitsAll t.columns)

-- the row, if its bytes are one
suits_if : (t : Table) (r : Stored) (o : Option (List Value)) (ls : List Lying) → IsAtServer r.place → MatchOption o ⊤ (FitsAll t.columns) → Each (Suits t) ls
    → Each (Suits t) (cons_option (option_map (λ values. (r.place, values)) o) ls)
suits_if t r None ls place fits each = each
suits_if t r (Some values) ls place fits each = ((place, fits), each)

told_each : (t : Table) (rows : List Stored) → AllByRecursion (λ r. IsRow r.row × IsAtServer r.place × MatchOption (values_in r.row) ⊤ (FitsAll t.columns)) rows
    → Each (Suits t) (filter_map lying rows)
told_each t [] all = tt
told_each t (r ∷ rs) all = suits_if t r (values_in r.row) (filter_map lying rs) all.0.1 all.0.2 (told_each t rs all.1)

pub lying_suit : (t : Table) (rows : List Stored) → AreOf t rows → Each (Suits t) (lying_rows rows)
lying_suit t rows all = sorted_each (Suits t) [] (filter_map lying rows) tt (told_each t rows (recursion_from_All _ rows all))

pub are_rows : (t : Table) (rows : List Stored) → AreOf t rows → All (λ r. IsRow r.row) rows
are_rows t rows all i d lt = (all i d lt).0
