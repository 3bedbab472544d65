-- What assignments that are accepted make of a row that fits is a row that fits.
use Rattle.std.proofs.Common.{◌≡◌, ℕ, zero, suc, ◌+◌, ◌≤◌, ◌==◌, ℤ, pos, ◌-ℤ◌, ◌+ℤ◌, ◌*ℤ◌, Bool, true, false, true≢false, not, ◌&&◌, ◌||◌, cond, nat_lt, List, [], ◌∷◌, length, Option, Some, None, MatchOption, refl, ap, sym, ◌∙◌, subst, arith}
use Rattle.std.specs.Prelude.{⊤, ◌≢◌, if◌then◌else◌, is_some, option_map, option_and_then, unwrap_or, slice_get, fold}
use Rattle.std.specs.List.{list_all, list_any, prefix_len}
use Rattle.std.specs.Option.{option_or}
use Rattle.std.specs.Str.{bytes_eq}
use Rattle.std.proofs.lemmas.Bool.Decides.{nat_tests}
use Rattle.hb_types.specs.declared.value.Value.{Value}
use Rattle.hb_types.specs.declared.value.Value.TheVariants as value
use Rattle.hb_types.specs.declared.value.Column.{Column}
use Rattle.hb_types.specs.Lists.{Each}
use Rattle.hb_types.specs.Numbers.{is_integer}
use Rattle.hb_model.specs.declared.expression.Expr.{Expr, fold-Expr, map-Expr, out-Expr, fold_out-Expr}
use Rattle.hb_model.specs.declared.expression.Expr.TheOpen.{Expr-F}
use Rattle.hb_model.specs.declared.reply.Reply.TheVariants as reply
use Rattle.hb_model.specs.declared.statement.Set.{Set}
use Rattle.hb_model.specs.declared.table.Table.{Table}
use Rattle.hb_model.specs.Kinds.{Kind, number, letters, same_kind, kind_of_column, kind_of_value, kind_of}
use Rattle.hb_model.specs.Refusals.{has_kind, is_assignable}
use Rattle.hb_model.specs.Rows.{is_long, is_too_long, value_refusal, put_value, assigned, assigning_refusal}
use Rattle.hb_model.specs.Valid.{Fits, FitsAll}
use Rattle.hb_model.specs.Values.{both, arithmetic, within, place_of, value_of, value_step}
use Rattle.hb_sqlexpr.specs.Exact.{exact_of}
use Rattle.hb_sqlexpr.proofs.ExactLevels.{value_limited}
use Rattle.hb_sqlexpr.proofs.Typed.{HasKind, value_there}
use Rattle.hb_sqlrow.specs.Narrow.{IsNarrow}

-- ---- numbers of values are within INTEGER

abbrev MaybeNarrow : Option Value → Type 0
MaybeNarrow o = MatchOption o ⊤ IsNarrow

within_narrow : (b : Bool) (n : ℤ) → is_integer n ≡ b → MaybeNarrow (if b then Some (value.Int n) else None)
within_narrow true n is = is
within_narrow false n is = tt

both_narrow : (f : ℤ → ℤ → ℤ) (a b : Option Value) → MaybeNarrow (both (arithmetic f) a b)
both_narrow f (Some (value.Int a)) (Some (value.Int b)) = within_narrow (is_integer (f a b)) (f a b) refl
both_narrow f (Some (value.Int a)) (Some (value.Text b)) = tt
both_narrow f (Some (value.Text a)) (Some b) = tt
both_narrow f (Some a) None = tt
both_narrow f None b = tt

item_narrow : (cs : List Column) (row : List Value) (i : ℕ) → FitsAll cs row → MaybeNarrow (slice_get row i)
item_narrow cs [] i fits = tt
item_narrow [] (v ∷ vs) i fits = absurd fits
item_narrow (c ∷ cs) (value.Int n ∷ vs) zero fits = fits.0.1
item_narrow (c ∷ cs) (value.Text t ∷ vs) zero fits = tt
item_narrow (c ∷ cs) (v ∷ vs) (suc i) fits = item_narrow cs vs i fits.1

named_narrow : (cs : List Column) (row : List Value) (at : Option ℕ) → FitsAll cs row → MaybeNarrow (option_and_then (slice_get row) at)
named_narrow cs row None fits = tt
named_narrow cs row (Some i) fits = item_narrow cs row i fits

step_narrow : (cs : List Column) (row : List Value) (y : Expr-F (Option Value)) → FitsAll cs row → MaybeNarrow (value_step cs row y)
step_narrow cs row (Expr-F.Int n) fits = within_narrow (is_integer n) n refl
step_narrow cs row (Expr-F.Text t) fits = tt
step_narrow cs row (Expr-F.Name name) fits = named_narrow cs row (place_of cs name) fits
step_narrow cs row (Expr-F.Neg a) fits = both_narrow ◌-ℤ◌ (within (pos 0)) a
step_narrow cs row (Expr-F.Add a b) fits = both_narrow ◌+ℤ◌ a b
step_narrow cs row (Expr-F.Sub a b) fits = both_narrow ◌-ℤ◌ a b
step_narrow cs row (Expr-F.Mul a b) fits = both_narrow ◌*ℤ◌ a b

value_narrow : (cs : List Column) (row : List Value) (e : Expr) → FitsAll cs row → MaybeNarrow (value_of cs row e)
unfolding value_of
value_narrow cs row e fits = rw fold_out-Expr (step_narrow cs row (map-Expr Expr (Option Value) (fold-Expr (Option Value) (value_step cs row)) (out-Expr e)) fits)

-- ---- a value of a column's kind that isn't too long fits the column

some_of : (b : Bool) (o : Option Value) (v : Value) → cond b o None ≡ Some v → o ≡ Some v
some_of true o v is = is
some_of false o v is = absurd (true≢false (sym (ap is_some is)))

value_kind : (cs : List Column) (row : List Value) (e : Expr) (k : Kind) (v : Value) → FitsAll cs row → kind_of cs e ≡ Some k → value_of cs row e ≡ Some v → kind_of_value v ≡ k
value_kind cs row e k v fits kind is =
    let exact = some_of (list_all is_integer (exact_of cs row e).numbers) (exact_of cs row e).result v (sym (value_limited cs row e) ∙ is) in
    subst (λ (o : Option Value). HasKind o k) exact (value_there cs row fits e k kind)

zero_size : (b : Bool) → same_kind (if b then number else letters) number ≡ true → b ≡ true
zero_size true is = refl
zero_size false is = absurd (true≢false (sym is))

some_size : (b : Bool) → same_kind (if b then number else letters) letters ≡ true → b ≡ false
some_size true is = absurd (true≢false (sym is))
some_size false is = refl

is_zero : (n : ℕ) → (n == 0) ≡ true → n ≡ 0
is_zero n is = grind (arith, nat_tests)

is_some_size : (n : ℕ) → (n == 0) ≡ false → n ≢ 0
is_some_size n is same = absurd (true≢false (sym (ap (λ m. m == 0) same) ∙ is))

is_within : (n m : ℕ) → nat_lt n m ≡ false → m ≤ n
is_within n m is = grind (arith, nat_tests)

fits_value : (c : Column) (v : Value) → same_kind (kind_of_column c) (kind_of_value v) ≡ true → IsNarrow v → is_long c.size v ≡ false → Fits c v
fits_value c (value.Int n) kind narrow short = (is_zero c.size (zero_size (c.size == 0) kind), narrow)
fits_value c (value.Text t) kind narrow short = (is_within c.size (length t) short, is_some_size c.size (some_size (c.size == 0) kind))

-- ---- a value that is put where a name stands

both_true : (a b : Bool) → (a && b) ≡ true → (a ≡ true) × (b ≡ true)
both_true true b is = (refl, is)
both_true false b is = absurd (true≢false (sym is))

none_true : (a b : Bool) → (a || b) ≡ false → (a ≡ false) × (b ≡ false)
none_true true b is = absurd (true≢false is)
none_true false b is = (refl, is)

named_kind : (a b : Bool) → a ≡ true → (not a || b) ≡ true → b ≡ true
named_kind true b here is = is
named_kind false b here is = absurd (true≢false (sym here))

named_short : (a b : Bool) → a ≡ true → (a && b) ≡ false → b ≡ false
named_short true b here is = is
named_short false b here is = absurd (true≢false (sym here))

-- each column of this name takes the value
columns_take : (cs : List Column) (name : List ℕ) (v : Value) → IsNarrow v → list_all (λ c. not (bytes_eq c.name name) || same_kind (kind_of_column c) (kind_of_value v)) cs ≡ true
    → is_too_long cs name v ≡ false → Each (λ c. bytes_eq c.name name ≡ true → Fits c v) cs
columns_take [] name v narrow kinds short = tt
columns_take (c ∷ cs) name v narrow kinds short =
    let kind = both_true (not (bytes_eq c.name name) || same_kind (kind_of_column c) (kind_of_value v)) _ kinds in
    let long = none_true (bytes_eq c.name name && is_long c.size v) (list_any (λ c. bytes_eq c.name name && is_long c.size v) cs) short in
    ((λ here. fits_value c v (named_kind (bytes_eq c.name name) _ here kind.0) narrow (named_short (bytes_eq c.name name) _ here long.0)), columns_take cs name v narrow kind.1 long.1)

-- a value at a place, if it is within so many
abbrev put_below : ℕ → ℕ → List Value → Value → List Value
put_below m n vs v = put_value vs (cond (nat_lt m n) (Some m) None) (Some v)

put_behind : (b : Bool) (m : ℕ) (w v : Value) (vs : List Value) → put_value (w ∷ vs) (cond b (Some (suc m)) None) (Some v) ≡ w ∷ put_value vs (cond b (Some m) None) (Some v)
put_behind true m w v vs = refl
put_behind false m w v vs = refl

suc_below : (m n : ℕ) → nat_lt (suc m) (suc n) ≡ nat_lt m n
suc_below m n = by_case (nat_lt (suc m) (suc n)) (nat_lt m n) refl refl
  where
    by_case : (a b : Bool) → nat_lt (suc m) (suc n) ≡ a → nat_lt m n ≡ b → a ≡ b
    by_case true true above below = refl
    by_case false false above below = refl
    by_case true false above below = grind (arith, nat_tests)
    by_case false true above below = grind (arith, nat_tests)

put_later : (m n : ℕ) (w v : Value) (vs : List Value) → put_below (1 + m) (suc n) (w ∷ vs) v ≡ w ∷ put_below m n vs v
put_later m n w v vs =
    let one : 1 + m ≡ suc m = omega arith in
    ap (λ k. put_below k (suc n) (w ∷ vs) v) one ∙ ap (λ b. put_value (w ∷ vs) (cond b (Some (suc m)) None) (Some v)) (suc_below m n)
    ∙ put_behind (nat_lt m n) m w v vs

first_below : (n : ℕ) → nat_lt 0 (suc n) ≡ true
first_below n = by_case (nat_lt 0 (suc n)) refl
  where
    by_case : (b : Bool) → nat_lt 0 (suc n) ≡ b → b ≡ true
    by_case true is = refl
    by_case false is = grind (arith, nat_tests)

put_first : (n : ℕ) (w v : Value) (vs : List Value) → put_below 0 (suc n) (w ∷ vs) v ≡ v ∷ vs
put_first n w v vs = ap (λ b. put_value (w ∷ vs) (cond b (Some 0) None) (Some v)) (first_below n)

put_fits : (p : Column → Bool) (cs : List Column) (vs : List Value) (v : Value) → FitsAll cs vs → Each (λ c. p c ≡ true → Fits c v) cs
    → FitsAll cs (put_below (prefix_len (λ c. not (p c)) cs) (length cs) vs v)
put_fits p [] [] v fits take = tt
put_fits p [] (w ∷ vs) v fits take = absurd fits
put_fits p (c ∷ cs) [] v fits take = absurd fits
put_fits p (c ∷ cs) (w ∷ vs) v fits take = by_case (p c) refl (put_fits p cs vs v fits.1 take.1)
  where
    by_case : (b : Bool) → p c ≡ b → FitsAll cs (put_below (prefix_len (λ c. not (p c)) cs) (length cs) vs v)
        → FitsAll (c ∷ cs) (put_below (cond (not b) (1 + prefix_len (λ c. not (p c)) cs) 0) (suc (length cs)) (w ∷ vs) v)
    by_case true is rest = subst (FitsAll (c ∷ cs)) (sym (put_first (length cs) w v vs)) (take.0 is, fits.1)
    by_case false is rest = subst (FitsAll (c ∷ cs)) (sym (put_later (prefix_len (λ c. not (p c)) cs) (length cs) w v vs)) (fits.0, rest)

-- ---- assignments

abbrev has_name_kind : Table → List ℕ → Kind → Bool
has_name_kind t name k = list_all (λ c. not (bytes_eq c.name name) || same_kind (kind_of_column c) k) t.columns

kind_there : (t : Table) (name : List ℕ) (o : Option Kind) → unwrap_or (option_map (λ k. has_kind t k name) o) false ≡ true → (k : Kind) × (o ≡ Some k) × (has_name_kind t name k ≡ true)
kind_there t name None is = absurd (true≢false (sym is))
kind_there t name (Some k) is = (k, refl, is)

value_taken : (cs : List Column) (name : List ℕ) (o : Option Value) → value_refusal cs name o ≡ None → (v : Value) × (o ≡ Some v) × (is_too_long cs name v ≡ false)
value_taken cs name None none = absurd (true≢false (ap is_some none))
value_taken cs name (Some v) none = (v, refl, by_case (is_too_long cs name v) none)
  where
    by_case : (b : Bool) → (if b then Some reply.TooLong else None) ≡ None → b ≡ false
    by_case true none = absurd (true≢false (ap is_some none))
    by_case false none = refl

neither : {B : Type 0} (a b : Option B) → option_or a b ≡ None → (a ≡ None) × (b ≡ None)
neither None b none = (refl, none)
neither (Some x) b none = absurd (true≢false (ap is_some none))

one_fits : (t : Table) (s : Set) (row new : List Value) → FitsAll t.columns row → FitsAll t.columns new → is_assignable t s ≡ true
    → value_refusal t.columns s.name (value_of t.columns row s.value) ≡ None
    → FitsAll t.columns (put_value new (place_of t.columns s.name) (value_of t.columns row s.value))
one_fits t s row new fits before assignable accepted =
    let kind = kind_there t s.name (kind_of t.columns s.value) assignable in
    let given = value_taken t.columns s.name (value_of t.columns row s.value) accepted in
    let narrow : IsNarrow given.0 = subst MaybeNarrow given.1 (value_narrow t.columns row s.value fits) in
    let same : kind_of_value given.0 ≡ kind.0 = value_kind t.columns row s.value kind.0 given.0 fits kind.1 given.1 in
    let kinds : has_name_kind t s.name (kind_of_value given.0) ≡ true = ap (has_name_kind t s.name) same ∙ kind.2 in
    subst (λ (o : Option Value). FitsAll t.columns (put_value new (place_of t.columns s.name) o)) (sym given.1)
    (put_fits (λ c. bytes_eq c.name s.name) t.columns new given.0 before (columns_take t.columns s.name given.0 narrow kinds given.2))

all_fit : (t : Table) (sets : List Set) (row new : List Value) → FitsAll t.columns row → FitsAll t.columns new → list_all (is_assignable t) sets ≡ true → assigning_refusal t sets row ≡ None
    → FitsAll t.columns (fold (λ new s. put_value new (place_of t.columns s.name) (value_of t.columns row s.value)) new sets)
all_fit t [] row new fits before assignable accepted = before
all_fit t (s ∷ ss) row new fits before assignable accepted =
    let here = both_true (is_assignable t s) (list_all (is_assignable t) ss) assignable in
    let fine = neither (value_refusal t.columns s.name (value_of t.columns row s.value)) (assigning_refusal t ss row) accepted in
    all_fit t ss row (put_value new (place_of t.columns s.name) (value_of t.columns row s.value)) fits (one_fits t s row new fits before here.0 fine.0) here.1 fine.1

pub assigned_fits : (t : Table) (sets : List Set) (row : List Value) → FitsAll t.columns row → list_all (is_assignable t) sets ≡ true → assigning_refusal t sets row ≡ None
    → FitsAll t.columns (assigned t sets row)
assigned_fits t sets row fits assignable accepted = all_fit t sets row row fits fits assignable accepted
