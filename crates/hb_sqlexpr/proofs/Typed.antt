-- Where the row fits and the types agree, an expression has a value without a limit, of its kind.
use Rattle.std.proofs.Common.{◌≡◌, ℕ, suc, ◌<◌, ◌+◌, ℤ, pos, ◌+ℤ◌, ◌-ℤ◌, ◌*ℤ◌, Bool, true, false, not, cond, List, [], ◌∷◌, length, Some, None, refl, sym, ap, ◌∙◌, subst, arith}
use Rattle.std.specs.Prelude.{◌≢◌, ◌==◌, if◌then◌else◌, Option, option_map, option_and_then, slice_get, position}
use Rattle.std.specs.List.{find, prefix_len, list_all}
use Rattle.std.specs.Str.{bytes_eq}
use Rattle.std.proofs.lemmas.Bool.{lt-ltb, eqb-true}
use Rattle.hb_types.specs.declared.value.Value.{Value}
use Rattle.hb_types.specs.declared.value.Value.TheVariants as value
use Rattle.hb_types.specs.declared.value.Column.{Column}
use Rattle.hb_types.specs.Numbers.{is_integer}
use Rattle.hb_model.specs.declared.expression.Expr.{Expr, roll-Expr, map-Expr, ind-Expr, fold_out-Expr}
use Rattle.hb_model.specs.declared.expression.Expr.TheOpen.{Expr-F}
use Rattle.hb_model.specs.declared.expression.Expr.TheVariants as expr
use Rattle.hb_model.specs.declared.expression.Expr.TheVariants.{outs-Int, outs-Text, outs-Name, outs-Neg, outs-Add, outs-Sub, outs-Mul, rolls-Int, rolls-Text, rolls-Name, rolls-Neg, rolls-Add, rolls-Sub, rolls-Mul}
use Rattle.hb_model.specs.Kinds.{Kind, number, letters, kind_of_column, kind_of_value, kind_of, numbers}
use Rattle.hb_model.specs.Valid.{Fits, FitsAll}
use Rattle.hb_model.specs.Values.{both, value_of}
use Rattle.hb_sqlexpr.specs.Exact.{exactly, exact_of}
use Rattle.hb_sqlexpr.proofs.ExactLevels.{exact_of-Int, exact_of-Text, exact_of-Name, exact_of-Neg, exact_of-Add, exact_of-Sub, exact_of-Mul, value_limited}

-- there is a value, of this kind
abbrev pub HasKind : Option Value → Kind → Type 0
HasKind None k = ⊥
HasKind (Some v) k = kind_of_value v ≡ k

-- ---- names

not_zero : (n : ℕ) → n ≢ 0 → (t : Bool) → (n == 0) ≡ t → (n == 0) ≡ false
not_zero n differs true e = absurd (differs (eqb-true n 0 e))
not_zero n differs false e = e

fits_kind : (c : Column) (v : Value) → Fits c v → kind_of_value v ≡ kind_of_column c
fits_kind c (value.Int n) fits = sym (ap (λ (s : ℕ). if s == 0 then number else letters) fits.0)
fits_kind c (value.Text t) fits = sym (ap (λ (b : Bool). if b then number else letters) (not_zero c.size fits.1 (c.size == 0) refl))

abbrev StandsAt : ℕ → List Column → List Value → Kind → Type 0
StandsAt m cs vs k = (m < length cs) × HasKind (slice_get vs m) k

step_named : (b : Bool) (m : ℕ) (c : Column) (v : Value) (cs : List Column) (vs : List Value) (o : Option Column) (k : Kind) → Fits c v → (option_map kind_of_column o ≡ Some k → StandsAt m cs vs k)
    → option_map kind_of_column (cond b (Some c) o) ≡ Some k → StandsAt (cond (not b) (1 + m) 0) (c ∷ cs) (v ∷ vs) k
step_named true m c v cs vs o k fits behind e = (omega arith, fits_kind c v fits ∙ (let f : kind_of_column c ≡ k = cc in f))
step_named false m c v cs vs o k fits behind e = (omega (arith, (behind e).0), (let next : 1 + m ≡ suc m = omega arith in rw next (behind e).1))

stands_at : (p : Column → Bool) (cs : List Column) (vs : List Value) (k : Kind) → FitsAll cs vs → option_map kind_of_column (find p cs) ≡ Some k → StandsAt (prefix_len (λ c. not (p c)) cs) cs vs k
stands_at p [] vs k fits e = absurd cc
stands_at p (c ∷ cs) [] k fits e = absurd fits
stands_at p (c ∷ cs) (v ∷ vs) k fits e = step_named (p c) (prefix_len (λ c. not (p c)) cs) c v cs vs (find p cs) k fits.0 (stands_at p cs vs k fits.1) e

named_kind : (p : Column → Bool) (cs : List Column) (vs : List Value) (k : Kind) → FitsAll cs vs → option_map kind_of_column (find p cs) ≡ Some k → HasKind (option_and_then (slice_get vs) (position p cs)) k
named_kind p cs vs k fits e =
    let at = stands_at p cs vs k fits e in
    rw (lt-ltb (prefix_len (λ c. not (p c)) cs) (length cs) at.0) at.1

-- ---- operations

number_parts : (x y : Option Kind) (k : Kind) → numbers x y ≡ Some k → (x ≡ Some number) × (y ≡ Some number) × (number ≡ k)
number_parts (Some number) (Some number) k e = (refl, refl, cc)
number_parts (Some number) (Some letters) k e = absurd cc
number_parts (Some number) None k e = absurd cc
number_parts (Some letters) y k e = absurd cc
number_parts None y k e = absurd cc

operated_kind : (f : ℤ → ℤ → ℤ) (a b : Option Value) → HasKind a number → HasKind b number → HasKind (both (exactly f) a b) number
operated_kind f (Some (value.Int a)) (Some (value.Int b)) p q = refl
operated_kind f (Some (value.Int a)) (Some (value.Text b)) p q = absurd cc
operated_kind f (Some (value.Int a)) None p q = absurd q
operated_kind f (Some (value.Text a)) b p q = absurd cc
operated_kind f None b p q = absurd p

module _ (columns : List Column) (row : List Value) (fits : FitsAll columns row) where
  abbrev IsThere : Expr → Type 0
  IsThere e = (k : Kind) → kind_of columns e ≡ Some k → HasKind (exact_of columns row e).result k

  kind-Int : (n : ℤ) → kind_of columns (expr.Int n) ≡ Some number
  unfolding kind_of
  kind-Int n = rw (fold_out-Expr, outs-Int) refl

  kind-Text : (t : List ℕ) → kind_of columns (expr.Text t) ≡ Some letters
  unfolding kind_of
  kind-Text t = rw (fold_out-Expr, outs-Text) refl

  kind-Name : (name : List ℕ) → kind_of columns (expr.Name name) ≡ option_map kind_of_column (find (λ c. bytes_eq c.name name) columns)
  unfolding kind_of
  kind-Name name = rw (fold_out-Expr, outs-Name) refl

  kind-Neg : (a : Expr) → kind_of columns (expr.Neg a) ≡ numbers (kind_of columns a) (kind_of columns a)
  unfolding kind_of
  kind-Neg a = rw (fold_out-Expr, outs-Neg) refl

  kind-Add : (a b : Expr) → kind_of columns (expr.Add a b) ≡ numbers (kind_of columns a) (kind_of columns b)
  unfolding kind_of
  kind-Add a b = rw (fold_out-Expr, outs-Add) refl

  kind-Sub : (a b : Expr) → kind_of columns (expr.Sub a b) ≡ numbers (kind_of columns a) (kind_of columns b)
  unfolding kind_of
  kind-Sub a b = rw (fold_out-Expr, outs-Sub) refl

  kind-Mul : (a b : Expr) → kind_of columns (expr.Mul a b) ≡ numbers (kind_of columns a) (kind_of columns b)
  unfolding kind_of
  kind-Mul a b = rw (fold_out-Expr, outs-Mul) refl

  there-Int : (n : ℤ) → IsThere (expr.Int n)
  there-Int n k e = let f : Some number ≡ Some k = sym (kind-Int n) ∙ e in rw (exact_of-Int columns row n) cc

  there-Text : (t : List ℕ) → IsThere (expr.Text t)
  there-Text t k e = let f : Some letters ≡ Some k = sym (kind-Text t) ∙ e in rw (exact_of-Text columns row t) cc

  there-Name : (name : List ℕ) → IsThere (expr.Name name)
  there-Name name k e = rw (exact_of-Name columns row name) (named_kind (λ c. bytes_eq c.name name) columns row k fits (sym (kind-Name name) ∙ e))

  operation : (f : ℤ → ℤ → ℤ) (ra rb : Option Value) (ka kb : Option Kind) (k : Kind) → numbers ka kb ≡ Some k → ((k : Kind) → ka ≡ Some k → HasKind ra k) → ((k : Kind) → kb ≡ Some k → HasKind rb k) → HasKind (both (exactly f) ra rb) k
  operation f ra rb ka kb k e a b =
      let parts = number_parts ka kb k e in
      subst (HasKind (both (exactly f) ra rb)) parts.2 (operated_kind f ra rb (a number parts.0) (b number parts.1))

  there-Neg : (a : Expr) → IsThere a → IsThere (expr.Neg a)
  there-Neg a p k e =
      rw (exact_of-Neg columns row a)
      (operation ◌-ℤ◌ (Some (value.Int (pos 0))) (exact_of columns row a).result (Some number) (kind_of columns a) k (first_number (kind_of columns a) k (sym (kind-Neg a) ∙ e)) (λ k e. (let f : number ≡ k = cc in f)) p)
    where
      first_number : (x : Option Kind) (k : Kind) → numbers x x ≡ Some k → numbers (Some number) x ≡ Some k
      first_number x k e = let parts = number_parts x x k e in subst (λ (y : Option Kind). numbers y x ≡ Some k) parts.0 e

  there-Add : (a b : Expr) → IsThere a → IsThere b → IsThere (expr.Add a b)
  there-Add a b p q k e = rw (exact_of-Add columns row a b) (operation ◌+ℤ◌ (exact_of columns row a).result (exact_of columns row b).result (kind_of columns a) (kind_of columns b) k (sym (kind-Add a b) ∙ e) p q)

  there-Sub : (a b : Expr) → IsThere a → IsThere b → IsThere (expr.Sub a b)
  there-Sub a b p q k e = rw (exact_of-Sub columns row a b) (operation ◌-ℤ◌ (exact_of columns row a).result (exact_of columns row b).result (kind_of columns a) (kind_of columns b) k (sym (kind-Sub a b) ∙ e) p q)

  there-Mul : (a b : Expr) → IsThere a → IsThere b → IsThere (expr.Mul a b)
  there-Mul a b p q k e = rw (exact_of-Mul columns row a b) (operation ◌*ℤ◌ (exact_of columns row a).result (exact_of columns row b).result (kind_of columns a) (kind_of columns b) k (sym (kind-Mul a b) ∙ e) p q)

  each_level : (A : Type 0) (part : A → Expr) → ((a : A) → IsThere (part a)) → (y : Expr-F A) → IsThere (roll-Expr (map-Expr A Expr part y))
  each_level A part all (Expr-F.Int n) = subst IsThere (sym (rolls-Int n)) (there-Int n)
  each_level A part all (Expr-F.Text t) = subst IsThere (sym (rolls-Text t)) (there-Text t)
  each_level A part all (Expr-F.Name name) = subst IsThere (sym (rolls-Name name)) (there-Name name)
  each_level A part all (Expr-F.Neg a) = subst IsThere (sym (rolls-Neg (part a))) (there-Neg (part a) (all a))
  each_level A part all (Expr-F.Add a b) = subst IsThere (sym (rolls-Add (part a) (part b))) (there-Add (part a) (part b) (all a) (all b))
  each_level A part all (Expr-F.Sub a b) = subst IsThere (sym (rolls-Sub (part a) (part b))) (there-Sub (part a) (part b) (all a) (all b))
  each_level A part all (Expr-F.Mul a b) = subst IsThere (sym (rolls-Mul (part a) (part b))) (there-Mul (part a) (part b) (all a) (all b))

  pub value_there : (e : Expr) → IsThere e
  value_there = ind-Expr IsThere (λ x y is. subst (λ z. IsThere (roll-Expr z)) is (each_level _ (λ e. e.0) (λ e. e.1) y))

has_kind_false : (t : Bool) (o : Option Value) (k : Kind) → HasKind o k → cond t o None ≡ None → t ≡ false
has_kind_false true None k has e = absurd has
has_kind_false true (Some v) k has e = absurd cc
has_kind_false false o k has e = refl

pub value_outside : (columns : List Column) (row : List Value) (e : Expr) (k : Kind) → FitsAll columns row → kind_of columns e ≡ Some k → value_of columns row e ≡ None → list_all is_integer (exact_of columns row e).numbers ≡ false
value_outside columns row e k fits kind none =
    has_kind_false (list_all is_integer (exact_of columns row e).numbers) (exact_of columns row e).result k (value_there columns row fits e k kind) (sym (value_limited columns row e) ∙ none)
