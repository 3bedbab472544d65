-- What assignments make of values within INTEGER is within INTEGER.
use Rattle.std.proofs.Common.{◌≡◌, ℕ, zero, suc, ℤ, pos, ◌+ℤ◌, ◌-ℤ◌, ◌*ℤ◌, List, [], ◌∷◌, Option, Some, None, Bool, true, false, cond, not, refl, subst, sym, ap}
use Rattle.std.specs.Prelude.{⊤, fold, MatchOption, option_and_then, slice_get, slice_set}
use Rattle.std.specs.List.{list_any}
use Rattle.hb_types.specs.declared.value.Column.{Column}
use Rattle.hb_types.specs.declared.value.Value.{Value}
use Rattle.hb_types.specs.declared.value.Value.TheVariants as value
use Rattle.hb_types.specs.Numbers.{is_integer}
use Rattle.hb_model.specs.declared.expression.Expr.{Expr, roll-Expr, map-Expr, ind-Expr, fold_out-Expr}
use Rattle.hb_model.specs.declared.expression.Expr.TheOpen.{Expr-F}
use Rattle.hb_model.specs.declared.expression.Expr.TheVariants as expr
use Rattle.hb_model.specs.declared.expression.Expr.TheVariants.{outs-Int, outs-Text, outs-Name, outs-Neg, outs-Add, outs-Sub, outs-Mul, rolls-Int, rolls-Text, rolls-Name, rolls-Neg, rolls-Add, rolls-Sub, rolls-Mul}
use Rattle.hb_model.specs.declared.statement.Set.{Set}
use Rattle.hb_model.specs.declared.table.Table.{Table}
use Rattle.hb_model.specs.Refusals.{is_outside}
use Rattle.hb_model.specs.Rows.{assigned, put_value}
use Rattle.hb_model.specs.Values.{arithmetic, both, place_of, value_of, within}
use Rattle.hb_model.proofs.ValuesBack.{none_of_both}

-- no number outside INTEGER
abbrev AreInside : List Value → Type 0
AreInside row = list_any is_outside row ≡ false

abbrev IsInside : Option Value → Type 0
IsInside o = MatchOption o ⊤ (λ v. is_outside v ≡ false)

-- ---- the value of an expression

limited : (b : Bool) (n : ℤ) → is_integer n ≡ b → IsInside (cond b (Some (value.Int n)) None)
limited true n is = ap not is
limited false n is = tt

within_inside : (n : ℤ) → IsInside (within n)
within_inside n = limited (is_integer n) n refl

operated : (f : ℤ → ℤ → ℤ) (a b : Option Value) → IsInside (both (arithmetic f) a b)
operated f (Some (value.Int a)) (Some (value.Int b)) = within_inside (f a b)
operated f (Some (value.Int a)) (Some (value.Text b)) = tt
operated f (Some (value.Int a)) None = tt
operated f (Some (value.Text a)) (Some b) = tt
operated f (Some (value.Text a)) None = tt
operated f None b = tt

member_inside : (row : List Value) (k : ℕ) → AreInside row → IsInside (slice_get row k)
member_inside [] k all = tt
member_inside (v ∷ vs) zero all = (none_of_both (is_outside v) (list_any is_outside vs) all).0
member_inside (v ∷ vs) (suc k) all = member_inside vs k (none_of_both (is_outside v) (list_any is_outside vs) all).1

named_inside : (row : List Value) (o : Option ℕ) → AreInside row → IsInside (option_and_then (slice_get row) o)
named_inside row None all = tt
named_inside row (Some k) all = member_inside row k all

module _ (columns : List Column) (row : List Value) (all : AreInside row) where
  abbrev Ends : Expr → Type 0
  Ends e = IsInside (value_of columns row e)

  ends-Int : (n : ℤ) → Ends (expr.Int n)
  unfolding value_of
  ends-Int n = rw (fold_out-Expr, outs-Int) (within_inside n)

  ends-Text : (t : List ℕ) → Ends (expr.Text t)
  unfolding value_of
  ends-Text t = rw (fold_out-Expr, outs-Text) refl

  ends-Name : (name : List ℕ) → Ends (expr.Name name)
  unfolding value_of
  ends-Name name = rw (fold_out-Expr, outs-Name) (named_inside row (place_of columns name) all)

  ends-Neg : (a : Expr) → Ends (expr.Neg a)
  unfolding value_of
  ends-Neg a = rw (fold_out-Expr, outs-Neg) (operated ◌-ℤ◌ (within (pos 0)) (value_of columns row a))

  ends-Add : (a b : Expr) → Ends (expr.Add a b)
  unfolding value_of
  ends-Add a b = rw (fold_out-Expr, outs-Add) (operated ◌+ℤ◌ (value_of columns row a) (value_of columns row b))

  ends-Sub : (a b : Expr) → Ends (expr.Sub a b)
  unfolding value_of
  ends-Sub a b = rw (fold_out-Expr, outs-Sub) (operated ◌-ℤ◌ (value_of columns row a) (value_of columns row b))

  ends-Mul : (a b : Expr) → Ends (expr.Mul a b)
  unfolding value_of
  ends-Mul a b = rw (fold_out-Expr, outs-Mul) (operated ◌*ℤ◌ (value_of columns row a) (value_of columns row b))

  each_level : (A : Type 0) (part : A → Expr) (y : Expr-F A) → Ends (roll-Expr (map-Expr A Expr part y))
  each_level A part (Expr-F.Int n) = subst Ends (sym (rolls-Int n)) (ends-Int n)
  each_level A part (Expr-F.Text t) = subst Ends (sym (rolls-Text t)) (ends-Text t)
  each_level A part (Expr-F.Name name) = subst Ends (sym (rolls-Name name)) (ends-Name name)
  each_level A part (Expr-F.Neg a) = subst Ends (sym (rolls-Neg (part a))) (ends-Neg (part a))
  each_level A part (Expr-F.Add a b) = subst Ends (sym (rolls-Add (part a) (part b))) (ends-Add (part a) (part b))
  each_level A part (Expr-F.Sub a b) = subst Ends (sym (rolls-Sub (part a) (part b))) (ends-Sub (part a) (part b))
  each_level A part (Expr-F.Mul a b) = subst Ends (sym (rolls-Mul (part a) (part b))) (ends-Mul (part a) (part b))

  value_inside : (e : Expr) → Ends e
  value_inside = ind-Expr Ends (λ x y is. subst (λ z. Ends (roll-Expr z)) is (each_level _ (λ e. e.0) y))

-- ---- assignments

set_inside : (row : List Value) (k : ℕ) (v : Value) → is_outside v ≡ false → AreInside row → AreInside (slice_set row k v)
set_inside [] k v one all = refl
set_inside (x ∷ xs) zero v one all = rw one (none_of_both (is_outside x) (list_any is_outside xs) all).1
set_inside (x ∷ xs) (suc k) v one all =
    let parts = none_of_both (is_outside x) (list_any is_outside xs) all in rw parts.0 (set_inside xs k v one parts.1)

put_inside : (row : List Value) (o : Option ℕ) (v : Option Value) → IsInside v → AreInside row → AreInside (put_value row o v)
put_inside row (Some k) (Some v) one all = set_inside row k v one all
put_inside row (Some k) None one all = all
put_inside row None v one all = all

pub assigned_inside : (t : Table) (sets : List Set) (row : List Value) → AreInside row → AreInside (assigned t sets row)
assigned_inside t sets row all = onto sets row all
  where
    onto : (sets : List Set) (new : List Value) → AreInside new
        → AreInside (fold (λ new (s : Set). put_value new (place_of t.columns s.name) (value_of t.columns row s.value)) new sets)
    onto [] new are = are
    onto (s ∷ ss) new are =
        onto ss (put_value new (place_of t.columns s.name) (value_of t.columns row s.value))
        (put_inside new (place_of t.columns s.name) (value_of t.columns row s.value) (value_inside t.columns row all s.value) are)
