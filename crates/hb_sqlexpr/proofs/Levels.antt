-- The value of an expression and the truth of a condition, level by level.
use Rattle.std.proofs.Common.{◌≡◌, ℕ, ℤ, pos, ◌+ℤ◌, ◌-ℤ◌, ◌*ℤ◌, List, Some, refl}
use Rattle.std.specs.Prelude.{not, ◌&&◌, ◌||◌, option_map}
use Rattle.hb_types.specs.declared.value.Value.{Value}
use Rattle.hb_types.specs.declared.value.Value.TheVariants as value
use Rattle.hb_types.specs.declared.value.Column.{Column}
use Rattle.hb_model.specs.declared.expression.Expr.{Expr, fold_out-Expr}
use Rattle.hb_model.specs.declared.expression.Expr.TheVariants as expr
use Rattle.hb_model.specs.declared.expression.Expr.TheVariants.{outs-Int, outs-Text, outs-Name, outs-Neg, outs-Add, outs-Sub, outs-Mul}
use Rattle.hb_model.specs.declared.condition.Op.{Op}
use Rattle.hb_model.specs.declared.condition.Pred.{Pred, fold_out-Pred}
use Rattle.hb_model.specs.declared.condition.Pred.TheVariants as pred
use Rattle.hb_model.specs.declared.condition.Pred.TheVariants.{outs-Test, outs-Not, outs-And, outs-Or}
use Rattle.hb_model.specs.Values.{agrees, value_cmp, holds_at, within, both, arithmetic, value_in, value_of}

pub value_of-Int : (columns : List Column) (row : List Value) (n : ℤ) → value_of columns row (expr.Int n) ≡ within n
unfolding value_of
value_of-Int columns row n = rw (fold_out-Expr, outs-Int) refl

pub value_of-Text : (columns : List Column) (row : List Value) (t : List ℕ) → value_of columns row (expr.Text t) ≡ Some (value.Text t)
unfolding value_of
value_of-Text columns row t = rw (fold_out-Expr, outs-Text) refl

pub value_of-Name : (columns : List Column) (row : List Value) (name : List ℕ) → value_of columns row (expr.Name name) ≡ value_in columns row name
unfolding value_of
value_of-Name columns row name = rw (fold_out-Expr, outs-Name) refl

pub value_of-Neg : (columns : List Column) (row : List Value) (a : Expr) → value_of columns row (expr.Neg a) ≡ both (arithmetic ◌-ℤ◌) (Some (value.Int (pos 0))) (value_of columns row a)
unfolding value_of
value_of-Neg columns row a = rw (fold_out-Expr, outs-Neg) refl

pub value_of-Add : (columns : List Column) (row : List Value) (a b : Expr) → value_of columns row (expr.Add a b) ≡ both (arithmetic ◌+ℤ◌) (value_of columns row a) (value_of columns row b)
unfolding value_of
value_of-Add columns row a b = rw (fold_out-Expr, outs-Add) refl

pub value_of-Sub : (columns : List Column) (row : List Value) (a b : Expr) → value_of columns row (expr.Sub a b) ≡ both (arithmetic ◌-ℤ◌) (value_of columns row a) (value_of columns row b)
unfolding value_of
value_of-Sub columns row a b = rw (fold_out-Expr, outs-Sub) refl

pub value_of-Mul : (columns : List Column) (row : List Value) (a b : Expr) → value_of columns row (expr.Mul a b) ≡ both (arithmetic ◌*ℤ◌) (value_of columns row a) (value_of columns row b)
unfolding value_of
value_of-Mul columns row a b = rw (fold_out-Expr, outs-Mul) refl

pub ruleset levels = (value_of-Int, value_of-Text, value_of-Name, value_of-Neg, value_of-Add, value_of-Sub, value_of-Mul)

-- ---- conditions

pub holds_at-Test : (columns : List Column) (row : List Value) (how : Op) (a b : Expr) → holds_at columns row (pred.Test how a b) ≡ both (λ x y. Some (agrees how (value_cmp x y))) (value_of columns row a) (value_of columns row b)
unfolding holds_at
holds_at-Test columns row how a b = rw (fold_out-Pred, outs-Test) refl

pub holds_at-Not : (columns : List Column) (row : List Value) (p : Pred) → holds_at columns row (pred.Not p) ≡ option_map not (holds_at columns row p)
unfolding holds_at
holds_at-Not columns row p = rw (fold_out-Pred, outs-Not) refl

pub holds_at-And : (columns : List Column) (row : List Value) (p q : Pred) → holds_at columns row (pred.And p q) ≡ both (λ x y. Some (x && y)) (holds_at columns row p) (holds_at columns row q)
unfolding holds_at
holds_at-And columns row p q = rw (fold_out-Pred, outs-And) refl

pub holds_at-Or : (columns : List Column) (row : List Value) (p q : Pred) → holds_at columns row (pred.Or p q) ≡ both (λ x y. Some (x || y)) (holds_at columns row p) (holds_at columns row q)
unfolding holds_at
holds_at-Or columns row p q = rw (fold_out-Pred, outs-Or) refl

pub ruleset truths = (holds_at-Test, holds_at-Not, holds_at-And, holds_at-Or)
