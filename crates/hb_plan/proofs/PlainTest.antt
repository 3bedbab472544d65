-- A test of a column against a short number is plain.
use Rattle.std.proofs.Common.{◌≡◌, ℕ, ℤ, Bool, true, false, ◌&&◌, List, refl, ◌∙◌}
use Rattle.hb_model.specs.Valid.{is_name}
use Rattle.hb_model.specs.Plain.{is_short, is_plain_expr, is_plain_pred}
use Rattle.hb_model.specs.declared.condition.Op.{Op}
use Rattle.hb_model.specs.declared.condition.Pred.{fold_out-Pred}
use Rattle.hb_model.specs.declared.condition.Pred.TheVariants as truth
use Rattle.hb_model.specs.declared.condition.Pred.TheVariants.{outs-Test}
use Rattle.hb_model.specs.declared.expression.Expr.{Expr, fold_out-Expr}
use Rattle.hb_model.specs.declared.expression.Expr.TheVariants as value
use Rattle.hb_model.specs.declared.expression.Expr.TheVariants.{outs-Int, outs-Name}

both : (a b : Bool) → a ≡ true → b ≡ true → (a && b) ≡ true
both true b h k = k
both false b h k = absurd (cc)

number : (z : ℤ) → is_plain_expr (value.Int z) ≡ is_short z
unfolding is_plain_expr
number z = rw (fold_out-Expr, outs-Int) refl

name : (t : List ℕ) → is_plain_expr (value.Name t) ≡ is_name t
unfolding is_plain_expr
name t = rw (fold_out-Expr, outs-Name) refl

test : (op : Op) (a b : Expr) → is_plain_pred (truth.Test op a b) ≡ (is_plain_expr a && is_plain_expr b)
unfolding is_plain_pred
test op a b = rw (fold_out-Pred, outs-Test) refl

pub test_is_plain : (op : Op) (t : List ℕ) (n : ℤ) → is_name t ≡ true → is_short n ≡ true → is_plain_pred (truth.Test op (value.Name t) (value.Int n)) ≡ true
test_is_plain op t n named short = test op (value.Name t) (value.Int n) ∙ both (is_plain_expr (value.Name t)) (is_plain_expr (value.Int n)) (name t ∙ named) (number n ∙ short)
