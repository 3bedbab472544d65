-- The key of a point statement, level by level.
use Rattle.std.proofs.Common.{◌≡◌, ℕ, List, None, refl}
use Rattle.std.specs.Option.{option_or}
use Rattle.hb_model.specs.declared.expression.Expr.{Expr, out-Expr}
use Rattle.hb_model.specs.declared.expression.Expr.TheVariants.{outs-Int, outs-Text, outs-Name, outs-Neg, outs-Add, outs-Sub, outs-Mul}
use Rattle.hb_model.specs.declared.condition.Op.{Op}
use Rattle.hb_model.specs.declared.condition.Pred.{Pred, fold_out-Pred}
use Rattle.hb_model.specs.declared.condition.Pred.TheVariants as pred
use Rattle.hb_model.specs.declared.condition.Pred.TheVariants.{outs-Test, outs-Not, outs-And, outs-Or}
use Rattle.hb_model.specs.Rows.{key_tested, point_key}

pub ruleset opened = (outs-Int, outs-Text, outs-Name, outs-Neg, outs-Add, outs-Sub, outs-Mul)

pub point_key-Test : (key : List ℕ) (how : Op) (a b : Expr) → point_key key (pred.Test how a b) ≡ key_tested key how (out-Expr a) (out-Expr b)
unfolding point_key
point_key-Test key how a b = rw (fold_out-Pred, outs-Test) refl

pub point_key-Not : (key : List ℕ) (p : Pred) → point_key key (pred.Not p) ≡ None
unfolding point_key
point_key-Not key p = rw (fold_out-Pred, outs-Not) refl

pub point_key-And : (key : List ℕ) (p q : Pred) → point_key key (pred.And p q) ≡ option_or (point_key key p) (point_key key q)
unfolding point_key
point_key-And key p q = rw (fold_out-Pred, outs-And) refl

pub point_key-Or : (key : List ℕ) (p q : Pred) → point_key key (pred.Or p q) ≡ None
unfolding point_key
point_key-Or key p q = rw (fold_out-Pred, outs-Or) refl

pub ruleset members = (point_key-Test, point_key-Not, point_key-And, point_key-Or)
