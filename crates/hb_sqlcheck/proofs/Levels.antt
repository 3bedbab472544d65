-- Names and kinds of expressions and conditions, level by level.
use Rattle.std.proofs.Common.{◌≡◌, ℕ, ℤ, Bool, false, not, ◌||◌, ◌&&◌, List, [], ◌∷◌, ◌++◌, Some, find, refl, ap, ◌∙◌}
use Rattle.std.specs.Prelude.{option_map}
use Rattle.std.specs.List.{list_any}
use Rattle.std.specs.Str.{bytes_eq}
use Rattle.std.proofs.lemmas.List.Folds.{list_any-append}
use Rattle.hb_types.specs.declared.value.Column.{Column}
use Rattle.hb_model.specs.declared.expression.Expr.{Expr, fold_out-Expr}
use Rattle.hb_model.specs.declared.expression.Expr.TheVariants as expr
use Rattle.hb_model.specs.declared.expression.Expr.TheVariants.{outs-Int, outs-Text, outs-Name, outs-Neg, outs-Add, outs-Sub, outs-Mul}
use Rattle.hb_model.specs.declared.condition.Op.{Op}
use Rattle.hb_model.specs.declared.condition.Pred.{Pred, fold_out-Pred}
use Rattle.hb_model.specs.declared.condition.Pred.TheVariants as pred
use Rattle.hb_model.specs.declared.condition.Pred.TheVariants.{outs-Test, outs-Not, outs-And, outs-Or}
use Rattle.hb_model.specs.Kinds.{number, letters, kind_of_column, numbers, kind_of, both_alike, is_typed, names_in, names_in_pred}
use Rattle.hb_sqlcheck.specs.Checks.{unknown_in}

-- ---- kinds

pub kind_of-Int : (columns : List Column) (n : ℤ) → kind_of columns (expr.Int n) ≡ Some number
unfolding kind_of
kind_of-Int columns n = rw (fold_out-Expr, outs-Int) refl

pub kind_of-Text : (columns : List Column) (t : List ℕ) → kind_of columns (expr.Text t) ≡ Some letters
unfolding kind_of
kind_of-Text columns t = rw (fold_out-Expr, outs-Text) refl

pub kind_of-Name : (columns : List Column) (name : List ℕ) → kind_of columns (expr.Name name) ≡ option_map kind_of_column (find (λ c. bytes_eq c.name name) columns)
unfolding kind_of
kind_of-Name columns name = rw (fold_out-Expr, outs-Name) refl

pub kind_of-Neg : (columns : List Column) (a : Expr) → kind_of columns (expr.Neg a) ≡ numbers (kind_of columns a) (kind_of columns a)
unfolding kind_of
kind_of-Neg columns a = rw (fold_out-Expr, outs-Neg) refl

pub kind_of-Add : (columns : List Column) (a b : Expr) → kind_of columns (expr.Add a b) ≡ numbers (kind_of columns a) (kind_of columns b)
unfolding kind_of
kind_of-Add columns a b = rw (fold_out-Expr, outs-Add) refl

pub kind_of-Sub : (columns : List Column) (a b : Expr) → kind_of columns (expr.Sub a b) ≡ numbers (kind_of columns a) (kind_of columns b)
unfolding kind_of
kind_of-Sub columns a b = rw (fold_out-Expr, outs-Sub) refl

pub kind_of-Mul : (columns : List Column) (a b : Expr) → kind_of columns (expr.Mul a b) ≡ numbers (kind_of columns a) (kind_of columns b)
unfolding kind_of
kind_of-Mul columns a b = rw (fold_out-Expr, outs-Mul) refl

pub ruleset kinds = (kind_of-Int, kind_of-Text, kind_of-Name, kind_of-Neg, kind_of-Add, kind_of-Sub, kind_of-Mul)

pub is_typed-Test : (columns : List Column) (how : Op) (a b : Expr) → is_typed columns (pred.Test how a b) ≡ both_alike (kind_of columns a) (kind_of columns b)
unfolding is_typed
is_typed-Test columns how a b = rw (fold_out-Pred, outs-Test) refl

pub is_typed-Not : (columns : List Column) (p : Pred) → is_typed columns (pred.Not p) ≡ is_typed columns p
unfolding is_typed
is_typed-Not columns p = rw (fold_out-Pred, outs-Not) refl

pub is_typed-And : (columns : List Column) (p q : Pred) → is_typed columns (pred.And p q) ≡ (is_typed columns p && is_typed columns q)
unfolding is_typed
is_typed-And columns p q = rw (fold_out-Pred, outs-And) refl

pub is_typed-Or : (columns : List Column) (p q : Pred) → is_typed columns (pred.Or p q) ≡ (is_typed columns p && is_typed columns q)
unfolding is_typed
is_typed-Or columns p q = rw (fold_out-Pred, outs-Or) refl

pub ruleset types = (is_typed-Test, is_typed-Not, is_typed-And, is_typed-Or)

-- ---- names

pub any_append : (f : List ℕ → Bool) (xs ys : List (List ℕ)) → list_any f (xs ++ ys) ≡ (list_any f xs || list_any f ys)
any_append f xs ys = list_any-append f xs ys

pub names-Int : (f : List ℕ → Bool) (n : ℤ) → list_any f (names_in (expr.Int n)) ≡ false
unfolding names_in
names-Int f n = rw (fold_out-Expr, outs-Int) refl

pub names-Text : (f : List ℕ → Bool) (t : List ℕ) → list_any f (names_in (expr.Text t)) ≡ false
unfolding names_in
names-Text f t = rw (fold_out-Expr, outs-Text) refl

pub names-Name : (f : List ℕ → Bool) (name : List ℕ) → list_any f (names_in (expr.Name name)) ≡ (f name || false)
unfolding names_in
names-Name f name = rw (fold_out-Expr, outs-Name) refl

pub names-Neg : (f : List ℕ → Bool) (a : Expr) → list_any f (names_in (expr.Neg a)) ≡ list_any f (names_in a)
unfolding names_in
names-Neg f a = rw (fold_out-Expr, outs-Neg) refl

pub names-Add : (f : List ℕ → Bool) (a b : Expr) → list_any f (names_in (expr.Add a b)) ≡ (list_any f (names_in a) || list_any f (names_in b))
unfolding names_in
names-Add f a b = rw (fold_out-Expr, outs-Add) (any_append f (names_in a) (names_in b))

pub names-Sub : (f : List ℕ → Bool) (a b : Expr) → list_any f (names_in (expr.Sub a b)) ≡ (list_any f (names_in a) || list_any f (names_in b))
unfolding names_in
names-Sub f a b = rw (fold_out-Expr, outs-Sub) (any_append f (names_in a) (names_in b))

pub names-Mul : (f : List ℕ → Bool) (a b : Expr) → list_any f (names_in (expr.Mul a b)) ≡ (list_any f (names_in a) || list_any f (names_in b))
unfolding names_in
names-Mul f a b = rw (fold_out-Expr, outs-Mul) (any_append f (names_in a) (names_in b))

pub ruleset names = (names-Int, names-Text, names-Name, names-Neg, names-Add, names-Sub, names-Mul)

pub names-Test : (f : List ℕ → Bool) (how : Op) (a b : Expr) → list_any f (names_in_pred (pred.Test how a b)) ≡ (list_any f (names_in a) || list_any f (names_in b))
unfolding names_in_pred
names-Test f how a b = rw (fold_out-Pred, outs-Test) (any_append f (names_in a) (names_in b))

pub names-Not : (f : List ℕ → Bool) (p : Pred) → list_any f (names_in_pred (pred.Not p)) ≡ list_any f (names_in_pred p)
unfolding names_in_pred
names-Not f p = rw (fold_out-Pred, outs-Not) refl

pub names-And : (f : List ℕ → Bool) (p q : Pred) → list_any f (names_in_pred (pred.And p q)) ≡ (list_any f (names_in_pred p) || list_any f (names_in_pred q))
unfolding names_in_pred
names-And f p q = rw (fold_out-Pred, outs-And) (any_append f (names_in_pred p) (names_in_pred q))

pub names-Or : (f : List ℕ → Bool) (p q : Pred) → list_any f (names_in_pred (pred.Or p q)) ≡ (list_any f (names_in_pred p) || list_any f (names_in_pred q))
unfolding names_in_pred
names-Or f p q = rw (fold_out-Pred, outs-Or) (any_append f (names_in_pred p) (names_in_pred q))

pub ruleset pred_names = (names-Test, names-Not, names-And, names-Or)
