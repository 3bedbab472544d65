-- Where the row fits and the types agree, a condition has a truth without a limit.
use Rattle.std.proofs.Common.{◌≡◌, Bool, true, false, cond, List, Some, None, refl, sym, ◌∙◌, subst}
use Rattle.std.specs.Prelude.{not, ◌&&◌, ◌||◌, Option, option_map}
use Rattle.std.specs.List.{list_all}
use Rattle.hb_types.specs.declared.value.Value.{Value}
use Rattle.hb_types.specs.declared.value.Column.{Column}
use Rattle.hb_types.specs.Numbers.{is_integer}
use Rattle.hb_model.specs.declared.expression.Expr.{Expr}
use Rattle.hb_model.specs.declared.condition.Op.{Op}
use Rattle.hb_model.specs.declared.condition.Pred.{Pred, roll-Pred, map-Pred, ind-Pred, fold_out-Pred}
use Rattle.hb_model.specs.declared.condition.Pred.TheOpen.{Pred-F}
use Rattle.hb_model.specs.declared.condition.Pred.TheVariants as pred
use Rattle.hb_model.specs.declared.condition.Pred.TheVariants.{outs-Test, outs-Not, outs-And, outs-Or, rolls-Test, rolls-Not, rolls-And, rolls-Or}
use Rattle.hb_model.specs.Kinds.{Kind, kind_of, both_alike, is_typed}
use Rattle.hb_model.specs.Valid.{FitsAll}
use Rattle.hb_model.specs.Values.{both, agrees, value_cmp, holds_at}
use Rattle.hb_sqlexpr.specs.Exact.{exact_of, exact_truth}
use Rattle.hb_sqlexpr.proofs.ExactTruths.{exact_truth-Test, exact_truth-Not, exact_truth-And, exact_truth-Or, truth_limited}
use Rattle.hb_sqlexpr.proofs.Typed.{HasKind, value_there}

abbrev HasTruth : Option Bool → Type 0
HasTruth None = ⊥
HasTruth (Some t) = Unit {0}

both_there : (g : Value → Value → Bool) (a b : Option Value) (k l : Kind) → HasKind a k → HasKind b l → HasTruth (both (λ x y. Some (g x y)) a b)
both_there g (Some a) (Some b) k l p q = tt
both_there g (Some a) None k l p q = absurd q
both_there g None b k l p q = absurd p

tested_there : (g : Value → Value → Bool) (x y : Option Kind) (a b : Option Value) → both_alike x y ≡ true → ((k : Kind) → x ≡ Some k → HasKind a k) → ((k : Kind) → y ≡ Some k → HasKind b k)
    → HasTruth (both (λ x y. Some (g x y)) a b)
tested_there g (Some k) (Some l) a b e p q = both_there g a b k l (p k refl) (q l refl)
tested_there g (Some k) None a b e p q = absurd cc
tested_there g None y a b e p q = absurd cc

joined_there : (g : Bool → Bool → Bool) (a b : Option Bool) → HasTruth a → HasTruth b → HasTruth (both (λ x y. Some (g x y)) a b)
joined_there g (Some a) (Some b) p q = tt
joined_there g (Some a) None p q = absurd q
joined_there g None b p q = absurd p

negated_there : (a : Option Bool) → HasTruth a → HasTruth (option_map not a)
negated_there (Some a) p = tt
negated_there None p = absurd p

both_true : (p q : Bool) → (p && q) ≡ true → (p ≡ true) × (q ≡ true)
both_true true true e = (refl, refl)
both_true true false e = absurd cc
both_true false q e = absurd cc

module _ (columns : List Column) (row : List Value) (fits : FitsAll columns row) where
  abbrev IsThere : Pred → Type 0
  IsThere p = is_typed columns p ≡ true → HasTruth (exact_truth columns row p).result

  typed-Test : (how : Op) (a b : Expr) → is_typed columns (pred.Test how a b) ≡ both_alike (kind_of columns a) (kind_of columns b)
  unfolding is_typed
  typed-Test how a b = rw (fold_out-Pred, outs-Test) refl

  typed-Not : (p : Pred) → is_typed columns (pred.Not p) ≡ is_typed columns p
  unfolding is_typed
  typed-Not p = rw (fold_out-Pred, outs-Not) refl

  typed-And : (p q : Pred) → is_typed columns (pred.And p q) ≡ (is_typed columns p && is_typed columns q)
  unfolding is_typed
  typed-And p q = rw (fold_out-Pred, outs-And) refl

  typed-Or : (p q : Pred) → is_typed columns (pred.Or p q) ≡ (is_typed columns p && is_typed columns q)
  unfolding is_typed
  typed-Or p q = rw (fold_out-Pred, outs-Or) refl

  there-Test : (how : Op) (a b : Expr) → IsThere (pred.Test how a b)
  there-Test how a b e =
      rw (exact_truth-Test columns row how a b)
      (tested_there (λ x y. agrees how (value_cmp x y)) (kind_of columns a) (kind_of columns b) (exact_of columns row a).result (exact_of columns row b).result (sym (typed-Test how a b) ∙ e) (value_there columns row fits a) (value_there columns row fits b))

  there-Not : (p : Pred) → IsThere p → IsThere (pred.Not p)
  there-Not p is e = rw (exact_truth-Not columns row p) (negated_there (exact_truth columns row p).result (is (sym (typed-Not p) ∙ e)))

  there-And : (p q : Pred) → IsThere p → IsThere q → IsThere (pred.And p q)
  there-And p q is so e =
      let parts = both_true (is_typed columns p) (is_typed columns q) (sym (typed-And p q) ∙ e) in
      rw (exact_truth-And columns row p q) (joined_there ◌&&◌ (exact_truth columns row p).result (exact_truth columns row q).result (is parts.0) (so parts.1))

  there-Or : (p q : Pred) → IsThere p → IsThere q → IsThere (pred.Or p q)
  there-Or p q is so e =
      let parts = both_true (is_typed columns p) (is_typed columns q) (sym (typed-Or p q) ∙ e) in
      rw (exact_truth-Or columns row p q) (joined_there ◌||◌ (exact_truth columns row p).result (exact_truth columns row q).result (is parts.0) (so parts.1))

  each_level : (A : Type 0) (part : A → Pred) → ((a : A) → IsThere (part a)) → (y : Pred-F A) → IsThere (roll-Pred (map-Pred A Pred part y))
  each_level A part all (Pred-F.Test how a b) = subst IsThere (sym (rolls-Test how a b)) (there-Test how a b)
  each_level A part all (Pred-F.Not p) = subst IsThere (sym (rolls-Not (part p))) (there-Not (part p) (all p))
  each_level A part all (Pred-F.And p q) = subst IsThere (sym (rolls-And (part p) (part q))) (there-And (part p) (part q) (all p) (all q))
  each_level A part all (Pred-F.Or p q) = subst IsThere (sym (rolls-Or (part p) (part q))) (there-Or (part p) (part q) (all p) (all q))

  pub truth_there : (p : Pred) → IsThere p
  truth_there = ind-Pred IsThere (λ x y is. subst (λ z. IsThere (roll-Pred z)) is (each_level _ (λ p. p.0) (λ p. p.1) y))

has_truth_false : (t : Bool) (o : Option Bool) → HasTruth o → cond t o None ≡ None → t ≡ false
has_truth_false true None has e = absurd has
has_truth_false true (Some b) has e = absurd cc
has_truth_false false o has e = refl

pub truth_outside : (columns : List Column) (row : List Value) (p : Pred) → FitsAll columns row → is_typed columns p ≡ true → holds_at columns row p ≡ None → list_all is_integer (exact_truth columns row p).numbers ≡ false
truth_outside columns row p fits typed none =
    has_truth_false (list_all is_integer (exact_truth columns row p).numbers) (exact_truth columns row p).result (truth_there columns row fits p typed) (sym (truth_limited columns row p) ∙ none)
