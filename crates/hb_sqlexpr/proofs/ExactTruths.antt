-- Truths without a limit, level by level, and that they are the truths within the limit where no number is outside it.
use Rattle.std.proofs.Common.{◌≡◌, List, Some, refl, sym, ap, ◌∙◌, subst}
use Rattle.std.specs.Prelude.{not, ◌&&◌, ◌||◌, option_map}
use Rattle.hb_types.specs.declared.value.Value.{Value}
use Rattle.hb_types.specs.declared.value.Column.{Column}
use Rattle.hb_model.specs.declared.expression.Expr.{Expr}
use Rattle.hb_model.specs.declared.condition.Op.{Op}
use Rattle.hb_model.specs.declared.condition.Pred.{Pred, roll-Pred, map-Pred, ind-Pred, fold_out-Pred}
use Rattle.hb_model.specs.declared.condition.Pred.TheOpen.{Pred-F}
use Rattle.hb_model.specs.declared.condition.Pred.TheVariants as pred
use Rattle.hb_model.specs.declared.condition.Pred.TheVariants.{outs-Test, outs-Not, outs-And, outs-Or, rolls-Test, rolls-Not, rolls-And, rolls-Or}
use Rattle.hb_model.specs.Values.{both, agrees, value_cmp, holds_at}
use Rattle.hb_sqlexpr.specs.Exact.{joined_with, exact_of, exact_truth, limited}
use Rattle.hb_sqlexpr.proofs.Levels.{holds_at-Test, holds_at-Not, holds_at-And, holds_at-Or}
use Rattle.hb_sqlexpr.proofs.Limits.{on_parts, on_negation}
use Rattle.hb_sqlexpr.proofs.ExactLevels.{value_limited}

module _ (columns : List Column) (row : List Value) where
  pub exact_truth-Test : (how : Op) (a b : Expr) → exact_truth columns row (pred.Test how a b) ≡ joined_with (λ x y. agrees how (value_cmp x y)) (exact_of columns row a) (exact_of columns row b)
  unfolding exact_truth
  exact_truth-Test how a b = rw (fold_out-Pred, outs-Test) refl

  pub exact_truth-Not : (p : Pred) → exact_truth columns row (pred.Not p) ≡ record { result = option_map not (exact_truth columns row p).result; numbers = (exact_truth columns row p).numbers }
  unfolding exact_truth
  exact_truth-Not p = rw (fold_out-Pred, outs-Not) refl

  pub exact_truth-And : (p q : Pred) → exact_truth columns row (pred.And p q) ≡ joined_with ◌&&◌ (exact_truth columns row p) (exact_truth columns row q)
  unfolding exact_truth
  exact_truth-And p q = rw (fold_out-Pred, outs-And) refl

  pub exact_truth-Or : (p q : Pred) → exact_truth columns row (pred.Or p q) ≡ joined_with ◌||◌ (exact_truth columns row p) (exact_truth columns row q)
  unfolding exact_truth
  exact_truth-Or p q = rw (fold_out-Pred, outs-Or) refl

  abbrev IsLimited : Pred → Type 0
  IsLimited p = holds_at columns row p ≡ limited (exact_truth columns row p)

  limited-Test : (how : Op) (a b : Expr) → IsLimited (pred.Test how a b)
  limited-Test how a b =
      holds_at-Test columns row how a b ∙ (λ i. both (λ x y. Some (agrees how (value_cmp x y))) (value_limited columns row a i) (value_limited columns row b i))
      ∙ on_parts (λ x y. agrees how (value_cmp x y)) (exact_of columns row a) (exact_of columns row b) ∙ ap limited (sym (exact_truth-Test how a b))

  limited-Not : (p : Pred) → IsLimited p → IsLimited (pred.Not p)
  limited-Not p is = holds_at-Not columns row p ∙ ap (option_map not) is ∙ on_negation (exact_truth columns row p) ∙ ap limited (sym (exact_truth-Not p))

  limited-And : (p q : Pred) → IsLimited p → IsLimited q → IsLimited (pred.And p q)
  limited-And p q is so =
      holds_at-And columns row p q ∙ (λ i. both (λ x y. Some (x && y)) (is i) (so i)) ∙ on_parts ◌&&◌ (exact_truth columns row p) (exact_truth columns row q) ∙ ap limited (sym (exact_truth-And p q))

  limited-Or : (p q : Pred) → IsLimited p → IsLimited q → IsLimited (pred.Or p q)
  limited-Or p q is so =
      holds_at-Or columns row p q ∙ (λ i. both (λ x y. Some (x || y)) (is i) (so i)) ∙ on_parts ◌||◌ (exact_truth columns row p) (exact_truth columns row q) ∙ ap limited (sym (exact_truth-Or p q))

  each_level : (A : Type 0) (part : A → Pred) → ((a : A) → IsLimited (part a)) → (y : Pred-F A) → IsLimited (roll-Pred (map-Pred A Pred part y))
  each_level A part all (Pred-F.Test how a b) = subst IsLimited (sym (rolls-Test how a b)) (limited-Test how a b)
  each_level A part all (Pred-F.Not p) = subst IsLimited (sym (rolls-Not (part p))) (limited-Not (part p) (all p))
  each_level A part all (Pred-F.And p q) = subst IsLimited (sym (rolls-And (part p) (part q))) (limited-And (part p) (part q) (all p) (all q))
  each_level A part all (Pred-F.Or p q) = subst IsLimited (sym (rolls-Or (part p) (part q))) (limited-Or (part p) (part q) (all p) (all q))

  pub truth_limited : (p : Pred) → IsLimited p
  truth_limited = ind-Pred IsLimited (λ x y is. subst (λ z. IsLimited (roll-Pred z)) is (each_level _ (λ p. p.0) (λ p. p.1) y))
