-- A value within the limit is the value without one, where no number on the way is outside INTEGER.
use Rattle.std.proofs.Common.{◌≡◌, ℤ, Bool, true, false, ◌&&◌, cond, [], ◌∷◌, ◌++◌, Some, None, refl, sym, ap, ◌∙◌}
use Rattle.std.specs.Prelude.{Option, option_map, not}
use Rattle.std.specs.List.{list_all}
use Rattle.std.proofs.lemmas.List.Folds.{list_all-append}
use Rattle.hb_types.specs.declared.value.Value.{Value}
use Rattle.hb_types.specs.declared.value.Value.TheVariants as value
use Rattle.hb_types.specs.Numbers.{is_integer}
use Rattle.hb_model.specs.Values.{within, both, arithmetic}
use Rattle.hb_sqlexpr.specs.Exact.{Exact, exactly, numbers_of, computed, joined_with, limited}

none_right : {A B C : Type 0} (g : A → B → Option C) (x : Option A) → both g x None ≡ None
none_right g None = refl
none_right g (Some x) = refl

one_number : (b : Bool) (v : Value) → cond b (Some v) None ≡ cond (b && true) (Some v) None
one_number true v = refl
one_number false v = refl

-- one operation, where each side is there or not
operated : (f : ℤ → ℤ → ℤ) (p q : Bool) (a b : Option Value)
    → both (arithmetic f) (cond p a None) (cond q b None) ≡ cond ((p && q) && list_all is_integer (numbers_of (both (exactly f) a b))) (both (exactly f) a b) None
operated f true true (Some (value.Int a)) (Some (value.Int b)) = one_number (is_integer (f a b)) (value.Int (f a b))
operated f true true (Some (value.Int a)) (Some (value.Text b)) = refl
operated f true true (Some (value.Int a)) None = refl
operated f true true (Some (value.Text a)) (Some b) = refl
operated f true true (Some (value.Text a)) None = refl
operated f true true None b = refl
operated f true false a b = none_right (arithmetic f) a
operated f false q a b = refl

pub on_values : (f : ℤ → ℤ → ℤ) (a b : Exact Value) → both (arithmetic f) (limited a) (limited b) ≡ limited (computed f a b)
on_values f a b =
    operated f (list_all is_integer a.numbers) (list_all is_integer b.numbers) a.result b.result
    ∙ ap (λ (t : Bool). cond t (both (exactly f) a.result b.result) None)
    (ap (λ (t : Bool). t && list_all is_integer (numbers_of (both (exactly f) a.result b.result))) (sym (list_all-append is_integer a.numbers b.numbers))
    ∙ sym (list_all-append is_integer (a.numbers ++ b.numbers) (numbers_of (both (exactly f) a.result b.result))))

-- two parts, where each is there or not
joined : {A B C : Type 0} (g : A → B → C) (p q : Bool) (a : Option A) (b : Option B)
    → both (λ x y. Some (g x y)) (cond p a None) (cond q b None) ≡ cond (p && q) (both (λ x y. Some (g x y)) a b) None
joined g true true a b = refl
joined g true false a b = none_right (λ x y. Some (g x y)) a
joined g false q a b = refl

pub on_parts : {A B C : Type 0} (g : A → B → C) (a : Exact A) (b : Exact B) → both (λ x y. Some (g x y)) (limited a) (limited b) ≡ limited (joined_with g a b)
on_parts g a b =
    joined g (list_all is_integer a.numbers) (list_all is_integer b.numbers) a.result b.result
    ∙ ap (λ (t : Bool). cond t (both (λ x y. Some (g x y)) a.result b.result) None) (sym (list_all-append is_integer a.numbers b.numbers))

negated : (p : Bool) (a : Option Bool) → option_map not (cond p a None) ≡ cond p (option_map not a) None
negated true a = refl
negated false a = refl

pub on_negation : (a : Exact Bool) → option_map not (limited a) ≡ limited (record { result = option_map not a.result; numbers = a.numbers })
on_negation a = negated (list_all is_integer a.numbers) a.result

pub on_literal : (n : ℤ) → within n ≡ limited (record { result = Some (value.Int n); numbers = n ∷ [] })
on_literal n = one_number (is_integer n) (value.Int n)
