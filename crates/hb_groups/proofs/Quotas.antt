-- The quotas of a number of areas sum to the number of groups.
use Rattle.std.proofs.Common.{◌≡◌, ℕ, suc, ◌+◌, ◌-◌, ◌<◌, ◌≤◌, List, [], ◌∷◌, length, get_or, sum, sum_by, map, refl, ap, sym, ◌∙◌, subst, arith, Bool, true, eqb}
use Rattle.std.proofs.lemmas.Bool.{eqb-true}
use Rattle.std.proofs.lemmas.List.Sums.{sum_by-cons, AllPass-from_list_all}
use Rattle.std.proofs.lemmas.List.Elements.{All-get_or}
use Rattle.std.proofs.lemmas.List.FromFn.{get_or-range_with_len, sum_by-map-range_with_len_more}
use Rattle.std.specs.List.{range_with_len, list_all}
use Rattle.hb_types.specs.Groups.{quota}

-- the quotas of so many areas
abbrev pub quotas : ℕ → List ℕ
quotas areas = map (λ i. quota i areas) (range_with_len 0 areas)

sums_to_groups : ℕ → Bool
sums_to_groups areas = eqb (sum (quotas areas)) 1024

each_sum : list_all sums_to_groups (range_with_len 1 16) ≡ true
unfolding sums_to_groups
each_sum = refl

pub sum-quotas : (areas : ℕ) → 1 ≤ areas → areas ≤ 16 → sum (quotas areas) ≡ 1024
unfolding sums_to_groups
sum-quotas areas some few =
    let within : areas - 1 < length (range_with_len 1 16) = omega arith in
    let at : get_or (range_with_len 1 16) (areas - 1) 0 ≡ areas = get_or-range_with_len 1 16 (areas - 1) 0 (omega arith) ∙ omega arith in
    let here = All-get_or (λ m. sums_to_groups m ≡ true) (range_with_len 1 16) (areas - 1) 0 within (AllPass-from_list_all sums_to_groups (range_with_len 1 16) each_sum) in
    let P : ℕ → Type 0 = λ m. sum (quotas m) ≡ 1024 in
    subst P at (eqb-true _ _ here)

-- the quotas of all areas but the last one, and the quota of that one
pub sum-quotas_before : (areas : ℕ) → areas ≤ 15 → sum (map (λ i. quota i (areas + 1)) (range_with_len 0 areas)) + quota areas (areas + 1) ≡ 1024
sum-quotas_before areas few =
    sym (sum_by-map-range_with_len_more (λ x. x) (λ i. quota i (areas + 1)) 0 areas areas (omega arith)) ∙ sum-quotas (areas + 1) (omega arith) (omega arith)

-- a sum over a list against a sum over the places in it
pub sum_by-places : (f g : ℕ → ℕ) (n : ℕ) (xs : List ℕ) → ((i : ℕ) → i < length xs → f (get_or xs i 0) ≡ g (n + i)) → sum_by f xs ≡ sum (map g (range_with_len n (length xs)))
sum_by-places f g n [] h = refl
sum_by-places f g n (x ∷ xs) h =
    let first : f x ≡ g n = h 0 (omega arith) ∙ ap g (omega arith) in
    let rest = sum_by-places f g (n + 1) xs (λ i l. h (suc i) (omega arith) ∙ ap g (omega arith)) in
    let left = sum_by-cons f x xs in
    let right = sum_by-cons (λ (y : ℕ). y) (g n) (map g (range_with_len (n + 1) (length xs))) in
    omega (arith, left, right, first, rest)
