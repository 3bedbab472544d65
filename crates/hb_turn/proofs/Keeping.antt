-- The keys of a group, kept one by one.
use Rattle.std.proofs.Common.{◌≡◌, cond, ℕ, ◌+◌, ◌<◌, ◌≤◌, ℤ, pos, Bool, true, false, List, [], ◌∷◌, Option, Some, ◌++◌, length, take, get_or, ap, sym, ◌∙◌, subst, arith}
use Rattle.std.specs.Prelude.{◌==◌, All, FitsSigned, MatchOption, filter}
use Rattle.std.specs.Int.{w32}
use Rattle.std.proofs.lemmas.Bool.Decides.{nat_tests}
use Rattle.std.proofs.lemmas.List.{append-nil, take_all}
use Rattle.std.proofs.lemmas.List.Elements.{All-filter, filter_more}
use Rattle.hb_types.specs.Groups.{group_of}

abbrev pub of : ℕ → ℤ → Bool
of group key = group_of key == group

abbrev pub kept : ℕ → List ℤ → List ℤ
kept group xs = filter (of group) xs

same : (a b : ℕ) → a ≡ b → (a == b) ≡ true
same a b e = grind (arith, nat_tests)

other : (a b : ℕ) → (a ≡ b → ⊥) → (a == b) ≡ false
other a b e = grind (arith, nat_tests)

pub keeps : (xs : List ℤ) (i group : ℕ) (own new : List ℤ) → i < length xs → own ≡ kept group (take i xs) → group_of (get_or xs i (pos 0)) ≡ group
    → new ≡ own ++ get_or xs i (pos 0) ∷ [] → new ≡ kept group (take (i + 1) xs)
keeps xs i group own new lt before is more =
    let x = get_or xs i (pos 0) in
    more ∙ ap (λ o. o ++ x ∷ []) before ∙ sym (filter_more (of group) xs i (pos 0) lt ∙ ap (λ b. kept group (take i xs) ++ cond b (x ∷ []) []) (same (group_of x) group is))

pub passes_over : (xs : List ℤ) (i group : ℕ) (own new : List ℤ) → i < length xs → own ≡ kept group (take i xs) → (group_of (get_or xs i (pos 0)) ≡ group → ⊥)
    → new ≡ own → new ≡ kept group (take (i + 1) xs)
passes_over xs i group own new lt before not more =
    let x = get_or xs i (pos 0) in
    more ∙ before ∙ sym (filter_more (of group) xs i (pos 0) lt ∙ ap (λ b. kept group (take i xs) ++ cond b (x ∷ []) []) (other (group_of x) group not) ∙ append-nil (kept group (take i xs)))

pub done : (xs : List ℤ) (i group : ℕ) (own : List ℤ) → length xs ≤ i → own ≡ kept group (take i xs) → own ≡ kept group xs
done xs i group own le is = is ∙ ap (kept group) (take_all i xs le)

pub all_kept : (xs : List ℤ) (i group : ℕ) (own : List ℤ) → length xs ≤ i → All (FitsSigned w32) (take i xs) → own ≡ kept group xs → All (FitsSigned w32) own
all_kept xs i group own le all is = subst (All (FitsSigned w32)) (sym is) (All-filter (of group) (FitsSigned w32) xs (subst (All (FitsSigned w32)) (take_all i xs le) all))

-- the keys that were kept
pub own : (group : ℕ) (xs ks : List ℤ) (o : Option (List ℤ)) → o ≡ Some ks
    → MatchOption o (All (FitsSigned w32) xs → ⊥) (λ own. All (FitsSigned w32) own × (own ≡ kept group xs)) → All (FitsSigned w32) ks × (ks ≡ kept group xs)
own group xs ks o is told = subst (λ x. MatchOption x (All (FitsSigned w32) xs → ⊥) (λ own. All (FitsSigned w32) own × (own ≡ kept group xs))) is told
