-- Cuts of byte strings, both ways.
use Rattle.std.proofs.Common.{◌≡◌, ◌≢◌, ℕ, List, [], ◌∷◌, ◌++◌, refl, sym, ◌∙◌, ap, subst, arith, inl, inr}
use Rattle.std.specs.Prelude.{Option, Some, None}
use Rattle.std.specs.Option.{option_map}
use Rattle.std.specs.List.{AllByRecursion}
use Rattle.std.proofs.lemmas.Bool.{cases_eq}
use Rattle.std.proofs.lemmas.Bool.Decides.{nat_tests}
use Rattle.hb_lines.specs.Cuts.{behind, cut_at}

-- ---- cuts

pub cut_front : (c x : ℕ) (xs : List ℕ) → x ≡ c → cut_at c (x ∷ xs) ≡ Some ([], xs)
unfolding cut_at
cut_front c x xs e = grind (arith, nat_tests)

pub cut_later : (c x : ℕ) (xs : List ℕ) → x ≢ c → cut_at c (x ∷ xs) ≡ option_map (behind (x ∷ [])) (cut_at c xs)
unfolding cut_at
cut_later c x xs e = grind (arith, nat_tests)

pub cut_nothing : (c : ℕ) → cut_at c [] ≡ None
unfolding cut_at
cut_nothing c = refl

cut_behind : (c x : ℕ) (xs : List ℕ) (parts : List ℕ × List ℕ) → ((p : List ℕ × List ℕ) → cut_at c xs ≡ Some p → xs ≡ p.0 ++ c ∷ p.1) → (o : Option (List ℕ × List ℕ)) → cut_at c xs ≡ o → option_map (behind (x ∷ [])) o ≡ Some parts → x ∷ xs ≡ parts.0 ++ c ∷ parts.1
cut_behind c x xs parts below None so is = absurd (cc)
cut_behind c x xs parts below (Some p) so is =
    let same : (x ∷ p.0, p.1) ≡ parts = cc in
    subst (λ (q : List ℕ × List ℕ). x ∷ xs ≡ q.0 ++ c ∷ q.1) same (ap (λ (l : List ℕ). x ∷ l) (below p so))

pub cut_sound : (c : ℕ) (xs : List ℕ) (parts : List ℕ × List ℕ) → cut_at c xs ≡ Some parts → xs ≡ parts.0 ++ c ∷ parts.1
cut_sound c [] parts is = let none = cut_nothing c in absurd (cc)
cut_sound c (x ∷ xs) parts is = elim (cases_eq x c) [
  | inl e ↦
      let here = cut_front c x xs e in
      let same : ([], xs) ≡ parts = cc in
      subst (λ (p : List ℕ × List ℕ). x ∷ xs ≡ p.0 ++ c ∷ p.1) same (ap (λ (y : ℕ). y ∷ xs) e)
  | inr other ↦ cut_behind c x xs parts (λ p so. cut_sound c xs p so) (cut_at c xs) refl (sym (cut_later c x xs other) ∙ is)
]

pub cut_complete : (c : ℕ) (xs ys : List ℕ) → AllByRecursion (λ b. b ≢ c) xs → cut_at c (xs ++ c ∷ ys) ≡ Some (xs, ys)
cut_complete c [] ys each = cut_front c c ys refl
cut_complete c (x ∷ xs) ys each = cut_later c x (xs ++ c ∷ ys) each.0 ∙ ap (option_map (behind (x ∷ []))) (cut_complete c xs ys each.1)

clean_behind : (c x : ℕ) (xs : List ℕ) → x ≢ c → ((p : List ℕ × List ℕ) → cut_at c xs ≡ Some p → AllByRecursion (λ b. b ≢ c) p.0) → (parts : List ℕ × List ℕ) (o : Option (List ℕ × List ℕ)) → cut_at c xs ≡ o → option_map (behind (x ∷ [])) o ≡ Some parts → AllByRecursion (λ b. b ≢ c) parts.0
clean_behind c x xs other below parts None so is = absurd (cc)
clean_behind c x xs other below parts (Some p) so is =
    let same : (x ∷ p.0, p.1) ≡ parts = cc in
    subst (λ (q : List ℕ × List ℕ). AllByRecursion (λ b. b ≢ c) q.0) same (other, below p so)

-- none stands before the first one
pub cut_clean : (c : ℕ) (xs : List ℕ) (parts : List ℕ × List ℕ) → cut_at c xs ≡ Some parts → AllByRecursion (λ b. b ≢ c) parts.0
cut_clean c [] parts is = let none = cut_nothing c in absurd (cc)
cut_clean c (x ∷ xs) parts is = elim (cases_eq x c) [
  | inl e ↦
      let here = cut_front c x xs e in
      let same : ([], xs) ≡ parts = cc in
      subst (λ (p : List ℕ × List ℕ). AllByRecursion (λ b. b ≢ c) p.0) same tt
  | inr other ↦ clean_behind c x xs other (λ p so. cut_clean c xs p so) parts (cut_at c xs) refl (sym (cut_later c x xs other) ∙ is)
]

not_behind : (x : ℕ) (o : Option (List ℕ × List ℕ)) → option_map (behind (x ∷ [])) o ≡ None → o ≡ None
not_behind x None is = refl
not_behind x (Some p) is = absurd (cc)

pub cut_none : (c : ℕ) (xs : List ℕ) → cut_at c xs ≡ None → AllByRecursion (λ b. b ≢ c) xs
cut_none c [] is = tt
cut_none c (x ∷ xs) is = elim (cases_eq x c) [
  | inl e ↦ let here = cut_front c x xs e in absurd (cc)
  | inr other ↦ (other, cut_none c xs (not_behind x (cut_at c xs) (sym (cut_later c x xs other) ∙ is)))
]
