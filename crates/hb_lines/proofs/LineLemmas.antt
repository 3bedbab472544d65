-- The lines of an input, from its first byte on.
use Rattle.std.proofs.Common.{◌≡◌, ◌≢◌, ℕ, ◌+◌, ◌<◌, ◌≤◌, List, [], ◌∷◌, ◌++◌, length, refl, sym, ◌∙◌, ap, subst, arith, inl, inr}
use Rattle.std.specs.Prelude.{map}
use Rattle.std.specs.List.{AllByRecursion}
use Rattle.std.proofs.lemmas.Bool.{cases_eq}
use Rattle.std.proofs.lemmas.Bool.Decides.{nat_tests}
use Rattle.hb_lines.specs.Lines.{onto_first, parts_of, without_return, lines_of}

-- no byte is a line feed
abbrev pub NoFeed : List ℕ → Type 0
NoFeed bytes = AllByRecursion (λ b. b ≢ 10) bytes

pub no_feed_append : (xs ys : List ℕ) → NoFeed xs → NoFeed ys → NoFeed (xs ++ ys)
no_feed_append [] ys front rest = rest
no_feed_append (x ∷ xs) ys front rest = (front.0, no_feed_append xs ys front.1 rest)

-- ---- parts

parts_other : (b : ℕ) (rest : List ℕ) → b ≢ 10 → parts_of (b ∷ rest) ≡ onto_first b (parts_of rest)
unfolding parts_of
parts_other b rest other = grind (arith, nat_tests)

parts_feed : (b : ℕ) (rest : List ℕ) → b ≡ 10 → parts_of (b ∷ rest) ≡ [] ∷ parts_of rest
unfolding parts_of
parts_feed b rest feed = grind (arith, nat_tests)

parts_nothing : parts_of [] ≡ []
unfolding parts_of
parts_nothing = refl

parts_front : (front rest : List ℕ) → NoFeed front → parts_of (front ++ 10 ∷ rest) ≡ front ∷ parts_of rest
parts_front [] rest clean = parts_feed 10 rest refl
parts_front (b ∷ front) rest clean = parts_other b (front ++ 10 ∷ rest) clean.0 ∙ ap (onto_first b) (parts_front front rest clean.1)

parts_last : (input : List ℕ) → NoFeed input → 0 < length input → parts_of input ≡ input ∷ []
parts_last [] clean some = absurd (omega arith)
parts_last (b ∷ []) clean some = parts_other b [] clean.0 ∙ ap (onto_first b) parts_nothing
parts_last (b ∷ c ∷ input) clean some = parts_other b (c ∷ input) clean.0 ∙ ap (onto_first b) (parts_last (c ∷ input) clean.1 (omega arith))

onto_clean : (b : ℕ) (parts : List (List ℕ)) → b ≢ 10 → AllByRecursion NoFeed parts → AllByRecursion NoFeed (onto_first b parts)
onto_clean b [] other clean = ((other, tt), tt)
onto_clean b (part ∷ parts) other clean = ((other, clean.0), clean.1)

parts_clean : (input : List ℕ) → AllByRecursion NoFeed (parts_of input)
parts_clean [] = subst (λ (ps : List (List ℕ)). AllByRecursion NoFeed ps) (sym parts_nothing) tt
parts_clean (b ∷ input) = elim (cases_eq b 10) [
  | inl feed ↦ subst (λ (ps : List (List ℕ)). AllByRecursion NoFeed ps) (sym (parts_feed b input feed)) (tt, parts_clean input)
  | inr other ↦ subst (λ (ps : List (List ℕ)). AllByRecursion NoFeed ps) (sym (parts_other b input other)) (onto_clean b (parts_of input) other (parts_clean input))
]

-- ---- the carriage return

pub return_none : without_return [] ≡ []
unfolding without_return
return_none = refl

return_cut : (b : ℕ) → b ≡ 13 → without_return (b ∷ []) ≡ []
unfolding without_return
return_cut b is = grind (arith, nat_tests)

return_kept : (b : ℕ) → b ≢ 13 → without_return (b ∷ []) ≡ b ∷ []
unfolding without_return
return_kept b other = grind (arith, nat_tests)

return_later : (b c : ℕ) (bytes : List ℕ) → without_return (b ∷ c ∷ bytes) ≡ b ∷ without_return (c ∷ bytes)
unfolding without_return
return_later b c bytes = refl

-- without a carriage return that stands last
pub last_return : (bytes : List ℕ) → without_return (bytes ++ 13 ∷ []) ≡ bytes
last_return [] = return_cut 13 refl
last_return (b ∷ []) = return_later b 13 [] ∙ ap (λ (l : List ℕ). b ∷ l) (return_cut 13 refl)
last_return (b ∷ c ∷ bytes) = return_later b c (bytes ++ 13 ∷ []) ∙ ap (λ (l : List ℕ). b ∷ l) (last_return (c ∷ bytes))

pub last_other : (bytes : List ℕ) (b : ℕ) → b ≢ 13 → without_return (bytes ++ b ∷ []) ≡ bytes ++ b ∷ []
last_other [] b other = return_kept b other
last_other (x ∷ []) b other = return_later x b [] ∙ ap (λ (l : List ℕ). x ∷ l) (return_kept b other)
last_other (x ∷ y ∷ bytes) b other = return_later x y (bytes ++ b ∷ []) ∙ ap (λ (l : List ℕ). x ∷ l) (last_other (y ∷ bytes) b other)

-- at most one byte is dropped
pub return_length : (bytes : List ℕ) → length bytes ≤ length (without_return bytes) + 1
return_length [] = omega arith
return_length (b ∷ []) = omega arith
return_length (b ∷ c ∷ bytes) = omega (arith, return_length (c ∷ bytes), ap length (return_later b c bytes))

return_clean : (bytes : List ℕ) → NoFeed bytes → NoFeed (without_return bytes)
return_clean [] clean = subst NoFeed (sym return_none) tt
return_clean (b ∷ []) clean = elim (cases_eq b 13) [
  | inl is ↦ subst NoFeed (sym (return_cut b is)) tt
  | inr other ↦ subst NoFeed (sym (return_kept b other)) clean
]
return_clean (b ∷ c ∷ bytes) clean = subst NoFeed (sym (return_later b c bytes)) (clean.0, return_clean (c ∷ bytes) clean.1)

-- ---- lines

lines_clean : (parts : List (List ℕ)) → AllByRecursion NoFeed parts → AllByRecursion NoFeed (map without_return parts)
lines_clean [] clean = tt
lines_clean (part ∷ parts) clean = (return_clean part clean.0, lines_clean parts clean.1)

pub no_feed_in : (input : List ℕ) → AllByRecursion NoFeed (lines_of input)
no_feed_in input = lines_clean (parts_of input) (parts_clean input)

pub front_line : (front rest : List ℕ) → NoFeed front → lines_of (front ++ 10 ∷ rest) ≡ without_return front ∷ lines_of rest
front_line front rest clean = ap (λ (ps : List (List ℕ)). map without_return ps) (parts_front front rest clean)

pub only_line : (input : List ℕ) → NoFeed input → 0 < length input → lines_of input ≡ without_return input ∷ []
only_line input clean some = ap (λ (ps : List (List ℕ)). map without_return ps) (parts_last input clean some)

pub no_lines : lines_of [] ≡ []
no_lines = ap (λ (ps : List (List ℕ)). map without_return ps) parts_nothing
