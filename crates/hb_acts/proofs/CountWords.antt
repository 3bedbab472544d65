-- The count that a value spells.
use Rattle.std.proofs.Common.{◌≡◌, ℕ, ◌+◌, ◌≤◌, List, [], ◌∷◌, ◌++◌, length, sym, ◌∙◌, ap, subst, arith, length-append}
use Rattle.std.specs.Prelude.{All}
use Rattle.std.proofs.lemmas.List.{same_from_push}
use Rattle.hb_acts.specs.Words.{IsCount}

pub count_is : (value zeros : List ℕ) (digit n : ℕ) → value ≡ zeros ++ digit ∷ [] → length value ≤ 10 → 1 ≤ n → n ≤ 8 → All (λ b. b ≡ 48) zeros × (digit ≡ 48 + n) → IsCount value n
count_is value zeros digit n is long least most has = record {
  zeros = zeros;
  digits = is ∙ ap (λ (d : ℕ). zeros ++ d ∷ []) has.1;
  are_zeros = has.0;
  most_digits = long;
  least = least;
  most = most;
}

pub count_only : (value zeros : List ℕ) (digit n result : ℕ) → value ≡ zeros ++ digit ∷ [] → ((k : ℕ) → 1 ≤ k → k ≤ 8 → All (λ b. b ≡ 48) zeros → digit ≡ 48 + k → result ≡ k) → IsCount value n → result ≡ n
count_only value zeros digit n result is each count =
    let same = same_from_push zeros count.zeros digit (48 + n) (sym is ∙ count.digits) in
    each n count.least count.most (subst (All (λ b. b ≡ 48)) (sym same.0) count.are_zeros) same.1

pub count_some : (value : List ℕ) (n : ℕ) → IsCount value n → 1 ≤ length value
count_some value n count = omega (arith, ap length count.digits, length-append count.zeros ((48 + n) ∷ []))
