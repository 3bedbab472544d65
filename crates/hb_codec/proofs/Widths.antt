-- Digits as the bytes of numbers of two, four and eight bytes.
use Rattle.std.proofs.Common.{◌≡◌, ℕ, ◌+◌, ◌/◌, ◌%◌, ◌<◌, [], ◌∷◌, arith}
use Rattle.hb_types.specs.Numbers.{two, four, eight}
use Rattle.hb_codec.proofs.Digits.{digits}

pub digits_one : (n : ℕ) → n < 256 → digits 0 1 n ≡ n ∷ []
digits_one n lt = let e : (n % 256 + 0) % 256 ≡ n = omega arith in λ i. e i ∷ []

pub digits_two : (n : ℕ) → n < 65536 → digits 0 2 n ≡ two n
digits_two n lt = let e : (n / 256 % 256 + 0) % 256 ≡ n / 256 % 256 = omega arith in λ i. n % 256 ∷ e i ∷ []

pub digits_four : (n : ℕ) → n < 4294967296 → digits 0 4 n ≡ four n
digits_four n lt =
    let b : n / 256 / 256 % 256 ≡ n / 65536 % 256 = omega arith in
    let c : (n / 256 / 256 / 256 % 256 + 0) % 256 ≡ n / 16777216 % 256 = omega arith in
    λ i. n % 256 ∷ n / 256 % 256 ∷ b i ∷ c i ∷ []

pub digits_eight : (n : ℕ) → n < 18446744073709551616 → digits 0 8 n ≡ eight n
digits_eight n lt =
    let a : ℕ = n / 256 in
    let b : n / 256 / 256 % 256 ≡ n / 65536 % 256 = omega arith in
    let c : n / 256 / 256 / 256 % 256 ≡ n / 16777216 % 256 = omega arith in
    let d : n / 256 / 256 / 256 / 256 % 256 ≡ n / 4294967296 % 256 = omega arith in
    let e : n / 256 / 256 / 256 / 256 / 256 % 256 ≡ n / 1099511627776 % 256 = omega arith in
    let f : n / 256 / 256 / 256 / 256 / 256 / 256 % 256 ≡ n / 281474976710656 % 256 = omega arith in
    let g : (n / 256 / 256 / 256 / 256 / 256 / 256 / 256 % 256 + 0) % 256 ≡ n / 72057594037927936 % 256 = omega arith in
    λ i. n % 256 ∷ n / 256 % 256 ∷ b i ∷ c i ∷ d i ∷ e i ∷ f i ∷ g i ∷ []
