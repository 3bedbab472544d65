-- A bit that is not set can be added.
use Rattle.std.proofs.Common.{◌≡◌, ℕ, zero, suc, ◌+◌, ◌-◌, ◌/◌, ◌%◌, ◌^◌, ◌≤◌, ◌<◌, ◌==◌, false, true≢false, ap, sym, refl, ◌∙◌, arith}
use Rattle.std.proofs.Math.Nat.{two-pow-succ}
use Rattle.std.proofs.lemmas.Nat.Bits.{bit_at_lowest, bit_at-suc, bit_at-lt}
use Rattle.std.specs.Int.{bit_at}
use Rattle.hb_model.specs.NodeSets.{has_node}

doubled : (n k : ℕ) → 2 ^ (n + 1 + k) ≡ 2 ^ (n + k) + 2 ^ (n + k)
doubled n k = let one_more : n + 1 + k ≡ suc (n + k) = omega arith in ap (λ m. 2 ^ m) one_more ∙ two-pow-succ (n + k)

-- below a power of 2 that holds the bit
fits_with : (n k set : ℕ) → set < 2 ^ (n + 1 + k) → bit_at set n ≡ 0 → set + 2 ^ n < 2 ^ (n + 1 + k)
fits_with zero k set small free =
    let even : set % 2 ≡ 0 = sym (bit_at_lowest set) ∙ free in
    let one : 2 ^ 0 ≡ 1 = refl in
    omega (arith, small, even, one, doubled zero k)
fits_with (suc n) k set small free =
    let low : bit_at (set / 2) n ≡ 0 = sym (bit_at-suc set n) ∙ free in
    let longer : suc n + 1 + k ≡ suc (n + 1 + k) = omega arith in
    let width : 2 ^ (suc n + 1 + k) ≡ 2 ^ (n + 1 + k) + 2 ^ (n + 1 + k) = ap (λ m. 2 ^ m) longer ∙ two-pow-succ (n + 1 + k) in
    let below : set / 2 + 2 ^ n < 2 ^ (n + 1 + k) = fits_with n k (set / 2) (omega (arith, small, width)) low in
    omega (arith, below, width, two-pow-succ n)

is_zero : (q : ℕ) → q < 2 → (q == 1) ≡ false → q ≡ 0
is_zero zero bit free = refl
is_zero (suc zero) bit free = absurd (true≢false free)
is_zero (suc (suc q)) bit free = absurd (omega (arith, bit))

pub no_carry : (set n : ℕ) → set < 65536 → n ≤ 10 → has_node set n ≡ false → set + 2 ^ n < 65536
no_carry set n small within free =
    let width : n + 1 + (15 - n) ≡ 16 = omega arith in
    let whole : 2 ^ (n + 1 + (15 - n)) ≡ 65536 = ap (λ k. 2 ^ k) width in
    let fits : set + 2 ^ n < 2 ^ (n + 1 + (15 - n)) = fits_with n (15 - n) set (omega (arith, whole)) (is_zero (bit_at set n) (bit_at-lt set n) free) in
    omega (arith, whole, fits)
