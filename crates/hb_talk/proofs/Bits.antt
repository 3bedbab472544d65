-- A node that is added to a set is in it, and no other node is in it for that.
use Rattle.std.proofs.Common.{◌≡◌, inl, inr, ◌⊎◌, ℕ, zero, suc, ◌+◌, ◌-◌, ◌/◌, ◌%◌, ◌^◌, ◌≤◌, ◌<◌, ◌==◌, Bool, true, false, cond, ap, sym, refl, ◌∙◌, arith, subst}
use Rattle.std.proofs.Math.Nat.{two-pow-succ}
use Rattle.std.proofs.lemmas.Nat.Bits.{bit_at_lowest, bit_at-suc, bit_at-lt}
use Rattle.std.proofs.lemmas.Bool.{false≢true}
use Rattle.std.specs.Int.{bit_at}
use Rattle.hb_model.specs.NodeSets.{has_node, with_node}

-- the bit that was added
bit_of : (n set : ℕ) → bit_at set n ≡ 0 → bit_at (set + 2 ^ n) n ≡ 1
bit_of zero set free =
    let even : set % 2 ≡ 0 = sym (bit_at_lowest set) ∙ free in
    let odd : (set + 1) % 2 ≡ 1 = omega (arith, even) in
    bit_at_lowest (set + 1) ∙ odd
bit_of (suc n) set free =
    let low : bit_at (set / 2) n ≡ 0 = sym (bit_at-suc set n) ∙ free in
    let half : (set + 2 ^ suc n) / 2 ≡ set / 2 + 2 ^ n = omega (arith, two-pow-succ n) in
    bit_at-suc (set + 2 ^ suc n) n ∙ ap (λ k. bit_at k n) half ∙ bit_of n (set / 2) low

-- each other bit
bit_beside : (n m set : ℕ) → bit_at set n ≡ 0 → (m ≡ n → ⊥) → bit_at (set + 2 ^ n) m ≡ bit_at set m
bit_beside zero zero set free other = absurd (other refl)
bit_beside zero (suc m) set free other =
    let even : set % 2 ≡ 0 = sym (bit_at_lowest set) ∙ free in
    let half : (set + 1) / 2 ≡ set / 2 = omega (arith, even) in
    bit_at-suc (set + 1) m ∙ ap (λ k. bit_at k m) half ∙ sym (bit_at-suc set m)
bit_beside (suc n) zero set free other =
    let same : (set + 2 ^ suc n) % 2 ≡ set % 2 = omega (arith, two-pow-succ n) in
    bit_at_lowest (set + 2 ^ suc n) ∙ same ∙ sym (bit_at_lowest set)
bit_beside (suc n) (suc m) set free other =
    let low : bit_at (set / 2) n ≡ 0 = sym (bit_at-suc set n) ∙ free in
    let half : (set + 2 ^ suc n) / 2 ≡ set / 2 + 2 ^ n = omega (arith, two-pow-succ n) in
    bit_at-suc (set + 2 ^ suc n) m ∙ ap (λ k. bit_at k m) half
    ∙ bit_beside n m (set / 2) low (λ e. other (ap (λ k. suc k) e)) ∙ sym (bit_at-suc set m)

is_zero : (q : ℕ) → q < 2 → (q == 1) ≡ false → q ≡ 0
is_zero zero bit free = refl
is_zero (suc zero) bit free = absurd (false≢true (sym free))
is_zero (suc (suc q)) bit free = absurd (omega (arith, bit))

free_bit : (set n : ℕ) → has_node set n ≡ false → bit_at set n ≡ 0
free_bit set n free = is_zero (bit_at set n) (bit_at-lt set n) free

same_or_not : (m n : ℕ) → (m ≡ n) ⊎ (m ≡ n → ⊥)
same_or_not zero zero = inl refl
same_or_not zero (suc n) = inr (λ e. absurd (omega (arith, e)))
same_or_not (suc m) zero = inr (λ e. absurd (omega (arith, e)))
same_or_not (suc m) (suc n) = elim (same_or_not m n) [ inl e ↦ inl (ap (λ k. suc k) e) | inr d ↦ inr (λ e. d (let p : m ≡ n = omega (arith, e) in p)) ]

-- the set with a node, by whether it was there
with_as : (set n : ℕ) (P : ℕ → Type 0) → (has_node set n ≡ true → P set) → (has_node set n ≡ false → P (set + 2 ^ n)) → P (with_node set n)
with_as set n P there free = by (has_node set n) refl
  where
    by : (b : Bool) → has_node set n ≡ b → P (cond b set (set + 2 ^ n))
    by true e = there e
    by false e = free e

pub with_it : (set n : ℕ) → has_node (with_node set n) n ≡ true
with_it set n = with_as set n (λ k. has_node k n ≡ true) (λ e. e) (λ e. ap (λ k. k == 1) (bit_of n set (free_bit set n e)))

pub with_others : (set n m : ℕ) → has_node set m ≡ true → has_node (with_node set n) m ≡ true
with_others set n m h =
    with_as set n (λ k. has_node k m ≡ true) (λ e. h)
    (λ e. ap (λ k. k == 1) (bit_beside n m set (free_bit set n e) (λ same. false≢true (sym e ∙ subst (λ k. has_node set k ≡ true) same h))) ∙ h)

pub only_with : (set n m : ℕ) → has_node (with_node set n) m ≡ true → (m ≡ n) ⊎ (has_node set m ≡ true)
only_with set n m h = elim (same_or_not m n) [ inl e ↦ inl e | inr d ↦ inr (before d) ]
  where
    before : (m ≡ n → ⊥) → has_node set m ≡ true
    before d =
        with_as set n (λ k. has_node k m ≡ true → has_node set m ≡ true) (λ e x. x)
        (λ e x. ap (λ k. k == 1) (sym (bit_beside n m set (free_bit set n e) d)) ∙ x) h
