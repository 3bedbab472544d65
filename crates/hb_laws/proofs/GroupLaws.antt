-- Groups lie below their count, and quotas sum to it.
use Rattle.std.proofs.Common.{◌≡◌, ℕ, zero, suc, ◌+◌, ◌<◌, ◌≤◌, ℤ, Bool, true, false, refl, subst, arith}
use Rattle.std.specs.Prelude.{◌==◌, ◌&&◌, ◌*◌, ◌/◌, ◌%◌}
use Rattle.std.specs.Int.{w32, cast_unsigned}
use Rattle.std.proofs.lemmas.Bool.{and_parts, eqb-true}
use Rattle.hb_types.specs.Groups.{group_of, groups}
use Rattle.hb_types.proofs.PutLaws.{by_test}
use Rattle.hb_laws.specs.Vectors.{quotas_in_all}

high_bits : (n : ℕ) → (n % 4294967296) / 4194304 < 1024
high_bits n = omega arith

pub group-below : (key : ℤ) → group_of key < groups
group-below key = high_bits (cast_unsigned w32 key * 2654435761)

-- a test of all numbers below one
abbrev below : (ℕ → Bool) → ℕ → Bool
below f zero = true
below f (suc n) = f n && below f n

below-at : (f : ℕ → Bool) (n k : ℕ) → k < n → below f n ≡ true → f k ≡ true
below-at f zero k h e = absurd (omega arith)
below-at f (suc n) k h e =
    by_test (k == n)
    (λ t. let same : k ≡ n = eqb-true k n t in rw same (and_parts (f n) (below f n) e).0)
    (λ t. below-at f n k (smaller n k h t) (and_parts (f n) (below f n) e).1)
  where
    smaller : (n k : ℕ) → k < suc n → (k == n) ≡ false → k < n
    smaller n k h t = grind arith

sixteen : below (λ k. quotas_in_all (k + 1) == 1024) 16 ≡ true
sixteen = refl

pub quotas-all : (areas : ℕ) → 1 ≤ areas → areas ≤ 16 → quotas_in_all areas ≡ groups
quotas-all zero h k = absurd (omega arith)
quotas-all (suc n) h k = of (below-at (λ k. quotas_in_all (k + 1) == 1024) 16 n (omega arith) sixteen)
  where
    of : (quotas_in_all (n + 1) == 1024) ≡ true → quotas_in_all (suc n) ≡ groups
    of e = let s : n + 1 ≡ suc n = omega arith in subst (λ k. quotas_in_all k ≡ groups) s (eqb-true (quotas_in_all (n + 1)) 1024 e)
