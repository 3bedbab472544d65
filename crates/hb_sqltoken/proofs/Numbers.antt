-- Decimal numbers.
use Rattle.std.proofs.Common.{◌≡◌, ℕ, zero, suc, ◌+◌, ◌-◌, ◌*◌, ◌^◌, ◌<◌, ◌≤◌, true, List, [], ◌∷◌, length, drop, get_or, refl, arith, drop-cons, add-one}
use Rattle.std.proofs.Math.Nat.{pow-le-pow_right}
use Rattle.std.proofs.lemmas.Grind.{pow_more}
use Rattle.std.specs.Prelude.{nat_le}
use Rattle.std.specs.List.{All}
use Rattle.std.proofs.lemmas.List.Elements.{All-weaker}
use Rattle.std.proofs.lemmas.Bool.{and_parts, leb-true}
use Rattle.hb_sqltoken.specs.Kinds.{is_digit}
use Rattle.hb_sqltoken.specs.Tokens.{decimal}

pub decimal_goes : (n : ℕ) (s : List ℕ) (i : ℕ) → i < length s → decimal (10 * n + (get_or s i 0 - 48)) (drop (i + 1) s) ≡ decimal n (drop i s)
unfolding decimal
decimal_goes n s i h = rw (add-one, drop-cons s i 0) refl

-- one digit more is below the next power
pub digit_below : (n d i : ℕ) → n < 10 ^ i → d ≤ 57 → 10 * n + (d - 48) < 10 ^ (i + 1)
digit_below n d i h k = let e = pow_more 10 i in omega arith

-- 19 digits fit
pub digit_fits : (n d i : ℕ) → n < 10 ^ i → i < 19 → d ≤ 57 → 10 * n + (d - 48) < 2 ^ 64
digit_fits n d i h l k =
    let p : 10 ^ (i + 1) ≤ 10 ^ 19 = pow-le-pow_right {n = 10} (omega arith) {i = i + 1} {j = 19} (omega arith) in
    let q : 10 * n + (d - 48) < 10 ^ (i + 1) = digit_below n d i h k in
    omega arith

digit_range : (d : ℕ) → is_digit d ≡ true → (48 ≤ d) × (d ≤ 57)
unfolding is_digit
digit_range d t = let p = and_parts (nat_le 48 d) (nat_le d 57) t in (leb-true 48 d p.0, leb-true d 57 p.1)

pub digit_ranges : (s : List ℕ) → All (λ d. is_digit d ≡ true) s → All (λ d. (48 ≤ d) × (d ≤ 57)) s
digit_ranges s a = All-weaker (λ d. is_digit d ≡ true) (λ d. (48 ≤ d) × (d ≤ 57)) digit_range s a

pub decimal_done : (n : ℕ) (s : List ℕ) (i : ℕ) → length s ≤ i → decimal n (drop i s) ≡ n
unfolding decimal
decimal_done n [] zero h = refl
decimal_done n [] (suc i) h = refl
decimal_done n (b ∷ s) zero h = absurd (omega arith)
decimal_done n (b ∷ s) (suc i) h = decimal_done n s i (omega arith)
