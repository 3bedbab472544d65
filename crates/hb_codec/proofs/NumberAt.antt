-- What reading a number gives at its first byte.
use Rattle.std.proofs.Common.{◌≡◌, ℕ, zero, suc, ◌+◌, ◌-◌, ◌*◌, ◌≤◌, ◌<◌, true, false, List, [], ◌∷◌, length, drop, get_or, Result, Ok, Err, refl, sym, ◌∙◌, ap, subst, arith}
use Rattle.std.specs.Prelude.{nat_lt, nat_le, ◌&&◌}
use Rattle.std.proofs.lemmas.Bool.{leb-true, le-leb, lt-ltb, and_parts, and_from}
use Rattle.hb_codec.specs.declared.fault.ReadFault.{ReadFault}
use Rattle.hb_codec.specs.declared.fault.ReadFault.TheVariants as fault
use Rattle.hb_codec.specs.Readers.{◌>>=◌, Fails, digit, least_above, most_above, digit_fits, fits_at, number_in}
use Rattle.hb_codec.proofs.Digits.{by_test}

pub number_none : (turn width low high : ℕ) (bytes : List ℕ) → width ≡ 0 → number_in turn width low high bytes ≡ Ok (0, bytes)
unfolding number_in
number_none turn zero low high bytes z = refl
number_none turn (suc width) low high bytes z = absurd (omega (arith, z))

pub number_short : (turn width low high : ℕ) (bytes : List ℕ) → (width ≡ 0 → ⊥) → length bytes < 1 → number_in turn width low high bytes ≡ Err 0
unfolding number_in
number_short turn zero low high bytes some short = absurd (some refl)
number_short turn (suc width) low high [] some short = refl
number_short turn (suc width) low high (b ∷ bytes) some short = absurd (omega (arith, short))

module _ (turn width low high : ℕ) (bytes : List ℕ) (some : width ≡ 0 → ⊥) (long : 1 ≤ length bytes) where
  abbrev d : ℕ
  d = digit turn (width - 1) (get_or bytes 0 0)

  abbrev above : Result (ℕ × List ℕ) ℕ
  above = number_in turn (width - 1) (least_above low d) (most_above high d) (drop 1 bytes)

  pub number_refused : fits_at turn (width - 1) low high (get_or bytes 0 0) ≡ false → number_in turn width low high bytes ≡ Err (length bytes)
  unfolding number_in
  number_refused f = go turn width low high bytes some long (width - 1) refl f
    where
      go : (turn width low high : ℕ) (bytes : List ℕ) → (width ≡ 0 → ⊥) → 1 ≤ length bytes → (v : ℕ) → v ≡ width - 1 → fits_at turn v low high (get_or bytes 0 0) ≡ false → number_in turn width low high bytes ≡ Err (length bytes)
      go turn zero low high bytes some long v e f = absurd (some refl)
      go turn (suc width) low high [] some long v e f = absurd (omega (arith, long))
      go turn (suc width) low high (b ∷ bytes) some long v e f =
          let w : v ≡ width = omega (arith, e) in
          let g = subst (λ (k : ℕ). fits_at turn k low high b ≡ false) w f in
          let n : length bytes + 1 ≡ length (b ∷ bytes) = omega arith in
          rw g (ap (λ (k : ℕ). Err k) n)

  pub number_goes : fits_at turn (width - 1) low high (get_or bytes 0 0) ≡ true → number_in turn width low high bytes ≡ (above >>= λ n. Ok (d + 256 * n.0, n.1))
  unfolding number_in
  number_goes t = go turn width low high bytes some long (width - 1) refl t
    where
      go : (turn width low high : ℕ) (bytes : List ℕ) → (width ≡ 0 → ⊥) → 1 ≤ length bytes → (v : ℕ) → v ≡ width - 1 → fits_at turn v low high (get_or bytes 0 0) ≡ true
          → number_in turn width low high bytes ≡ (number_in turn v (least_above low (digit turn v (get_or bytes 0 0))) (most_above high (digit turn v (get_or bytes 0 0))) (drop 1 bytes) >>= λ n. Ok (digit turn v (get_or bytes 0 0) + 256 * n.0, n.1))
      go turn zero low high bytes some long v e f = absurd (some refl)
      go turn (suc width) low high [] some long v e f = absurd (omega (arith, long))
      go turn (suc width) low high (b ∷ bytes) some long v e f =
          let w : width ≡ v = omega (arith, e) in
          let g : fits_at turn width low high b ≡ true = subst (λ (k : ℕ). fits_at turn k low high b ≡ true) (sym w) f in
          let here : number_in turn (suc width) low high (b ∷ bytes) ≡ (number_in turn width (least_above low (digit turn width b)) (most_above high (digit turn width b)) bytes >>= λ n. Ok (digit turn width b + 256 * n.0, n.1)) = rw g refl in
          here ∙ ap (λ (k : ℕ). number_in turn k (least_above low (digit turn k b)) (most_above high (digit turn k b)) bytes >>= λ n. Ok (digit turn k b + 256 * n.0, n.1)) w

-- tests of a digit
pub refused_high : (low high d b : ℕ) → high < d → (nat_lt b 256 && digit_fits low high d) ≡ false
refused_high low high d b lt = by_test (nat_lt b 256 && digit_fits low high d) (λ t. absurd (omega (arith, lt, leb-true d high (and_parts (nat_le d high) (nat_le (least_above low d) (most_above high d)) (and_parts (nat_lt b 256) (digit_fits low high d) t).1).0))) (λ f. f)

pub refused_least : (low high d b : ℕ) → most_above high d < least_above low d → (nat_lt b 256 && digit_fits low high d) ≡ false
refused_least low high d b lt = by_test (nat_lt b 256 && digit_fits low high d) (λ t. absurd (omega (arith, lt, leb-true (least_above low d) (most_above high d) (and_parts (nat_le d high) (nat_le (least_above low d) (most_above high d)) (and_parts (nat_lt b 256) (digit_fits low high d) t).1).1))) (λ f. f)

pub accepted : (low high d b : ℕ) → b < 256 → d ≤ high → least_above low d ≤ most_above high d → (nat_lt b 256 && digit_fits low high d) ≡ true
accepted low high d b small le ok = and_from (nat_lt b 256) (digit_fits low high d) (lt-ltb b 256 small) (and_from (nat_le d high) (nat_le (least_above low d) (most_above high d)) (le-leb d high le) (le-leb (least_above low d) (most_above high d) ok))

-- a failure is handed on
pub fails_on : {A B : Type 0} (e : ReadFault) (r : Result A ℕ) (f : A → Result B ℕ) (total : Result B ℕ) → Fails e r → total ≡ (r >>= f) → Fails e total
fails_on fault.NoMemory r f total h e = tt
fails_on (fault.Left n) r f total h e = e ∙ ap (λ m. m >>= f) h

-- the same, as the code has it
pub number_whole : (turn width low high least most d : ℕ) (bytes back : List ℕ) → (width ≡ 0 → ⊥) → 1 ≤ length bytes → get_or bytes 0 0 < 256
    → d ≡ digit turn (width - 1) (get_or bytes 0 0) → least ≡ least_above low d → most ≡ most_above high d → back ≡ drop 1 bytes → d ≤ high → least ≤ most
    → number_in turn width low high bytes ≡ (number_in turn (width - 1) least most back >>= λ n. Ok (d + 256 * n.0, n.1))
number_whole turn width low high least most d bytes back some long small e_d e_l e_m e_b below fits =
    let d0 = digit turn (width - 1) (get_or bytes 0 0) in
    let l : least ≡ least_above low d0 = e_l ∙ ap (least_above low) e_d in
    let m : most ≡ most_above high d0 = e_m ∙ ap (most_above high) e_d in
    let fits0 : least_above low d0 ≤ most_above high d0 = subst (λ (k : ℕ). least_above low d0 ≤ k) m (subst (λ (k : ℕ). k ≤ most) l fits) in
    let below0 : d0 ≤ high = subst (λ (k : ℕ). k ≤ high) e_d below in
    let goes = number_goes turn width low high bytes some long (accepted low high d0 (get_or bytes 0 0) small below0 fits0) in
    goes ∙ (λ i. number_in turn (width - 1) (sym l i) (sym m i) (sym e_b i) >>= λ n. Ok (sym e_d i + 256 * n.0, n.1))

pub bind_is : {A B : Type 0} (r : Result A ℕ) (f : A → Result B ℕ) (total : Result B ℕ) (x : A) → r ≡ Ok x → total ≡ (r >>= f) → total ≡ f x
bind_is r f total x is e = e ∙ ap (λ m. m >>= f) is
