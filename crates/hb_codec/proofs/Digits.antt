-- Bytes, and numbers of several bytes within bounds.
use Rattle.std.proofs.Common.{◌≡◌, ◌⊎◌, ⊎_elim, ℕ, zero, suc, ◌+◌, ◌-◌, ◌*◌, ◌/◌, ◌%◌, ◌^◌, ◌≤◌, ◌<◌, Bool, true, false, List, [], ◌∷◌, ◌++◌, length, take, drop, replicate, Result, Ok, Err, refl, sym, ◌∙◌, ap, subst, arith, length-append, take-append-drop}
use Rattle.std.specs.Prelude.{nat_lt, nat_le}
use Rattle.std.proofs.lemmas.List.{append-nil, take_at, drop_at, length-take, length-replicate}
use Rattle.std.proofs.lemmas.Bool.{leb-true, le-leb, leb-false, ltb-true, lt-ltb, and_parts, and_from}
use Rattle.std.proofs.Math.Nat.{pow-succ'}
use Rattle.hb_codec.specs.Reading.{Begins}
use Rattle.hb_codec.specs.Readers.{◌>>=◌, byte_in, exactly_in, digit, least_above, most_above, digit_fits, fits_at, number_in}
use Rattle.hb_codec.proofs.Calculus.{Reads, Stops, Bind, Pure, reads_bind, reads_pure, reads_same, ok_is}

-- by whether a test holds
pub by_test : {G : Type 0} (b : Bool) → (b ≡ true → G) → (b ≡ false → G) → G
by_test true f g = f refl
by_test false f g = g refl

-- ---- one byte

pub record IsByte (test : ℕ → Bool) (b : ℕ) (bytes : List ℕ) : Type 0 where
  pub fits : test b ≡ true
  pub is : bytes ≡ b ∷ []

byte_sound : (test : ℕ → Bool) (bytes : List ℕ) (x : ℕ) (rest : List ℕ) → byte_in test bytes ≡ Ok (x, rest) → (front : List ℕ) × (bytes ≡ front ++ rest) × IsByte test x front
byte_sound test [] x rest e = absurd cc
byte_sound test (b ∷ bytes) x rest e = by_test (test b)
    (λ t. let p : (b, bytes) ≡ (x, rest) = ok_is (b, bytes) (x, rest) (rw t at e) in
    let head : b ≡ x = ap (λ (q : ℕ × List ℕ). q.0) p in
    (b ∷ [], ap (λ (l : List ℕ). b ∷ l) (ap (λ (q : ℕ × List ℕ). q.1) p), record { fits = subst (λ (k : ℕ). test k ≡ true) head t; is = ap (λ (k : ℕ). k ∷ []) head }))
    (λ f. absurd (none (rw f at e)))
  where
    none : {n : ℕ} {p : ℕ × List ℕ} → Err n ≡ Ok p → ⊥
    none e = cc

byte_complete : (test : ℕ → Bool) (x : ℕ) (front rest : List ℕ) → IsByte test x front → byte_in test (front ++ rest) ≡ Ok (x, rest)
byte_complete test x front rest is =
    let t = is.fits in
    ap (λ (l : List ℕ). byte_in test (l ++ rest)) is.is ∙ rw t refl

byte_stops : (test : ℕ → Bool) (w : ℕ) → test w ≡ true → (bytes : List ℕ) (left : ℕ) → byte_in test bytes ≡ Err left → Stops (IsByte test) bytes left
byte_stops test w t [] left e = record { front = []; back = []; split = refl; long = (cc); begins = (w, w ∷ [], record { fits = t; is = refl }); longest = λ f b split is. (let z : 0 ≡ left = cc in omega arith) }
byte_stops test w t (b ∷ bytes) left e = record {
  front = [];
  back = b ∷ bytes;
  split = refl;
  long = left_is;
  begins = (w, w ∷ [], record { fits = t; is = refl });
  longest = λ f c split is. longest f c split is;
}
  where
    refused : test b ≡ false
    refused = by_test (test b) (λ y. absurd (none (rw y at e))) (λ n. n)
      where
        none : {n : ℕ} {p : ℕ × List ℕ} → Ok p ≡ Err n → ⊥
        none e = cc

    left_is : length (b ∷ bytes) ≡ left
    left_is = let f = refused in let same = rw f at e in (let n : length bytes + 1 ≡ left = cc in omega arith)

    longest : (f c : List ℕ) → b ∷ bytes ≡ f ++ c → Begins (IsByte test) f → left ≤ length c
    longest [] c split is = omega (arith, left_is, ap length split)
    longest (h ∷ f) c split is =
        let head : b ≡ h = cc in
        let same : h ≡ is.0 = heads is.2.is in
        absurd (both (subst (λ (k : ℕ). test k ≡ true) (sym (head ∙ same)) is.2.fits) refused)
      where
        heads : {k m : ℕ} {l r : List ℕ} → k ∷ l ≡ m ∷ r → k ≡ m
        heads e = cc

        both : {v : Bool} → v ≡ true → v ≡ false → ⊥
        both p q = cc

pub reads_byte : (test : ℕ → Bool) (w : ℕ) → test w ≡ true → Reads (IsByte test) (byte_in test)
reads_byte test w t = record { some = (w, w ∷ [], record { fits = t; is = refl }); sound = byte_sound test; complete = byte_complete test; exact = byte_stops test w t }

-- ---- so many bytes

pub record IsExactly (n : ℕ) (x bytes : List ℕ) : Type 0 where
  pub long : length x ≡ n
  pub is : bytes ≡ x

pub reads_exactly : (n : ℕ) → Reads (IsExactly n) (exactly_in n)
reads_exactly n = record {
  some = (replicate n 0, replicate n 0, record { long = length-replicate {A = ℕ} n 0; is = refl });
  sound = sound;
  complete = complete;
  exact = stops;
}
  where
    sound : (bytes x rest : List ℕ) → exactly_in n bytes ≡ Ok (x, rest) → (front : List ℕ) × (bytes ≡ front ++ rest) × IsExactly n x front
    sound bytes x rest e = by_test (nat_le n (length bytes))
        (λ t. let p : (take n bytes, drop n bytes) ≡ (x, rest) = ok_is (take n bytes, drop n bytes) (x, rest) (rw t at e) in
        let head : take n bytes ≡ x = ap (λ (q : List ℕ × List ℕ). q.0) p in
        let le : n ≤ length bytes = leb-true n (length bytes) t in
        let tail : drop n bytes ≡ rest = ap (λ (q : List ℕ × List ℕ). q.1) p in
        (x, sym (take-append-drop n bytes) ∙ (λ i. head i ++ tail i), record { long = sym (ap length head) ∙ omega (arith, length-take n bytes); is = refl }))
        (λ f. absurd (none (rw f at e)))
      where
        none : {n : ℕ} {p : List ℕ × List ℕ} → Err n ≡ Ok p → ⊥
        none e = cc

    complete : (x front rest : List ℕ) → IsExactly n x front → exactly_in n (front ++ rest) ≡ Ok (x, rest)
    complete x front rest is =
        let long : length front ≡ n = ap length is.is ∙ is.long in
        let t : nat_le n (length (front ++ rest)) ≡ true = le-leb n (length (front ++ rest)) (omega (arith, length-append front rest)) in
        rw (t, take_at front rest n long, drop_at front rest n long) (ap (λ (l : List ℕ). Ok (l, rest)) is.is)

    stops : (bytes : List ℕ) (left : ℕ) → exactly_in n bytes ≡ Err left → Stops (IsExactly n) bytes left
    stops bytes left e = by_test (nat_le n (length bytes))
        (λ t. absurd (none (rw t at e)))
        (λ f. let z : 0 ≡ left = zero_is (rw f at e) in
        let short : length bytes < n = leb-false n (length bytes) f in
        let pad : List ℕ = replicate (n - length bytes) 0 in
        record {
          front = bytes;
          back = [];
          split = sym (append-nil bytes);
          long = z;
          begins = (bytes ++ pad, pad, record { long = omega (arith, short, length-append bytes pad, length-replicate {A = ℕ} (n - length bytes) 0); is = refl });
          longest = λ f b split is. omega (arith, z);
        })
      where
        none : {n : ℕ} {p : List ℕ × List ℕ} → Ok p ≡ Err n → ⊥
        none e = cc

        zero_is : {l : ℕ} → (let r : Result (List ℕ × List ℕ) ℕ = Err 0 in r) ≡ Err l → 0 ≡ l
        zero_is e = cc

-- ---- numbers

abbrev pub digits : ℕ → ℕ → ℕ → List ℕ
digits turn zero n = []
digits turn (suc width) n = digit turn width (n % 256) ∷ digits turn width (n / 256)

abbrev pub IsTurn : ℕ → Type 0
IsTurn turn = (turn ≡ 0) ⊎ (turn ≡ 128)

pub record IsNumber (turn width low high n : ℕ) (bytes : List ℕ) : Type 0 where
  pub above : low ≤ n
  pub below : n ≤ high
  pub is : bytes ≡ digits turn width n

digit_below : (turn width d : ℕ) → IsTurn turn → d < 256 → digit turn width d < 256
digit_below turn zero d t lt = omega arith
digit_below turn (suc width) d t lt = lt

digit_twice : (turn width d : ℕ) → IsTurn turn → d < 256 → digit turn width (digit turn width d) ≡ d
digit_twice turn zero d t lt = ⊎_elim (λ e. omega (arith, e)) (λ e. omega (arith, e)) t
digit_twice turn (suc width) d t lt = refl

pub fits : (low high d n : ℕ) → low ≤ d + 256 * n → d + 256 * n ≤ high → digit_fits low high d ≡ true
fits low high d n above below = and_from (nat_le d high) (nat_le (least_above low d) (most_above high d)) (le-leb d high (omega arith)) (le-leb (least_above low d) (most_above high d) (omega arith))

module _ (turn width low high : ℕ) (t : IsTurn turn) where
  Split : ℕ → List ℕ → Type 0
  Split = Bind (IsByte (fits_at turn width low high)) (λ b. Bind (IsNumber turn width (least_above low (digit turn width b)) (most_above high (digit turn width b))) (λ n. Pure (digit turn width b + 256 * n)))

  to : (n : ℕ) (bytes : List ℕ) → Split n bytes → IsNumber turn (suc width) low high n bytes
  unfolding Split
  to n bytes is =
      let b = is.value in
      let d = digit turn width b in
      let m = is.is_second.value in
      let p = and_parts (nat_lt b 256) (digit_fits low high d) is.is_first.fits in
      let small : b < 256 = ltb-true b 256 p.0 in
      let d_small : d < 256 = digit_below turn width b t small in
      let q = and_parts (nat_le d high) (nat_le (least_above low d) (most_above high d)) p.1 in
      let d_fits : d ≤ high = leb-true d high q.0 in
      let n_is : n ≡ d + 256 * m = is.is_second.is_second.is in
      let above : least_above low d ≤ m = is.is_second.is_first.above in
      let below : m ≤ most_above high d = is.is_second.is_first.below in
      let low_is : n % 256 ≡ d = omega (arith, n_is, d_small) in
      let high_is : n / 256 ≡ m = omega (arith, n_is, d_small) in
      let head : digit turn width (n % 256) ≡ b = ap (digit turn width) low_is ∙ digit_twice turn width b t small in
      let whole : bytes ≡ b ∷ digits turn width m =
      is.split ∙ (λ i. is.is_first.is i ++ is.back) ∙ ap (λ (l : List ℕ). b ∷ l)
      (is.is_second.split ∙ ap (λ (l : List ℕ). is.is_second.front ++ l) is.is_second.is_second.empty ∙ append-nil is.is_second.front ∙ is.is_second.is_first.is) in
      record {
        above = omega (arith, n_is, above);
        below = omega (arith, n_is, below, d_fits);
        is = whole ∙ (λ i. sym head i ∷ digits turn width (sym high_is i));
      }

  from : (n : ℕ) (bytes : List ℕ) → IsNumber turn (suc width) low high n bytes → Split n bytes
  unfolding Split
  from n bytes is =
      let e = n % 256 in
      let b = digit turn width e in
      let m = n / 256 in
      let e_small : e < 256 = omega arith in
      let d_is : digit turn width b ≡ e = digit_twice turn width e t e_small in
      let n_is : n ≡ e + 256 * m = omega arith in
      let above = is.above in
      let below = is.below in
      let ok : fits_at turn width low high b ≡ true = and_from (nat_lt b 256) (digit_fits low high (digit turn width b)) (lt-ltb b 256 (digit_below turn width e t e_small))
      (subst (λ (d : ℕ). digit_fits low high d ≡ true) (sym d_is) (fits low high e m (omega arith) (omega arith))) in
      record {
        value = b;
        front = b ∷ [];
        back = digits turn width m;
        split = is.is;
        is_first = record { fits = ok; is = refl };
        is_second = record {
          value = m;
          front = digits turn width m;
          back = [];
          split = sym (append-nil (digits turn width m));
          is_first = record {
            above = subst (λ (d : ℕ). least_above low d ≤ m) (sym d_is) (omega arith);
            below = subst (λ (d : ℕ). m ≤ most_above high d) (sym d_is) (omega arith);
            is = refl;
          };
          is_second = record { is = n_is ∙ ap (λ (d : ℕ). d + 256 * m) (sym d_is); empty = refl };
        };
      }

pub reads_number : (turn width low high : ℕ) → IsTurn turn → low ≤ high → high < 256 ^ width → Reads (IsNumber turn width low high) (number_in turn width low high)
unfolding number_in Split from
reads_number turn zero low high t le lt = reads_same (Pure 0) (IsNumber turn zero low high) (λ bytes. Ok (0, bytes))
    (λ n bytes is. let z = is.is in record { above = omega arith; below = omega arith; is = is.empty })
    (λ n bytes is. let a = is.above in let b = is.below in record { is = omega arith; empty = is.is })
    (reads_pure 0)
reads_number turn (suc width) low high t le lt =
    reads_same (Split turn width low high t) (IsNumber turn (suc width) low high) (number_in turn (suc width) low high) (to turn width low high t) (from turn width low high t)
    (reads_bind _ _ (byte_in (fits_at turn width low high)) (λ b bytes. number_in turn width (least_above low (digit turn width b)) (most_above high (digit turn width b)) bytes >>= λ n. Ok (digit turn width b + 256 * n.0, n.1))
    (reads_byte (fits_at turn width low high) first first_fits) (λ b a is. second (λ l h le lt. reads_number turn width l h t le lt) b is.fits))
  where
    first : ℕ
    first = digit turn width (low % 256)

    start : Split turn width low high t low (digits turn (suc width) low)
    start = from turn width low high t low (digits turn (suc width) low) (record { above = omega arith; below = le; is = refl })

    first_fits : fits_at turn width low high start.value ≡ true
    first_fits = start.is_first.fits

    second : ((l h : ℕ) → l ≤ h → h < 256 ^ width → Reads (IsNumber turn width l h) (number_in turn width l h)) → (b : ℕ) → fits_at turn width low high b ≡ true → Reads (Bind (IsNumber turn width (least_above low (digit turn width b)) (most_above high (digit turn width b))) (λ n. Pure (digit turn width b + 256 * n)))
        (λ bytes. number_in turn width (least_above low (digit turn width b)) (most_above high (digit turn width b)) bytes >>= λ n. Ok (digit turn width b + 256 * n.0, n.1))
    second again b ok =
        let d = digit turn width b in
        let p = and_parts (nat_lt b 256) (digit_fits low high d) ok in
        let q = and_parts (nat_le d high) (nat_le (least_above low d) (most_above high d)) p.1 in
        let le : least_above low d ≤ most_above high d = leb-true (least_above low d) (most_above high d) q.1 in
        reads_bind _ _ (number_in turn width (least_above low d) (most_above high d)) (λ n bytes. Ok (d + 256 * n, bytes))
        (again (least_above low d) (most_above high d) le (omega (arith, pow-succ' 256 width))) (λ n a is. reads_pure (d + 256 * n))
