-- Even shares: of quotas, and of first assignment.
use Rattle.std.proofs.Common.{◌≡◌, ◌≢◌, ℕ, zero, suc, ◌+◌, ◌-◌, ◌*◌, ◌/◌, ◌<◌, ◌≤◌, min, max, List, [], ◌∷◌, length, get_or, map, count_by, refl, ap, sym, ◌∙◌, subst, arith, Bool, true, false, cond, ltb, leb, ◌&&◌, ◌⊎◌, inl, inr}
use Rattle.std.proofs.Math.Nat.{mul-le-mul_right}
use Rattle.std.proofs.lemmas.Bool.{eq-eqb, ne_eqb, leb-true, ltb-true, and_parts, cases_lt}
use Rattle.std.proofs.lemmas.List.Sums.{sum_by-cons, AllPass-from_list_all}
use Rattle.std.proofs.lemmas.List.Elements.{All-get_or, All-map, Contains-get_or}
use Rattle.std.proofs.lemmas.List.FromFn.{get_or-range_with_len, length-range_with_len}
use Rattle.std.specs.List.{range_with_len, list_all, AllPairs, All}
use Rattle.hb_types.specs.declared.entry.Entry.{Entry}
use Rattle.hb_types.specs.declared.entry.Entry.TheVariants.{At}
use Rattle.hb_types.specs.Groups.{quota, first_assignment, first_entries, is_at}
use Rattle.hb_groups.specs.Counts.{IsPlaced, IsEvenShare, count_at}
use Rattle.hb_groups.proofs.Counting.{bit}
use Rattle.hb_groups.proofs.Seeing.{differ}

-- ---- facts that are tried for each number of areas and each position

each_from : (t : ℕ → Bool) (a n k : ℕ) → list_all t (range_with_len a n) ≡ true → a ≤ k → k < a + n → t k ≡ true
each_from t a n k all low high =
    let within : k - a < length (range_with_len a n) = omega (arith, length-range_with_len a n) in
    let at : get_or (range_with_len a n) (k - a) 0 ≡ k = get_or-range_with_len a n (k - a) 0 (omega arith) ∙ omega arith in
    let P : ℕ → Type 0 = λ m. t m ≡ true in
    subst P at (All-get_or P (range_with_len a n) (k - a) 0 within (AllPass-from_list_all t (range_with_len a n) all))

is_fair : ℕ → ℕ → Bool
is_fair areas i = ltb 1024 (quota i areas * areas + areas) && (ltb (quota i areas * areas) (1024 + areas) && leb (quota i (areas + 1) * areas) 1024)

are_fair : ℕ → Bool
are_fair areas = list_all (is_fair areas) (range_with_len 0 areas)

all_fair : list_all are_fair (range_with_len 1 16) ≡ true
unfolding is_fair are_fair
all_fair = refl

fair : (areas i : ℕ) → i < areas → areas ≤ 16 → (1024 < quota i areas * areas + areas) × (quota i areas * areas < 1024 + areas) × (quota i (areas + 1) * areas ≤ 1024)
unfolding is_fair are_fair
fair areas i l few =
    let row = each_from are_fair 1 16 areas all_fair (omega arith) (omega arith) in
    let one = each_from (is_fair areas) 0 areas i row (omega arith) (omega arith) in
    let outer = and_parts _ _ one in
    let inner = and_parts _ _ outer.1 in
    (ltb-true _ _ outer.0, ltb-true _ _ inner.0, leb-true _ _ inner.1)

pub quota-even : (areas i : ℕ) → i < areas → areas ≤ 16 → IsEvenShare (quota i areas) areas
quota-even areas i l few = let f = fair areas i l few in (f.0, f.1)

pub even-enough : (areas i count : ℕ) → i < areas → areas ≤ 15 → IsEvenShare count areas → quota i (areas + 1) ≤ count
even-enough areas i count l few even =
    elim (cases_lt count (quota i (areas + 1))) [
      | inl less ↦
          let more : (count + 1) * areas ≤ quota i (areas + 1) * areas = mul-le-mul_right areas (omega arith) in
          let f = fair areas i l (omega arith) in
          let spread : (count + 1) * areas ≡ count * areas + areas = grind arith in
          absurd (omega (arith, more, f.2, spread, even.0))
      | inr fits ↦ fits
    ]

-- ---- the groups of a position by first assignment stand in a row

-- the first group of a position
first_of : ℕ → ℕ → ℕ
first_of areas i = (i * 1024 + areas - 1) / areas

is_first : ℕ → ℕ → Bool
is_first areas i = leb (i * 1024) (first_of areas i * areas) && (ltb (first_of areas i * areas) (i * 1024 + areas) && leb (first_of areas i) 1024)

are_first : ℕ → Bool
are_first areas = list_all (is_first areas) (range_with_len 0 (areas + 1))

all_first : list_all are_first (range_with_len 1 16) ≡ true
unfolding is_first are_first first_of
all_first = refl

first_is : (areas i : ℕ) → 1 ≤ areas → areas ≤ 16 → i ≤ areas → (i * 1024 ≤ first_of areas i * areas) × (first_of areas i * areas < i * 1024 + areas) × (first_of areas i ≤ 1024)
unfolding is_first are_first
first_is areas i some few l =
    let row = each_from are_first 1 16 areas all_first (omega arith) (omega arith) in
    let one = each_from (is_first areas) 0 (areas + 1) i row (omega arith) (omega arith) in
    let outer = and_parts _ _ one in
    let inner = and_parts _ _ outer.1 in
    (leb-true _ _ outer.0, ltb-true _ _ inner.0, leb-true _ _ inner.1)

-- how many numbers of a row pass that pass from one place up to another
count_by-row : (p : ℕ → Bool) (low high a n : ℕ) → ((k : ℕ) → k < a + n → low ≤ k → k < high → p k ≡ true) → ((k : ℕ) → k < a + n → (k < low) ⊎ (high ≤ k) → p k ≡ false) → count_by p (range_with_len a n) ≡ min high (a + n) - max low a
count_by-row p low high a zero passes fails = omega arith
count_by-row p low high a (suc n) passes fails =
    let rest = count_by-row p low high (a + 1) n (λ k l. passes k (omega arith)) (λ k l. fails k (omega arith)) in
    let cons = sum_by-cons (λ k. cond (p k) 1 0) a (range_with_len (a + 1) n) in
    elim (cases_lt a low) [
      | inl before ↦
          let here : bit (p a) ≡ 0 = ap bit (fails a (omega arith) (inl before)) in
          omega (arith, rest, cons, here)
      | inr reached ↦ elim (cases_lt a high) [
        | inl inside ↦
            let here : bit (p a) ≡ 1 = ap bit (passes a (omega arith) reached inside) in
            omega (arith, rest, cons, here)
        | inr behind ↦
            let here : bit (p a) ≡ 0 = ap bit (fails a (omega arith) (inr behind)) in
            omega (arith, rest, cons, here)
      ]
    ]

count_by-map : {A B : Type 0} (p : B → Bool) (f : A → B) (xs : List A) → count_by p (map f xs) ≡ count_by (λ x. p (f x)) xs
count_by-map p f [] = refl
count_by-map p f (x ∷ xs) = omega (arith, sum_by-cons (λ y. cond (p y) 1 0) (f x) (map f xs), sum_by-cons (λ y. cond (p (f y)) 1 0) x xs, count_by-map p f xs)

-- a group between the first of a position and the first of the next one goes there
goes_to : (areas i k : ℕ) → 1 ≤ areas → areas ≤ 16 → i < areas → first_of areas i ≤ k → k < first_of areas (i + 1) → first_assignment k areas ≡ i
goes_to areas i k some few l low high =
    let a = first_is areas i some few (omega arith) in
    let b = first_is areas (i + 1) some few (omega arith) in
    let below : first_of areas i * areas ≤ k * areas = mul-le-mul_right areas low in
    let above : (k + 1) * areas ≤ first_of areas (i + 1) * areas = mul-le-mul_right areas (omega arith) in
    let spread : (k + 1) * areas ≡ k * areas + areas = grind arith in
    omega (arith, a.0, b.1, below, above, spread)

goes_elsewhere : (areas i k : ℕ) → 1 ≤ areas → areas ≤ 16 → i < areas → (k < first_of areas i) ⊎ (first_of areas (i + 1) ≤ k) → first_assignment k areas ≢ i
goes_elsewhere areas i k some few l (inl before) e =
    let a = first_is areas i some few (omega arith) in
    let above : (k + 1) * areas ≤ first_of areas i * areas = mul-le-mul_right areas (omega arith) in
    let spread : (k + 1) * areas ≡ k * areas + areas = grind arith in
    omega (arith, a.1, above, spread, e)
goes_elsewhere areas i k some few l (inr behind) e =
    let b = first_is areas (i + 1) some few (omega arith) in
    let below : first_of areas (i + 1) * areas ≤ k * areas = mul-le-mul_right areas behind in
    omega (arith, b.0, below, e)

first-below : (areas k : ℕ) → 1 ≤ areas → k < 1024 → first_assignment k areas < areas
first-below areas k some l =
    let below : (k + 1) * areas ≤ 1024 * areas = mul-le-mul_right areas (omega arith) in
    let spread : (k + 1) * areas ≡ k * areas + areas = grind arith in
    omega (arith, below, spread)

-- the entry of a group of a new table
entry_of : List ℕ → ℕ → Entry
entry_of areas g = At (get_or areas (first_assignment g (length areas)) 0)

row-placed : (areas : List ℕ) (n : ℕ) → n ≤ 1024 → 1 ≤ length areas → All (IsPlaced areas) (map (entry_of areas) (range_with_len 0 n))
unfolding entry_of
row-placed areas n short some = All-map (IsPlaced areas) (entry_of areas) (range_with_len 0 n) (λ k d l.
    let within : k < n = omega (arith, length-range_with_len 0 n) in
    let at : get_or (range_with_len 0 n) k d ≡ k = get_or-range_with_len 0 n k d within ∙ omega arith in
    let P : ℕ → Type 0 = λ g. IsPlaced areas (entry_of areas g) in
    subst P (sym at) (Contains-get_or areas (first_assignment k (length areas)) 0 (first-below (length areas) k some (omega arith))))

row-even : (areas : List ℕ) (n i : ℕ) → n ≡ 1024 → 1 ≤ length areas → length areas ≤ 16 → AllPairs (λ (a b : ℕ). a ≢ b) areas → i < length areas → IsEvenShare (count_at (map (entry_of areas) (range_with_len 0 n)) (get_or areas i 0)) (length areas)
unfolding entry_of
row-even areas n i whole some few apart l =
    let m = length areas in
    let area = get_or areas i 0 in
    let low = first_of m i in
    let high = first_of m (i + 1) in
    let a = first_is m i some few (omega arith) in
    let b = first_is m (i + 1) some few (omega arith) in
    let mapped = count_by-map (is_at area) (entry_of areas) (range_with_len 0 n) in
    let counted : count_by (λ g. is_at area (entry_of areas g)) (range_with_len 0 n) ≡ min high (0 + n) - max low 0 =
    count_by-row (λ g. is_at area (entry_of areas g)) low high 0 n
    (λ k within from to. eq-eqb _ _ (ap (λ p. get_or areas p 0) (goes_to m i k some few l from to)))
    (λ k within out. ne_eqb _ _ (differ areas i (first_assignment k m) apart l (first-below m k some (omega arith)) (λ e. goes_elsewhere m i k some few l out (sym e)))) in
    let order : low ≤ high = elim (cases_lt low high) [
      | inl less ↦ omega arith
      | inr more ↦
          let products : high * m ≤ low * m = mul-le-mul_right m more in
          absurd (omega (arith, products, a.1, b.0))
    ] in
    let count : count_at (map (entry_of areas) (range_with_len 0 n)) area + low ≡ high = omega (arith, mapped, counted, order, b.2) in
    let product : count_at (map (entry_of areas) (range_with_len 0 n)) area * m + low * m ≡ high * m = sum-mul _ low high m count in
    (omega (arith, product, a.0, a.1, b.0, b.1), omega (arith, product, a.0, a.1, b.0, b.1))
  where
    sum-mul : (c low high m : ℕ) → c + low ≡ high → c * m + low * m ≡ high * m
    sum-mul c low high m e = grind arith ∙ ap (λ k. k * m) e

pub first-full : (areas : List ℕ) → length (first_entries areas) ≡ 1024
first-full areas = refl

pub first-placed : (areas : List ℕ) → 1 ≤ length areas → All (IsPlaced areas) (first_entries areas)
unfolding entry_of
first-placed areas some = row-placed areas 1024 (omega arith) some

pub first-even : (areas : List ℕ) (i : ℕ) → 1 ≤ length areas → length areas ≤ 16 → AllPairs (λ (a b : ℕ). a ≢ b) areas → i < length areas → IsEvenShare (count_at (first_entries areas) (get_or areas i 0)) (length areas)
unfolding entry_of
first-even areas i some few apart l = row-even areas 1024 i refl some few apart l
