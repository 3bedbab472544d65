-- Runs of bytes of a kind.
use Rattle.std.proofs.Common.{◌≡◌, ℕ, zero, suc, ◌+◌, ◌<◌, ◌≤◌, Bool, true, false, List, [], ◌∷◌, length, take, drop, get_or, refl, arith, drop-cons, add-one}
use Rattle.std.specs.List.{All}
use Rattle.std.proofs.lemmas.List.Elements.{All-nil, All-cons}
use Rattle.hb_sqltoken.specs.Kinds.{run_of}

-- by whether a test holds
pub by_test : {G : Type 0} (b : Bool) → (b ≡ true → G) → (b ≡ false → G) → G
by_test true f g = f refl
by_test false f g = g refl

-- a byte of the kind is one more of the run
pub run_more : (kind : ℕ → Bool) (s : List ℕ) (i : ℕ) → i < length s → kind (get_or s i 0) ≡ true → i + run_of kind (drop i s) ≡ i + 1 + run_of kind (drop (i + 1) s)
unfolding run_of
run_more kind s i h e = rw (add-one, drop-cons s i 0) (rw e (omega arith))

-- the run ends at a byte that isn't
pub run_stops : (kind : ℕ → Bool) (s : List ℕ) (i : ℕ) → i < length s → kind (get_or s i 0) ≡ false → run_of kind (drop i s) ≡ 0
unfolding run_of
run_stops kind s i h e = rw (drop-cons s i 0) (rw e refl)

pub run_ends : (kind : ℕ → Bool) (s : List ℕ) (i : ℕ) → length s ≤ i → run_of kind (drop i s) ≡ 0
unfolding run_of
run_ends kind [] zero h = refl
run_ends kind [] (suc i) h = refl
run_ends kind (b ∷ s) zero h = absurd (omega arith)
run_ends kind (b ∷ s) (suc i) h = run_ends kind s i (omega arith)

-- a run stands within the bytes
pub run_within : (kind : ℕ → Bool) (s : List ℕ) → run_of kind s ≤ length s
unfolding run_of
run_within kind [] = omega arith
run_within kind (b ∷ s) = by_test (kind b) (λ t. rw t (let h = run_within kind s in omega arith)) (λ f. rw f (omega arith))

-- what a run holds
pub run_all : (kind : ℕ → Bool) (s : List ℕ) → All (λ d. kind d ≡ true) (take (run_of kind s) s)
unfolding run_of
run_all kind [] = All-nil (λ d. kind d ≡ true)
run_all kind (b ∷ s) = by_test (kind b)
    (λ t. rw t (All-cons (λ d. kind d ≡ true) b (take (run_of kind s) s) t (run_all kind s)))
    (λ f. rw f (All-nil (λ d. kind d ≡ true)))

pub front_cons : (s : List ℕ) (n : ℕ) → 0 < length s → take (1 + n) s ≡ get_or s 0 0 ∷ take n (drop 1 s)
front_cons [] n h = absurd (omega arith)
front_cons (b ∷ s) n h = let e : 1 + n ≡ suc n = omega arith in rw e refl
