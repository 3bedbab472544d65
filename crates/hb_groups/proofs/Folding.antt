-- A list whose items are made anew one after another, each by its number.
use Rattle.std.proofs.Common.{◌≡◌, ℕ, zero, suc, ◌+◌, ◌<◌, ◌≤◌, List, [], ◌∷◌, ◌++◌, length, get_or, set, take, drop, refl, ap, ◌∙◌, arith}
use Rattle.std.specs.List.{AllZip, AllByRecursion}
use Rattle.hb_types.specs.Groups.{map_from}

-- a list that is made anew up to a place, and one place further
set-map_from-suc : {A : Type 0} (f : ℕ → A → A) (n : ℕ) (xs : List A) (i : ℕ) (d v : A) → i < length xs → v ≡ f (n + i) (get_or xs i d) → set (map_from f n (take i xs) ++ drop i xs) i v ≡ map_from f n (take (suc i) xs) ++ drop (suc i) xs
set-map_from-suc f n [] i d v within is = absurd (omega arith)
set-map_from-suc f n (x ∷ xs) zero d v within is = ap (λ w. w ∷ xs) (is ∙ ap (λ m. f m x) (omega arith))
set-map_from-suc f n (x ∷ xs) (suc i) d v within is = ap (λ ws. f n x ∷ ws) (set-map_from-suc f (n + 1) xs i d v (omega arith) (is ∙ ap (λ m. f m (get_or xs i d)) (omega arith)))

pub set-map_from : {A : Type 0} (f : ℕ → A → A) (n : ℕ) (xs : List A) (i : ℕ) (d v : A) → i < length xs → v ≡ f (n + i) (get_or xs i d) → set (map_from f n (take i xs) ++ drop i xs) i v ≡ map_from f n (take (i + 1) xs) ++ drop (i + 1) xs
set-map_from f n xs i d v within is =
    let next : suc i ≡ i + 1 = omega arith in
    set-map_from-suc f n xs i d v within is ∙ ap (λ k. map_from f n (take k xs) ++ drop k xs) next

-- a list that is made anew to its end
pub map_from-all : {A : Type 0} (f : ℕ → A → A) (n : ℕ) (xs : List A) (i : ℕ) → length xs ≤ i → map_from f n (take i xs) ++ drop i xs ≡ map_from f n xs
map_from-all f n [] zero long = refl
map_from-all f n [] (suc i) long = refl
map_from-all f n (x ∷ xs) zero long = absurd (omega arith)
map_from-all f n (x ∷ xs) (suc i) long = ap (λ ys. f n x ∷ ys) (map_from-all f (n + 1) xs i (omega arith))

-- what stands at the place is as it was
pub get_or-map_from : {A : Type 0} (f : ℕ → A → A) (n : ℕ) (xs : List A) (i : ℕ) (d : A) → i < length xs → get_or (map_from f n (take i xs) ++ drop i xs) i d ≡ get_or xs i d
get_or-map_from f n [] i d within = absurd (omega arith)
get_or-map_from f n (x ∷ xs) zero d within = refl
get_or-map_from f n (x ∷ xs) (suc i) d within = get_or-map_from f (n + 1) xs i d (omega arith)

-- a relation of each item to the one that is made of it
pub AllZip-map_from : {A : Type 0} (R : A → A → Type 0) (f : ℕ → A → A) → ((n : ℕ) (x : A) → R x (f n x)) → (n : ℕ) (xs : List A) → AllZip R xs (map_from f n xs)
AllZip-map_from R f h n [] = tt
AllZip-map_from R f h n (x ∷ xs) = (h n x, AllZip-map_from R f h (n + 1) xs)

-- what holds of each item that is made
pub Each-map_from : {A : Type 0} (P Q : A → Type 0) (f : ℕ → A → A) → ((n : ℕ) (x : A) → P x → Q (f n x)) → (n : ℕ) (xs : List A) → AllByRecursion P xs → AllByRecursion Q (map_from f n xs)
Each-map_from P Q f h n [] all = tt
Each-map_from P Q f h n (x ∷ xs) all = (h n x all.0, Each-map_from P Q f h (n + 1) xs all.1)

pub length-map_from : {A : Type 0} (f : ℕ → A → A) (n : ℕ) (xs : List A) → length (map_from f n xs) ≡ length xs
length-map_from f n [] = refl
length-map_from f n (x ∷ xs) = ap suc (length-map_from f (n + 1) xs)
