-- A node is made of the first disks that are left.
use Rattle.std.proofs.Common.{◌≡◌, ◌⊎◌, inl, inr, ℕ, zero, suc, ◌+◌, ◌≤◌, ◌<◌, List, [], ◌∷◌, ◌++◌, length, get_or, All, sym, ap, subst, refl, arith, length-append, take, drop}
use Rattle.std.proofs.lemmas.List.Elements.{All-append, All-drop, All-same, All-take}
use Rattle.hb_reach.specs.Told.{Meanings}
use Rattle.hb_system.specs.Making.{IsMade, AreMade, origin_of, server_origin}

got_last : {N : Type 0} (xs : List N) (x d : N) → get_or (xs ++ x ∷ []) (length xs) d ≡ x
got_last [] x d = refl
got_last (y ∷ ys) x d = got_last ys x d

got_before : {N : Type 0} (xs : List N) (x d : N) (k : ℕ) → k < length xs → get_or (xs ++ x ∷ []) k d ≡ get_or xs k d
got_before [] x d k h = absurd (omega (arith, h))
got_before (y ∷ ys) x d zero h = refl
got_before (y ∷ ys) x d (suc k) h = got_before ys x d k (omega (arith, h))

below_or_at : (k i : ℕ) → k < i + 1 → (k < i) ⊎ (k ≡ i)
below_or_at zero zero h = inr refl
below_or_at zero (suc i) h = inl (omega arith)
below_or_at (suc k) zero h = absurd (omega (arith, h))
below_or_at (suc k) (suc i) h = next (below_or_at k i (omega (arith, h)))
  where
    next : (k < i) ⊎ (k ≡ i) → (suc k < suc i) ⊎ (suc k ≡ suc i)
    next (inl lt) = inl (omega (arith, lt))
    next (inr e) = inr (ap (λ (n : ℕ). suc n) e)

pub made_more : {N : Type 0} (premise : Type 0) (m : Meanings N) (moment : ℕ) (nodes : List N) (node : N) → AreMade premise m moment nodes → IsMade premise m moment (length nodes) node → AreMade premise m moment (nodes ++ node ∷ [])
made_more {N} premise m moment nodes node are is k d lt = by_place (below_or_at k (length nodes) (omega (arith, lt, length-append nodes (node ∷ []))))
  where
    by_place : (k < length nodes) ⊎ (k ≡ length nodes) → IsMade premise m moment k (get_or (nodes ++ node ∷ []) k d)
    by_place (inl below) = subst (λ (x : N). IsMade premise m moment k x) (sym (got_before nodes node d k below)) (are k d below)
    by_place (inr at) = subst (λ (j : ℕ). IsMade premise m moment j (get_or (nodes ++ node ∷ []) j d)) (sym at) (subst (λ (x : N). IsMade premise m moment (length nodes) x) (sym (got_last nodes node d)) is)

pub rest_all : {D : Type 0} (P : D → Type 0) (xs ys : List D) → ys ≡ take 0 xs ++ drop 1 xs → All P xs → All P ys
rest_all P xs ys is all = All-same P ys (take 0 xs ++ drop 1 xs) is (All-append P (take 0 xs) (drop 1 xs) (All-take P 0 xs all) (All-drop P 1 xs all))

pub first_of : {D : Type 0} (P : D → Type 0) (xs : List D) (x : D) → x ≡ get_or xs 0 x → 1 ≤ length xs → All P xs → P x
first_of P xs x is some all = subst P (sym is) (all 0 x (omega (arith, some)))

pub origin_later : (n : ℕ) → 1 ≤ n → server_origin ≡ origin_of n
origin_later zero h = absurd (omega (arith, h))
origin_later (suc n) h = refl
