-- Ascending lists of items with ranks below a limit: what stands ahead leaves ranks for what follows.
use Rattle.std.proofs.Common.{◌≡◌, ℕ, zero, suc, ◌+◌, ◌≤◌, ◌<◌, List, [], ◌∷◌, ◌++◌, length, map, refl, sym, ◌∙◌, ap, subst, arith}
use Rattle.std.specs.List.{AllByRecursion}
use Rattle.std.specs.declared.cmp.Ordering.{Ordering}
use Rattle.hb_types.specs.Lists.{Ascends, joined}
use Rattle.hb_codec.proofs.Lists.{Many, parts, cons}
use Rattle.hb_codec.proofs.Ranks.{Goes, less_of, of_less}

-- ranks ascend strictly, from a least one on
abbrev pub Above : {X : Type 0} → (X → ℕ) → ℕ → List X → Type 0
Above rank least [] = Unit {0}
Above rank least (x ∷ xs) = (least ≤ rank x) × Above rank (rank x + 1) xs

-- an item before n more
pub record IsItemAt {X : Type 0} (rank : X → ℕ) (Fit : X → Type 0) (text : X → List ℕ) (limit n least : ℕ) (x : X) (bytes : List ℕ) : Type 0 where
  pub fits : Fit x
  pub is : bytes ≡ text x
  pub above : least ≤ rank x
  pub below : rank x + n < limit

pub record AreItems {X : Type 0} (rank : X → ℕ) (Fit : X → Type 0) (text : X → List ℕ) (n least : ℕ) (xs : List X) (bytes : List ℕ) : Type 0 where
  pub count : length xs ≡ n
  pub fit : AllByRecursion Fit xs
  pub up : Above rank least xs
  pub is : bytes ≡ joined (map text xs)

nil : {X : Type 0} (l : List X) → length l ≡ 0 → l ≡ []
nil [] z = refl
nil (x ∷ l) z = absurd (omega (arith, z))

module _ {X : Type 0} (cmp : X → X → Ordering) (rank : X → ℕ) (Fit : X → Type 0) (goes : (x y : X) → Fit x → Fit y → Goes (cmp x y) (rank x) (rank y)) where
  pub above_behind : (x : X) (xs : List X) → AllByRecursion Fit (x ∷ xs) → Ascends cmp (x ∷ xs) → Above rank (rank x + 1) xs
  above_behind x [] fit up = tt
  above_behind x (y ∷ ys) fit up =
      let less = less_of (cmp x y) (rank x) (rank y) (goes x y fit.0 fit.1.0) up.0 in
      (omega (arith, less), above_behind y ys fit.1 up.1)

  pub above_none : (xs : List X) → AllByRecursion Fit xs → Ascends cmp xs → (least : ℕ) → ((x : X) → Fit x → least ≤ rank x) → Above rank least xs
  above_none [] fit up least low = tt
  above_none (x ∷ xs) fit up least low = (low x fit.0, above_behind x xs fit up)

  pub ascends_of : (least : ℕ) (xs : List X) → AllByRecursion Fit xs → Above rank least xs → Ascends cmp xs
  ascends_of least [] fit up = tt
  ascends_of least (x ∷ []) fit up = tt
  ascends_of least (x ∷ y ∷ ys) fit up =
      (of_less (cmp x y) (rank x) (rank y) (goes x y fit.0 fit.1.0) (omega (arith, up.1.0)), ascends_of (rank x + 1) (y ∷ ys) fit.1 up.1)

module _ {X : Type 0} (rank : X → ℕ) (Fit : X → Type 0) (text : X → List ℕ) (limit : ℕ) (below : (x : X) → Fit x → rank x < limit) where
  pub above_room : (least : ℕ) (xs : List X) → AllByRecursion Fit xs → Above rank least xs → least ≤ limit → least + length xs ≤ limit
  above_room least [] fit up le = omega (arith, le)
  above_room least (x ∷ xs) fit up le =
      let b = below x fit.0 in
      let more = above_room (rank x + 1) xs fit.1 up.1 (omega (arith, b)) in
      omega (arith, more, up.0)

  abbrev At : ℕ → ℕ → X → List ℕ → Type 0
  At n least = IsItemAt rank Fit text limit n least

  abbrev next : ℕ → ℕ → X → ℕ
  next n least x = rank x + 1

  pub items_to : (n least : ℕ) (xs : List X) (bytes : List ℕ) → Many At next n least xs bytes → AreItems rank Fit text n least xs bytes
  items_to zero least xs bytes is = record {
    count = ap length is.is;
    fit = subst (AllByRecursion Fit) (sym is.is) tt;
    up = subst (Above rank least) (sym is.is) tt;
    is = is.empty ∙ sym (ap (λ (l : List X). joined (map text l)) is.is);
  }
  items_to (suc n) least xs bytes is =
      let p = parts At next n least xs bytes is in
      let more = items_to n (rank p.first + 1) p.others p.back p.more in
      record {
        count = ap length p.is ∙ omega (arith, more.count);
        fit = subst (AllByRecursion Fit) (sym p.is) (p.one.fits, more.fit);
        up = subst (Above rank least) (sym p.is) (p.one.above, more.up);
        is = p.split ∙ (λ i. p.one.is i ++ more.is i) ∙ sym (ap (λ (l : List X). joined (map text l)) p.is);
      }

  pub items_from : (n least : ℕ) (xs : List X) (bytes : List ℕ) → AreItems rank Fit text n least xs bytes → Many At next n least xs bytes
  items_from zero least xs bytes are = let none = nil xs are.count in record { is = none; empty = are.is ∙ ap (λ (l : List X). joined (map text l)) none }
  items_from (suc n) least [] bytes are = absurd (omega (arith, are.count))
  items_from (suc n) least (x ∷ xs) bytes are =
      let count : length xs ≡ n = omega (arith, are.count) in
      let b = below x are.fit.0 in
      let room = above_room (rank x + 1) xs are.fit.1 are.up.1 (omega (arith, b)) in
      subst (Many At next (suc n) least (x ∷ xs)) (sym are.is)
      (cons At next n least x xs (text x) (joined (map text xs))
      (record { fits = are.fit.0; is = refl; above = are.up.0; below = omega (arith, room, count) })
      (items_from n (rank x + 1) xs (joined (map text xs)) (record { count = count; fit = are.fit.1; up = are.up.1; is = refl })))
