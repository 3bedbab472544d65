-- How many groups lie in each area, before and after an area is added.
use Rattle.std.proofs.Common.{◌≡◌, ◌≢◌, ℕ, zero, suc, ◌+◌, ◌<◌, min, List, [], ◌∷◌, ◌++◌, length, get_or, take, refl, ap, sym, ◌∙◌, arith, Bool, true, false, cond, eqb, ltb, count_by, sum_by, Contains, inl, inr, nat_eq, append_assoc, append-nil, length-append, if◌then◌else◌}
use Rattle.std.proofs.lemmas.Bool.Decides.{eqb_tells, nat_tests}
use Rattle.std.proofs.lemmas.List.Sums.{sum_by-cons, sum_by_push}
use Rattle.std.proofs.Math.Seq.{take-append_seam}
use Rattle.std.specs.List.{IsDistinct, AllByRecursion}
use Rattle.hb_types.specs.declared.entry.Entry.{Entry}
use Rattle.hb_types.specs.declared.entry.Entry.TheVariants.{At, Moving}
use Rattle.hb_types.specs.Groups.{is_at, is_moving, target, reassigned, entry_after, map_from, quota, position_of}
use Rattle.hb_groups.specs.Counts.{IsPlaced, count_at, StaysOrMoves}

-- 1 for true
abbrev pub bit : Bool → ℕ
bit t = cond t 1 0

stays_here : (a area added : ℕ) (stays : Bool) → eqb a area ≡ true → bit (is_at area (if stays then At a else Moving a added)) ≡ bit stays
stays_here a area added true e = ap (λ b. bit b) e
stays_here a area added false e = refl

not_here : (a area added : ℕ) (stays : Bool) → eqb a area ≡ false → bit (is_at area (if stays then At a else Moving a added)) ≡ 0
not_here a area added true e = ap (λ b. bit b) e
not_here a area added false e = refl

one_more : (c q : ℕ) → bit (ltb c q) + min c q ≡ min (c + 1) q
one_more c q = grind (arith, nat_tests)

-- an entry stays while there is room
kept_one : (area c q c' q' added : ℕ) (x : Entry) → (target x ≡ area → (c' ≡ c) × (q' ≡ q)) → bit (is_at area (reassigned c' q' added x)) + min c q ≡ min (c + bit (is_at area x)) q
kept_one area c q c' q' added (At a) h = elim (eqb_tells a area) [
  | inl here ↦
      let e = h here.1 in
      let same : bit (ltb c' q') ≡ bit (ltb c q) = ap (λ (p : ℕ × ℕ). bit (ltb p.0 p.1)) (pair_eq c' q' c q e.0 e.1) in
      let left = stays_here a area added (ltb c' q') here.0 in
      let right : min (c + bit (eqb a area)) q ≡ min (c + 1) q = ap (λ b. min (c + bit b) q) here.0 in
      let more = one_more c q in
      ap (λ k. k + min c q) (left ∙ same) ∙ more ∙ sym right
  | inr there ↦
      let left = not_here a area added (ltb c' q') there.0 in
      let right : min (c + bit (eqb a area)) q ≡ min (c + 0) q = ap (λ b. min (c + bit b) q) there.0 in
      omega (arith, left, right)
]
  where
    pair_eq : (a b c d : ℕ) → a ≡ c → b ≡ d → Path (ℕ × ℕ) (a, b) (c, d)
    pair_eq a b c d e f = ap (λ x. (x, b)) e ∙ ap (λ y. (c, y)) f
kept_one area c q c' q' added (Moving a b) h = omega arith

-- of each area as many stay as there are, up to its quota
pub count_at-reassigned : (all : List Entry) (areas : List ℕ) (added area n : ℕ) (front rest : List Entry) → all ≡ front ++ rest → n ≡ length front → count_at (map_from (entry_after all areas added) n rest) area + min (count_at front area) (quota (position_of areas area) (length areas + 1)) ≡ min (count_at all area) (quota (position_of areas area) (length areas + 1))
count_at-reassigned all areas added area n front [] e l =
    let same : all ≡ front = e ∙ append-nil front in
    omega (arith, ap (λ es. min (count_at es area) (quota (position_of areas area) (length areas + 1))) same)
count_at-reassigned all areas added area n front (x ∷ xs) e l =
    let kept = quota (position_of areas area) (length areas + 1) in
    let f = entry_after all areas added in
    let rest = count_at-reassigned all areas added area (n + 1) (front ++ x ∷ []) xs (e ∙ sym (append_assoc front (x ∷ []) xs)) (ap (λ k. k + 1) l ∙ sym (length-append front (x ∷ []))) in
    let before : take n all ≡ front = ap (take n) e ∙ ap (λ k. take k (front ++ x ∷ xs)) l ∙ take-append_seam front (x ∷ xs) in
    let one = kept_one area (count_at front area) kept (count_at (take n all) (target x)) (quota (position_of areas (target x)) (length areas + 1)) added x
    (λ t. (ap (λ es. count_at es (target x)) before ∙ ap (count_at front) t, ap (λ a. quota (position_of areas a) (length areas + 1)) t)) in
    let pushed = sum_by_push (λ y. bit (is_at area y)) front x in
    let made = sum_by-cons (λ y. bit (is_at area y)) (f n x) (map_from f (n + 1) xs) in
    let room : min (count_at (front ++ x ∷ []) area) kept ≡ min (count_at front area + bit (is_at area x)) kept = ap (λ k. min k kept) pushed in
    omega (arith, rest, one, made, room)

-- ---- each group lies in one area

apart : (b : ℕ) (x : ℕ) (xs : List ℕ) → b ≡ x → AllByRecursion (λ y. nat_eq x y ≡ false) xs → count_by (λ a. nat_eq b a) xs ≡ 0
apart b x [] e all = refl
apart b x (y ∷ ys) e all =
    let here : bit (nat_eq b y) ≡ 0 = ap (λ k. bit (nat_eq k y)) e ∙ ap (λ t. bit t) all.0 in
    omega (arith, sum_by-cons (λ a. bit (nat_eq b a)) y ys, here, apart b x ys e all.1)

once : (areas : List ℕ) (b : ℕ) → IsDistinct nat_eq areas → Contains areas b → count_by (λ a. nat_eq b a) areas ≡ 1
unfolding IsDistinct
once [] b d has = absurd (omega (arith, has.1))
once (x ∷ xs) b d has = elim (eqb_tells b x) [
  | inl here ↦ omega (arith, sum_by-cons (λ a. bit (nat_eq b a)) x xs, ap (λ t. bit t) here.0, apart b x xs here.1 d.0)
  | inr there ↦ omega (arith, sum_by-cons (λ a. bit (nat_eq b a)) x xs, ap (λ t. bit t) there.0, once xs b d.1 (later has.0 has.1 has.2 there.1))
]
  where
    later : (k : ℕ) → k < length (x ∷ xs) → get_or (x ∷ xs) k b ≡ b → b ≢ x → Contains xs b
    later zero l e n = absurd (n (sym e))
    later (suc k) l e n = (k, omega arith, e)

-- the group lies in an area of the list, or moves
abbrev pub IsSettled : List ℕ → Entry → Type 0
IsSettled areas (At a) = Contains areas a
IsSettled areas (Moving a b) = Unit {0}

counted_once : (areas : List ℕ) (x : Entry) → IsDistinct nat_eq areas → IsSettled areas x → count_by (λ a. is_at a x) areas + bit (is_moving x) ≡ 1
counted_once areas (At a) d has = omega (arith, once areas a d has)
counted_once areas (Moving a b) d has = omega (arith, nowhere areas)
  where
    nowhere : (areas : List ℕ) → count_by (λ a. false) areas ≡ 0
    nowhere [] = refl
    nowhere (x ∷ xs) = omega (arith, sum_by-cons (λ (a : ℕ). 0) x xs, nowhere xs)

counts-cons : (areas : List ℕ) (x : Entry) (xs : List Entry) → sum_by (count_at (x ∷ xs)) areas ≡ count_by (λ a. is_at a x) areas + sum_by (count_at xs) areas
counts-cons [] x xs = refl
counts-cons (a ∷ areas) x xs =
    omega (arith, sum_by-cons (count_at (x ∷ xs)) a areas, sum_by-cons (λ b. bit (is_at b x)) a areas, sum_by-cons (count_at xs) a areas, sum_by-cons (λ y. bit (is_at a y)) x xs, counts-cons areas x xs)

-- the groups of the areas and those that move are all
pub counts-all : (areas : List ℕ) (xs : List Entry) → IsDistinct nat_eq areas → AllByRecursion (IsSettled areas) xs → sum_by (count_at xs) areas + count_by is_moving xs ≡ length xs
counts-all areas [] d all = omega (arith, none areas)
  where
    none : (areas : List ℕ) → sum_by (count_at []) areas ≡ 0
    none [] = refl
    none (x ∷ xs) = omega (arith, sum_by-cons (count_at []) x xs, none xs)
counts-all areas (x ∷ xs) d all =
    omega (arith, counts-cons areas x xs, counted_once areas x d all.0, sum_by-cons (λ y. bit (is_moving y)) x xs, counts-all areas xs d all.1)

pub settled : (areas : List ℕ) (c q added : ℕ) (x : Entry) → IsPlaced areas x → IsSettled areas (reassigned c q added x)
settled areas c q added (At a) has = at_either (ltb c q)
  where
    at_either : (stays : Bool) → IsSettled areas (if stays then At a else Moving a added)
    at_either true = has
    at_either false = tt
settled areas c q added (Moving a b) has = tt

pub stays_or_moves : (c q added : ℕ) (x : Entry) → StaysOrMoves added x (reassigned c q added x)
stays_or_moves c q added (At a) = at_either (ltb c q)
  where
    at_either : (stays : Bool) → StaysOrMoves added (At a) (if stays then At a else Moving a added)
    at_either true = inl refl
    at_either false = inr refl
stays_or_moves c q added (Moving a b) = inl refl
