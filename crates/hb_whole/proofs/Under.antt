-- What lies under a path is what lies between its least and its greatest place.
use Rattle.std.proofs.Common.{◌≡◌, ℕ, ◌<◌, ◌^◌, ◌-◌, Bool, false, not, cond, List, [], ◌∷◌, Some, Option, refl, ap, ◌∙◌, subst, arith}
use Rattle.std.specs.Prelude.{◌&&◌, IfSome, ℤ, pos, negsuc, ◌<ℤ◌}
use Rattle.std.specs.Int.{w64}
use Rattle.std.specs.Int.RustNames.{FitsSigned}
use Rattle.std.specs.List.Sorted.{IsStrictlySortedBy}
use Rattle.std.specs.BTreeMap.Range.{entries_between, range_contains}
use Rattle.std.specs.declared.ops.Bound.TheVariants.{Included}
use Rattle.std.specs.Ordering.{is_eq, is_le, is_lt, is_gt, ordering_then, nat_cmp, int_cmp, MatchOrdering}
use Rattle.std.specs.declared.cmp.Ordering.{Ordering}
use Rattle.std.specs.declared.cmp.Ordering.TheVariants.{Less, Equal, Greater}
use Rattle.std.proofs.lemmas.Cmp.{ranked, int_ranked}
use Rattle.std.proofs.lemmas.Int.{ints}
use Rattle.hb_types.proofs.PutLaws.{by_test}
use Rattle.hb_types.proofs.SamePlace.{same_place-refl}
use Rattle.hb_types.specs.declared.places.Path.{Path}
use Rattle.hb_types.specs.declared.places.Path.TheVariants.{Whole, Group, Key}
use Rattle.hb_types.specs.declared.places.Place.{Place}
use Rattle.hb_types.specs.Places.{space_cmp, is_under, IsPlace}
use Rattle.hb_types.specs.Put.{rows_under}
use Rattle.hb_whole.specs.Ranges.{first_under, last_under}
use Rattle.hb_whole.specs.Slots.{Entries, AreOrdered, AreSound, IsSlot, rows_of, slot_at}
use Rattle.hb_whole.proofs.Keys.{order, at_is, then_is, nat_is}
use Rattle.hb_whole.proofs.SlotRows.{by_row, sound_rest}

within : (a lo hi : Ordering) → is_gt lo ≡ false → is_lt hi ≡ false → (is_le (ordering_then a lo) && not (is_lt (ordering_then a hi))) ≡ is_eq a
within Less lo hi l h = refl
within Greater lo hi l h = refl
within Equal Less hi l h = rw h refl
within Equal Equal hi l h = rw h refl
within Equal Greater hi l h = cc

then_assoc : (a b c : Ordering) → ordering_then a (ordering_then b c) ≡ ordering_then (ordering_then a b) c
then_assoc Less b c = refl
then_assoc Equal b c = refl
then_assoc Greater b c = refl

low_then : (a b : Ordering) → is_gt a ≡ false → is_gt b ≡ false → is_gt (ordering_then a b) ≡ false
low_then Less b l m = refl
low_then Equal b l m = m
low_then Greater b l m = l

high_then : (a b : Ordering) → is_lt a ≡ false → is_lt b ≡ false → is_lt (ordering_then a b) ≡ false
high_then Less b l m = l
high_then Equal b l m = m
high_then Greater b l m = refl

low_nat : (g : ℕ) → is_gt (nat_cmp 0 g) ≡ false
low_nat g = go (nat_cmp 0 g) (ranked 0 g (nat_cmp 0 g) refl)
  where
    go : (o : Ordering) → MatchOrdering o (0 < g) (0 ≡ g) (g < 0) → is_gt o ≡ false
    go Less h = refl
    go Equal h = refl
    go Greater h = absurd (omega (arith, h))

high_nat : (g : ℕ) → g < 65536 → is_lt (nat_cmp 65535 g) ≡ false
high_nat g lt = go (nat_cmp 65535 g) (ranked 65535 g (nat_cmp 65535 g) refl)
  where
    go : (o : Ordering) → MatchOrdering o (65535 < g) (65535 ≡ g) (g < 65535) → is_lt o ≡ false
    go Less h = absurd (omega (arith, h, lt))
    go Equal h = refl
    go Greater h = refl

least : ℤ
least = negsuc (2 ^ 63 - 1)

most : ℤ
most = pos (2 ^ 63 - 1)

not_below : (z : ℤ) → FitsSigned w64 z → z <ℤ negsuc (2 ^ 63 - 1) → ⊥
not_below (pos n) f h = (let a = f.sfits in omega (arith, ints))
not_below (negsuc n) f h = (let a = f.sfits in omega (arith, ints))

not_above : (z : ℤ) → FitsSigned w64 z → pos (2 ^ 63 - 1) <ℤ z → ⊥
not_above (pos n) f h = (let a = f.sfits in omega (arith, ints))
not_above (negsuc n) f h = (let a = f.sfits in omega (arith, ints))

low_key : (z : ℤ) → FitsSigned w64 z → is_gt (int_cmp (negsuc (2 ^ 63 - 1)) z) ≡ false
low_key z f = go (int_cmp (negsuc (2 ^ 63 - 1)) z) (int_ranked (negsuc (2 ^ 63 - 1)) z (int_cmp (negsuc (2 ^ 63 - 1)) z) refl)
  where
    go : (o : Ordering) → MatchOrdering o (negsuc (2 ^ 63 - 1) <ℤ z) (negsuc (2 ^ 63 - 1) ≡ z) (z <ℤ negsuc (2 ^ 63 - 1)) → is_gt o ≡ false
    go Less h = refl
    go Equal h = refl
    go Greater h = absurd (not_below z f h)

high_key : (z : ℤ) → FitsSigned w64 z → is_lt (int_cmp (pos (2 ^ 63 - 1)) z) ≡ false
high_key z f = go (int_cmp (pos (2 ^ 63 - 1)) z) (int_ranked (pos (2 ^ 63 - 1)) z (int_cmp (pos (2 ^ 63 - 1)) z) refl)
  where
    go : (o : Ordering) → MatchOrdering o (pos (2 ^ 63 - 1) <ℤ z) (pos (2 ^ 63 - 1) ≡ z) (z <ℤ pos (2 ^ 63 - 1)) → is_lt o ≡ false
    go Less h = absurd (not_above z f h)
    go Equal h = refl
    go Greater h = refl

between_same : (o : Ordering) → (is_le o && not (is_lt o)) ≡ is_eq o
between_same Less = refl
between_same Equal = refl
between_same Greater = refl

both : (a b x y : Bool) → a ≡ x → b ≡ y → (a && b) ≡ (x && y)
both a b x y e f = ap (λ t. t && b) e ∙ ap (λ t. x && t) f

pub in_range : (path : Path) (p : Place) → IsPlace p → range_contains order (Included (first_under path)) (Included (last_under path)) p ≡ is_under path p
in_range (Key k) p is = between_same (order k p) ∙ at_is k p
in_range (Whole s) p is =
    within (space_cmp s p.space) (ordering_then (nat_cmp 0 p.group) (int_cmp (negsuc (2 ^ 63 - 1)) p.key)) (ordering_then (nat_cmp 65535 p.group) (int_cmp (pos (2 ^ 63 - 1)) p.key))
    (low_then (nat_cmp 0 p.group) (int_cmp (negsuc (2 ^ 63 - 1)) p.key) (low_nat p.group) (low_key p.key is.2))
    (high_then (nat_cmp 65535 p.group) (int_cmp (pos (2 ^ 63 - 1)) p.key) (high_nat p.group is.1) (high_key p.key is.2))
    ∙ then_is (nat_cmp s.area p.space.area) (nat_cmp s.table p.space.table) ∙ both _ _ _ _ (nat_is s.area p.space.area) (nat_is s.table p.space.table)
in_range (Group s g) p is =
    both _ _ _ _ (ap is_le (then_assoc (space_cmp s p.space) (nat_cmp g p.group) (int_cmp (negsuc (2 ^ 63 - 1)) p.key)))
    (ap (λ o. not (is_lt o)) (then_assoc (space_cmp s p.space) (nat_cmp g p.group) (int_cmp (pos (2 ^ 63 - 1)) p.key)))
    ∙ within (ordering_then (space_cmp s p.space) (nat_cmp g p.group)) (int_cmp (negsuc (2 ^ 63 - 1)) p.key) (int_cmp (pos (2 ^ 63 - 1)) p.key) (low_key p.key is.2) (high_key p.key is.2)
    ∙ then_is (space_cmp s p.space) (nat_cmp g p.group)
    ∙ both _ _ _ _ (then_is (nat_cmp s.area p.space.area) (nat_cmp s.table p.space.table) ∙ both _ _ _ _ (nat_is s.area p.space.area) (nat_is s.table p.space.table)) (nat_is g p.group)

pub rows_between : (path : Path) (es : Entries) → AreOrdered es → AreSound es → rows_of (entries_between order (Included (first_under path)) (Included (last_under path)) es) ≡ rows_under path (rows_of es)
unfolding IsStrictlySortedBy
rows_between path [] o s = refl
rows_between path (e ∷ es) o s =
    let rest = rows_between path es o.1 (sound_rest e es o s) in
    by_test (is_under path e.0)
    (λ t. ap (λ b. rows_of (cond b (e ∷ entries_between order (Included (first_under path)) (Included (last_under path)) es) (entries_between order (Included (first_under path)) (Included (last_under path)) es))) (here ∙ t)
    ∙ by_row e.0 (λ (r : Option (List ℕ)). rows_of ((e.0, record { row = r; room = 0 }) ∷ entries_between order (Included (first_under path)) (Included (last_under path)) es) ≡ rows_under path (rows_of ((e.0, record { row = r; room = 0 }) ∷ es))) e.1.row
    rest (λ row. rw t (ap (λ rs. record { place = e.0; row = row } ∷ rs) rest)))
    (λ f. ap (λ b. rows_of (cond b (e ∷ entries_between order (Included (first_under path)) (Included (last_under path)) es) (entries_between order (Included (first_under path)) (Included (last_under path)) es))) (here ∙ f)
    ∙ by_row e.0 (λ (r : Option (List ℕ)). rows_of (entries_between order (Included (first_under path)) (Included (last_under path)) es) ≡ rows_under path (rows_of ((e.0, record { row = r; room = 0 }) ∷ es))) e.1.row
    rest (λ row. rw f rest))
  where
    first : slot_at (e ∷ es) e.0 ≡ Some e.1
    first = rw (same_place-refl e.0) refl

    here : range_contains order (Included (first_under path)) (Included (last_under path)) e.0 ≡ is_under path e.0
    here = in_range path e.0 (subst (λ x. IfSome x (IsSlot e.0)) first (s e.0)).0
