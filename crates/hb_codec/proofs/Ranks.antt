-- Ranks: numbers in the order of places.
use Rattle.std.proofs.Common.{◌≡◌, ℕ, ◌+◌, ◌*◌, ◌/◌, ◌%◌, ◌≤◌, ◌<◌, [], ◌∷◌, refl, sym, ◌∙◌, ap, subst, arith}
use Rattle.std.specs.Prelude.{ℤ, pos, negsuc, ◌<ℤ◌}
use Rattle.std.specs.Int.{w64, cast_signed, cast_unsigned}
use Rattle.std.specs.Int.RustNames.{FitsSigned}
use Rattle.std.specs.Ordering.{MatchOrdering, nat_cmp, int_cmp, ordering_then}
use Rattle.std.specs.declared.cmp.Ordering.{Ordering}
use Rattle.std.specs.declared.cmp.Ordering.TheVariants.{Less, Equal, Greater}
use Rattle.std.proofs.lemmas.Cmp.{ranked, int_ranked}
use Rattle.std.proofs.lemmas.Int.{to_z-of_z, of_z-to_z, ints}
use Rattle.std.proofs.Math.Facts.{sfits_to_z}
use Rattle.hb_types.specs.declared.places.Space.{Space}
use Rattle.hb_types.specs.declared.places.Place.{Place}
use Rattle.hb_types.specs.Numbers.{eight, signed_eight}
use Rattle.hb_types.specs.Places.{space_cmp, place_cmp, IsSpace, IsPlace}
use Rattle.hb_codec.specs.PlaceReaders.{key_rank, key_of, space_rank, group_rank, place_rank, places}
use Rattle.hb_codec.proofs.Digits.{digits}

-- ---- keys

turned_twice : (n : ℕ) → n < 18446744073709551616 → ((n + 9223372036854775808) % 18446744073709551616 + 9223372036854775808) % 18446744073709551616 ≡ n
turned_twice n lt = omega arith

turned_small : (n : ℕ) → (n + 9223372036854775808) % 18446744073709551616 < 18446744073709551616
turned_small n = omega arith

pub rank_of_key : (n : ℕ) → n < 18446744073709551616 → key_rank (key_of n) ≡ n
rank_of_key n lt =
    ap (λ (k : ℕ). (k + 9223372036854775808) % 18446744073709551616) (of_z-to_z w64 ((n + 9223372036854775808) % 18446744073709551616) (turned_small n)) ∙ turned_twice n lt

unsigned_lt : (z : ℤ) → FitsSigned w64 z → cast_unsigned w64 z < 18446744073709551616
unsigned_lt (pos n) f = omega (arith, f.sfits)
unsigned_lt (negsuc n) f = omega (arith, f.sfits)

pub key_of_rank : (z : ℤ) → FitsSigned w64 z → key_of (key_rank z) ≡ z
key_of_rank z f = ap (cast_signed w64) (turned_twice (cast_unsigned w64 z) (unsigned_lt z f)) ∙ to_z-of_z w64 z f

pub key_fits : (n : ℕ) → FitsSigned w64 (key_of n)
key_fits n = sfits_to_z (record { fits = turned_small n })

pub key_small : (z : ℤ) → key_rank z < 18446744073709551616
key_small z = turned_small (cast_unsigned w64 z)

-- a key's digits are the key in two's complement
pub digits_key : (n : ℕ) → n < 18446744073709551616 → digits 128 8 n ≡ signed_eight (key_of n)
digits_key n lt = eights n lt ∙ ap eight (sym (of_z-to_z w64 ((n + 9223372036854775808) % 18446744073709551616) (turned_small n)))
  where
    eights : (n : ℕ) → n < 18446744073709551616 → digits 128 8 n ≡ eight ((n + 9223372036854775808) % 18446744073709551616)
    eights n lt =
        let m : ℕ = (n + 9223372036854775808) % 18446744073709551616 in
        let z : n % 256 ≡ (n + 9223372036854775808) % 18446744073709551616 % 256 = omega arith in
        let a : n / 256 % 256 ≡ (n + 9223372036854775808) % 18446744073709551616 / 256 % 256 = omega arith in
        let b : n / 256 / 256 % 256 ≡ (n + 9223372036854775808) % 18446744073709551616 / 65536 % 256 = omega arith in
        let c : n / 256 / 256 / 256 % 256 ≡ (n + 9223372036854775808) % 18446744073709551616 / 16777216 % 256 = omega arith in
        let d : n / 256 / 256 / 256 / 256 % 256 ≡ (n + 9223372036854775808) % 18446744073709551616 / 4294967296 % 256 = omega arith in
        let e : n / 256 / 256 / 256 / 256 / 256 % 256 ≡ (n + 9223372036854775808) % 18446744073709551616 / 1099511627776 % 256 = omega arith in
        let f : n / 256 / 256 / 256 / 256 / 256 / 256 % 256 ≡ (n + 9223372036854775808) % 18446744073709551616 / 281474976710656 % 256 = omega arith in
        let g : (n / 256 / 256 / 256 / 256 / 256 / 256 / 256 % 256 + 128) % 256 ≡ (n + 9223372036854775808) % 18446744073709551616 / 72057594037927936 % 256 = omega arith in
        λ i. z i ∷ a i ∷ b i ∷ c i ∷ d i ∷ e i ∷ f i ∷ g i ∷ []

-- ---- orders

-- a comparison goes by ranks
abbrev pub Goes : Ordering → ℕ → ℕ → Type 0
Goes o x y = MatchOrdering o (x < y) (x ≡ y) (y < x)

pub goes_nat : (x y : ℕ) → Goes (nat_cmp x y) x y
goes_nat x y = ranked x y (nat_cmp x y) refl

key_less : (x y : ℤ) → FitsSigned w64 x → FitsSigned w64 y → x <ℤ y → key_rank x < key_rank y
key_less (pos m) (pos n) f g h = (let a = f.sfits in let b = g.sfits in omega (arith, ints))
key_less (pos m) (negsuc n) f g h = (let a = f.sfits in let b = g.sfits in omega (arith, ints))
key_less (negsuc m) (pos n) f g h = (let a = f.sfits in let b = g.sfits in omega (arith, ints))
key_less (negsuc m) (negsuc n) f g h = (let a = f.sfits in let b = g.sfits in omega (arith, ints))

pub goes_key : (x y : ℤ) → FitsSigned w64 x → FitsSigned w64 y → Goes (int_cmp x y) (key_rank x) (key_rank y)
goes_key x y f g = go (int_cmp x y) (int_ranked x y (int_cmp x y) refl)
  where
    go : (o : Ordering) → MatchOrdering o (x <ℤ y) (x ≡ y) (y <ℤ x) → Goes o (key_rank x) (key_rank y)
    go Less h = key_less x y f g h
    go Equal h = ap key_rank h
    go Greater h = key_less y x g f h

pub goes_then : (unit : ℕ) → ((x y : ℕ) → x < y → x * unit + unit ≤ y * unit) → (c d : Ordering) (x y u v : ℕ) → u < unit → v < unit → Goes c x y → Goes d u v → Goes (ordering_then c d) (x * unit + u) (y * unit + v)
goes_then unit more Less d x y u v lt ltv h k = let m = more x y h in omega arith
goes_then unit more Greater d x y u v lt ltv h k = let m = more y x h in omega arith
goes_then unit more Equal Less x y u v lt ltv h k = let e : x * unit ≡ y * unit = ap (λ (n : ℕ). n * unit) h in omega arith
goes_then unit more Equal Equal x y u v lt ltv h k = λ i. h i * unit + k i
goes_then unit more Equal Greater x y u v lt ltv h k = let e : x * unit ≡ y * unit = ap (λ (n : ℕ). n * unit) h in omega arith

pub goes_space : (s t : Space) → IsSpace s → IsSpace t → Goes (space_cmp s t) (space_rank s) (space_rank t)
goes_space s t is_s is_t = goes_then 65536 (λ x y lt. omega arith) (nat_cmp s.area t.area) (nat_cmp s.table t.table) s.area t.area s.table t.table is_s.1 is_t.1 (goes_nat s.area t.area) (goes_nat s.table t.table)

pub goes_group : (s t : Space) (g h : ℕ) → IsSpace s → IsSpace t → g < 65536 → h < 65536 → Goes (ordering_then (space_cmp s t) (nat_cmp g h)) (group_rank s g) (group_rank t h)
goes_group s t g h is_s is_t lt ltv = goes_then 65536 (λ x y lt. omega arith) (space_cmp s t) (nat_cmp g h) (space_rank s) (space_rank t) g h lt ltv (goes_space s t is_s is_t) (goes_nat g h)

then_assoc : (a b c : Ordering) → ordering_then (ordering_then a b) c ≡ ordering_then a (ordering_then b c)
then_assoc Less b c = refl
then_assoc Equal b c = refl
then_assoc Greater b c = refl

pub goes_place : (p q : Place) → IsPlace p → IsPlace q → Goes (place_cmp p q) (place_rank p) (place_rank q)
goes_place p q is_p is_q =
    subst (λ (o : Ordering). Goes o (place_rank p) (place_rank q)) (then_assoc (space_cmp p.space q.space) (nat_cmp p.group q.group) (int_cmp p.key q.key))
    (goes_then 18446744073709551616 (λ x y lt. omega arith) (ordering_then (space_cmp p.space q.space) (nat_cmp p.group q.group)) (int_cmp p.key q.key) (group_rank p.space p.group) (group_rank q.space q.group) (key_rank p.key) (key_rank q.key)
    (key_small p.key) (key_small q.key) (goes_group p.space q.space p.group q.group is_p.0 is_q.0 is_p.1 is_q.1) (goes_key p.key q.key is_p.2 is_q.2))

pub less_of : (o : Ordering) (x y : ℕ) → Goes o x y → o ≡ Less → x < y
less_of Less x y g e = g
less_of Equal x y g e = absurd (cc)
less_of Greater x y g e = absurd (cc)

pub of_less : (o : Ordering) (x y : ℕ) → Goes o x y → x < y → o ≡ Less
of_less Less x y g lt = refl
of_less Equal x y g lt = absurd (omega (arith, g, lt))
of_less Greater x y g lt = absurd (omega (arith, g, lt))

-- ---- limits of ranks

pub space_below : (s : Space) → IsSpace s → space_rank s < 4294967296
space_below s is = omega (arith, is.0, is.1)

pub group_below : (s : Space) (g : ℕ) → IsSpace s → g < 65536 → group_rank s g < 281474976710656
group_below s g is lt = omega (arith, is.0, is.1)

pub place_below : (p : Place) → IsPlace p → place_rank p < places
place_below p is = let k = key_small p.key in let g = group_below p.space p.group is.0 is.1 in omega (arith, k, g)
