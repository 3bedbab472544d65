-- The bytes of values within INTEGER give them back, and bytes tell no others.
use Rattle.std.proofs.Common.{◌≡◌, ℕ, zero, suc, ◌≤◌, ◌+◌, ◌-◌, ◌<◌, ◌==◌, ◌&&◌, Bool, true, false, cond, true≢false, not, List, [], ◌∷◌, ◌++◌, length, map, take, drop, Option, Some, None, pos, negsuc, ℤ, refl, subst, sym, ◌∙◌, ap, arith, length-append, add-one}
use Rattle.std.specs.Prelude.{◌||◌, ⊤, nat_le, nat_lt, slice_index_or, IsTrue, MatchOption}
use Rattle.std.specs.Int.{w32, cast_signed, cast_unsigned, from_le_bytes}
use Rattle.std.specs.List.{list_any}
use Rattle.std.proofs.lemmas.Bool.{le-leb, lt-ltb}
use Rattle.std.proofs.lemmas.Bool.Decides.{nat_tests}
use Rattle.std.proofs.lemmas.Int.{ints, to_z-of_z}
use Rattle.std.proofs.lemmas.Nat.{from_le_bytes-to_le_bytes_4}
use Rattle.std.proofs.Math.Seq.{take-append_seam, drop-append_seam}
use mir.Val.{SFits, sel}
use Rattle.hb_types.specs.declared.value.Value.{Value}
use Rattle.hb_types.specs.declared.value.Value.TheVariants.{Int, Text}
use Rattle.hb_types.specs.Lists.{joined}
use Rattle.hb_types.specs.Numbers.{signed_four, is_integer}
use Rattle.hb_types.specs.Rows.{value_bytes, before, integer_in, row_bytes, values_from, values_in}
use Rattle.hb_model.specs.Refusals.{is_outside}

integer_fits : (z : ℤ) → IsTrue (is_integer z) → SFits w32 z
integer_fits (pos n) t = grind (arith, ints)
integer_fits (negsuc n) t = grind (arith, ints)

unsigned_small : (z : ℤ) → IsTrue (is_integer z) → cast_unsigned w32 z < 4294967296
unsigned_small (pos n) t = let f = integer_fits (pos n) t in omega (arith, f)
unsigned_small (negsuc n) t = let f = integer_fits (negsuc n) t in omega (arith, f)

integer_back : (z : ℤ) → IsTrue (is_integer z) → integer_in (signed_four z) ≡ Int z
integer_back z fits =
    ap (λ (n : ℕ). Int (cast_signed w32 n)) (from_le_bytes-to_le_bytes_4 (cast_unsigned w32 z) (unsigned_small z fits)) ∙ ap Int (to_z-of_z w32 z (integer_fits z fits))

four_back : (bs rest : List ℕ) (n : ℕ) (z : ℤ) → length bs ≡ 4 → integer_in bs ≡ Int z → values_from (suc n) (1 ∷ (bs ++ rest)) ≡ before (Int z) (values_from n rest)
four_back bs rest n z four is =
    let enough : nat_le 4 (length (bs ++ rest)) ≡ true = le-leb 4 (length (bs ++ rest)) (omega (arith, length-append bs rest, four)) in
    let cut : take 4 (bs ++ rest) ≡ bs = ap (λ (k : ℕ). take k (bs ++ rest)) (sym four) ∙ take-append_seam bs rest in
    let left : drop 4 (bs ++ rest) ≡ rest = ap (λ (k : ℕ). drop k (bs ++ rest)) (sym four) ∙ drop-append_seam bs rest in
    rw (enough, cut, left, is) refl

text_back : (t rest : List ℕ) (n : ℕ) → values_from (suc n) (2 ∷ (length t ∷ (t ++ rest))) ≡ before (Text t) (values_from n rest)
text_back t rest n =
    let enough : nat_lt (length t) (length (length t ∷ (t ++ rest))) ≡ true = lt-ltb (length t) (length (length t ∷ (t ++ rest))) (omega (arith, length-append t rest)) in
    let cut : take (length t) (t ++ rest) ≡ t = take-append_seam t rest in
    let left : drop (length t + 1) (length t ∷ (t ++ rest)) ≡ rest = ap (λ (k : ℕ). drop k (length t ∷ (t ++ rest))) (add-one (length t)) ∙ drop-append_seam t rest in
    rw (enough, cut, left) refl

within : (b : Bool) → not b ≡ false → b ≡ true
within true is = refl
within false is = absurd (true≢false is)

value_back : (v : Value) (rest : List ℕ) (n : ℕ) → is_outside v ≡ false → values_from (suc n) (value_bytes v ++ rest) ≡ before v (values_from n rest)
value_back (Int z) rest n inside = four_back (signed_four z) rest n z refl (integer_back z (within (is_integer z) inside))
value_back (Text t) rest n inside = text_back t rest n

pub none_of_both : (a b : Bool) → (a || b) ≡ false → (a ≡ false) × (b ≡ false)
none_of_both true b is = absurd (true≢false is)
none_of_both false b is = (refl, is)

all_back : (vs : List Value) → list_any is_outside vs ≡ false → values_from (length vs) (joined (map value_bytes vs)) ≡ Some vs
all_back [] inside = refl
all_back (v ∷ vs) inside =
    let both = none_of_both (is_outside v) (list_any is_outside vs) inside in
    value_back v (joined (map value_bytes vs)) (length vs) both.0 ∙ ap (before v) (all_back vs both.1)

pub values_back : (vs : List Value) → list_any is_outside vs ≡ false → values_in (row_bytes vs) ≡ Some vs
values_back vs inside = all_back vs inside

-- ---- what bytes tell

abbrev AreInside : Option (List Value) → Type 0
AreInside o = MatchOption o ⊤ (λ vs. list_any is_outside vs ≡ false)

low_inside : (n : ℕ) → n < 2147483648 → is_integer (pos n) ≡ true
low_inside n low = grind (arith, ints)

negative_inside : (n : ℕ) → n < 2147483648 → is_integer (negsuc n) ≡ true
negative_inside n low = grind (arith, ints)

signed_inside : (n : ℕ) → is_integer (cast_signed w32 n) ≡ true
signed_inside n = by_test (nat_lt n 2147483648) refl
  where
    by_test : (b : Bool) → nat_lt n 2147483648 ≡ b → is_integer (sel b (pos n) (negsuc (4294967296 - suc n))) ≡ true
    by_test true e = low_inside n (grind (arith, nat_tests))
    by_test false e = let high : 2147483648 ≤ n = grind (arith, nat_tests) in negative_inside (4294967296 - suc n) (omega (arith, high))

either_inside : (b : Bool) (x y : Option (List Value)) → AreInside x → AreInside y → AreInside (cond b x y)
either_inside true x y p q = p
either_inside false x y p q = q

before_inside : (v : Value) (o : Option (List Value)) → is_outside v ≡ false → AreInside o → AreInside (before v o)
before_inside v None one more = tt
before_inside v (Some vs) one more = rw one more

from_inside : (n : ℕ) (bytes : List ℕ) → AreInside (values_from n bytes)
from_inside zero [] = refl
from_inside zero (b ∷ bs) = tt
from_inside (suc n) [] = tt
from_inside (suc n) (kind ∷ bs) =
    either_inside (kind == 1) _ _
    (either_inside (nat_le 4 (length bs)) _ _
    (before_inside (integer_in (take 4 bs)) (values_from n (drop 4 bs)) (ap not (signed_inside (from_le_bytes w32 (take 4 bs)))) (from_inside n (drop 4 bs))) tt)
    (either_inside ((kind == 2) && nat_lt (slice_index_or bs 0 0) (length bs)) _ _
    (before_inside (Text (take (slice_index_or bs 0 0) (drop 1 bs))) (values_from n (drop (slice_index_or bs 0 0 + 1) bs)) refl
    (from_inside n (drop (slice_index_or bs 0 0 + 1) bs))) tt)

row_inside : (bytes : List ℕ) → AreInside (values_in bytes)
row_inside [] = tt
row_inside (format ∷ []) = tt
row_inside (format ∷ count ∷ bs) = either_inside (format == 1) _ _ (from_inside count bs) tt

pub values_inside : (bytes : List ℕ) (vs : List Value) → values_in bytes ≡ Some vs → list_any is_outside vs ≡ false
values_inside bytes vs is = subst AreInside is (row_inside bytes)
