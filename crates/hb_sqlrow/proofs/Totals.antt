-- Sums of numbers within INTEGER, in 128 bits.
use Rattle.std.proofs.Common.{◌≡◌, ℕ, ◌+◌, ◌*◌, ◌<◌, ◌^◌, ℤ, pos, negsuc, ◌+ℤ◌, ◌-ℤ◌, ◌≤ℤ◌, List, [], ◌∷◌, length, map, take, get_or, sym, ap, ◌∙◌, subst, arith, unwrap_or}
use Rattle.std.proofs.lemmas.Int.{ints, to_z-of_z}
use Rattle.std.proofs.lemmas.List.{map-append}
use Rattle.std.proofs.lemmas.List.Sums.{fold-append}
use mir.Syntax.{w128}
use mir.Val.{SFits, of_z, to_z}
use Rattle.hb_types.specs.declared.value.Value.{Value}
use Rattle.hb_types.specs.declared.value.Value.TheVariants as value
use Rattle.hb_types.specs.declared.value.Column.{Column}
use Rattle.hb_model.specs.Rows.{total, number_of}
use Rattle.hb_model.specs.Values.{value_in}
use Rattle.hb_sqlrow.proofs.Steps.{IsTotal, take_more}

pub number_back : (n : ℤ) → negsuc 2147483647 ≤ℤ n → n ≤ℤ pos 2147483647 → to_z w128 (of_z w128 n) ≡ n
number_back n low high = omega (arith, ints)

pub sum_back : (s n : ℤ) (i : ℕ) → (pos 0 -ℤ pos (2147483648 * i)) ≤ℤ s → s ≤ℤ pos (2147483648 * i) → negsuc 2147483647 ≤ℤ n → n ≤ℤ pos 2147483647 → i < 2 ^ 64 → SFits w128 (s +ℤ n)
sum_back s n i l h low high small = omega (arith, ints)

pub fits_more : (s n t : ℤ) (i : ℕ) → IsTotal s t i → i < 2 ^ 64 → negsuc 2147483647 ≤ℤ n → n ≤ℤ pos 2147483647 → SFits w128 (s +ℤ to_z w128 (of_z w128 n))
fits_more s n t i before small low high =
    subst (λ (m : ℤ). SFits w128 (s +ℤ m)) (sym (number_back n low high)) (sum_back s n i before.low before.high low high small)

total_next : {X : Type 0} (columns : List Column) (name : List ℕ) (f : X → List Value) (xs : List X) (i : ℕ) (x : X) → i < length xs → x ≡ get_or xs i x
    → total columns name (map f (take (i + 1) xs)) ≡ total columns name (map f (take i xs)) +ℤ number_of (unwrap_or (value_in columns (f x) name) (value.Int (pos 0)))
total_next {X} columns name f xs i x lt is =
    ap (λ (l : List X). total columns name (map f l)) (take_more xs i x lt is)
    ∙ ap (total columns name) (map-append f (take i xs) (x ∷ []))
    ∙ fold-append (λ (n : ℤ) (row : List Value). n +ℤ number_of (unwrap_or (value_in columns row name) (value.Int (pos 0)))) (pos 0) (map f (take i xs)) (f x ∷ [])

pub totals_more : {X : Type 0} (columns : List Column) (name : List ℕ) (f : X → List Value) (xs : List X) (i : ℕ) (x : X) (row : List Value) (s n : ℤ) → i < length xs → x ≡ get_or xs i x → row ≡ f x
    → n ≡ number_of (unwrap_or (value_in columns row name) (value.Int (pos 0))) → negsuc 2147483647 ≤ℤ n → n ≤ℤ pos 2147483647 → i < 2 ^ 64
    → IsTotal s (total columns name (map f (take i xs))) i
    → IsTotal (to_z w128 (of_z w128 (s +ℤ to_z w128 (of_z w128 n)))) (total columns name (map f (take (i + 1) xs))) (i + 1)
totals_more columns name f xs i x row s n lt is same number low high small before = rw whole record {
  same =
      ap (λ (m : ℤ). m +ℤ n) before.same
      ∙ ap (λ (m : ℤ). total columns name (map f (take i xs)) +ℤ m) (number ∙ ap (λ (r : List Value). number_of (unwrap_or (value_in columns r name) (value.Int (pos 0)))) same)
      ∙ sym (total_next columns name f xs i x lt is);
  low = let l : (pos 0 -ℤ pos (2147483648 * i)) ≤ℤ s = before.low in omega (arith, ints);
  high = let h : s ≤ℤ pos (2147483648 * i) = before.high in omega (arith, ints);
}
  where
    whole : to_z w128 (of_z w128 (s +ℤ to_z w128 (of_z w128 n))) ≡ s +ℤ n
    whole = to_z-of_z w128 _ (fits_more s n _ i before small low high) ∙ ap (λ (m : ℤ). s +ℤ m) (number_back n low high)
