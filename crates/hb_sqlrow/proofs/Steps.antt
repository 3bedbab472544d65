-- Steps of loops over rows.
use Rattle.std.proofs.Common.{◌≡◌, ℕ, ◌*◌, ℤ, pos, ◌-ℤ◌, ◌≤ℤ◌, zero, suc, ◌+◌, ◌<◌, List, [], ◌∷◌, ◌++◌, length, take, get_or, map, filter_map, false, ◌&&◌, filter, is_none, None, sym, ap, ◌∙◌, subst, arith}
use Rattle.std.specs.Prelude.{Option}
use Rattle.std.specs.List.{list_any}
use Rattle.std.proofs.Math.Seq.{take-suc}
use Rattle.std.proofs.lemmas.List.Elements.{filter_map-append}
use Rattle.hb_types.specs.declared.value.Value.{Value}
use Rattle.hb_types.specs.Lists.{Each}
use Rattle.hb_model.specs.declared.table.Table.{Table}
use Rattle.hb_model.specs.declared.condition.Pred.{Pred}
use Rattle.hb_model.specs.declared.statement.Set.{Set}
use Rattle.hb_model.specs.Rows.{truth, considers, chooses, assigned, assigning_refusal}

pub take_more : {A : Type 0} (xs : List A) (i : ℕ) (x : A) → i < length xs → x ≡ get_or xs i x → take (i + 1) xs ≡ take i xs ++ x ∷ []
take_more {A} xs i x lt is = let e : i + 1 ≡ suc i = omega arith in ap (λ (k : ℕ). take k xs) e ∙ take-suc xs i x lt ∙ ap (λ (y : A). take i xs ++ y ∷ []) (sym is)

-- these are the chosen of the rows seen, and none of them is without a truth
pub record Seen (t : Table) (p : Option Pred) (rows found : List (List Value)) : Type 0 where
  pub chosen : found ≡ filter (chooses t p) rows
  pub told : list_any (λ row. considers t p row && is_none (truth t p row)) rows ≡ false

-- the row with these assignments, none of which is refused
pub record Assigns (t : Table) (sets : List Set) (row new : List Value) : Type 0 where
  pub made : new ≡ assigned t sets row
  pub accepted : assigning_refusal t sets row ≡ None

-- what holds of each item holds of the one in hand
pub each_at : {A B : Type 0} (P : B → Type 0) (f : A → B) (xs : List A) (i : ℕ) (x : A) → Each P (map f xs) → i < length xs → x ≡ get_or xs i x → P (f x)
each_at {A} {B} P f xs i x all lt is = subst (λ (y : A). P (f y)) (sym is) (go xs i all lt)
  where
    go : (xs : List A) (i : ℕ) → Each P (map f xs) → i < length xs → P (f (get_or xs i x))
    go [] i all lt = absurd (omega (arith, lt))
    go (y ∷ ys) zero all lt = all.0
    go (y ∷ ys) (suc i) all lt = go ys i all.1 (omega (arith, lt))

pub filter_map_more : {A B : Type 0} (h : A → Option B) (xs : List A) (i : ℕ) (x y : A) (old new : List B) → i < length xs → x ≡ get_or xs i x → y ≡ x → old ≡ filter_map h (take i xs) → new ≡ old ++ filter_map h (y ∷ []) → new ≡ filter_map h (take (i + 1) xs)
filter_map_more {A} {B} h xs i x y old new lt is same before after =
    after ∙ ap (λ (l : List B). l ++ filter_map h (y ∷ [])) before ∙ sym (filter_map-append h (take i xs) (y ∷ [])) ∙ ap (λ (z : A). filter_map h (take i xs ++ z ∷ [])) same ∙ ap (filter_map h) (sym (take_more xs i x lt is))

-- a sum of so many numbers within INTEGER
pub record IsTotal (sum total : ℤ) (n : ℕ) : Type 0 where
  pub same : sum ≡ total
  pub low : (pos 0 -ℤ pos (2147483648 * n)) ≤ℤ sum
  pub high : sum ≤ℤ pos (2147483648 * n)
