-- A line says one thing.
use Rattle.std.proofs.Common.{◌≡◌, ◌⊎◌, true, false, ℕ, ◌+◌, ◌<◌, ◌≤◌, List, ◌++◌, take, drop, sym, ◌∙◌, ap, subst, arith, append_assoc, inl, inr}
use Rattle.std.proofs.lemmas.Bool.{cases_lt, true≢false}
use Rattle.std.proofs.lemmas.List.{take-take, take-append-drop}
use Rattle.hb_model.specs.declared.script.Item.{Item}
use Rattle.hb_model.specs.declared.script.Item.TheVariants as item
use Rattle.hb_sqltoken.specs.declared.token.Token.{Token}
use Rattle.hb_sqlparse.specs.Grammar.{IsLine, Begins, FirstDead}
use Rattle.hb_sqlparse.specs.Lines.{byte_at}
use Rattle.hb_lines.specs.declared.said.Said.{Said}
use Rattle.hb_lines.specs.declared.said.Said.TheVariants as said
use Rattle.hb_lines.specs.Saying.{Reads, Says, is_idle}

-- what begins a line begins it in each front
front_begins : (s : List Token) (i j : ℕ) → i ≤ j → Begins (take j s) → Begins (take i s)
front_begins s i j within begins =
    let rest : List Token = drop i (take j s) in
    let whole : take j s ≡ take i s ++ rest = sym (take-append-drop i (take j s)) ∙ ap (λ (l : List Token). l ++ rest) (take-take i j s within) in
    let joined : take j s ++ begins.0 ≡ take i s ++ (rest ++ begins.0) = ap (λ (l : List Token). l ++ begins.0) whole ∙ append_assoc (take i s) rest begins.0 in
    (rest ++ begins.0, begins.1, subst (λ (l : List Token). IsLine begins.1 l) joined begins.2)

not_before : (s : List Token) (i j : ℕ) → FirstDead s i → FirstDead s j → i < j → ⊥
not_before s i j first second before =
    first.dead (omega (arith, before, second.within)) (front_begins s (i + 1) j (omega (arith, before)) second.begins)

one_dead : (s : List Token) (i j : ℕ) → FirstDead s i → FirstDead s j → i ≡ j
one_dead s i j first second = by (cases_lt i j) (cases_lt j i)
  where
    by : (i < j) ⊎ (j ≤ i) → (j < i) ⊎ (i ≤ j) → i ≡ j
    by (inl before) other = absurd (not_before s i j first second before)
    by (inr least) (inl behind) = absurd (not_before s j i second first behind)
    by (inr least) (inr most) = omega (arith, least, most)

module _ (is_one : (a b : Item) (tokens : List Token) → IsLine a tokens → IsLine b tokens → a ≡ b) where
  reads_one : (line : List ℕ) (a b : Said) → Reads line a → Reads line b → a ≡ b
  reads_one line (said.Item a) (said.Item b) left right = ap (λ (i : Item). said.Item i) (is_one a b _ left right)
  reads_one line (said.Item a) (said.Syntax y) left right = absurd (right.1.no_line a left)
  reads_one line (said.Syntax x) (said.Item b) left right = absurd (left.1.no_line b right)
  reads_one line (said.Syntax x) (said.Syntax y) left right =
      ap (λ (n : ℕ). said.Syntax n) (left.2 ∙ ap (byte_at line) (one_dead _ left.0 right.0 left.1 right.1) ∙ sym right.2)

  pub says_one : (line : List ℕ) (a b : Said) → Says line a → Says line b → a ≡ b
  says_one line a b left right = by left.says right.says
    where
      by : ((is_idle line ≡ true) × (a ≡ said.Item item.Blank)) ⊎ ((is_idle line ≡ false) × Reads line a) → ((is_idle line ≡ true) × (b ≡ said.Item item.Blank)) ⊎ ((is_idle line ≡ false) × Reads line b) → a ≡ b
      by (inl x) (inl y) = x.1 ∙ sym y.1
      by (inl x) (inr y) = absurd (true≢false (sym x.0 ∙ y.0))
      by (inr x) (inl y) = absurd (true≢false (sym y.0 ∙ x.0))
      by (inr x) (inr y) = reads_one line a b x.1 y.1
