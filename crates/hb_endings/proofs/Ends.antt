-- What statements come to, by the parts of their code.
use Rattle.std.proofs.Common.{◌≡◌, ℕ, zero, suc, ◌<◌, get_or, subst, arith, Bool, true, false, true≢false, List, [], ◌∷◌, ◌++◌, length, map, take, Option, Some, None, refl, ap, sym, ◌∙◌}
use Rattle.std.specs.Prelude.{is_some, filter, cond, not, ◌&&◌, ◌||◌, is_none}
use Rattle.std.specs.List.{list_any, list_all}
use Rattle.std.specs.Option.{option_or}
use Rattle.std.specs.Str.{bytes_eq}
use Rattle.hb_types.specs.declared.value.Value.{Value}
use Rattle.hb_types.specs.Lists.{has_twins}
use Rattle.hb_model.specs.declared.condition.Pred.{Pred}
use Rattle.hb_model.specs.declared.reply.Reply.{Reply}
use Rattle.hb_model.specs.declared.reply.Reply.TheVariants as reply
use Rattle.hb_model.specs.declared.statement.Set.{Set}
use Rattle.hb_model.specs.declared.statement.What.{What}
use Rattle.hb_model.specs.declared.statement.What.TheVariants as what
use Rattle.hb_model.specs.declared.table.Table.{Table}
use Rattle.hb_model.specs.Kinds.{names_in}
use Rattle.hb_sqlcheck.proofs.Levels.{any_append}
use Rattle.hb_model.specs.Refusals.{first_refusal, select_refusals, update_refusals, is_unknown, is_assignable, pred_names, pred_typed, what_names, what_typed, sets_names}
use Rattle.hb_model.specs.Rows.{chosen, chooses, considers, truth, outside, overflows, point, shown, assigned, assigning_refusal, first_some, key_name}
use Rattle.hb_talk.specs.Plans.{Lying, with_lying, putting, removing}
use Rattle.hb_planrows.specs.PlanRows.{rows_in}
use Rattle.hb_endings.specs.Overflowing.{or_overflow}
use Rattle.hb_endings.specs.Rows as rows
use Rattle.hb_endings.specs.Endings.{answer, changing, unless, selecting, deleting, updating}

-- ---- lists

filter-map : {A B : Type 0} (f : A → B) (test : B → Bool) (xs : List A) → filter test (map f xs) ≡ map f (filter (λ x. test (f x)) xs)
filter-map f test [] = refl
filter-map f test (x ∷ xs) = elim (test (f x)) as (λ b. cond b (f x ∷ filter test (map f xs)) (filter test (map f xs)) ≡ map f (cond b (x ∷ filter (λ y. test (f y)) xs) (filter (λ y. test (f y)) xs))) [
  | true ↦ ap (λ l. f x ∷ l) (filter-map f test xs)
  | false ↦ filter-map f test xs
]

pub any-map : {A B : Type 0} (f : A → B) (test : B → Bool) (xs : List A) → list_any test (map f xs) ≡ list_any (λ x. test (f x)) xs
any-map f test [] = refl
any-map f test (x ∷ xs) = ap (λ b. test (f x) || b) (any-map f test xs)

pub length-mapped : {A B : Type 0} (f : A → B) (xs : List A) → length (map f xs) ≡ length xs
length-mapped f [] = refl
length-mapped f (x ∷ xs) = ap (λ n. suc n) (length-mapped f xs)

or_false : (b : Bool) → (b || false) ≡ b
or_false true = refl
or_false false = refl

or_true : (b : Bool) → (b || true) ≡ true
or_true true = refl
or_true false = refl

any_at : {A : Type 0} (test : A → Bool) (xs : List A) (i : ℕ) (x : A) → i < length xs → x ≡ get_or xs i x → test x ≡ true → list_any test xs ≡ true
any_at {A} test xs i x lt is so = go xs i lt (subst (λ (y : A). test y ≡ true) is so)
  where
    go : (xs : List A) (i : ℕ) → i < length xs → test (get_or xs i x) ≡ true → list_any test xs ≡ true
    go [] i lt so = absurd (omega (arith, lt))
    go (y ∷ ys) zero lt so = rw so refl
    go (y ∷ ys) (suc i) lt so = ap (λ b. test y || b) (go ys i (omega (arith, lt)) so) ∙ or_true (test y)

-- ---- names in assignments

pub any_sets_is : (test : List ℕ → Bool) (sets : List Set) → list_any (λ s. test s.name || list_any test (names_in s.value)) sets ≡ list_any test (sets_names sets)
any_sets_is test [] = refl
any_sets_is test (s ∷ ss) =
    or_assoc (test s.name) (list_any test (names_in s.value)) _
    ∙ ap (λ b. test s.name || (list_any test (names_in s.value) || b)) (any_sets_is test ss)
    ∙ ap (λ b. test s.name || b) (sym (any_append test (names_in s.value) (sets_names ss)))
  where
    or_assoc : (a b c : Bool) → ((a || b) || c) ≡ (a || (b || c))
    or_assoc true b c = refl
    or_assoc false b c = refl

-- ---- refusals in their order

three : (a b c : Bool) (p q : Reply) → first_refusal ((a, p) ∷ (b, q) ∷ (c, reply.Overflow) ∷ []) ≡ or_overflow (first_refusal ((a, p) ∷ (b, q) ∷ [])) c
three true b c p q = refl
three false true c p q = refl
three false false true p q = refl
three false false false p q = refl

five : (a b c d e : Bool) (p q r s : Reply)
    → first_refusal ((a, p) ∷ (b, q) ∷ (c, r) ∷ (d, s) ∷ (e, reply.Overflow) ∷ []) ≡ or_overflow (first_refusal ((a, p) ∷ (b, q) ∷ (c, r) ∷ (d, s) ∷ [])) e
five true b c d e p q r s = refl
five false true c d e p q r s = refl
five false false true d e p q r s = refl
five false false false true e p q r s = refl
five false false false false true p q r s = refl
five false false false false false p q r s = refl

what_same : (t : Table) (ls : List Lying) (w : What) → what_typed (with_lying t ls) w ≡ what_typed t w
what_same t ls what.All = refl
what_same t ls (what.Names names) = refl
what_same t ls what.Count = refl
what_same t ls (what.Sum name) = refl

pred_same : (t : Table) (ls : List Lying) (p : Option Pred) → pred_typed (with_lying t ls) p ≡ pred_typed t p
pred_same t ls None = refl
pred_same t ls (Some p) = refl

shown_same : (t : Table) (ls : List Lying) (w : What) (found : List (List Value)) → shown (with_lying t ls) w found ≡ shown t w found
shown_same t ls what.All found = refl
shown_same t ls (what.Names names) found = refl
shown_same t ls what.Count found = refl
shown_same t ls (what.Sum name) found = refl

abbrev select_checked : Table → What → Option Pred → Option Reply
select_checked t w pred = first_refusal (take 2 (select_refusals t w pred))

abbrev update_checked : Table → List Set → Option Pred → Option Reply
update_checked t sets pred = first_refusal (take 4 (update_refusals t sets pred))

module _ (t : Table) (pred : Option Pred) (ls : List Lying) where
  pub chosen_is : chosen (with_lying t ls) pred ≡ rows_in (rows.chosen_of t pred ls)
  chosen_is = filter-map (λ (l : Lying). l.1) (chooses t pred) ls

  pub count_is : length (chosen (with_lying t ls) pred) ≡ length (rows.chosen_of t pred ls)
  count_is = ap length chosen_is ∙ length-mapped (λ (l : Lying). l.1) (rows.chosen_of t pred ls)

  pub overflows_is : overflows (with_lying t ls) pred ≡ (outside (point t pred) || list_any (rows.is_unknown t pred) ls)
  overflows_is = ap (λ b. outside (point t pred) || b) (any-map (λ (l : Lying). l.1) (λ row. considers t pred row && is_none (truth t pred row)) ls)

  pub select_is : (w : What) → first_refusal (select_refusals (with_lying t ls) w pred) ≡ or_overflow (select_checked t w pred) (overflows (with_lying t ls) pred)
  select_is w =
      three (list_any (is_unknown t) (what_names w ++ pred_names pred)) (not (what_typed (with_lying t ls) w && pred_typed (with_lying t ls) pred)) (overflows (with_lying t ls) pred) reply.NoColumn reply.WrongType
      ∙ (λ i. or_overflow (first_refusal ((list_any (is_unknown t) (what_names w ++ pred_names pred), reply.NoColumn) ∷ (not (what_same t ls w i && pred_same t ls pred i), reply.WrongType) ∷ [])) (overflows (with_lying t ls) pred))

  pub update_is : (sets : List Set) → first_refusal (update_refusals (with_lying t ls) sets pred) ≡ or_overflow (update_checked t sets pred) (overflows (with_lying t ls) pred)
  update_is sets =
      five (list_any (is_unknown t) (sets_names sets ++ pred_names pred)) (has_twins (λ a b. bytes_eq a.name b.name) sets) (list_any (λ s. bytes_eq s.name (key_name t)) sets)
      (not (list_all (is_assignable t) sets && pred_typed (with_lying t ls) pred)) (overflows (with_lying t ls) pred) reply.NoColumn reply.ColumnTwice reply.KeyFixed reply.WrongType
      ∙ (λ i. or_overflow (first_refusal ((list_any (is_unknown t) (sets_names sets ++ pred_names pred), reply.NoColumn)
      ∷ (has_twins (λ a b. bytes_eq a.name b.name) sets, reply.ColumnTwice) ∷ (list_any (λ s. bytes_eq s.name (key_name t)) sets, reply.KeyFixed)
      ∷ (not (list_all (is_assignable t) sets && pred_same t ls pred i), reply.WrongType) ∷ [])) (overflows (with_lying t ls) pred))

  pub overflows_at : (i : ℕ) (l : Lying) → i < length ls → l ≡ get_or ls i l → rows.is_unknown t pred l ≡ true → overflows (with_lying t ls) pred ≡ true
  overflows_at i l lt is so =
      overflows_is ∙ ap (λ b. outside (point t pred) || b) (any_at (rows.is_unknown t pred) ls i l lt is so) ∙ or_true (outside (point t pred))

  pub none_overflows : outside (point t pred) ≡ false → list_any (rows.is_unknown t pred) ls ≡ false → overflows (with_lying t ls) pred ≡ false
  none_overflows within told = overflows_is ∙ (λ i. within i || told i)

  -- ---- ends, by what was found

  pub select_at : (w : What) (found : Option Reply) (over : Bool) → found ≡ select_checked t w pred → overflows (with_lying t ls) pred ≡ over
      → selecting t w pred ls ≡ unless (or_overflow found over) (answer (reply.Rows (shown t w (rows_in (rows.chosen_of t pred ls)))))
  select_at w found over is same =
      ap (λ o. unless o (answer (reply.Rows (shown (with_lying t ls) w (chosen (with_lying t ls) pred))))) (select_is w ∙ (λ i. or_overflow (sym is i) (same i)))
      ∙ ap (λ vs. unless (or_overflow found over) (answer (reply.Rows vs))) (shown_same t ls w (chosen (with_lying t ls) pred) ∙ ap (shown t w) chosen_is)

  pub delete_at : (found : Option Reply) (over : Bool) → found ≡ select_checked t what.All pred → overflows (with_lying t ls) pred ≡ over
      → deleting t pred ls ≡ unless (or_overflow found over) (changing (map (λ l. removing l.0) (rows.chosen_of t pred ls)) (reply.Deleted (length (rows.chosen_of t pred ls))))
  delete_at found over is same =
      ap (λ o. unless o (changing (map (λ l. removing l.0) (rows.chosen_of t pred ls)) (reply.Deleted (length (chosen (with_lying t ls) pred))))) (select_is what.All ∙ (λ i. or_overflow (sym is i) (same i)))
      ∙ ap (λ n. unless (or_overflow found over) (changing (map (λ l. removing l.0) (rows.chosen_of t pred ls)) (reply.Deleted n))) count_is

  pub update_at : (sets : List Set) (found : Option Reply) (over : Bool) → found ≡ update_checked t sets pred → overflows (with_lying t ls) pred ≡ over
      → updating t sets pred ls ≡ unless (option_or (or_overflow found over) (first_some (assigning_refusal t sets) (rows_in (rows.chosen_of t pred ls))))
      (changing (map (λ l. putting l.0 (assigned t sets l.1)) (rows.chosen_of t pred ls)) (reply.Updated (length (rows.chosen_of t pred ls))))
  update_at sets found over is same =
      (λ i. unless (option_or (first i) (first_some (assigning_refusal t sets) (chosen_is i)))
      (changing (map (λ l. putting l.0 (assigned t sets l.1)) (rows.chosen_of t pred ls)) (reply.Updated (count_is i))))
    where
      first : first_refusal (update_refusals (with_lying t ls) sets pred) ≡ or_overflow found over
      first = update_is sets ∙ (λ i. or_overflow (sym is i) (same i))

-- ---- before any row is read

pub early_select_is : (t : Table) (w : What) (pred : Option Pred) (found : Option Reply) → found ≡ select_checked t w pred
    → or_overflow found (outside (point t pred)) ≡ first_refusal (select_refusals (with_lying t []) w pred)
early_select_is t w pred found is = (λ i. or_overflow (is i) (sym (or_false (outside (point t pred))) i)) ∙ sym (select_is t pred [] w)

pub early_update_is : (t : Table) (sets : List Set) (pred : Option Pred) (found : Option Reply) → found ≡ update_checked t sets pred
    → or_overflow found (outside (point t pred)) ≡ first_refusal (update_refusals (with_lying t []) sets pred)
early_update_is t sets pred found is = (λ i. or_overflow (is i) (sym (or_false (outside (point t pred))) i)) ∙ sym (update_is t pred [] sets)

-- ---- assignments of their columns' kinds

fourth_none : (a b c d : Bool) (p q r s : Reply) → first_refusal ((a, p) ∷ (b, q) ∷ (c, r) ∷ (d, s) ∷ []) ≡ None → d ≡ false
fourth_none a b c false p q r s none = refl
fourth_none true b c true p q r s none = absurd (true≢false (ap is_some none))
fourth_none false true c true p q r s none = absurd (true≢false (ap is_some none))
fourth_none false false true true p q r s none = absurd (true≢false (ap is_some none))
fourth_none false false false true p q r s none = absurd (true≢false (ap is_some none))

first_true : (a b : Bool) → not (a && b) ≡ false → a ≡ true
first_true true b is = refl
first_true false b is = absurd (true≢false is)

pub checked_assignable : (t : Table) (sets : List Set) (pred : Option Pred) → update_checked t sets pred ≡ None → list_all (is_assignable t) sets ≡ true
checked_assignable t sets pred none =
    first_true (list_all (is_assignable t) sets) (pred_typed t pred)
    (fourth_none (list_any (is_unknown t) (sets_names sets ++ pred_names pred)) (has_twins (λ a b. bytes_eq a.name b.name) sets) (list_any (λ s. bytes_eq s.name (key_name t)) sets)
    (not (list_all (is_assignable t) sets && pred_typed t pred)) reply.NoColumn reply.ColumnTwice reply.KeyFixed reply.WrongType none)
