-- A row put among a table's rows: it fits, the rows ascend, and each key has its row.
use Rattle.std.proofs.Common.{◌≡◌, ◌≤◌, ℤ, List, [], ◌∷◌, ◌++◌, length, Option, Some, None, Bool, true, false, cond, not, refl, sym, ap, ◌∙◌, filter, arith}
use Rattle.std.specs.Prelude.{◌==◌, ◌&&◌, ◌||◌, find, nat_lt}
use Rattle.std.specs.Cmp.{IsTotalOrder}
use Rattle.std.specs.List.{list_any, list_all, zip}
use Rattle.std.specs.Option.{option_or, option_to_list}
use Rattle.std.specs.Ordering.{int_cmp, is_lt, is_gt, is_eq, ordering_reverse}
use Rattle.std.specs.declared.cmp.Ordering.{Ordering}
use Rattle.std.specs.declared.cmp.Ordering.TheVariants.{Less, Equal, Greater}
use Rattle.std.proofs.lemmas.Bool.{false≢true}
use Rattle.std.proofs.lemmas.Bool.Decides.{Decides-int_eq, Decides-eqb, nat_tests}
use Rattle.std.proofs.lemmas.Cmp.{int_cmp_total, on_total}
use Rattle.std.proofs.lemmas.List.Folds.{find-append}
use Rattle.hb_types.specs.declared.value.Column.{Column}
use Rattle.hb_types.specs.declared.value.Value.{Value}
use Rattle.hb_types.specs.declared.value.Value.TheVariants.{Int, Text}
use Rattle.hb_types.specs.Lists.{Ascends, Each}
use Rattle.hb_types.specs.Numbers.{is_integer}
use Rattle.hb_types.proofs.Ascending.{Ascends-first, Ascends-tail, Each-append}
use Rattle.hb_types.proofs.PutLaws.{by_test}
use Rattle.hb_model.specs.declared.table.Table.{Table}
use Rattle.hb_model.specs.Kinds.{number, letters, same_kind, kind_of_column, kind_of_value}
use Rattle.hb_model.specs.Refusals.{is_outside, values_typed}
use Rattle.hb_model.specs.Rows.{AreByKey, is_long, key_of, with_row}
use Rattle.hb_model.specs.TableRows.{has_key, row_of}
use Rattle.hb_model.specs.Valid.{Fits, FitsAll}

-- ---- ascending lists

module _ {A : Type 0} (R : A → A → Ordering) (order : IsTotalOrder R) where
  pub each_filtered : (P : A → Type 0) (p : A → Bool) (xs : List A) → Each P xs → Each P (filter p xs)
  each_filtered P p [] e = tt
  each_filtered P p (x ∷ xs) e = by_test (p x) (λ t. rw t (e.0, each_filtered P p xs e.1)) (λ f. rw f (each_filtered P p xs e.1))

  pub first_below : (x : A) (xs : List A) → Each (λ y. R x y ≡ Less) xs → Ascends R xs → Ascends R (x ∷ xs)
  first_below x [] e a = tt
  first_below x (y ∷ ys) e a = (e.0, a)

  pub filter_ascends : (p : A → Bool) (xs : List A) → Ascends R xs → Ascends R (filter p xs)
  filter_ascends p [] a = tt
  filter_ascends p (x ∷ xs) a =
      let tail : Ascends R (filter p xs) = filter_ascends p xs (Ascends-tail R order x xs a) in
      by_test (p x) (λ t. rw t (first_below x (filter p xs) (each_filtered (λ y. R x y ≡ Less) p xs (Ascends-first R order x xs a)) tail)) (λ f. rw f tail)

  pub joined_ascend : (xs ys : List A) → Ascends R xs → Ascends R ys → Each (λ x. Each (λ y. R x y ≡ Less) ys) xs → Ascends R (xs ++ ys)
  joined_ascend [] ys a b e = b
  joined_ascend (x ∷ xs) ys a b e =
      first_below x (xs ++ ys) (Each-append (λ y. R x y ≡ Less) xs ys (Ascends-first R order x xs a) e.0) (joined_ascend xs ys (Ascends-tail R order x xs a) b e.1)

  pub filtered_pass : (p : A → Bool) (xs : List A) → Each (λ x. p x ≡ true) (filter p xs)
  filtered_pass p [] = tt
  filtered_pass p (x ∷ xs) = by_test (p x) (λ t. rw t (t, filtered_pass p xs)) (λ f. rw f (filtered_pass p xs))

each_of : {A : Type 0} (P Q : A → Type 0) (xs : List A) → ((x : A) → P x → Q x) → Each P xs → Each Q xs
each_of P Q [] f e = tt
each_of P Q (x ∷ xs) f e = (f x e.0, each_of P Q xs f e.1)

is_less : (o : Ordering) → is_lt o ≡ true → o ≡ Less
is_less Less e = refl
is_less Equal e = absurd (false≢true e)
is_less Greater e = absurd (false≢true e)

is_greater : (o : Ordering) → is_gt o ≡ true → o ≡ Greater
is_greater Greater e = refl
is_greater Less e = absurd (false≢true e)
is_greater Equal e = absurd (false≢true e)

-- ---- found among some of the items

find_kept : {A : Type 0} (p q : A → Bool) (xs : List A) → ((x : A) → p x ≡ true → q x ≡ true) → find p (filter q xs) ≡ find p xs
find_kept p q [] h = refl
find_kept p q (x ∷ xs) h =
    by_test (p x)
    (λ t. rw (h x t, t) refl)
    (λ f. by_test (q x) (λ t. rw (t, f) (find_kept p q xs h)) (λ g. rw (g, f) (find_kept p q xs h)))

pub find_left : {A : Type 0} (p q : A → Bool) (xs : List A) → ((x : A) → p x ≡ true → q x ≡ false) → find p (filter q xs) ≡ None
find_left p q [] h = refl
find_left p q (x ∷ xs) h =
    by_test (q x)
    (λ t. by_test (p x) (λ y. absurd (false≢true (sym (h x y) ∙ t))) (λ f. rw (t, f) (find_left p q xs h)))
    (λ f. rw f (find_left p q xs h))

or_none : {A : Type 0} (o : Option A) → option_or o None ≡ o
or_none None = refl
or_none (Some x) = refl

not_less : (o : Ordering) → is_eq o ≡ true → is_lt o ≡ false
not_less Less e = absurd (false≢true e)
not_less Equal e = refl
not_less Greater e = refl

module _ (t : Table) (values : List Value) where
  abbrev lower : List Value → Bool
  lower r = is_lt (int_cmp (key_of t r) (key_of t values))

  abbrev upper : List Value → Bool
  upper r = is_gt (int_cmp (key_of t r) (key_of t values))

  abbrev by_key : List Value → List Value → Ordering
  by_key a b = int_cmp (key_of t a) (key_of t b)

  by_key_total : IsTotalOrder by_key
  by_key_total = on_total (key_of t) int_cmp_total

  above : (r : List Value) → upper r ≡ true → by_key values r ≡ Less
  above r h = int_cmp_total.antisymm (key_of t values) (key_of t r) ∙ ap ordering_reverse (is_greater (by_key r values) h)

  pub put_ascends : AreByKey t t.rows → AreByKey t (with_row t values)
  put_ascends a =
      let uppers : Each (λ r. by_key values r ≡ Less) (filter upper t.rows) =
      each_of (λ r. upper r ≡ true) (λ r. by_key values r ≡ Less) (filter upper t.rows) above (filtered_pass by_key by_key_total upper t.rows) in
      let lowers : Each (λ r. by_key r values ≡ Less) (filter lower t.rows) =
      each_of (λ r. lower r ≡ true) (λ r. by_key r values ≡ Less) (filter lower t.rows) (λ r h. is_less (by_key r values) h) (filtered_pass by_key by_key_total lower t.rows) in
      joined_ascend by_key by_key_total (filter lower t.rows) (values ∷ filter upper t.rows) (filter_ascends by_key by_key_total lower t.rows a)
      (first_below by_key by_key_total values (filter upper t.rows) uppers (filter_ascends by_key by_key_total upper t.rows a))
      (each_of (λ r. by_key r values ≡ Less) (λ r. Each (λ y. by_key r y ≡ Less) (values ∷ filter upper t.rows)) (filter lower t.rows)
      (λ r h. (h, each_of (λ y. by_key values y ≡ Less) (λ y. by_key r y ≡ Less) (filter upper t.rows) (λ y k. by_key_total.trans r values y h k) uppers)) lowers)

  pub put_each : (P : List Value → Type 0) → P values → Each P t.rows → Each P (with_row t values)
  put_each P h e =
      Each-append P (filter lower t.rows) (values ∷ filter upper t.rows) (each_filtered by_key by_key_total P lower t.rows e) (h, each_filtered by_key by_key_total P upper t.rows e)

  -- ---- the row of a key

  module _ (key : ℤ) where
    at_key : (r : List Value) → has_key t key r ≡ true → key_of t r ≡ key
    at_key r h = (Decides-int_eq (key_of t r) key).0 h

    with_case : (o : Ordering) → int_cmp key (key_of t values) ≡ o → (key_of t values ≡ key → ⊥)
        → option_or (find (has_key t key) (filter lower t.rows)) (find (has_key t key) (filter upper t.rows)) ≡ row_of t key
    with_case Less e n =
        let a : find (has_key t key) (filter lower t.rows) ≡ row_of t key =
        find_kept (has_key t key) lower t.rows (λ r h. ap (λ k. is_lt (int_cmp k (key_of t values))) (at_key r h) ∙ ap is_lt e) in
        let b : find (has_key t key) (filter upper t.rows) ≡ None =
        find_left (has_key t key) upper t.rows (λ r h. ap (λ k. is_gt (int_cmp k (key_of t values))) (at_key r h) ∙ ap is_gt e) in
        ap (λ o. option_or o (find (has_key t key) (filter upper t.rows))) a ∙ ap (λ o. option_or (row_of t key) o) b ∙ or_none (row_of t key)
    with_case Equal e n = absurd (n (sym ((Decides-int_eq key (key_of t values)).0 (ap is_eq e))))
    with_case Greater e n =
        let a : find (has_key t key) (filter lower t.rows) ≡ None =
        find_left (has_key t key) lower t.rows (λ r h. ap (λ k. is_lt (int_cmp k (key_of t values))) (at_key r h) ∙ ap is_lt e) in
        let b : find (has_key t key) (filter upper t.rows) ≡ row_of t key =
        find_kept (has_key t key) upper t.rows (λ r h. ap (λ k. is_gt (int_cmp k (key_of t values))) (at_key r h) ∙ ap is_gt e) in
        ap (λ o. option_or o (find (has_key t key) (filter upper t.rows))) a ∙ b

    -- another key has the row that it had
    pub other_row : (key ≡ key_of t values → ⊥) → find (has_key t key) (with_row t values) ≡ row_of t key
    other_row n =
        let apart : has_key t key values ≡ false = by_test (has_key t key values) (λ y. absurd (n (sym (at_key values y)))) (λ f. f) in
        find-append (has_key t key) (filter lower t.rows) (values ∷ filter upper t.rows)
        ∙ ap (λ b. option_or (find (has_key t key) (filter lower t.rows)) (cond b (Some values) (find (has_key t key) (filter upper t.rows)))) apart
        ∙ with_case (int_cmp key (key_of t values)) refl (λ e. n (sym e))

  -- its own key has the row
  pub own_row : find (has_key t (key_of t values)) (with_row t values) ≡ Some values
  own_row =
      let key : ℤ = key_of t values in
      let gone : find (has_key t key) (filter lower t.rows) ≡ None =
      find_left (has_key t key) lower t.rows (λ r h. ap (λ k. is_lt (int_cmp k key)) (at_key key r h) ∙ not_less (int_cmp key key) ((Decides-int_eq key key).1 refl)) in
      find-append (has_key t key) (filter lower t.rows) (values ∷ filter upper t.rows)
      ∙ ap (λ o. option_or o (find (has_key t key) (values ∷ filter upper t.rows))) gone
      ∙ ap (λ b. cond b (Some values) (find (has_key t key) (filter upper t.rows))) ((Decides-int_eq key key).1 refl)

-- ---- values that are not refused fit

both_true : (a b : Bool) → (a && b) ≡ true → (a ≡ true) × (b ≡ true)
both_true true b e = (refl, e)
both_true false b e = absurd (false≢true e)

neither : (a b : Bool) → (a || b) ≡ false → (a ≡ false) × (b ≡ false)
neither true b e = absurd (false≢true (sym e))
neither false b e = (refl, e)

not_false : (b : Bool) → not b ≡ false → b ≡ true
not_false true e = refl
not_false false e = absurd (false≢true (sym e))

kind_number : (c : Column) (b : Bool) → (c.size == 0) ≡ b → same_kind (cond b number letters) number ≡ true → c.size ≡ 0
kind_number c true e h = (Decides-eqb c.size 0).0 e
kind_number c false e h = absurd (false≢true h)

kind_letters : (c : Column) (b : Bool) → (c.size == 0) ≡ b → same_kind (cond b number letters) letters ≡ true → c.size ≡ 0 → ⊥
kind_letters c true e h z = absurd (false≢true h)
kind_letters c false e h z = false≢true (sym e ∙ (Decides-eqb c.size 0).1 z)

one_fits : (c : Column) (v : Value) → same_kind (kind_of_column c) (kind_of_value v) ≡ true → is_outside v ≡ false → is_long c.size v ≡ false → Fits c v
one_fits c (Int n) kind inside short = (kind_number c (c.size == 0) refl kind, not_false (is_integer n) inside)
one_fits c (Text s) kind inside short =
    let l : nat_lt c.size (length s) ≡ false = short in
    ((let few : length s ≤ c.size = grind (arith, nat_tests) in few), kind_letters c (c.size == 0) refl kind)

abbrev of_kind : Column × Value → Bool
of_kind p = same_kind (kind_of_column p.0) (kind_of_value p.1)

abbrev long_pair : Column × Value → Bool
long_pair p = is_long p.0.size p.1

all_fit : (cs : List Column) (vs : List Value) → length vs ≡ length cs → list_all of_kind (zip cs vs) ≡ true → list_any is_outside vs ≡ false → list_any long_pair (zip cs vs) ≡ false → FitsAll cs vs
all_fit [] [] n kinds inside short = tt
all_fit [] (v ∷ vs) n kinds inside short = absurd (omega (arith, n))
all_fit (c ∷ cs) [] n kinds inside short = absurd (omega (arith, n))
all_fit (c ∷ cs) (v ∷ vs) n kinds inside short =
    let k = both_true (of_kind (c, v)) (list_all of_kind (zip cs vs)) kinds in
    let i = neither (is_outside v) (list_any is_outside vs) inside in
    let s = neither (long_pair (c, v)) (list_any long_pair (zip cs vs)) short in
    (one_fits c v k.0 i.0 s.0, all_fit cs vs (omega (arith, n)) k.1 i.1 s.1)

pub values_fit : (t : Table) (values : List Value) → not (values_typed t values) ≡ false → list_any is_outside values ≡ false → list_any long_pair (zip t.columns values) ≡ false → FitsAll t.columns values
values_fit t values typed inside short =
    let b = both_true (length values == length t.columns) (list_all of_kind (zip t.columns values)) (not_false (values_typed t values) typed) in
    all_fit t.columns values ((Decides-eqb (length values) (length t.columns)).0 b.0) b.1 inside short

-- ---- found, or not

pub any_found : {A : Type 0} (p : A → Bool) (xs : List A) → list_any p (option_to_list (find p xs)) ≡ list_any p xs
any_found p [] = refl
any_found p (x ∷ xs) = by_test (p x) (λ t. rw t (rw t refl)) (λ f. rw f (any_found p xs))

pub none_found : {A : Type 0} (p : A → Bool) (xs : List A) → list_any p xs ≡ false → find p xs ≡ None
none_found p [] h = refl
none_found p (x ∷ xs) h = let n = neither (p x) (list_any p xs) h in rw n.0 (none_found p xs n.1)
