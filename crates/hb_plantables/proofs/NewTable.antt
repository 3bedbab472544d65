-- A table that CREATE TABLE doesn't refuse is one that the system can have.
use Rattle.std.proofs.Common.{◌≡◌, ℕ, suc, ◌+◌, ◌≤◌, ◌<◌, List, [], ◌∷◌, length, Some, None, Bool, true, false, cond, not, refl, subst, sym, ap, ◌∙◌, arith}
use Rattle.std.specs.Prelude.{◌==◌, ◌&&◌, ◌||◌, nat_lt, slice_get, unwrap_or, MatchOption, position}
use Rattle.std.specs.List.{list_any, position_or_len}
use Rattle.std.specs.Str.{bytes_eq}
use Rattle.std.proofs.lemmas.Bool.{false≢true, lt-ltb}
use Rattle.std.proofs.lemmas.Bool.Decides.{Decides-eqb, nat_tests}
use Rattle.std.proofs.lemmas.Slice.Eq.{bytes_eq-Decides}
use Rattle.hb_types.specs.declared.value.Column.{Column}
use Rattle.hb_types.specs.Lists.{Each, has_twins}
use Rattle.hb_types.proofs.PutLaws.{by_test}
use Rattle.hb_model.specs.Define.{is_key_number, new_table}
use Rattle.hb_model.specs.Valid.{IsName, IsTable}
use Rattle.hb_planlaws.proofs.Named.{all_twins_more}

neither : (a b : Bool) → (a || b) ≡ false → (a ≡ false) × (b ≡ false)
neither true b e = absurd (false≢true (sym e))
neither false b e = (refl, e)

both_true : (a b : Bool) → (a && b) ≡ true → (a ≡ true) × (b ≡ true)
both_true true b e = (refl, e)
both_true false b e = absurd (false≢true e)

left_true : (a b : Bool) → a ≡ true → (a || b) ≡ true
left_true true b e = refl
left_true false b e = absurd (false≢true e)

right_true : (a b : Bool) → b ≡ true → (a || b) ≡ true
right_true true b e = refl
right_true false b e = e

other_true : (a b : Bool) → (a || b) ≡ true → a ≡ false → b ≡ true
other_true true b e f = absurd (false≢true (sym f))
other_true false b e f = e

abbrev alike : Column → Column → Bool
alike a b = bytes_eq a.name b.name

abbrev is_key : List ℕ → Column → Bool
is_key key c = bytes_eq c.name key

abbrev is_number_key : List ℕ → Column → Bool
is_number_key key c = bytes_eq c.name key && (c.size == 0)

-- ---- the key's column

same_names : (c d : Column) (key : List ℕ) → is_key key c ≡ true → is_key key d ≡ true → alike c d ≡ true
same_names c d key e f = (bytes_eq-Decides c.name d.name).1 ((bytes_eq-Decides c.name key).0 e ∙ sym ((bytes_eq-Decides d.name key).0 f))

none_named : (key : List ℕ) (c : Column) (cs : List Column) → list_any (alike c) cs ≡ false → is_key key c ≡ true → Each (λ (d : Column). is_key key d ≡ true → d.size ≡ 0) cs
none_named key c [] e k = tt
none_named key c (d ∷ cs) e k =
    let n = neither (alike c d) (list_any (alike c) cs) e in
    (λ h. absurd (false≢true (sym n.0 ∙ same_names c d key k h)), none_named key c cs n.1 k)

like_there : (key : List ℕ) (c : Column) (cs : List Column) → list_any (is_number_key key) cs ≡ true → is_key key c ≡ true → list_any (alike c) cs ≡ true
like_there key c [] e k = absurd (false≢true e)
like_there key c (d ∷ cs) e k =
    by_test (is_number_key key d)
    (λ y. left_true (alike c d) (list_any (alike c) cs) (same_names c d key k (both_true (is_key key d) (d.size == 0) y).0))
    (λ n. right_true (alike c d) (list_any (alike c) cs) (like_there key c cs (other_true (is_number_key key d) (list_any (is_number_key key) cs) e n) k))

key_sizes : (key : List ℕ) (cs : List Column) → has_twins alike cs ≡ false → list_any (is_number_key key) cs ≡ true → Each (λ (c : Column). is_key key c ≡ true → c.size ≡ 0) cs
key_sizes key [] e a = tt
key_sizes key (c ∷ cs) e a =
    let n = neither (list_any (alike c) cs) (has_twins alike cs) (sym (all_twins_more alike c cs) ∙ e) in
    by_test (is_number_key key c)
    (λ y. let b = both_true (is_key key c) (c.size == 0) y in ((λ _. (Decides-eqb c.size 0).0 b.1), none_named key c cs n.0 b.0))
    (λ f. let rest = other_true (is_number_key key c) (list_any (is_number_key key) cs) a f in
    ((λ k. absurd (false≢true (sym n.0 ∙ like_there key c cs rest k))), key_sizes key cs n.1 rest))

first_at : (f : Column → Bool) (P : Column → Type 0) (cs : List Column) → Each (λ c. f c ≡ true → P c) cs → list_any f cs ≡ true
    → MatchOption (slice_get cs (position_or_len f cs)) ⊥ P × (position_or_len f cs < length cs)
first_at f P [] e a = absurd (false≢true a)
first_at f P (c ∷ cs) e a =
    by_test (f c)
    (λ y. rw y (e.0 y, omega arith))
    (λ n. let rest = first_at f P cs e.1 (other_true (f c) (list_any f cs) a n) in
    let is : position_or_len f (c ∷ cs) ≡ suc (position_or_len f cs) = rw n (one_more (position_or_len f cs)) in
    let within : suc (position_or_len f cs) < length (c ∷ cs) = (let l = rest.1 in omega (arith, l)) in
    subst (λ k. MatchOption (slice_get (c ∷ cs) k) ⊥ P × (k < length (c ∷ cs))) (sym is) (rest.0, within))
  where
    one_more : (k : ℕ) → 1 + k ≡ suc k
    one_more k = omega arith

at_position : (f : Column → Bool) (P : Column → Type 0) (cs : List Column) → Each (λ c. f c ≡ true → P c) cs → list_any f cs ≡ true
    → MatchOption (slice_get cs (unwrap_or (position f cs) 0)) ⊥ P
at_position f P cs e a =
    let h = first_at f P cs e a in
    let is : unwrap_or (position f cs) 0 ≡ position_or_len f cs = ap (λ t. unwrap_or (cond t (Some (position_or_len f cs)) None) 0) (lt-ltb (position_or_len f cs) (length cs) h.1) in
    subst (λ n. MatchOption (slice_get cs n) ⊥ P) (sym is) h.0

-- ---- columns

some_there : (f : Column → Bool) (cs : List Column) → list_any f cs ≡ true → 1 ≤ length cs
some_there f [] a = absurd (false≢true a)
some_there f (c ∷ cs) a = omega arith

columns_fit : (cs : List Column) → Each (λ (c : Column). IsName c.name) cs → list_any (λ (c : Column). nat_lt 255 c.size) cs ≡ false → Each (λ (c : Column). IsName c.name × (c.size ≤ 255)) cs
columns_fit [] e a = tt
columns_fit (c ∷ cs) e a =
    let n = neither (nat_lt 255 c.size) (list_any (λ (d : Column). nat_lt 255 d.size) cs) a in
    ((e.0, small c.size n.0), columns_fit cs e.1 n.1)
  where
    small : (k : ℕ) → nat_lt 255 k ≡ false → k ≤ 255
    small k h = grind (arith, nat_tests)

pub new_is_table : (name : List ℕ) (columns : List Column) (key : List ℕ) → IsName name → Each (λ (c : Column). IsName c.name) columns → length columns ≤ 16
    → has_twins alike columns ≡ false → list_any (is_key key) columns ≡ true → is_key_number columns key ≡ true → list_any (λ (c : Column). nat_lt 255 c.size) columns ≡ false
    → IsTable (new_table name columns key)
new_is_table name columns key named each few differ there number small = record {
  named = named;
  some_columns = some_there (is_key key) columns there;
  few_columns = few;
  columns_named = columns_fit columns each small;
  columns_differ = ap not differ;
  key_is_number = at_position (is_key key) (λ (c : Column). c.size ≡ 0) columns (key_sizes key columns differ number) there;
  rows_ascend = tt;
  rows_fit = tt;
}
