-- Rows with their assignments keep their keys.
use Rattle.std.proofs.Common.{◌≡◌, ℕ, zero, suc, ◌+◌, ◌<◌, List, [], ◌∷◌, length, map, Option, Some, None, Bool, true, false, cond, not, refl, subst, sym, ap, ◌∙◌, arith}
use Rattle.std.specs.Prelude.{◌||◌, pos, fold, nat_lt, option_map, unwrap_or, slice_get, slice_set}
use Rattle.std.specs.List.{list_any, prefix_len}
use Rattle.std.specs.Ordering.{int_cmp}
use Rattle.std.specs.Str.{bytes_eq}
use Rattle.std.proofs.lemmas.Bool.{false≢true}
use Rattle.std.proofs.lemmas.Bool.Decides.{nat_tests}
use Rattle.std.proofs.lemmas.Slice.Eq.{bytes_eq-Decides}
use Rattle.hb_types.specs.declared.value.Column.{Column}
use Rattle.hb_types.specs.declared.value.Value.{Value}
use Rattle.hb_model.specs.declared.statement.Set.{Set}
use Rattle.hb_model.specs.declared.table.Table.{Table}
use Rattle.hb_model.specs.Rows.{AreByKey, assigned, key_name, key_of, number_of, put_value}
use Rattle.hb_model.specs.Values.{place_of, value_of}

neither : (a b : Bool) → (a || b) ≡ false → (a ≡ false) × (b ≡ false)
neither true b e = absurd (false≢true (sym e))
neither false b e = (refl, e)

-- ---- a name's place

record AtPlace (p : Column → Bool) (cs : List Column) (n : ℕ) : Type 0 where
  column : Column
  there : slice_get cs n ≡ Some column
  passes : p column ≡ true

next_place : (p : Column → Bool) (c : Column) (cs : List Column) (n : ℕ) (b : Bool) → p c ≡ b → cond (not b) (1 + n) 0 < suc (length cs) → (n < length cs → AtPlace p cs n)
    → AtPlace p (c ∷ cs) (cond (not b) (1 + n) 0)
next_place p c cs n true e l rest = record { column = c; there = refl; passes = e }
next_place p c cs n false e l rest =
    let a = rest (omega (arith, l)) in
    let one : suc n ≡ 1 + n = omega arith in
    subst (AtPlace p (c ∷ cs)) one (record { column = a.column; there = a.there; passes = a.passes })

at_prefix : (p : Column → Bool) (cs : List Column) → prefix_len (λ c. not (p c)) cs < length cs → AtPlace p cs (prefix_len (λ c. not (p c)) cs)
at_prefix p [] l = absurd (omega (arith, l))
at_prefix p (c ∷ cs) l = next_place p c cs (prefix_len (λ c. not (p c)) cs) (p c) refl l (at_prefix p cs)

-- ---- a value that is put elsewhere

set_other : (xs : List Value) (i k : ℕ) (v : Value) → (i ≡ k → ⊥) → slice_get (slice_set xs i v) k ≡ slice_get xs k
set_other [] i k v n = refl
set_other (x ∷ xs) zero zero v n = absurd (n refl)
set_other (x ∷ xs) zero (suc k) v n = refl
set_other (x ∷ xs) (suc i) zero v n = refl
set_other (x ∷ xs) (suc i) (suc k) v n = set_other xs i k v (λ e. n (ap (λ j. suc j) e))

put_other : (row : List Value) (b : Bool) (n k : ℕ) (o : Option Value) → (b ≡ true → n ≡ k → ⊥) → slice_get (put_value row (cond b (Some n) None) o) k ≡ slice_get row k
put_other row false n k o h = refl
put_other row true n k None h = refl
put_other row true n k (Some v) h = set_other row n k v (h refl)

module _ (t : Table) where
  -- a name that isn't the key's doesn't stand at the key
  other_place : (name : List ℕ) → bytes_eq name (key_name t) ≡ false → prefix_len (λ (c : Column). not (bytes_eq c.name name)) t.columns < length t.columns
      → prefix_len (λ (c : Column). not (bytes_eq c.name name)) t.columns ≡ t.key → ⊥
  other_place name apart l e =
      let a = at_prefix (λ (c : Column). bytes_eq c.name name) t.columns l in
      let there : slice_get t.columns t.key ≡ Some a.column = ap (λ k. slice_get t.columns k) (sym e) ∙ a.there in
      let named : key_name t ≡ a.column.name = ap (λ o. unwrap_or (option_map (λ (c : Column). c.name) o) []) there in
      let same : name ≡ key_name t = sym ((bytes_eq-Decides a.column.name name).0 a.passes) ∙ sym named in
      false≢true (sym apart ∙ (bytes_eq-Decides name (key_name t)).1 same)

  one_kept : (s : Set) (row new : List Value) → bytes_eq s.name (key_name t) ≡ false → slice_get (put_value new (place_of t.columns s.name) (value_of t.columns row s.value)) t.key ≡ slice_get new t.key
  one_kept s row new apart =
      let n : ℕ = prefix_len (λ (c : Column). not (bytes_eq c.name s.name)) t.columns in
      put_other new (nat_lt n (length t.columns)) n t.key (value_of t.columns row s.value)
      (λ y. other_place s.name apart (let l : n < length t.columns = grind (arith, nat_tests) in l))

  all_kept : (sets : List Set) (row new : List Value) → list_any (λ (s : Set). bytes_eq s.name (key_name t)) sets ≡ false
      → slice_get (fold (λ new (s : Set). put_value new (place_of t.columns s.name) (value_of t.columns row s.value)) new sets) t.key ≡ slice_get new t.key
  all_kept [] row new h = refl
  all_kept (s ∷ ss) row new h =
      let n = neither (bytes_eq s.name (key_name t)) (list_any (λ (s : Set). bytes_eq s.name (key_name t)) ss) h in
      all_kept ss row (put_value new (place_of t.columns s.name) (value_of t.columns row s.value)) n.1 ∙ one_kept s row new n.0

  -- assignments keep the key
  pub assigned_key : (sets : List Set) (row : List Value) → list_any (λ (s : Set). bytes_eq s.name (key_name t)) sets ≡ false → key_of t (assigned t sets row) ≡ key_of t row
  assigned_key sets row h = ap (λ o. unwrap_or (option_map number_of o) (pos 0)) (all_kept sets row row h)

  -- rows with the same keys stand in the same order
  pub changed_ascend : (f : List Value → List Value) → ((row : List Value) → key_of t (f row) ≡ key_of t row) → (rows : List (List Value)) → AreByKey t rows → AreByKey t (map f rows)
  changed_ascend f same [] a = tt
  changed_ascend f same (r ∷ []) a = tt
  changed_ascend f same (r ∷ q ∷ rows) a =
      (ap (λ k. int_cmp k (key_of t (f q))) (same r) ∙ ap (λ k. int_cmp (key_of t r) k) (same q) ∙ a.0, changed_ascend f same (q ∷ rows) a.1)
