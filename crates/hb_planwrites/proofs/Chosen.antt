-- The rows that a condition chooses, among those that were read.
use Rattle.std.proofs.Common.{◌≡◌, inl, inr, ℤ, List, [], ◌∷◌, map, filter, Option, Some, Bool, true, false, refl, subst, sym, ap, ◌∙◌}
use Rattle.std.specs.Prelude.{unwrap_or}
use Rattle.std.proofs.lemmas.Cmp.{int_cmp_total, on_total}
use Rattle.hb_types.specs.declared.value.Value.{Value}
use Rattle.hb_types.specs.Lists.{Ascends, Each, IsIn}
use Rattle.hb_types.proofs.Ascending.{in_Each}
use Rattle.hb_types.proofs.PutLaws.{by_test}
use Rattle.hb_model.specs.declared.condition.Pred.{Pred}
use Rattle.hb_model.specs.declared.table.Table.{Table}
use Rattle.hb_model.specs.Families.{Family}
use Rattle.hb_model.specs.Rows.{chooses, chosen, is_keyed, key_of, point, truth}
use Rattle.hb_model.specs.State.{Spread}
use Rattle.hb_model.specs.TableRows.{has_key, row_of}
use Rattle.std.proofs.lemmas.Bool.Decides.{Decides-int_eq}
use Rattle.hb_talk.specs.Plans.{Lying}
use Rattle.hb_planlaws.proofs.KeyRows.{filter_among}
use Rattle.hb_planlaws.proofs.Named.{find_holds}
use Rattle.hb_planwrites.proofs.AllRows.{key_is, of_mapped}
use Rattle.hb_planwrites.proofs.Gather.{Gathered}
use Rattle.hb_planwrites.proofs.ListWrites.{Lies, by_key}
use Rattle.hb_planwrites.proofs.RowsPut.{each_filtered, filter_ascends, filtered_pass}

filter-mapped : {A B : Type 0} (f : A → B) (p : B → Bool) (xs : List A) → filter p (map f xs) ≡ map f (filter (λ x. p (f x)) xs)
filter-mapped f p [] = refl
filter-mapped f p (x ∷ xs) =
    by_test (p (f x)) (λ t. rw t (ap (λ ys. f x ∷ ys) (filter-mapped f p xs))) (λ n. rw n (filter-mapped f p xs))

pub in_filter : {A : Type 0} (p : A → Bool) (x : A) (xs : List A) → IsIn x xs → p x ≡ true → IsIn x (filter p xs)
in_filter p x [] i t = absurd i
in_filter {A} p x (y ∷ ys) (inl e) t = let h : p y ≡ true = subst (λ (z : A). p z ≡ true) (sym e) t in rw h (inl e)
in_filter p x (y ∷ ys) (inr i) t = by_test (p y) (λ h. rw h (inr (in_filter p x ys i t))) (λ n. rw n (in_filter p x ys i t))

module _ (family : Family) (p : Spread) (t : Table) (pred : Option Pred) (ls : List Lying) (gathered : Gathered family p t (point t pred) ls) where
  abbrev pub is_chosen : Lying → Bool
  is_chosen l = chooses t pred l.1

  abbrev pub listed : List Lying
  listed = filter is_chosen ls

  pub chosen_listed : chosen t pred ≡ map (λ l. l.1) listed
  chosen_listed =
      sym (filter_among (is_keyed t (point t pred)) (λ row. unwrap_or (truth t pred row) false) t.rows) ∙ ap (filter (chooses t pred)) (sym gathered.read) ∙ filter-mapped (λ l. l.1) (chooses t pred) ls

  pub listed_lie : Each (Lies family p (row_of t)) listed
  listed_lie = each_filtered by_key (on_total (λ (x : Lying). x.0.key) int_cmp_total) (Lies family p (row_of t)) is_chosen ls gathered.lies

  pub listed_ascend : Ascends by_key listed
  listed_ascend = filter_ascends by_key (on_total (λ (x : Lying). x.0.key) int_cmp_total) is_chosen ls gathered.ascend

  pub listed_pass : Each (λ l. is_chosen l ≡ true) listed
  listed_pass = filtered_pass by_key (on_total (λ (x : Lying). x.0.key) int_cmp_total) is_chosen ls

  -- a row at another key isn't chosen
  pub not_chosen : (key : ℤ) → Each (λ (l : Lying). l.0.key ≡ key → ⊥) listed → (row : List Value) → row_of t key ≡ Some row → chooses t pred row ≡ false
  not_chosen key n row is =
      let f = find_holds (has_key t key) t.rows row is in
      by_test (chooses t pred row)
      (λ y. let i : IsIn row (chosen t pred) = in_filter (chooses t pred) row t.rows f.1 y in
      let l = of_mapped (λ (x : Lying). x.1) row listed (subst (λ rs. IsIn row rs) chosen_listed i) in
      let lies : Lies family p (row_of t) l.0 = in_Each (Lies family p (row_of t)) l.0 listed l.1 listed_lie in
      let same : l.0.0.key ≡ key = sym (key_is family t p l.0 lies) ∙ ap (key_of t) l.2 ∙ (Decides-int_eq (key_of t row) key).0 f.0 in
      absurd (in_Each (λ (x : Lying). x.0.key ≡ key → ⊥) l.0 listed l.1 n same))
      (λ f_. f_)
