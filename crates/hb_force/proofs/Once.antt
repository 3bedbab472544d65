-- A row is of one list of values, so that a change and a record fit in one way.
use Rattle.std.proofs.Common.{◌≡◌, ℕ, ◌≤◌, List, [], ◌∷◌, refl, Option, Some, None, length}
use mathlib.Core.HLevel.{×_prop, →_prop, Π_prop, Σ_prop_path, Unit-prop}
use Rattle.std.proofs.Props.{props}
use Rattle.std.specs.Prelude.{All}
use Rattle.std.specs.Ordering.{nat_cmp}
use Rattle.std.specs.declared.cmp.Ordering.{Ordering}
use Rattle.hb_types.specs.declared.change.Change.{Change}
use Rattle.hb_types.specs.declared.change.LogItem.{LogItem}
use Rattle.hb_types.specs.declared.change.LogItem.TheVariants.{Prepare, Commit, Abort, Decision, Ids}
use Rattle.hb_types.specs.declared.lock.Held.{Held}
use Rattle.hb_types.specs.declared.names.NodeName.{NodeName}
use Rattle.hb_types.specs.declared.places.Path.{Path}
use Rattle.hb_types.specs.declared.places.Path.TheVariants.{Whole, Group, Key}
use Rattle.hb_types.specs.declared.places.Place.{Place}
use Rattle.hb_types.specs.declared.value.Value.{Value}
use Rattle.hb_types.specs.declared.value.Value.TheVariants.{Int, Text}
use Rattle.hb_types.specs.Lists.{Ascends, Each}
use Rattle.hb_types.specs.Numbers.{IsNumber, greatest}
use Rattle.hb_types.specs.Places.{IsPath, path_cmp, place_cmp}
use Rattle.hb_types.specs.Records.{HasRecord, IsChange, body_bytes}
use Rattle.hb_types.specs.Rows.{HasBytes, HaveRow, IsRow, IsRowOf, row_bytes}
use Rattle.hb_codec.specs.Reading.{OneForm}
use Rattle.hb_codec.specs.Spellings.{SpellsRow}

within_once : (m n : ℕ) → IsProp (m ≤ n)
within_once m n = hlevel props

number_once : (n : ℕ) → IsProp (IsNumber n)
number_once n = hlevel props

pub all_once : {A : Type 0} (P : A → Type 0) → ((x : A) → IsProp (P x)) → (xs : List A) → IsProp (All P xs)
all_once P once xs = Π_prop (λ k. Π_prop (λ d. →_prop (once _)))

pub each_once : {A : Type 0} (P : A → Type 0) → ((x : A) → IsProp (P x)) → (xs : List A) → IsProp (Each P xs)
each_once P once [] = Unit-prop
each_once P once (x ∷ xs) = ×_prop (once x) (each_once P once xs)

ascends_once : {A : Type 0} (order : A → A → Ordering) (xs : List A) → IsProp (Ascends order xs)
ascends_once order [] = Unit-prop
ascends_once order (x ∷ []) = Unit-prop
ascends_once order (x ∷ y ∷ ys) = ×_prop (hlevel props) (ascends_once order (y ∷ ys))

-- ---- rows

bytes_once : (v : Value) → IsProp (HasBytes v)
bytes_once (Int n) = hlevel props
bytes_once (Text t) = hlevel props

spelled_once : (bytes : List ℕ) (vs : List Value) → IsProp (bytes ≡ row_bytes vs)
spelled_once bytes vs = hlevel props

have_once : (vs : List Value) → IsProp (HaveRow vs)
have_once vs u v = λ i. record { few = within_once (length vs) 255 u.few v.few i; fit = all_once HasBytes bytes_once vs u.fit v.fit i }

row_of_once : (bytes : List ℕ) (vs : List Value) → IsProp (IsRowOf bytes vs)
row_of_once bytes vs u v = λ i. record { values_fit = have_once vs u.values_fit v.values_fit i; spelled = spelled_once bytes vs u.spelled v.spelled i }

module _ (one : OneForm SpellsRow) where
  pub row_once : (bytes : List ℕ) → IsProp (IsRow bytes)
  row_once bytes = ×_prop (within_once (length bytes) 4000) (λ u v. Σ_prop_path (row_of_once bytes) ((one u.0 v.0 bytes bytes [] [] u.1 v.1 refl).1))

  -- ---- changes and records

  fits_once : (place : Place) (row : Option (List ℕ)) → IsProp (IsChange (record { place = place; row = row }))
  fits_once place None = hlevel props
  fits_once place (Some row) = ×_prop (hlevel props) (row_once row)

  pub change_once : (c : Change) → IsProp (IsChange c)
  change_once c = fits_once c.place c.row

  pub changes_once : (cs : List Change) → IsProp (Each IsChange cs)
  changes_once cs = each_once IsChange change_once cs

  path_once : (p : Path) → IsProp (IsPath p)
  path_once (Whole space) = hlevel props
  path_once (Group space group) = hlevel props
  path_once (Key place) = hlevel props

  pub record_once : (item : LogItem) → IsProp (HasRecord item)
  record_once (Prepare tx floor locks changes) =
      let long = within_once (length (body_bytes (Prepare tx floor locks changes))) 8388608 in
      let paths = all_once (λ (l : Held). IsPath l.path) (λ l. path_once l.path) locks in
      let ladder = ascends_once (λ (a b : Held). path_cmp a.path b.path) locks in
      let order = ascends_once (λ (a b : Change). place_cmp a.place b.place) changes in
      let all = all_once IsChange change_once changes in
      λ u v i. ((number_once tx.0 u.0.0 v.0.0 i, within_once floor.0 greatest u.0.1 v.0.1 i, paths u.0.2 v.0.2 i, ladder u.0.3 v.0.3 i, order u.0.4 v.0.4 i, all u.0.5 v.0.5 i), long u.1 v.1 i)
  record_once (Commit tx number) = hlevel props
  record_once (Abort tx) = hlevel props
  record_once (Decision tx number nodes) =
      let long = within_once (length (body_bytes (Decision tx number nodes))) 8388608 in
      let order = ascends_once (λ (a b : NodeName). nat_cmp a.0 b.0) nodes in
      let all = all_once (λ (n : NodeName). (1 ≤ n.0) × (n.0 ≤ 9)) (λ n. hlevel props) nodes in
      λ u v i. ((number_once tx.0 u.0.0 v.0.0 i, number_once number.0 u.0.1 v.0.1 i, order u.0.2 v.0.2 i, within_once 1 (length nodes) u.0.3 v.0.3 i, all u.0.4 v.0.4 i), long u.1 v.1 i)
  record_once (Ids upto) = hlevel props
