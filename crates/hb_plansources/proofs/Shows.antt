-- What a SELECT shows is made of selections of the rows that it considers.
use Rattle.std.proofs.Common.{◌≡◌, ℕ, suc, List, [], ◌∷◌, map, Option, Some, None, refl, ap, ◌∙◌}
use Rattle.std.specs.Prelude.{IsTrue, filter_map, option_and_then, slice_get}
use Rattle.std.specs.List.{cons_option}
use Rattle.std.proofs.lemmas.Bool.{false≢true}
use Rattle.hb_types.specs.declared.change.Stored.{Stored}
use Rattle.hb_types.specs.declared.value.Column.{Column}
use Rattle.hb_types.specs.declared.value.Value.{Value}
use Rattle.hb_types.specs.Lists.{Each, Has}
use Rattle.hb_types.specs.Rows.{values_in}
use Rattle.hb_types.proofs.Ascending.{Each-of, Has-of}
use Rattle.hb_model.specs.declared.statement.What.{What}
use Rattle.hb_model.specs.declared.statement.What.TheVariants as what
use Rattle.hb_model.specs.declared.table.Table.{Table}
use Rattle.hb_model.specs.Rows.{shown}
use Rattle.hb_model.specs.Sources.{IsSelection, IsShownOf, IsUsers, shows_rows}
use Rattle.hb_model.specs.Values.{place_of, value_in}
use Rattle.hb_plansources.proofs.Lying.{each_mapped}

-- values of a user row that was answered
abbrev pub IsAnswered : List Stored → List Value → Type 0
IsAnswered g row = Has (λ r. IsUsers r × (values_in r.row ≡ Some row)) g

-- a selection of a row
abbrev Selection : List Value → List Value → Type 0
Selection row shown = (positions : List ℕ) × IsSelection row positions shown

selected : (g : List Stored) (row shown : List Value) → Selection row shown → IsAnswered g row → IsShownOf g shown
selected g row shown s h =
    Has-of (λ r. IsUsers r × (values_in r.row ≡ Some row)) (λ r. IsUsers r × ((row : List Value) × (positions : List ℕ) × (values_in r.row ≡ Some row) × IsSelection row positions shown)) g
    (λ r k. (k.0, (row, s.0, k.1, s.1))) h

-- ---- the whole row

shifted : (x : Value) (xs : List Value) (ps : List ℕ) → map (slice_get (x ∷ xs)) (map (λ n. suc n) ps) ≡ map (slice_get xs) ps
shifted x xs [] = refl
shifted x xs (p ∷ ps) = ap (λ ys. slice_get xs p ∷ ys) (shifted x xs ps)

whole : (row : List Value) → Selection row row
whole [] = ([], refl)
whole (x ∷ xs) = let more = whole xs in (0 ∷ map (λ n. suc n) more.0, ap (λ ys. Some x ∷ ys) (shifted x xs more.0 ∙ more.1))

-- ---- columns by name

module _ (columns : List Column) (row : List Value) where
  stands : (o : Option ℕ) (v : Value) → option_and_then (slice_get row) o ≡ Some v → (p : ℕ) × (slice_get row p ≡ Some v)
  stands None v e = cc
  stands (Some p) v e = (p, e)

  with_one : (o : Option Value) → ((v : Value) → o ≡ Some v → (p : ℕ) × (slice_get row p ≡ Some v)) → (vs : List Value) → Selection row vs → Selection row (cons_option o vs)
  with_one None f vs s = s
  with_one (Some v) f vs s = let p = f v refl in (p.0 ∷ s.0, λ i. p.1 i ∷ s.1 i)

  named : (names : List (List ℕ)) → Selection row (filter_map (value_in columns row) names)
  named [] = ([], refl)
  named (n ∷ ns) = with_one (value_in columns row n) (stands (place_of columns n)) (filter_map (value_in columns row) ns) (named ns)

pub shows_answered : (g : List Stored) (t : Table) (w : What) (rows : List (List Value)) → Each (IsAnswered g) rows → IsTrue (shows_rows w) → Each (IsShownOf g) (shown t w rows)
shows_answered g t what.All rows e h = Each-of (IsAnswered g) (IsShownOf g) rows (λ row k. selected g row row (whole row) k) e
shows_answered g t (what.Names names) rows e h =
    each_mapped (IsShownOf g) (λ row. filter_map (value_in t.columns row) names) rows
    (Each-of (IsAnswered g) (λ row. IsShownOf g (filter_map (value_in t.columns row) names)) rows (λ row k. selected g row (filter_map (value_in t.columns row) names) (named t.columns row names) k) e)
shows_answered g t what.Count rows e h = absurd (false≢true h)
shows_answered g t (what.Sum name) rows e h = absurd (false≢true h)
