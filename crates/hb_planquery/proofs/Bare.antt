-- A table that rows of the dictionary tell has no rows.
use Rattle.std.proofs.Common.{◌≡◌, ℕ, Bool, true, false, List, [], ◌∷◌, Option, Some, None, refl, ap, sym, subst}
use Rattle.std.specs.Prelude.{MatchOption, cond, find, filter_map, option_map, option_and_then, ⊤, nat_abs}
use Rattle.std.specs.Str.{bytes_eq}
use Rattle.hb_types.specs.declared.change.Stored.{Stored}
use Rattle.hb_types.specs.declared.value.Column.{Column}
use Rattle.hb_types.specs.declared.value.Value.{Value}
use Rattle.hb_types.specs.declared.value.Value.TheVariants.{Int, Text}
use Rattle.hb_types.specs.Rows.{values_in}
use Rattle.hb_model.specs.declared.table.Table.{Table}
use Rattle.hb_model.specs.Dictionary.{table_in, columns_in, size_of}
use Rattle.hb_model.specs.Told.{Found, found_in, table_among}
use Rattle.hb_talk.specs.Plans.{with_lying}

abbrev BareTable : Option Table → Type 0
BareTable o = MatchOption o ⊤ (λ t. t.rows ≡ [])

abbrev BareFound : Option Found → Type 0
BareFound o = MatchOption o ⊤ (λ f. f.1.rows ≡ [])

of_columns : (name : List ℕ) (key : ℕ) (o : Option (List Column)) → BareTable (option_map (λ cs. record { name = name; columns = cs; key = key; rows = [] }) o)
of_columns name key None = tt
of_columns name key (Some cs) = refl

of_values : (values : List Value) → BareTable (table_in values)
of_values [] = tt
of_values (Int n ∷ rest) = tt
of_values (Text name ∷ []) = tt
of_values (Text name ∷ Text t ∷ rest) = tt
of_values (Text name ∷ Int hash ∷ []) = tt
of_values (Text name ∷ Int hash ∷ Text t ∷ rest) = tt
of_values (Text name ∷ Int hash ∷ Int key ∷ rest) = of_columns name (size_of key) (columns_in rest)

numbered : (n : ℕ) (o : Option Table) → BareTable o → BareFound (option_map (λ t. (n, t)) o)
numbered n None bare = tt
numbered n (Some t) bare = bare

of_row : (r : Stored) → BareFound (found_in r)
of_row r = by_values (values_in r.row)
  where
    by_values : (o : Option (List Value)) → BareFound (option_and_then (λ values. option_map (λ t. (nat_abs r.place.key, t)) (table_in values)) o)
    by_values None = tt
    by_values (Some values) = numbered (nat_abs r.place.key) (table_in values) (of_values values)

by_test : (f : Found) (b : Bool) (rest : Option Found) → f.1.rows ≡ [] → BareFound rest → BareFound (cond b (Some f) rest)
by_test f true rest bare later = bare
by_test f false rest bare later = later

pub bare_among : (rows : List Stored) (name : List ℕ) → BareFound (table_among rows name)
bare_among [] name = tt
bare_among (r ∷ rs) name = by_case (found_in r) refl (of_row r) (bare_among rs name)
  where
    by_case : (o : Option Found) → found_in r ≡ o → BareFound o → BareFound (table_among rs name) → BareFound (table_among (r ∷ rs) name)
    by_case None e bare later = rw e later
    by_case (Some f) e bare later = rw e (by_test f (bytes_eq f.1.name name) (table_among rs name) bare later)

pub bare_is : (t : Table) → t.rows ≡ [] → t ≡ with_lying t []
bare_is t bare = ap (λ rs. record t { rows = rs }) bare
