-- The values of the rows that a statement considers, each with its place, are those of user rows that were answered.
use Rattle.std.proofs.Common.{◌≡◌, List, [], ◌∷◌, filter, fold, map, Option, Some, None, Bool, true, false, cond, refl, subst, sym}
use Rattle.std.specs.Prelude.{filter_map, option_map}
use Rattle.std.specs.List.{cons_option}
use Rattle.std.specs.Ordering.{int_cmp, is_lt}
use Rattle.hb_types.specs.declared.change.Stored.{Stored}
use Rattle.hb_types.specs.declared.value.Value.{Value}
use Rattle.hb_types.specs.Lists.{Each, Has}
use Rattle.hb_types.specs.Rows.{values_in}
use Rattle.hb_types.proofs.Ascending.{Has-of}
use Rattle.hb_model.specs.Sources.{IsUsers}
use Rattle.hb_talk.specs.Plans.{Lying, by_key, lying, lying_rows}
use Rattle.hb_plansources.proofs.Gathers.{Gathered, IsGathered}

pub each_filtered : {A : Type 0} (P : A → Type 0) (p : A → Bool) (xs : List A) → Each P xs → Each P (filter p xs)
each_filtered P p [] e = tt
each_filtered P p (x ∷ xs) e = kept (p x) (each_filtered P p xs e.1)
  where
    kept : (b : Bool) → Each P (filter p xs) → Each P (cond b (x ∷ filter p xs) (filter p xs))
    kept true more = (e.0, more)
    kept false more = more

pub each_mapped : {A B : Type 0} (P : B → Type 0) (f : A → B) (xs : List A) → Each (λ x. P (f x)) xs → Each P (map f xs)
each_mapped P f [] e = tt
each_mapped P f (x ∷ xs) e = (e.0, each_mapped P f xs e.1)

-- values that lie where a user row with these values was answered
abbrev pub Lies : List Stored → Lying → Type 0
Lies g l = Has (λ r. IsUsers r × (r.place ≡ l.0) × (values_in r.row ≡ Some l.1)) g

row_lies : (g : List Stored) (r : Stored) → IsGathered g r → (o : Option (List Value)) → values_in r.row ≡ o → (l : Lying) → option_map (λ values. (r.place, values)) o ≡ Some l → Lies g l
row_lies g r k None is l e = cc
row_lies g r k (Some values) is l e =
    let same : (r.place, values) ≡ l = cc in
    subst (Lies g) same
    (Has-of (λ (y : Stored). y ≡ r) (λ y. IsUsers y × (y.place ≡ r.place) × (values_in y.row ≡ Some values)) g
    (λ y one. subst (λ (z : Stored). IsUsers z × (z.place ≡ r.place) × (values_in z.row ≡ Some values)) (sym one) (k.0, refl, is)) k.1)

each_lies : (g rows : List Stored) → Gathered g rows → Each (Lies g) (filter_map lying rows)
each_lies g [] e = tt
each_lies g (r ∷ rows) e = with_one (lying r) (row_lies g r e.0 (values_in r.row) refl) (filter_map lying rows) (each_lies g rows e.1)
  where
    with_one : (o : Option Lying) → ((l : Lying) → o ≡ Some l → Lies g l) → (ls : List Lying) → Each (Lies g) ls → Each (Lies g) (cons_option o ls)
    with_one None f ls all = all
    with_one (Some l) f ls all = (f l refl, all)

-- in order by key
each_by_key : (P : Lying → Type 0) (l : Lying) (ls : List Lying) → P l → Each P ls → Each P (by_key l ls)
each_by_key P l [] h e = (h, tt)
each_by_key P l (m ∷ ms) h e = put (is_lt (int_cmp l.0.key m.0.key)) (each_by_key P l ms h e.1)
  where
    put : (b : Bool) → Each P (by_key l ms) → Each P (cond b (l ∷ m ∷ ms) (m ∷ by_key l ms))
    put true more = (h, e)
    put false more = (e.0, more)

each_ordered : (P : Lying → Type 0) (xs done : List Lying) → Each P done → Each P xs → Each P (fold (λ ls l. by_key l ls) done xs)
each_ordered P [] done d e = d
each_ordered P (x ∷ xs) done d e = each_ordered P xs (by_key x done) (each_by_key P x done e.0 d) e.1

pub rows_lie : (g rows : List Stored) → Gathered g rows → Each (Lies g) (lying_rows rows)
rows_lie g rows e = each_ordered (Lies g) (filter_map lying rows) [] tt (each_lies g rows e)
