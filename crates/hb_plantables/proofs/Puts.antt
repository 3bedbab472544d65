-- Rows put into the dictionary, one after another.
use Rattle.std.proofs.Common.{◌≡◌, ℕ, ◌+◌, ◌≤◌, pos, List, [], ◌∷◌, ◌++◌, length, map, Option, Some, None, Bool, true, false, refl, subst, sym, ap, ◌∙◌, arith}
use Rattle.std.specs.Prelude.{nat_abs, sum_by, fold, if◌then◌else◌}
use Rattle.std.specs.Option.{option_or}
use Rattle.hb_types.specs.declared.change.Change.{Change}
use Rattle.hb_types.specs.declared.change.Stored.{Stored}
use Rattle.hb_types.specs.declared.places.Place.{Place}
use Rattle.hb_types.specs.declared.value.Value.{Value}
use Rattle.hb_types.specs.Groups.{map_from}
use Rattle.hb_types.specs.Lists.{Each}
use Rattle.hb_types.specs.Places.{node_of_area, same_place}
use Rattle.hb_types.specs.Put.{last_at, lookup}
use Rattle.hb_types.specs.Records.{change_bytes}
use Rattle.hb_types.proofs.SamePlace.{same_place-eq}
use Rattle.hb_model.specs.Answers.{put_at, rows_of}
use Rattle.hb_model.specs.Dictionary.{at_place}
use Rattle.hb_model.specs.Families.{Family}
use Rattle.hb_model.specs.Refusals.{change_size}
use Rattle.hb_model.specs.Spots.{ds, dictionary_space}
use Rattle.hb_model.specs.System.{AreAscending}
use Rattle.hb_model.proofs.DictionaryRows.{lookup_behind, not_true}
use Rattle.hb_talk.specs.Plans.{sizes}
use Rattle.hb_talk.specs.PlansDefine.{put_row}
use Rattle.hb_planwrites.proofs.Changed.{at_ascends, at_elsewhere, at_length, at_put}
use Rattle.hb_planwrites.proofs.Closing.{sizes_more, written}

-- ---- look-ups

-- where nothing of the rows can lie, nothing stands
pub none_at : (P : Place → Type 0) (rows : List Stored) (x : Place) → Each (λ r. P r.place) rows → (P x → ⊥) → lookup x rows ≡ None
none_at P [] x e away = refl
none_at P (r ∷ rs) x e away =
    let apart : same_place x r.place ≡ false = not_true (same_place x r.place) (λ y. away (subst P (sym (same_place-eq x r.place y)) e.0)) in
    rw apart (none_at P rs x e.1 away)

-- no two rows lie at one place
abbrev pub AreApart : List Stored → Type 0
AreApart [] = Unit {0}
AreApart (r ∷ rs) = (lookup r.place rs ≡ None) × AreApart rs

none_behind : (x : Place) (xs ys : List Stored) → lookup x xs ≡ None → lookup x ys ≡ None → lookup x (xs ++ ys) ≡ None
none_behind x xs ys e f = lookup_behind x xs ys ∙ rw e f

pub apart_joined : (xs ys : List Stored) → AreApart xs → AreApart ys → Each (λ r. lookup r.place ys ≡ None) xs → AreApart (xs ++ ys)
apart_joined [] ys a b e = b
apart_joined (x ∷ xs) ys a b e = (none_behind x.place xs ys a.0 e.0, apart_joined xs ys a.1 b e.1)

-- ---- rows by number

module _ {A : Type 0} (space number : ℕ) (row : A → List Value) where
  abbrev pub numbered : ℕ → List A → List Stored
  numbered first xs = map_from (λ i x. at_place space number i (row x)) first xs

  pub each_numbered : (P : Place → Type 0) → ((i : ℕ) → P (record { space = dictionary_space space; group = number; key = pos i })) → (first : ℕ) (xs : List A)
      → Each (λ r. P r.place) (numbered first xs)
  each_numbered P h first [] = tt
  each_numbered P h first (x ∷ xs) = (h first, each_numbered P h (first + 1) xs)

  from_first : (first low : ℕ) (xs : List A) → low ≤ first → Each (λ r. low ≤ nat_abs r.place.key) (numbered first xs)
  from_first first low [] h = tt
  from_first first low (x ∷ xs) h = (h, from_first (first + 1) low xs (omega (arith, h)))

  pub none_later : (first : ℕ) (xs : List A) → lookup (record { space = dictionary_space space; group = number; key = pos first }) (numbered (first + 1) xs) ≡ None
  none_later first xs =
      none_at (λ q. first + 1 ≤ nat_abs q.key) (numbered (first + 1) xs) (record { space = dictionary_space space; group = number; key = pos first })
      (from_first (first + 1) (first + 1) xs (omega arith)) (λ l. absurd (omega (arith, l)))

  pub numbered_apart : (first : ℕ) (xs : List A) → AreApart (numbered first xs)
  numbered_apart first [] = tt
  numbered_apart first (x ∷ xs) = (none_later first xs, numbered_apart (first + 1) xs)

-- ---- changes that put rows

pub put_last : (x : Place) (rows : List Stored) (old : Option (List ℕ)) → AreApart rows → last_at x (map put_row rows) old ≡ option_or (lookup x rows) old
put_last x [] old a = refl
put_last x (r ∷ rs) old a = put_last x rs (if same_place x r.place then Some r.row else old) a.1 ∙ step (same_place x r.place) refl
  where
    step : (b : Bool) → same_place x r.place ≡ b → option_or (lookup x rs) (if b then Some r.row else old) ≡ option_or (if b then Some r.row else lookup x rs) old
    step true y = ap (λ o. option_or o (Some r.row)) (subst (λ p. lookup p rs ≡ None) (sym (same_place-eq x r.place y)) a.0)
    step false n = refl

-- changes at ds leave the back ends
pub record IsPut (family : Family) (cs : List Change) (after : Family) : Type 0 where
  pub servers : length after ≡ length family
  pub ascending : Each AreAscending family → Each AreAscending after
  pub dictionary : (x : Place) → lookup x (rows_of ds after) ≡ last_at x cs (lookup x (rows_of ds family))
  pub others : (node : ℕ) → 2 ≤ node → rows_of node after ≡ rows_of node family

pub put_written : (family : Family) (cs : List Change) → 1 ≤ length family → Each (λ c. c.place.space.area ≡ 0) cs → IsPut family cs (written family cs)
put_written family [] some e = record { servers = refl; ascending = λ a. a; dictionary = λ x. refl; others = λ n two. refl }
put_written family (c ∷ cs) some e =
    let at : node_of_area c.place.space.area ≡ ds = ap node_of_area e.0 in
    let next : Family = put_at ds c family in
    let length_next : length next ≡ length family = at_length ds c family in
    let more : IsPut next cs (written next cs) = put_written next cs (omega (arith, length_next, some)) e.1 in
    let same : written next cs ≡ written family (c ∷ cs) = ap (λ n. written (put_at n c family) cs) (sym at) in
    subst (IsPut family (c ∷ cs)) same (record {
      servers = more.servers ∙ length_next;
      ascending = λ a. more.ascending (at_ascends ds c family a);
      dictionary = λ x. more.dictionary x ∙ ap (λ o. last_at x cs o) (at_put ds c family x (omega arith) some);
      others = λ n two. more.others n two ∙ at_elsewhere n ds c family (λ is. omega (arith, two, is));
    })

-- ---- their bytes

size_of_put : (space number i : ℕ) (values : List Value) → length (change_bytes (put_row (at_place space number i values))) ≡ change_size values
size_of_put space number i values = omega arith

sum_from : {A : Type 0} (f : A → ℕ) (xs : List A) (n : ℕ) → fold (λ a (x : A). a + f x) n xs ≡ n + sum_by f xs
sum_from f [] n = omega arith
sum_from f (x ∷ xs) n = let a = sum_from f xs (n + f x) in let b = sum_from f xs (0 + f x) in omega (arith, a, b)

pub sum_more : {A : Type 0} (f : A → ℕ) (x : A) (xs : List A) → sum_by f (x ∷ xs) ≡ f x + sum_by f xs
sum_more f x xs = let a = sum_from f xs (0 + f x) in omega (arith, a)

pub sizes_numbered : {A : Type 0} (space number : ℕ) (row : A → List Value) (first : ℕ) (xs : List A)
    → sizes (map put_row (numbered space number row first xs)) ≡ sum_by (λ x. change_size (row x)) xs
sizes_numbered space number row first [] = refl
sizes_numbered space number row first (x ∷ xs) =
    let one = size_of_put space number first (row x) in
    let more = sizes_more (put_row (at_place space number first (row x))) (map put_row (numbered space number row (first + 1) xs)) in
    let rest = sizes_numbered space number row (first + 1) xs in
    let sum = sum_more (λ y. change_size (row y)) x xs in
    more ∙ ap (λ n. n + sizes (map put_row (numbered space number row (first + 1) xs))) one ∙ ap (λ n. change_size (row x) + n) rest ∙ sym sum

pub sizes_joined : (xs ys : List Stored) → sizes (map put_row (xs ++ ys)) ≡ sizes (map put_row xs) + sizes (map put_row ys)
sizes_joined [] ys = omega arith
sizes_joined (x ∷ xs) ys =
    let a = sizes_more (put_row x) (map put_row (xs ++ ys)) in
    let b = sizes_more (put_row x) (map put_row xs) in
    let c = sizes_joined xs ys in
    a ∙ ap (λ n. length (change_bytes (put_row x)) + n) c ∙ assoc (length (change_bytes (put_row x))) (sizes (map put_row xs)) (sizes (map put_row ys))
    ∙ ap (λ n. n + sizes (map put_row ys)) (sym b)
  where
    assoc : (a b c : ℕ) → a + (b + c) ≡ (a + b) + c
    assoc a b c = omega arith

pub size_first : (space number i : ℕ) (values : List Value) (rows : List Stored)
    → sizes (map put_row (at_place space number i values ∷ rows)) ≡ change_size values + sizes (map put_row rows)
size_first space number i values rows =
    sizes_more (put_row (at_place space number i values)) (map put_row rows) ∙ ap (λ n. n + sizes (map put_row rows)) (size_of_put space number i values)
