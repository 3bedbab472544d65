-- The rows of the dictionary that ADD RDAREA puts: that of a member, and those of the entries that change.
use Rattle.std.proofs.Common.{◌≡◌, ℕ, ◌+◌, ◌≤◌, pos, List, [], ◌∷◌, ◌++◌, length, map, filter, Option, Some, None, Bool, true, false, cond, refl, subst, sym, ap, ◌∙◌, arith}
use Rattle.std.specs.Prelude.{nat_abs, option_map, sum_by, unwrap_or, if◌then◌else◌}
use Rattle.std.specs.Option.{option_or}
use Rattle.std.proofs.lemmas.Bool.{false≢true}
use Rattle.hb_types.specs.declared.change.Stored.{Stored}
use Rattle.hb_types.specs.declared.entry.Entry.{Entry}
use Rattle.hb_types.specs.declared.places.Place.{Place}
use Rattle.hb_types.specs.declared.value.Value.{Value}
use Rattle.hb_types.specs.Groups.{is_moving, map_from}
use Rattle.hb_types.specs.Lists.{Each}
use Rattle.hb_types.specs.Places.{same_place}
use Rattle.hb_types.specs.Put.{lookup}
use Rattle.hb_types.specs.Rows.{row_bytes}
use Rattle.hb_types.proofs.PutLaws.{by_test}
use Rattle.hb_types.proofs.SamePlace.{same_place-eq}
use Rattle.hb_dict.specs.DictionaryRows.{AreAreas}
use Rattle.hb_model.specs.Dictionary.{at_place, entry_row}
use Rattle.hb_model.specs.Refusals.{change_size}
use Rattle.hb_model.specs.Spots.{dictionary_space, entries_space}
use Rattle.hb_model.specs.Told.{entry_of}
use Rattle.hb_talk.specs.Plans.{sizes}
use Rattle.hb_talk.specs.PlansDefine.{put_row}
use Rattle.hb_planlaws.proofs.Told.{entry_back}
use Rattle.hb_plantables.proofs.Puts.{AreApart, none_at, none_later, numbered, size_first, sum_more}

-- ---- a list by number with one more

module _ {A : Type 0} (space number : ℕ) (row : A → List Value) where
  abbrev place_of : ℕ → Place
  place_of i = record { space = dictionary_space space; group = number; key = pos i }

  pub one_behind : (x : Place) (first : ℕ) (xs : List A) (y : A)
      → lookup x (numbered space number row first (xs ++ y ∷ []))
      ≡ option_or (lookup x (at_place space number (first + length xs) (row y) ∷ [])) (lookup x (numbered space number row first xs))
  one_behind x first [] y =
      let e : first + 0 ≡ first = omega arith in
      subst (λ k. lookup x (at_place space number first (row y) ∷ []) ≡ option_or (lookup x (at_place space number k (row y) ∷ [])) None) (sym e)
      (sym (or_none (lookup x (at_place space number first (row y) ∷ []))))
    where
      or_none : (o : Option (List ℕ)) → option_or o None ≡ o
      or_none None = refl
      or_none (Some v) = refl
  one_behind x first (z ∷ xs) y =
      let e : (first + 1) + length xs ≡ first + length (z ∷ xs) = omega arith in
      let rest = subst (λ k. lookup x (numbered space number row (first + 1) (xs ++ y ∷ [])) ≡ option_or (lookup x (at_place space number k (row y) ∷ [])) (lookup x (numbered space number row (first + 1) xs))) e
      (one_behind x (first + 1) xs y) in
      by (same_place x (place_of first)) refl rest
    where
      by : (b : Bool) → same_place x (place_of first) ≡ b
          → lookup x (numbered space number row (first + 1) (xs ++ y ∷ []))
          ≡ option_or (lookup x (at_place space number (first + length (z ∷ xs)) (row y) ∷ [])) (lookup x (numbered space number row (first + 1) xs))
          → (if b then Some (row_bytes (row z)) else lookup x (numbered space number row (first + 1) (xs ++ y ∷ [])))
          ≡ option_or (lookup x (at_place space number (first + length (z ∷ xs)) (row y) ∷ [])) (if b then Some (row_bytes (row z)) else lookup x (numbered space number row (first + 1) xs))
      by false e rest = rest
      by true e rest =
          let none : lookup x (at_place space number (first + length (z ∷ xs)) (row y) ∷ []) ≡ None =
          subst (λ q. lookup q (at_place space number (first + length (z ∷ xs)) (row y) ∷ []) ≡ None) (sym (same_place-eq x (place_of first) e))
          (none_at (λ q. first + 1 ≤ nat_abs q.key) (at_place space number (first + length (z ∷ xs)) (row y) ∷ []) (place_of first) ((let l : first + 1 ≤ first + length (z ∷ xs) = omega arith in l), tt)
          (λ l. absurd (omega (arith, l)))) in
          sym (ap (λ o. option_or o (Some (row_bytes (row z)))) none)

-- ---- rows that pass a test

pub filtered_none : (x : Place) (p : Stored → Bool) (rows : List Stored) → lookup x rows ≡ None → lookup x (filter p rows) ≡ None
filtered_none x p [] h = refl
filtered_none x p (r ∷ rows) h = by (same_place x r.place) refl h (filtered_none x p rows)
  where
    some_none : (v : List ℕ) → Some v ≡ None → ⊥
    some_none v e = cc

    keeps : (c : Bool) → same_place x r.place ≡ false → lookup x (filter p rows) ≡ None → lookup x (cond c (r ∷ filter p rows) (filter p rows)) ≡ None
    keeps true e rest = rw e rest
    keeps false e rest = rest

    by : (b : Bool) → same_place x r.place ≡ b → (if b then Some r.row else lookup x rows) ≡ None → (lookup x rows ≡ None → lookup x (filter p rows) ≡ None)
        → lookup x (cond (p r) (r ∷ filter p rows) (filter p rows)) ≡ None
    by true e k more = absurd (some_none r.row k)
    by false e k more = keeps (p r) e (more k)

pub filtered_apart : (p : Stored → Bool) (rows : List Stored) → AreApart rows → AreApart (filter p rows)
filtered_apart p [] a = tt
filtered_apart p (r ∷ rows) a =
    by_test (p r) (λ y. rw y (filtered_none r.place p rows a.0, filtered_apart p rows a.1)) (λ n. rw n (filtered_apart p rows a.1))

pub filtered_each : (P : Stored → Type 0) (p : Stored → Bool) (rows : List Stored) → Each P rows → Each P (filter p rows)
filtered_each P p [] e = tt
filtered_each P p (r ∷ rows) e = by_test (p r) (λ y. rw y (e.0, filtered_each P p rows e.1)) (λ n. rw n (filtered_each P p rows e.1))

-- ---- rows of entries that move

abbrev pub tells_moving : Stored → Bool
tells_moving r = unwrap_or (option_map is_moving (entry_of (Some r.row))) false

module _ (number : ℕ) where
  abbrev pub rows_from : ℕ → List Entry → List Stored
  rows_from first es = numbered entries_space number entry_row first es

  abbrev row_at : ℕ → Entry → Stored
  row_at i e = at_place entries_space number i (entry_row e)

  told : (i : ℕ) (e : Entry) → AreAreas e → tells_moving (row_at i e) ≡ is_moving e
  told i e are = ap (λ o. unwrap_or (option_map is_moving o) false) (entry_back e are)

  step : (x : Place) (e y : Entry) (first : ℕ) (rows : List Stored) (l o : Option (List ℕ)) (b moves : Bool) → same_place x (row_at first e).place ≡ b → (moves ≡ false → e ≡ y)
      → l ≡ option_or (lookup x rows) o → (b ≡ true → lookup x rows ≡ None)
      → (if b then Some (row_bytes (entry_row e)) else l) ≡ option_or (lookup x (cond moves (row_at first e ∷ rows) rows)) (if b then Some (row_bytes (entry_row y)) else o)
  step x e y first rows l o true true at stays rest none = rw at refl
  step x e y first rows l o false true at stays rest none = rw at rest
  step x e y first rows l o true false at stays rest none =
      ap (λ z. Some (row_bytes (entry_row z))) (stays refl) ∙ sym (ap (λ w. option_or w (Some (row_bytes (entry_row y)))) (none refl))
  step x e y first rows l o false false at stays rest none = rest

  module _ (f : ℕ → Entry → Entry) where
    -- behind the rows of the entries that move stand those that were there
    pub moved_rows : (members : ℕ → Entry → Type 0) → ((m : ℕ) (y : Entry) → members m y → is_moving (f m y) ≡ false → f m y ≡ y) → (x : Place) (first : ℕ) (es : List Entry)
        → ((m : ℕ) → Each (members m) es) → Each AreAreas (map_from f first es)
        → lookup x (rows_from first (map_from f first es)) ≡ option_or (lookup x (filter tells_moving (rows_from first (map_from f first es)))) (lookup x (rows_from first es))
    moved_rows members stays x first [] placed are = refl
    moved_rows members stays x first (y ∷ es) placed are =
        let e : Entry = f first y in
        let more : List Stored = rows_from (first + 1) (map_from f (first + 1) es) in
        step x e y first (filter tells_moving more) (lookup x more) (lookup x (rows_from (first + 1) es)) (same_place x (row_at first e).place) (tells_moving (row_at first e)) refl
        (λ n. stays first y (placed first).0 (sym (told first e are.0) ∙ n))
        (moved_rows members stays x (first + 1) es (λ m. (placed m).1) are.1)
        (λ t. subst (λ q. lookup q (filter tells_moving more) ≡ None) (sym (same_place-eq x (row_at first e).place t))
        (filtered_none (row_at first e).place tells_moving more (none_later entries_space number entry_row first (map_from f (first + 1) es))))

  one_size : (first : ℕ) (e : Entry) (rows : List Stored) (es : List Entry) (moves passes : Bool) → passes ≡ moves
      → sizes (map put_row rows) ≡ sum_by (λ y. change_size (entry_row y)) es
      → sizes (map put_row (cond passes (row_at first e ∷ rows) rows)) ≡ sum_by (λ y. change_size (entry_row y)) (cond moves (e ∷ es) es)
  one_size first e rows es true true h rest =
      size_first entries_space number first (entry_row e) rows ∙ ap (λ n. change_size (entry_row e) + n) rest ∙ sym (sum_more (λ y. change_size (entry_row y)) e es)
  one_size first e rows es false false h rest = rest
  one_size first e rows es true false h rest = absurd (false≢true h)
  one_size first e rows es false true h rest = absurd (false≢true (sym h))

  -- the bytes of the rows of the entries that move
  pub moved_size : (first : ℕ) (es : List Entry) → Each AreAreas es
      → sizes (map put_row (filter tells_moving (rows_from first es))) ≡ sum_by (λ y. change_size (entry_row y)) (filter is_moving es)
  moved_size first [] are = refl
  moved_size first (e ∷ es) are =
      one_size first e (filter tells_moving (rows_from (first + 1) es)) (filter is_moving es) (is_moving e) (tells_moving (row_at first e)) (told first e are.0) (moved_size (first + 1) es are.1)
