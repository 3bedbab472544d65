-- What scans of a table's members and of its entries tell.
use Rattle.std.proofs.Common.{◌≡◌, inl, inr, ℕ, ◌+◌, ◌≤◌, ◌<◌, pos, List, [], ◌∷◌, ◌++◌, Option, Some, Bool, true, false, refl, subst, sym, ap, ◌∙◌, arith}
use Rattle.std.specs.Prelude.{◌/◌, ◌==◌, ◌&&◌, IsTrue, filter_map, flat_map, option_and_then}
use Rattle.std.proofs.lemmas.Bool.Decides.{Decides-eqb}
use Rattle.std.proofs.lemmas.Int.{ints}
use Rattle.std.proofs.lemmas.List.Elements.{All-from_recursion}
use Rattle.hb_types.specs.declared.change.Stored.{Stored}
use Rattle.hb_types.specs.declared.entry.Entry.{Entry}
use Rattle.hb_types.specs.declared.places.Path.{Path}
use Rattle.hb_types.specs.declared.places.Path.TheVariants as path
use Rattle.hb_types.specs.Groups.{map_from}
use Rattle.hb_types.specs.Lists.{Each, Has, IsIn}
use Rattle.hb_types.specs.Numbers.{is_integer}
use Rattle.hb_types.specs.Places.{is_under}
use Rattle.hb_types.specs.Put.{rows_under}
use Rattle.hb_types.specs.Rows.{HasBytes, row_bytes}
use Rattle.hb_types.proofs.Ascending.{Each-of, in_Each, pick}
use Rattle.hb_types.proofs.PutLaws.{by_test}
use Rattle.hb_laws.specs.RowOrder.{AreAscending}
use Rattle.hb_dict.specs.DictionaryRows.{AreAreas}
use Rattle.hb_dict.proofs.ValuesBack.{values_back}
use Rattle.hb_model.specs.Answers.{rows_of}
use Rattle.hb_model.specs.Dictionary.{at_place, entry_row, member_in, member_row, member_rows}
use Rattle.hb_model.specs.Families.{Family}
use Rattle.hb_model.specs.Spots.{dictionary_space, ds, entries_space, members_space}
use Rattle.hb_model.specs.State.{State, Area, Spread}
use Rattle.hb_model.specs.System.{Sys}
use Rattle.hb_model.specs.Told.{entry_of}
use Rattle.hb_model.specs.Valid.{IsArea, IsSpread}
use Rattle.hb_model.proofs.DictionaryRows.{not_true}
use Rattle.hb_model.proofs.NumberedRows.{GoUp}
use Rattle.hb_talk.specs.PlansDefine.{entries_of, member_of}
use Rattle.hb_planlaws.proofs.Scans.{ds_ascends, entries_scanned, head_is, keys_less, not_below, of_space, tail_is, under_same}
use Rattle.hb_planlaws.proofs.Told.{entries_sited, entry_back}

abbrev pub members_path : ℕ → Path
members_path n = path.Group (dictionary_space members_space) n

abbrev pub entries_path : ℕ → Path
entries_path n = path.Group (dictionary_space entries_space) n

abbrev listed : ℕ → ℕ → List ℕ → List Stored
listed n first ms = map_from (λ i m. at_place members_space n i (member_row m)) first ms

under_append : (p : Path) (xs ys : List Stored) → rows_under p (xs ++ ys) ≡ rows_under p xs ++ rows_under p ys
under_append p [] ys = refl
under_append p (x ∷ xs) ys =
    by_test (is_under p x.place) (λ t. rw t (ap (λ zs. x ∷ zs) (under_append p xs ys))) (λ f. rw f (under_append p xs ys))

append_none : (xs : List Stored) → xs ++ [] ≡ xs
append_none [] = refl
append_none (x ∷ xs) = ap (λ ys. x ∷ ys) (append_none xs)

left_true : (a b : Bool) → (a && b) ≡ true → a ≡ true
left_true true b e = refl
left_true false b e = e

mine_under : (n first : ℕ) (ms : List ℕ) → rows_under (members_path n) (listed n first ms) ≡ listed n first ms
mine_under n first [] = refl
mine_under n first (m ∷ ms) = rw ((Decides-eqb n n).1 refl) (ap (λ zs. at_place members_space n first (member_row m) ∷ zs) (mine_under n (first + 1) ms))

none_under : (n m first : ℕ) (ms : List ℕ) → (n == m) ≡ false → rows_under (members_path n) (listed m first ms) ≡ []
none_under n m first [] e = refl
none_under n m first (x ∷ ms) e = rw e (none_under n m (first + 1) ms e)

members_ascend : (n first : ℕ) (ms : List ℕ) → AreAscending (listed n first ms)
members_ascend n first [] = tt
members_ascend n first (m ∷ []) = tt
members_ascend n first (m ∷ k ∷ ms) = (keys_less members_space n first (first + 1) (omega arith), members_ascend n (first + 1) (k ∷ ms))

later_under : (n first : ℕ) (ss : List Spread) → n < first → GoUp first ss → rows_under (members_path n) (flat_map member_rows ss) ≡ []
later_under n first [] h e = refl
later_under n first (t ∷ ss) h e =
    under_append (members_path n) (member_rows t) (flat_map member_rows ss)
    ∙ rw (none_under n t.number 1 t.members (not_true (n == t.number) (λ y. omega (arith, h, (Decides-eqb n t.number).0 y, head_is t first ss e))), later_under n (first + 1) ss (omega (arith, h)) (tail_is t first ss e)) refl

members_under : (first : ℕ) (ss : List Spread) (t : Spread) → GoUp first ss → IsIn t ss → rows_under (members_path t.number) (flat_map member_rows ss) ≡ member_rows t
members_under first [] t e i = absurd i
members_under first (u ∷ ss) t e (inl is) =
    subst (λ (x : Spread). rows_under (members_path x.number) (flat_map member_rows (u ∷ ss)) ≡ member_rows x) is
    (under_append (members_path u.number) (member_rows u) (flat_map member_rows ss)
    ∙ rw (mine_under u.number 1 u.members, later_under u.number (first + 1) ss (omega (arith, head_is u first ss e)) (tail_is u first ss e)) (append_none (member_rows u)))
members_under first (u ∷ ss) t e (inr i) =
    let l = not_below (first + 1) ss t (tail_is u first ss e) i in
    under_append (members_path t.number) (member_rows u) (flat_map member_rows ss)
    ∙ rw (none_under t.number u.number 1 u.members (not_true (t.number == u.number) (λ y. omega (arith, l, (Decides-eqb t.number u.number).0 y, head_is u first ss e)))) (members_under (first + 1) ss t (tail_is u first ss e) i)

kept : {A B : Type 0} (f : A → Option B) (x : A) (xs : List A) (y : B) → f x ≡ Some y → filter_map f (x ∷ xs) ≡ y ∷ filter_map f xs
kept f x xs y h = rw h refl

member_back : (n i m : ℕ) → m < 2304 → member_of (at_place members_space n i (member_row m)) ≡ Some m
member_back n i m l =
    ap (option_and_then member_in)
    (values_back (row_bytes (member_row m)) (member_row m)
    (record { values_fit = record { few = omega arith; fit = All-from_recursion HasBytes (member_row m) (small m l, tt) }; spelled = refl }))
  where
    small : (k : ℕ) → k < 2304 → IsTrue (is_integer (pos k))
    small k le = grind (arith, ints)

members_back : (n first : ℕ) (ms : List ℕ) → Each (λ m. m < 2304) ms → filter_map member_of (listed n first ms) ≡ ms
members_back n first [] e = refl
members_back n first (m ∷ ms) e =
    kept member_of (at_place members_space n first (member_row m)) (listed n (first + 1) ms) m (member_back n first m e.0) ∙ ap (λ xs. m ∷ xs) (members_back n (first + 1) ms e.1)

entries_back : (n first : ℕ) (es : List Entry) → Each AreAreas es → entries_of (map_from (λ g e. at_place entries_space n g (entry_row e)) first es) ≡ es
entries_back n first [] are = refl
entries_back n first (e ∷ es) are =
    kept (λ (r : Stored). entry_of (Some r.row)) (at_place entries_space n first (entry_row e)) (map_from (λ g x. at_place entries_space n g (entry_row x)) (first + 1) es) e (entry_back e are.0)
    ∙ ap (λ xs. e ∷ xs) (entries_back n (first + 1) es are.1)

module _ (back_ends : ℕ) (family : Family) (s : State) (sys : Sys back_ends family s) (few : back_ends ≤ 8) (p : Spread) (there : IsIn p s.layout.spreads) where
  low : (m : ℕ) → Has (λ (a : Area). a.number ≡ m) s.layout.areas → m < 2304
  low m h =
      let b = pick (λ (a : Area). a.number ≡ m) (IsArea back_ends s) s.layout.areas h sys.state.areas.each in
      let high : m / 256 ≤ back_ends = subst (λ n. n / 256 ≤ back_ends) b.one b.other.high in
      omega (arith, high, few)

  pub members_told : filter_map member_of (rows_under (members_path p.number) (rows_of ds family)) ≡ p.members
  members_told =
      let whole = members_under 1 s.layout.spreads p sys.state.spreads_numbered there in
      let is = in_Each (IsSpread s) p s.layout.spreads there sys.state.spreads in
      ap (filter_map member_of)
      (under_same (members_path p.number) (rows_of ds family) (flat_map member_rows s.layout.spreads) (ds_ascends back_ends family s sys family sys.ascending)
      (subst AreAscending (sym whole) (members_ascend p.number 1 p.members)) (λ x h. of_space back_ends family s sys members_space x (left_true _ _ h)) ∙ whole)
      ∙ members_back p.number 1 p.members (Each-of (λ m. Has (λ (a : Area). a.number ≡ m) s.layout.areas) (λ m. m < 2304) p.members low is.members_are_areas)

  pub entries_told : entries_of (rows_under (entries_path p.number) (rows_of ds family)) ≡ p.entries
  entries_told = ap entries_of (entries_scanned back_ends family s sys p there) ∙ entries_back p.number 0 p.entries (entries_sited back_ends s few sys.state p there)
