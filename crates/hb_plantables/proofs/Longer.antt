-- The rows of the dictionary with one table more.
use Rattle.std.proofs.Common.{◌≡◌, ℕ, ◌+◌, ◌≤◌, ◌<◌, pos, List, [], ◌∷◌, ◌++◌, length, map, Option, Some, None, true, false, refl, sym, ap, ◌∙◌, arith}
use Rattle.std.specs.Prelude.{◌==◌, find, flat_map, is_some, nat_abs, option_map, unwrap_or, if◌then◌else◌}
use Rattle.std.specs.Option.{option_or}
use Rattle.std.specs.Ordering.{is_lt}
use Rattle.std.specs.Str.{bytes_eq}
use Rattle.std.proofs.lemmas.Bool.{false≢true}
use Rattle.std.proofs.lemmas.Bool.Decides.{Decides-eqb}
use Rattle.std.proofs.lemmas.Slice.Eq.{bytes_eq-Decides}
use Rattle.hb_types.specs.declared.change.Stored.{Stored}
use Rattle.hb_types.specs.declared.places.Place.{Place}
use Rattle.hb_types.specs.Lists.{Each}
use Rattle.hb_types.specs.Put.{lookup}
use Rattle.hb_types.proofs.Ascending.{Each-append, Each-of}
use Rattle.hb_types.proofs.PutLaws.{by_test}
use Rattle.hb_model.specs.declared.table.Table.{Table}
use Rattle.hb_model.specs.Define.{create_table}
use Rattle.hb_model.specs.Dictionary.{area_row, area_rows, at_place, dictionary, entry_row, entry_rows, member_row, member_rows, table_row, table_rows}
use Rattle.hb_model.specs.Names.{text_cmp}
use Rattle.hb_model.specs.Spots.{areas_space, dictionary_space, entries_space, members_space, tables_space}
use Rattle.hb_model.specs.State.{State, Area, Spread, table_named, with_table}
use Rattle.hb_model.specs.Valid.{IsSpread}
use Rattle.hb_model.proofs.DictionaryRows.{lookup_behind, or_none}
use Rattle.hb_model.proofs.Finding.{find-with_table, other_name}
use Rattle.hb_model.proofs.NumberedRows.{GoUp}
use Rattle.hb_talk.specs.PlansDefine.{new_rows}
use Rattle.hb_planlaws.proofs.Scans.{head_is, tail_is}
use Rattle.hb_plantables.proofs.Puts.{AreApart, apart_joined, each_numbered, none_at, numbered_apart}

-- ---- options

or_assoc : (a b c : Option (List ℕ)) → option_or (option_or a b) c ≡ option_or a (option_or b c)
or_assoc None b c = refl
or_assoc (Some x) b c = refl

module _ (areas tables table members more_members entries more_entries : Option (List ℕ)) where
  abbrev longer : Option (List ℕ)
  longer = option_or (option_or (option_or areas (option_or tables table)) (option_or members more_members)) (option_or entries more_entries)

  abbrev split : Option (List ℕ)
  split = option_or (option_or table (option_or more_members more_entries)) (option_or (option_or (option_or areas tables) members) entries)

  only_old : table ≡ None → more_members ≡ None → more_entries ≡ None → longer ≡ split
  only_old e f g = rw (e, f, g) (rw (or_none tables, or_none members, or_none entries) refl)

  only_new : areas ≡ None → tables ≡ None → members ≡ None → entries ≡ None → longer ≡ split
  only_new e f g h = rw (e, f, g, h) (or_assoc table more_members more_entries ∙ sym (or_none (option_or table (option_or more_members more_entries))))

-- ---- a list with one spread more

pub more_at : (x : Place) (f : Spread → List Stored) (ss : List Spread) (p : Spread)
    → lookup x (flat_map f (ss ++ p ∷ [])) ≡ option_or (lookup x (flat_map f ss)) (lookup x (f p))
more_at x f [] p = lookup_behind x (f p) [] ∙ or_none (lookup x (f p))
more_at x f (q ∷ ss) p =
    lookup_behind x (f q) (flat_map f (ss ++ p ∷ [])) ∙ ap (λ o. option_or (lookup x (f q)) o) (more_at x f ss p)
    ∙ sym (or_assoc (lookup x (f q)) (lookup x (flat_map f ss)) (lookup x (f p))) ∙ ap (λ o. option_or o (lookup x (f p))) (sym (lookup_behind x (f q) (flat_map f ss)))

pub below_next : (first n : ℕ) (ss : List Spread) → GoUp first ss → first + length ss ≤ n → Each (λ q. q.number < n) ss
below_next first n [] e l = tt
below_next first n (q ∷ ss) e l =
    let h = head_is q first ss e in
    (omega (arith, l, h), below_next (first + 1) n ss (tail_is q first ss e) (omega (arith, l)))

-- ---- the number of the table that a place of the dictionary is of

abbrev number_at : Place → ℕ
number_at q = if q.space.table == tables_space then nat_abs q.key else (if q.space.table == areas_space then 0 else q.group)

areas_below : (n : ℕ) (areas : List Area) → 1 ≤ n → Each (λ r. number_at r.place < n) (map (λ a. at_place areas_space 0 a.number (area_row a)) areas)
areas_below n [] l = tt
areas_below n (a ∷ areas) l = (l, areas_below n areas l)

tables_below : (s : State) (n : ℕ) (ss : List Spread) → Each (λ q. q.number < n) ss → Each (λ r. number_at r.place < n) (flat_map (table_rows s) ss)
tables_below s n [] e = tt
tables_below s n (q ∷ ss) e = Each-append (λ r. number_at r.place < n) (table_rows s q) (flat_map (table_rows s) ss) (one (table_named s q.name)) (tables_below s n ss e.1)
  where
    one : (o : Option Table) → Each (λ r. number_at r.place < n) (unwrap_or (option_map (λ u. at_place tables_space 0 q.number (table_row u) ∷ []) o) [])
    one None = tt
    one (Some u) = (e.0, tt)

members_below : (n : ℕ) (ss : List Spread) → Each (λ q. q.number < n) ss → Each (λ r. number_at r.place < n) (flat_map member_rows ss)
members_below n [] e = tt
members_below n (q ∷ ss) e =
    Each-append (λ r. number_at r.place < n) (member_rows q) (flat_map member_rows ss) (each_numbered members_space q.number member_row (λ x. number_at x < n) (λ i. e.0) 1 q.members)
    (members_below n ss e.1)

entries_below : (n : ℕ) (ss : List Spread) → Each (λ q. q.number < n) ss → Each (λ r. number_at r.place < n) (flat_map entry_rows ss)
entries_below n [] e = tt
entries_below n (q ∷ ss) e =
    Each-append (λ r. number_at r.place < n) (entry_rows q) (flat_map entry_rows ss) (each_numbered entries_space q.number entry_row (λ x. number_at x < n) (λ i. e.0) 0 q.entries)
    (entries_below n ss e.1)

-- ---- new rows lie apart

pub new_apart : (t : Table) (p : Spread) → AreApart (new_rows t p)
new_apart t p = (
  none_at (λ q. (tables_space == q.space.table) ≡ false) (member_rows p ++ entry_rows p) (at_place tables_space 0 p.number (table_row t)).place
      (Each-append (λ r. (tables_space == r.place.space.table) ≡ false) (member_rows p) (entry_rows p)
      (each_numbered members_space p.number member_row (λ q. (tables_space == q.space.table) ≡ false) (λ i. refl) 1 p.members)
      (each_numbered entries_space p.number entry_row (λ q. (tables_space == q.space.table) ≡ false) (λ i. refl) 0 p.entries))
      (λ y. false≢true (sym y)),
  apart_joined (member_rows p) (entry_rows p) (numbered_apart members_space p.number member_row 1 p.members) (numbered_apart entries_space p.number entry_row 0 p.entries)
      (each_numbered members_space p.number member_row (λ q. lookup q (entry_rows p) ≡ None)
      (λ i. none_at (λ q. (members_space == q.space.table) ≡ false) (entry_rows p) (record { space = dictionary_space members_space; group = p.number; key = pos i })
      (each_numbered entries_space p.number entry_row (λ q. (members_space == q.space.table) ≡ false) (λ j. refl) 0 p.entries) (λ y. false≢true (sym y))) 1 p.members),
)

-- ---- tables by name

pub find_new : (t : Table) (us : List Table) → find (λ (u : Table). bytes_eq u.name t.name) us ≡ None → find (λ (u : Table). bytes_eq u.name t.name) (with_table t us) ≡ Some t
find_new t [] none = rw ((bytes_eq-Decides t.name t.name).1 refl) refl
find_new t (u ∷ us) none =
    by_test (is_lt (text_cmp t.name u.name))
    (λ y. rw y (rw ((bytes_eq-Decides t.name t.name).1 refl) refl))
    (λ n. rw n (by_test (bytes_eq u.name t.name) (λ y. absurd (some_none u (sym (rw y refl) ∙ none))) (λ f. rw f (find_new t us (rw f at none)))))
  where
    some_none : (x : Table) → Some x ≡ None → ⊥
    some_none x h = cc

-- ---- the dictionary

-- a table with this number and name comes next
pub record IsNext (s : State) (t : Table) (p : Spread) : Type 0 where
  pub number : p.number ≡ length s.layout.spreads + 1
  pub named : p.name ≡ t.name
  pub free : table_named s t.name ≡ None

some_there : {A : Type 0} (o : Option A) → is_some o ≡ true → (x : A) × (o ≡ Some x)
some_there None h = absurd (false≢true h)
some_there (Some x) h = (x, refl)

module _ (s : State) (t : Table) (p : Spread) (next : IsNext s t p) where
  abbrev after : State
  after = create_table s t p

  pub name_free : (q : Spread) → IsSpread s q → bytes_eq t.name q.name ≡ false
  name_free q is =
      let found = some_there (table_named s q.name) is.of_table in
      other_name (λ (u : Table). u.name) s.tables t.name q.name found.0 (ap is_some next.free) found.1

  pub names_free : (ss : List Spread) → Each (IsSpread s) ss → Each (λ q. bytes_eq t.name q.name ≡ false) ss
  names_free ss is = Each-of (IsSpread s) (λ q. bytes_eq t.name q.name ≡ false) ss name_free is

  pub other_table : (name : List ℕ) → bytes_eq t.name name ≡ false → table_named after name ≡ table_named s name
  other_table name apart = find-with_table t s.tables name apart

  pub own_table : table_named after t.name ≡ Some t
  own_table = find_new t s.tables next.free

  abbrev rows_if : ℕ → Option Table → List Stored
  rows_if n o = unwrap_or (option_map (λ u. at_place tables_space 0 n (table_row u) ∷ []) o) []

  tables_kept : (ss : List Spread) → Each (λ q. bytes_eq t.name q.name ≡ false) ss → flat_map (table_rows after) ss ≡ flat_map (table_rows s) ss
  tables_kept [] e = refl
  tables_kept (q ∷ ss) e =
      ap (λ o. rows_if q.number o ++ flat_map (table_rows after) ss) (other_table q.name e.0) ∙ ap (λ xs. table_rows s q ++ xs) (tables_kept ss e.1)

  own_rows : table_rows after p ≡ at_place tables_space 0 p.number (table_row t) ∷ []
  own_rows = ap (λ n. rows_if p.number (table_named after n)) next.named ∙ ap (rows_if p.number) own_table

  new_split : (x : Place) → lookup x (new_rows t p)
      ≡ option_or (lookup x (at_place tables_space 0 p.number (table_row t) ∷ [])) (option_or (lookup x (member_rows p)) (lookup x (entry_rows p)))
  new_split x =
      lookup_behind x (at_place tables_space 0 p.number (table_row t) ∷ []) (member_rows p ++ entry_rows p)
      ∙ ap (λ o. option_or (lookup x (at_place tables_space 0 p.number (table_row t) ∷ [])) o) (lookup_behind x (member_rows p) (entry_rows p))

  pub dictionary_split : (u : State) (x : Place) → lookup x (dictionary u)
      ≡ option_or (option_or (option_or (lookup x (area_rows u)) (lookup x (flat_map (table_rows u) u.layout.spreads))) (lookup x (flat_map member_rows u.layout.spreads)))
      (lookup x (flat_map entry_rows u.layout.spreads))
  dictionary_split u x =
      let rs = area_rows u in
      let ts = flat_map (table_rows u) u.layout.spreads in
      let ms = flat_map member_rows u.layout.spreads in
      let es = flat_map entry_rows u.layout.spreads in
      lookup_behind x (rs ++ ts ++ ms) es ∙ ap (λ o. option_or o (lookup x es)) (lookup_behind x (rs ++ ts) ms ∙ ap (λ o. option_or o (lookup x ms)) (lookup_behind x rs ts))

  -- the dictionary has the new rows, and what it had
  pub dictionary_with : GoUp 1 s.layout.spreads → Each (IsSpread s) s.layout.spreads → (x : Place)
      → lookup x (dictionary after) ≡ option_or (lookup x (new_rows t p)) (lookup x (dictionary s))
  dictionary_with ups are x =
      let ss = s.layout.spreads in
      let own : List Stored = at_place tables_space 0 p.number (table_row t) ∷ [] in
      let R = lookup x (area_rows s) in
      let T = lookup x (flat_map (table_rows s) ss) in
      let M = lookup x (flat_map member_rows ss) in
      let E = lookup x (flat_map entry_rows ss) in
      let tables : lookup x (flat_map (table_rows after) (ss ++ p ∷ [])) ≡ option_or T (lookup x own) =
      more_at x (table_rows after) ss p ∙ ap (λ rows. option_or (lookup x rows) (lookup x (table_rows after p))) (tables_kept ss (names_free ss are))
      ∙ ap (λ rows. option_or T (lookup x rows)) own_rows in
      let all : lookup x (dictionary after) ≡ longer R T (lookup x own) M (lookup x (member_rows p)) E (lookup x (entry_rows p)) =
      dictionary_split after x
      ∙ ap (λ o. option_or (option_or (option_or R o) (lookup x (flat_map member_rows (ss ++ p ∷ [])))) (lookup x (flat_map entry_rows (ss ++ p ∷ [])))) tables
      ∙ ap (λ o. option_or (option_or (option_or R (option_or T (lookup x own))) o) (lookup x (flat_map entry_rows (ss ++ p ∷ [])))) (more_at x member_rows ss p)
      ∙ ap (λ o. option_or (option_or (option_or R (option_or T (lookup x own))) (option_or M (lookup x (member_rows p)))) o) (more_at x entry_rows ss p) in
      let parts : option_or (lookup x (new_rows t p)) (lookup x (dictionary s)) ≡ split R T (lookup x own) M (lookup x (member_rows p)) E (lookup x (entry_rows p)) =
      ap (λ o. option_or o (lookup x (dictionary s))) (new_split x)
      ∙ ap (λ o. option_or (option_or (lookup x own) (option_or (lookup x (member_rows p)) (lookup x (entry_rows p)))) o) (dictionary_split s x) in
      all ∙ between ∙ sym parts
    where
      n : ℕ
      n = p.number

      low : Each (λ q. q.number < n) s.layout.spreads
      low = let is = next.number in below_next 1 n s.layout.spreads ups (omega (arith, is))

      away : number_at x ≡ n → number_at x < n → ⊥
      away e l = absurd (omega (arith, e, l))

      others : (number_at x == n) ≡ false → number_at x ≡ n → ⊥
      others f e = false≢true (sym f ∙ (Decides-eqb (number_at x) n).1 e)

      between : longer (lookup x (area_rows s)) (lookup x (flat_map (table_rows s) s.layout.spreads)) (lookup x (at_place tables_space 0 p.number (table_row t) ∷ []))
          (lookup x (flat_map member_rows s.layout.spreads)) (lookup x (member_rows p)) (lookup x (flat_map entry_rows s.layout.spreads)) (lookup x (entry_rows p))
          ≡ split (lookup x (area_rows s)) (lookup x (flat_map (table_rows s) s.layout.spreads)) (lookup x (at_place tables_space 0 p.number (table_row t) ∷ []))
          (lookup x (flat_map member_rows s.layout.spreads)) (lookup x (member_rows p)) (lookup x (flat_map entry_rows s.layout.spreads)) (lookup x (entry_rows p))
      between =
          by_test (number_at x == n)
          (λ y. let is : number_at x ≡ n = (Decides-eqb (number_at x) n).0 y in
          let some : 1 ≤ n = (let m = next.number in omega (arith, m)) in
          only_new _ _ _ _ _ _ _
          (none_at (λ q. number_at q < n) (area_rows s) x (areas_below n s.layout.areas some) (away is))
          (none_at (λ q. number_at q < n) (flat_map (table_rows s) s.layout.spreads) x (tables_below s n s.layout.spreads low) (away is))
          (none_at (λ q. number_at q < n) (flat_map member_rows s.layout.spreads) x (members_below n s.layout.spreads low) (away is))
          (none_at (λ q. number_at q < n) (flat_map entry_rows s.layout.spreads) x (entries_below n s.layout.spreads low) (away is)))
          (λ f. only_old _ _ _ _ _ _ _
          (none_at (λ q. number_at q ≡ n) (at_place tables_space 0 p.number (table_row t) ∷ []) x (refl, tt) (others f))
          (none_at (λ q. number_at q ≡ n) (member_rows p) x (each_numbered members_space p.number member_row (λ q. number_at q ≡ n) (λ i. refl) 1 p.members) (others f))
          (none_at (λ q. number_at q ≡ n) (entry_rows p) x (each_numbered entries_space p.number entry_row (λ q. number_at q ≡ n) (λ i. refl) 0 p.entries) (others f)))
