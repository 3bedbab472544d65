-- A system whose one entry is set to its new area, once the old area has no row of the group.
use Rattle.std.proofs.Common.{◌≡◌, inl, inr, ◌⊎◌, ℕ, zero, suc, ◌≤◌, ℤ, List, [], ◌∷◌, Option, Some, None, Bool, true, false, cond, refl, subst, sym, ap, ◌∙◌, arith}
use Rattle.std.specs.Prelude.{◌==◌, option_map, slice_get, slice_set, Contains}
use Rattle.std.specs.Option.{option_or}
use Rattle.std.specs.Str.{bytes_eq}
use Rattle.std.proofs.lemmas.Bool.{false≢true}
use Rattle.std.proofs.lemmas.Bool.Decides.{Decides-eqb}
use Rattle.hb_types.specs.declared.change.Change.{Change}
use Rattle.hb_types.specs.declared.change.Stored.{Stored}
use Rattle.hb_types.specs.declared.entry.Entry.{Entry}
use Rattle.hb_types.specs.declared.entry.Entry.TheVariants.{At, Moving}
use Rattle.hb_types.specs.declared.places.Path.{Path}
use Rattle.hb_types.specs.declared.places.Path.TheVariants as path
use Rattle.hb_types.specs.declared.places.Place.{Place}
use Rattle.hb_types.specs.Groups.{group_of, route}
use Rattle.hb_types.specs.Lists.{Each, IsIn}
use Rattle.hb_types.specs.Places.{is_under, node_of_area, same_place}
use Rattle.hb_types.specs.Put.{lookup, rows_under}
use Rattle.hb_types.specs.Rows.{row_bytes}
use Rattle.hb_types.proofs.PutLaws.{by_test}
use Rattle.hb_branch.proofs.Views.{lookup-under}
use Rattle.hb_model.specs.declared.table.Table.{Table}
use Rattle.hb_model.specs.Answers.{put_at, rows_of}
use Rattle.hb_model.specs.Dictionary.{entry_row}
use Rattle.hb_model.specs.Families.{Family}
use Rattle.hb_model.specs.Spots.{ds, entry_place, place_in, space_in}
use Rattle.hb_model.specs.State.{State, Spread, spread_named, table_named}
use Rattle.hb_model.specs.System.{Sys}
use Rattle.hb_model.specs.TableRows.{IsPlaced, TableRows, along, row_of, standing}
use Rattle.hb_planlaws.proofs.Named.{find_holds}
use Rattle.hb_planwrites.proofs.Changed.{at_ascends, at_elsewhere, at_length, at_put}
use Rattle.hb_planwrites.proofs.KeyWrites.{IsBackEnd, route_on_back_ends}
use Rattle.hb_planwrites.proofs.Systems.{find-mapped}
use Rattle.hb_movelaws.proofs.Settling.{got_other, got_same, has_put, put, same_name}
use Rattle.hb_movelaws.proofs.SettledState.{only, state_after, with_it}
use Rattle.hb_movelaws.proofs.SettledRows.{dictionary_with}

some_none : {A : Type 0} (x : A) → Some x ≡ None → ⊥
some_none x e = cc

none_some : {A : Type 0} (x : A) → None ≡ Some x → ⊥
none_some x e = cc

some_of : {A : Type 0} (x y : A) → Some x ≡ Some y → x ≡ y
some_of x y h = cc

at_moving : (a b c : ℕ) → At c ≡ Moving a b → ⊥
at_moving a b c e = cc

-- one of two areas
two_areas : (old new a : ℕ) → Contains (route (Moving old new)) a → (old ≡ a) ⊎ (new ≡ a)
two_areas old new a (zero, lt, e) = inl e
two_areas old new a (suc zero, lt, e) = inr e
two_areas old new a (suc (suc k), lt, e) = absurd (omega (arith, lt))

-- ---- the old area

abbrev under_group : ℕ → ℕ → ℕ → Path
under_group old number group = path.Group (space_in old number) group

is_in_group : (old number group : ℕ) (q : Place) → q.space.area ≡ old → q.space.table ≡ number → q.group ≡ group → is_under (under_group old number group) q ≡ true
is_in_group old number group q a t g =
    rw ((Decides-eqb old q.space.area).1 (sym a), (Decides-eqb number q.space.table).1 (sym t), (Decides-eqb group q.group).1 (sym g)) refl

-- in a group without a row nothing stands
nothing_in : (old number group : ℕ) (rows : List Stored) (q : Place) → [] ≡ rows_under (under_group old number group) rows
    → q.space.area ≡ old → q.space.table ≡ number → q.group ≡ group → lookup q rows ≡ None
nothing_in old number group rows q empty a t g =
    ap (λ (b : Bool). cond b (lookup q rows) None) (sym (is_in_group old number group q a t g)) ∙ sym (lookup-under q (under_group old number group) rows)
    ∙ ap (lookup q) (sym empty)

-- ---- rows of the back ends, behind a change at ds

module _ (back_ends : ℕ) (family : Family) (s : State) (sys : Sys back_ends family s) (c : Change) where
  abbrev pub after : Family
  after = put_at ds c family

  pub rows_stay : (node : ℕ) → 2 ≤ node → rows_of node after ≡ rows_of node family
  rows_stay node two = at_elsewhere node ds c family (λ e. omega (arith, two, e))

  pub standing_kept : (table : ℕ) (key : ℤ) (a : ℕ) → IsBackEnd family a → standing after table key a ≡ standing family table key a
  standing_kept table key a is = ap (lookup (place_in a table key)) (rows_stay (node_of_area a) is.behind)

  pub along_kept : (table : ℕ) (key : ℤ) (areas : List ℕ) → Each (IsBackEnd family) areas → along after table key areas ≡ along family table key areas
  along_kept table key [] e = refl
  along_kept table key (a ∷ more) e =
      ap (λ o. option_or o (along after table key more)) (standing_kept table key a e.0) ∙ ap (λ o. option_or (standing family table key a) o) (along_kept table key more e.1)

  pub rows_kept : (t : Table) (p : Spread) → IsIn p s.layout.spreads → TableRows family t p → TableRows after t p
  rows_kept t p there rows = record {
    placed = λ node q row two table stands. rows.placed node q row two table (ap (lookup q) (sym (rows_stay node two)) ∙ stands);
    once = λ key a b h. let on = route_on_back_ends back_ends family s sys p there (group_of key) (Moving a b) h in
        elim (rows.once key a b h) [ inl x ↦ inl (standing_kept p.number key a on.0 ∙ x) | inr x ↦ inr (standing_kept p.number key b on.1.0 ∙ x) ];
    same = λ key e h. along_kept p.number key (route e) (route_on_back_ends back_ends family s sys p there (group_of key) e h) ∙ rows.same key e h;
  }

-- ---- the system

module _ (back_ends : ℕ) (family : Family) (s : State) (sys : Sys back_ends family s) (p : Spread) (there : IsIn p s.layout.spreads) (group old new : ℕ)
    (moving : slice_get p.entries group ≡ Some (Moving old new)) (empty : [] ≡ rows_under (under_group old p.number group) (rows_of (node_of_area old) family)) where
  abbrev pub change : Change
  change = record { place = entry_place p.number group; row = Some (row_bytes (entry_row (At new))) }

  abbrev pub later : Family
  later = put_at ds change family

  abbrev pub state : State
  state = with_it back_ends s sys.state p there group old new moving

  abbrev pub spread : Spread
  spread = record p { entries = slice_set p.entries group (At new) }

  its_entry : (g : ℕ) → g ≡ group → slice_get spread.entries g ≡ Some (At new)
  its_entry g is = ap (slice_get spread.entries) is ∙ got_same p.entries group (At new) (Moving old new) moving

  its_moving : (g : ℕ) → g ≡ group → slice_get p.entries g ≡ Some (Moving old new)
  its_moving g is = ap (slice_get p.entries) is ∙ moving

  entry_stays : (g : ℕ) → (g ≡ group → ⊥) → slice_get spread.entries g ≡ slice_get p.entries g
  entry_stays g n = got_other p.entries g group (At new) n

  differs : (g : ℕ) → (g == group) ≡ false → g ≡ group → ⊥
  differs g n e = false≢true (sym n ∙ (Decides-eqb g group).1 e)

  module _ (t : Table) (rows : TableRows family t p) where
    kept : TableRows later t p
    kept = rows_kept back_ends family s sys change t p there rows

    none_standing : (key : ℤ) → group_of key ≡ group → standing family p.number key old ≡ None
    none_standing key g = nothing_in old p.number group (rows_of (node_of_area old) family) (place_in old p.number key) empty refl refl g

    -- a row of the group lies in the new area
    lies_new : (node : ℕ) (q : Place) (row : List ℕ) → 2 ≤ node → q.space.table ≡ p.number → lookup q (rows_of node later) ≡ Some row → IsPlaced p node q → q.group ≡ group
        → IsPlaced spread node q
    lies_new node q row two table stands is g =
        let e : is.area.0 ≡ Moving old new = some_of is.area.0 (Moving old new) (sym is.area.1 ∙ its_moving q.group g) in
        record { group = is.group; on_node = is.on_node; area = (At new, its_entry q.group g, by (two_areas old new q.space.area (subst (λ x. Contains (route x) q.space.area) e is.area.2))) }
      where
        by : (old ≡ q.space.area) ⊎ (new ≡ q.space.area) → Contains (route (At new)) q.space.area
        by (inl a) =
            let on : node_of_area old ≡ node = ap node_of_area a ∙ is.on_node in
            let none : lookup q (rows_of node family) ≡ None =
            subst (λ m. lookup q (rows_of m family) ≡ None) on (nothing_in old p.number group (rows_of (node_of_area old) family) q empty (sym a) table g) in
            absurd (some_none row (sym stands ∙ ap (lookup q) (rows_stay back_ends family s sys change node two) ∙ none))
        by (inr a) = (0, omega arith, a)

    placed : (node : ℕ) (q : Place) (row : List ℕ) → 2 ≤ node → q.space.table ≡ p.number → lookup q (rows_of node later) ≡ Some row → IsPlaced spread node q
    placed node q row two table stands =
        let is : IsPlaced p node q = kept.placed node q row two table stands in
        by_test (q.group == group)
        (λ y. lies_new node q row two table stands is ((Decides-eqb q.group group).0 y))
        (λ n. record { group = is.group; on_node = is.on_node; area = (is.area.0, entry_stays q.group (differs q.group n) ∙ is.area.1, is.area.2) })

    once : (key : ℤ) (a b : ℕ) → slice_get spread.entries (group_of key) ≡ Some (Moving a b)
        → (standing later p.number key a ≡ None) ⊎ (standing later p.number key b ≡ None)
    once key a b h =
        by_test (group_of key == group)
        (λ y. absurd (at_moving a b new (some_of (At new) (Moving a b) (sym (its_entry (group_of key) ((Decides-eqb (group_of key) group).0 y)) ∙ h))))
        (λ n. kept.once key a b (sym (entry_stays (group_of key) (differs (group_of key) n)) ∙ h))

    along_new : (key : ℤ) → group_of key ≡ group → along later p.number key (new ∷ []) ≡ option_map row_bytes (row_of t key)
    along_new key g =
        let on = route_on_back_ends back_ends family s sys p there (group_of key) (Moving old new) (its_moving (group_of key) g) in
        let none : standing later p.number key old ≡ None = standing_kept back_ends family s sys change p.number key old on.0 ∙ none_standing key g in
        ap (λ o. option_or o (along later p.number key (new ∷ []))) (sym none) ∙ kept.same key (Moving old new) (its_moving (group_of key) g)

    same : (key : ℤ) (e : Entry) → slice_get spread.entries (group_of key) ≡ Some e → along later p.number key (route e) ≡ option_map row_bytes (row_of t key)
    same key e h =
        by_test (group_of key == group)
        (λ y. let g : group_of key ≡ group = (Decides-eqb (group_of key) group).0 y in
        subst (λ x. along later p.number key (route x) ≡ option_map row_bytes (row_of t key)) (some_of (At new) e (sym (its_entry (group_of key) g) ∙ h)) (along_new key g))
        (λ n. kept.same key e (sym (entry_stays (group_of key) (differs (group_of key) n)) ∙ h))

    settled_rows : TableRows later t spread
    settled_rows = record { placed = placed; once = once; same = same }

  -- of each table
  by_spread : (name : List ℕ) (t : Table) (q : Spread) → table_named s name ≡ Some t → (o : Option Spread) → spread_named s name ≡ o
      → option_map (put p.number group new) o ≡ Some q → TableRows later t q
  by_spread name t q found None is h = absurd (none_some q h)
  by_spread name t q found (Some r) is h =
      let in_it = (find_holds (λ (z : Spread). bytes_eq z.name name) s.layout.spreads r is).1 in
      let rows : TableRows family t r = sys.tables name t r found is in
      subst (λ (z : Spread). TableRows later t z) (some_of (put p.number group new r) q h)
      (by_test (r.number == p.number)
      (λ y. let same : r ≡ p = only back_ends s sys.state p there group old new moving r in_it y in
      rw y (subst (λ (z : Spread). TableRows later t (record z { entries = slice_set z.entries group (At new) })) (sym same) (settled_rows t (subst (TableRows family t) same rows))))
      (λ n. rw n (rows_kept back_ends family s sys change t r in_it rows)))

  tables : (name : List ℕ) (t : Table) (q : Spread) → table_named state name ≡ Some t → spread_named state name ≡ Some q → TableRows later t q
  tables name t q found is =
      by_spread name t q found (spread_named s name) refl
      (sym (find-mapped (λ (z : Spread). bytes_eq z.name name) (put p.number group new) s.layout.spreads (λ z. ap (λ n. bytes_eq n name) (same_name p.number group new z))) ∙ is)

  pub settled_sys : Sys back_ends later state
  settled_sys =
      let servers = sys.servers in
      record {
        servers = at_length ds change family ∙ sys.servers;
        ascending = at_ascends ds change family sys.ascending;
        state = state_after back_ends s sys.state p there group old new moving;
        dictionary_rows = λ x. at_put ds change family x (omega arith) (omega (arith, servers))
            ∙ ap (λ o. cond (same_place x (entry_place p.number group)) (Some (row_bytes (entry_row (At new)))) o) (sys.dictionary_rows x)
            ∙ sym (dictionary_with back_ends s sys.state p there group old new moving x);
        of_tables = λ node x row two stands. has_put p.number group new x.space.table s.layout.spreads
            (sys.of_tables node x row two (ap (lookup x) (sym (rows_stay back_ends family s sys change node two)) ∙ stands));
        tables = tables;
      }
