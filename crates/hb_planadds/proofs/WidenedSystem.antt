-- A system behind the writes of ADD RDAREA is one of the state with the area added.
use Rattle.std.proofs.Common.{◌≡◌, inl, inr, ℕ, ◌+◌, ◌≤◌, ◌<◌, List, [], ◌∷◌, ◌++◌, length, map, filter, Option, Some, None, Bool, true, false, refl, subst, sym, ap, ◌∙◌, arith}
use Rattle.std.specs.Prelude.{◌==◌, flat_map, nat_lt, option_map, unwrap_or, if◌then◌else◌}
use Rattle.std.specs.List.{list_any}
use Rattle.std.specs.Option.{option_or}
use Rattle.std.specs.Str.{bytes_eq}
use Rattle.std.proofs.lemmas.Bool.{false≢true}
use Rattle.std.proofs.lemmas.Bool.Decides.{Decides-eqb}
use Rattle.hb_types.specs.declared.change.Stored.{Stored}
use Rattle.hb_types.specs.declared.entry.Entry.{Entry}
use Rattle.hb_types.specs.declared.entry.Entry.TheVariants.{At, Moving}
use Rattle.hb_types.specs.declared.places.Place.{Place}
use Rattle.hb_types.specs.Groups.{entry_after, is_moving, reassign, reassigned}
use Rattle.hb_types.specs.Lists.{Each, Has, IsIn}
use Rattle.hb_types.specs.Put.{lookup}
use Rattle.hb_types.proofs.PutLaws.{by_test}
use Rattle.hb_groups.specs.Counts.{IsPlaced}
use Rattle.hb_dict.specs.DictionaryRows.{AreAreas}
use Rattle.hb_model.specs.declared.table.Table.{Table}
use Rattle.hb_model.specs.Answers.{rows_of}
use Rattle.hb_model.specs.Define.{add_area, spread_with}
use Rattle.hb_model.specs.Dictionary.{area_rows, at_place, dictionary, entry_row, entry_rows, member_row, member_rows, rows_in_space, table_row, table_rows}
use Rattle.hb_model.specs.Families.{Family}
use Rattle.hb_model.specs.Spots.{areas_space, ds, entries_space, members_space, tables_space}
use Rattle.hb_model.specs.State.{State, Area, Spread, spread_named, table_named}
use Rattle.hb_model.specs.System.{Sys}
use Rattle.hb_model.specs.TableRows.{TableRows}
use Rattle.hb_model.proofs.DictionaryRows.{by_space, lookup_behind, or_none}
use Rattle.hb_talk.specs.PlansDefine.{put_row}
use Rattle.hb_planlaws.proofs.Named.{find_holds}
use Rattle.hb_planlaws.proofs.Told.{entries_sited}
use Rattle.hb_planwrites.proofs.Systems.{find-mapped}
use Rattle.hb_plantables.proofs.NewSpread.{near}
use Rattle.hb_plantables.proofs.NextSystem.{rows_kept}
use Rattle.hb_plantables.proofs.Puts.{AreApart, IsPut, each_numbered, none_at, numbered_apart, put_last}
use Rattle.hb_planadds.proofs.AddedRows.{rows_wider}
use Rattle.hb_planadds.proofs.ChangedRows.{filtered_apart, filtered_each, moved_rows, one_behind, rows_from, tells_moving}
use Rattle.hb_planadds.proofs.Widened.{only, own, own_is, same_name, same_number, state_after, has_widened, widen, widened_rows}
use Rattle.hb_planadds.proofs.Wider.{apart, placed}

stays : (c q new : ℕ) (members : List ℕ) (e : Entry) → IsPlaced members e → is_moving (reassigned c q new e) ≡ false → reassigned c q new e ≡ e
stays c q new members (At a) is h = by (nat_lt c q) h
  where
    by : (b : Bool) → is_moving (if b then At a else Moving a new) ≡ false → (if b then At a else Moving a new) ≡ At a
    by true k = refl
    by false k = absurd (false≢true (sym k))
stays c q new members (Moving a b) is h = absurd is

mapped_in : (f : Spread → Spread) (ss : List Spread) (q : Spread) → IsIn q ss → IsIn (f q) (map f ss)
mapped_in f [] q i = absurd i
mapped_in f (r ∷ ss) q (inl e) = inl (ap f e)
mapped_in f (r ∷ ss) q (inr i) = inr (mapped_in f ss q i)

abbrev rows_if : ℕ → Option Table → List Stored
rows_if n o = unwrap_or (option_map (λ u. at_place tables_space 0 n (table_row u) ∷ []) o) []

-- the rows that ADD RDAREA puts
abbrev pub member_put : Spread → ℕ → Stored
member_put p new = at_place members_space p.number (length p.members + 1) (member_row new)

abbrev pub entries_put : Spread → ℕ → List Stored
entries_put p new = filter tells_moving (rows_from p.number 0 (reassign p.entries p.members new))

abbrev pub rows_put : Spread → ℕ → List Stored
rows_put p new = member_put p new ∷ entries_put p new

pub put_apart : (p : Spread) (new : ℕ) → AreApart (rows_put p new)
put_apart p new = (
  none_at (λ q. (q.space.table == entries_space) ≡ true) (entries_put p new) (member_put p new).place
      (filtered_each (λ r. (r.place.space.table == entries_space) ≡ true) tells_moving (rows_from p.number 0 (reassign p.entries p.members new))
      (each_numbered entries_space p.number entry_row (λ q. (q.space.table == entries_space) ≡ true) (λ i. refl) 0 (reassign p.entries p.members new))) (λ y. false≢true y),
  filtered_apart tells_moving (rows_from p.number 0 (reassign p.entries p.members new)) (numbered_apart entries_space p.number entry_row 0 (reassign p.entries p.members new)),
)

module _ (back_ends : ℕ) (few : back_ends ≤ 8) (family : Family) (s : State) (sys : Sys back_ends family s) (table : List ℕ) (p : Spread) (at : spread_named s table ≡ Some p) (new : ℕ)
    (there : Has (λ (a : Area). a.number ≡ new) s.layout.areas) (still : list_any is_moving p.entries ≡ false) (fresh : list_any (λ n. new == n) p.members ≡ false) (room : length p.members < 16) where
  abbrev with_it : State
  with_it = add_area s table new

  abbrev ss : List Spread
  ss = s.layout.spreads

  abbrev wide : Spread → Spread
  wide = widen s table new

  wide_own : wide p ≡ spread_with p new
  wide_own = rw (own s table new back_ends sys.state p at).0 refl

  pub all_sited : Each AreAreas (reassign p.entries p.members new)
  all_sited =
      entries_sited back_ends with_it few (state_after s table new back_ends sys.state p at there still fresh room) (spread_with p new)
      (subst (λ z. IsIn z (map wide ss)) wide_own (mapped_in wide ss p (own s table new back_ends sys.state p at).1))

  members_step : (x : Place) → lookup x (member_rows (spread_with p new)) ≡ option_or (lookup x (member_put p new ∷ [])) (lookup x (member_rows p))
  members_step x =
      let e : 1 + length p.members ≡ length p.members + 1 = omega arith in
      subst (λ k. lookup x (member_rows (spread_with p new)) ≡ option_or (lookup x (at_place members_space p.number k (member_row new) ∷ [])) (lookup x (member_rows p))) e
      (one_behind members_space p.number member_row x 1 p.members new)

  entries_step : (x : Place) → lookup x (entry_rows (spread_with p new)) ≡ option_or (lookup x (entries_put p new)) (lookup x (entry_rows p))
  entries_step x =
      moved_rows p.number (entry_after p.entries p.members new) (λ m y. IsPlaced p.members y) (λ m y is h. stays _ _ new p.members y is h) x 0 p.entries
      (λ m. placed s p (own_is s table new back_ends sys.state p at) new still fresh room) all_sited

  tables_kept : (qs : List Spread) → flat_map (table_rows with_it) (map wide qs) ≡ flat_map (table_rows s) qs
  tables_kept [] = refl
  tables_kept (q ∷ qs) =
      ap (λ n. rows_if n (table_named s (wide q).name) ++ flat_map (table_rows with_it) (map wide qs)) (same_number s table new q)
      ∙ ap (λ n. rows_if q.number (table_named s n) ++ flat_map (table_rows with_it) (map wide qs)) (same_name s table new q) ∙ ap (λ rs. table_rows s q ++ rs) (tables_kept qs)

  module _ (x : Place) where
    abbrev space : ℕ
    space = x.space.table

    not_members : (space == members_space) ≡ false → lookup x (member_put p new ∷ []) ≡ None
    not_members n = none_at (λ q. (q.space.table == members_space) ≡ true) (member_put p new ∷ []) x (refl, tt) (λ y. false≢true (sym n ∙ y))

    not_entries : (space == entries_space) ≡ false → lookup x (entries_put p new) ≡ None
    not_entries n =
        none_at (λ q. (q.space.table == entries_space) ≡ true) (entries_put p new) x
        (filtered_each (λ r. (r.place.space.table == entries_space) ≡ true) tells_moving (rows_from p.number 0 (reassign p.entries p.members new))
        (each_numbered entries_space p.number entry_row (λ q. (q.space.table == entries_space) ≡ true) (λ i. refl) 0 (reassign p.entries p.members new)))
        (λ y. false≢true (sym n ∙ y))

    parts : lookup x (rows_put p new) ≡ option_or (lookup x (member_put p new ∷ [])) (lookup x (entries_put p new))
    parts = lookup_behind x (member_put p new ∷ []) (entries_put p new)

    neither_space : (space == members_space) ≡ false → (space == entries_space) ≡ false → lookup x (rows_put p new) ≡ None
    neither_space n m = parts ∙ ap (λ o. option_or o (lookup x (entries_put p new))) (not_members n) ∙ not_entries m

    other_space : (j i : ℕ) → (j == i) ≡ false → (space == j) ≡ true → (space == i) ≡ false
    other_space j i away y = subst (λ k. (k == i) ≡ false) (sym ((Decides-eqb space j).0 y)) away

    abbrev Goal : List Stored → List Stored → Type 0
    Goal later now = lookup x later ≡ option_or (lookup x (rows_put p new)) (lookup x now)

    in_areas : (space == areas_space) ≡ true → Goal (area_rows with_it) (area_rows s)
    in_areas y = sym (ap (λ o. option_or o (lookup x (area_rows s))) (neither_space (other_space 1 3 refl y) (other_space 1 4 refl y)))

    in_tables : (space == tables_space) ≡ true → Goal (flat_map (table_rows with_it) (map wide ss)) (flat_map (table_rows s) ss)
    in_tables y =
        ap (lookup x) (tables_kept ss) ∙ sym (ap (λ o. option_or o (lookup x (flat_map (table_rows s) ss))) (neither_space (other_space 2 3 refl y) (other_space 2 4 refl y)))

    in_members : (space == members_space) ≡ true → Goal (flat_map member_rows (map wide ss)) (flat_map member_rows ss)
    in_members y =
        let is : lookup x (rows_put p new) ≡ lookup x (member_put p new ∷ []) =
        parts ∙ ap (option_or (lookup x (member_put p new ∷ []))) (not_entries (other_space 3 4 refl y)) ∙ or_none (lookup x (member_put p new ∷ [])) in
        widened_rows s table new back_ends sys.state p at member_rows (member_put p new ∷ [])
        (λ t. each_numbered members_space t.number member_row (λ q. q.group ≡ t.number) (λ i. refl) 1 t.members) (refl, tt) x (members_step x)
        ∙ sym (ap (λ o. option_or o (lookup x (flat_map member_rows ss))) is)

    in_entries : (space == entries_space) ≡ true → Goal (flat_map entry_rows (map wide ss)) (flat_map entry_rows ss)
    in_entries y =
        let is : lookup x (rows_put p new) ≡ lookup x (entries_put p new) =
        parts ∙ ap (λ o. option_or o (lookup x (entries_put p new))) (not_members (other_space 4 3 refl y)) in
        widened_rows s table new back_ends sys.state p at entry_rows (entries_put p new)
        (λ t. each_numbered entries_space t.number entry_row (λ q. q.group ≡ t.number) (λ i. refl) 0 t.entries)
        (filtered_each (λ r. r.place.group ≡ p.number) tells_moving (rows_from p.number 0 (reassign p.entries p.members new))
        (each_numbered entries_space p.number entry_row (λ q. q.group ≡ p.number) (λ i. refl) 0 (reassign p.entries p.members new))) x (entries_step x)
        ∙ sym (ap (λ o. option_or o (lookup x (flat_map entry_rows ss))) is)

    choose : (a b c d : Bool) → (space == areas_space) ≡ a → (space == tables_space) ≡ b → (space == members_space) ≡ c → (space == entries_space) ≡ d
        → Goal (if a then area_rows with_it else (if b then flat_map (table_rows with_it) (map wide ss) else (if c then flat_map member_rows (map wide ss) else (if d then flat_map entry_rows (map wide ss) else []))))
        (if a then area_rows s else (if b then flat_map (table_rows s) ss else (if c then flat_map member_rows ss else (if d then flat_map entry_rows ss else []))))
    choose true b c d h i j k = in_areas h
    choose false true c d h i j k = in_tables i
    choose false false true d h i j k = in_members j
    choose false false false true h i j k = in_entries k
    choose false false false false h i j k = sym (ap (λ o. option_or o None) (neither_space j k))

    in_space : Goal (rows_in_space with_it space) (rows_in_space s space)
    in_space = choose (space == areas_space) (space == tables_space) (space == members_space) (space == entries_space) refl refl refl refl

    pub dictionary_with : lookup x (dictionary with_it) ≡ option_or (lookup x (rows_put p new)) (lookup x (dictionary s))
    dictionary_with = by_space with_it x ∙ in_space ∙ sym (ap (option_or (lookup x (rows_put p new))) (by_space s x))

  pub sys_after : (after : Family) → IsPut family (map put_row (rows_put p new)) after → Sys back_ends after with_it
  sys_after after is_put = record {
    servers = is_put.servers ∙ sys.servers;
    ascending = is_put.ascending sys.ascending;
    state = state_after s table new back_ends sys.state p at there still fresh room;
    dictionary_rows = λ x. is_put.dictionary x ∙ put_last x (rows_put p new) (lookup x (rows_of ds family)) (put_apart p new)
        ∙ ap (λ o. option_or (lookup x (rows_put p new)) o) (sys.dictionary_rows x) ∙ sym (dictionary_with x);
    of_tables = λ node x row two stands. has_widened s table new x.space.table ss (sys.of_tables node x row two (ap (lookup x) (sym (is_put.others node two)) ∙ stands));
    tables = tables;
  }
    where
      own_spread : IsIn p ss
      own_spread = (own s table new back_ends sys.state p at).1

      kept : (name : List ℕ) (u : Table) (r : Spread) → table_named s name ≡ Some u → spread_named s name ≡ Some r → TableRows after u r
      kept name u r found is = rows_kept family after is_put.others back_ends s sys u r (find_holds (λ (q : Spread). bytes_eq q.name name) ss r is).1 (sys.tables name u r found is)

      some_of : (a b : Spread) → Some a ≡ Some b → a ≡ b
      some_of a b h = cc

      by : (name : List ℕ) (u : Table) (q : Spread) → table_named s name ≡ Some u → (o : Option Spread) → spread_named s name ≡ o → option_map wide o ≡ Some q → TableRows after u q
      by name u q found None is h = cc
      by name u q found (Some r) is h =
          let rows = kept name u r found is in
          let in_it = (find_holds (λ (z : Spread). bytes_eq z.name name) ss r is).1 in
          subst (λ (z : Spread). TableRows after u z) (some_of (wide r) q h)
          (by_test (bytes_eq r.name table)
          (λ y. let same : r ≡ p = only s table new back_ends sys.state p at r in_it y in
          rw y (subst (λ (z : Spread). TableRows after u (spread_with z new)) (sym same)
          (rows_wider after u p new (placed s p (own_is s table new back_ends sys.state p at) new still fresh room)
          (apart s p (own_is s table new back_ends sys.state p at) new still fresh room) (near back_ends s new sys.state.areas.each there) (subst (TableRows after u) same rows))))
          (λ n. rw n rows))

      tables : (name : List ℕ) (u : Table) (q : Spread) → table_named with_it name ≡ Some u → spread_named with_it name ≡ Some q → TableRows after u q
      tables name u q found is =
          by name u q found (spread_named s name) refl
          (sym (find-mapped (λ (z : Spread). bytes_eq z.name name) wide ss (λ z. ap (λ n. bytes_eq n name) (same_name s table new z))) ∙ is)
