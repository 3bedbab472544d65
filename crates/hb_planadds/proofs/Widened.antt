-- The state and the system with one area more in a table's spread.
use Rattle.std.proofs.Common.{◌≡◌, inl, inr, ℕ, suc, ◌<◌, List, [], ◌∷◌, length, map, Option, Some, None, Bool, true, false, not, refl, subst, sym, ap, ◌∙◌}
use Rattle.std.specs.Prelude.{◌==◌, ◌||◌, find, flat_map, option_and_then, option_map, if◌then◌else◌, IsTrue}
use Rattle.std.specs.List.{list_any, range_with_len}
use Rattle.std.specs.Option.{option_or}
use Rattle.std.specs.Str.{bytes_eq}
use Rattle.std.proofs.lemmas.Bool.{false≢true}
use Rattle.std.proofs.lemmas.Bool.Decides.{Decides-eqb}
use Rattle.std.proofs.lemmas.Slice.Eq.{bytes_eq-Decides}
use Rattle.hb_types.specs.declared.change.Stored.{Stored}
use Rattle.hb_types.specs.declared.places.Place.{Place}
use Rattle.hb_types.specs.Groups.{is_moving}
use Rattle.hb_types.specs.Lists.{Each, Has, IsIn, has_twins}
use Rattle.hb_types.specs.Put.{lookup}
use Rattle.hb_types.proofs.Ascending.{Each-of, in_Each}
use Rattle.hb_types.proofs.PutLaws.{by_test}
use Rattle.hb_model.specs.Define.{add_area, spread_with}
use Rattle.hb_model.specs.State.{State, Area, Spread, spread_named}
use Rattle.hb_model.specs.Valid.{IsArea, IsSpread, IsState}
use Rattle.hb_model.proofs.NumberedRows.{GoUp, by_find}
use Rattle.hb_planlaws.proofs.Named.{all_twins_more, find_holds, is_false}
use Rattle.hb_planlaws.proofs.Walks.{numbered}
use Rattle.hb_planwrites.proofs.Systems.{each_mapped, find-mapped}
use Rattle.hb_plantables.proofs.Puts.{none_at}
use Rattle.hb_planadds.proofs.Wider.{wider_is}

neither : (a b : Bool) → (a || b) ≡ false → (a ≡ false) × (b ≡ false)
neither true b e = absurd (false≢true (sym e))
neither false b e = (refl, e)

abbrev alike : Spread → Spread → Bool
alike a b = bytes_eq a.name b.name

unlike_each : (p : Spread → Bool) (ss : List Spread) (q : Spread) → list_any p ss ≡ false → IsIn q ss → p q ≡ false
unlike_each p [] q e i = absurd i
unlike_each p (r ∷ ss) q e (inl is) = subst (λ z. p z ≡ false) is (neither (p r) (list_any p ss) e).0
unlike_each p (r ∷ ss) q e (inr i) = unlike_each p ss q (neither (p r) (list_any p ss) e).1 i

one_named : (ss : List Spread) → has_twins alike ss ≡ false → (a b : Spread) → IsIn a ss → IsIn b ss → a.name ≡ b.name → a ≡ b
one_named [] e a b i j h = absurd i
one_named (q ∷ ss) e a b (inl i) (inl j) h = sym i ∙ j
one_named (q ∷ ss) e a b (inl i) (inr j) h =
    let n = neither (list_any (alike q) ss) (has_twins alike ss) (sym (all_twins_more alike q ss) ∙ e) in
    absurd (false≢true (sym (unlike_each (alike q) ss b n.0 j) ∙ (bytes_eq-Decides q.name b.name).1 (ap (λ (z : Spread). z.name) i ∙ h)))
one_named (q ∷ ss) e a b (inr i) (inl j) h =
    let n = neither (list_any (alike q) ss) (has_twins alike ss) (sym (all_twins_more alike q ss) ∙ e) in
    absurd (false≢true (sym (unlike_each (alike q) ss a n.0 i) ∙ (bytes_eq-Decides q.name a.name).1 (ap (λ (z : Spread). z.name) j ∙ sym h)))
one_named (q ∷ ss) e a b (inr i) (inr j) h =
    let n = neither (list_any (alike q) ss) (has_twins alike ss) (sym (all_twins_more alike q ss) ∙ e) in
    one_named ss n.1 a b i j h

length-mapped : {A B : Type 0} (f : A → B) (xs : List A) → length (map f xs) ≡ length xs
length-mapped f [] = refl
length-mapped f (x ∷ xs) = ap (λ n. suc n) (length-mapped f xs)

module _ (s : State) (table : List ℕ) (new : ℕ) where
  abbrev pub widen : Spread → Spread
  widen t = if bytes_eq t.name table then spread_with t new else t

  abbrev pub with_it : State
  with_it = add_area s table new

  pub same_number : (q : Spread) → (widen q).number ≡ q.number
  same_number q = by_test (bytes_eq q.name table) (λ y. rw y refl) (λ n. rw n refl)

  pub same_name : (q : Spread) → (widen q).name ≡ q.name
  same_name q = by_test (bytes_eq q.name table) (λ y. rw y refl) (λ n. rw n refl)

  numbers_kept : (ss : List Spread) → map (λ (t : Spread). t.number) (map widen ss) ≡ map (λ (t : Spread). t.number) ss
  numbers_kept [] = refl
  numbers_kept (q ∷ ss) = ap (λ n. n ∷ map (λ (t : Spread). t.number) (map widen ss)) (same_number q) ∙ ap (λ ns. q.number ∷ ns) (numbers_kept ss)

  any_kept : (q : Spread) (ss : List Spread) → list_any (alike (widen q)) (map widen ss) ≡ list_any (alike q) ss
  any_kept q [] = refl
  any_kept q (r ∷ ss) =
      ap (λ n. bytes_eq n (widen r).name || list_any (alike (widen q)) (map widen ss)) (same_name q) ∙ ap (λ n. bytes_eq q.name n || list_any (alike (widen q)) (map widen ss)) (same_name r)
      ∙ ap (λ b. bytes_eq q.name r.name || b) (any_kept q ss)

  twins_kept : (ss : List Spread) → has_twins alike (map widen ss) ≡ has_twins alike ss
  twins_kept [] = refl
  twins_kept (q ∷ ss) =
      all_twins_more alike (widen q) (map widen ss) ∙ ap (λ b. b || has_twins alike (map widen ss)) (any_kept q ss) ∙ ap (λ b. list_any (alike q) ss || b) (twins_kept ss)
      ∙ sym (all_twins_more alike q ss)

  pub goes_up : (ss : List Spread) → GoUp 1 ss → GoUp 1 (map widen ss)
  goes_up ss e = numbers_kept ss ∙ subst (λ n. map (λ (t : Spread). t.number) ss ≡ range_with_len 1 n) (sym (length-mapped widen ss)) e

  pub has_widened : (n : ℕ) (ss : List Spread) → Has (λ (q : Spread). q.number ≡ n) ss → Has (λ (q : Spread). q.number ≡ n) (map widen ss)
  has_widened n [] h = absurd h
  has_widened n (q ∷ ss) (inl e) = inl (same_number q ∙ e)
  has_widened n (q ∷ ss) (inr h) = inr (has_widened n ss h)

  module _ (back_ends : ℕ) (is : IsState back_ends s) (p : Spread) (at : spread_named s table ≡ Some p) where
    pub own : (bytes_eq p.name table ≡ true) × IsIn p s.layout.spreads
    own = find_holds (λ (q : Spread). bytes_eq q.name table) s.layout.spreads p at

    pub only : (q : Spread) → IsIn q s.layout.spreads → bytes_eq q.name table ≡ true → q ≡ p
    only q i y =
        one_named s.layout.spreads (is_false _ is.spread_names_differ) q p i own.1
        ((bytes_eq-Decides q.name table).0 y ∙ sym ((bytes_eq-Decides p.name table).0 own.0))

    pub own_is : IsSpread s p
    own_is = in_Each (IsSpread s) p s.layout.spreads own.1 is.spreads

    area_kept : (a : Area) → IsArea back_ends s a → IsArea back_ends with_it a
    area_kept a x = record { named = x.named; low = x.low; high = x.high; first = x.first; last = x.last }

    spread_kept : (q : Spread) → IsSpread s q → IsSpread with_it q
    spread_kept q x = record {
      of_table = x.of_table;
      some_members = x.some_members;
      few_members = x.few_members;
      members_differ = x.members_differ;
      members_are_areas = x.members_are_areas;
      all_groups = x.all_groups;
      entries_among = x.entries_among;
      fair = x.fair;
    }

    not_twins : (x : Bool) → x ≡ false → IsTrue (not x)
    not_twins x e = ap not e

    -- the state
    pub state_after : Has (λ (a : Area). a.number ≡ new) s.layout.areas → list_any is_moving p.entries ≡ false → list_any (λ n. new == n) p.members ≡ false → length p.members < 16
        → IsState back_ends with_it
    state_after there still fresh few =
        let wide : IsSpread with_it (spread_with p new) = wider_is s p own_is new still fresh few with_it own_is.of_table own_is.members_are_areas there in
        let each : (q : Spread) → IsIn q s.layout.spreads → IsSpread with_it (widen q) =
        λ q i. by_test (bytes_eq q.name table)
        (λ y. rw y (subst (λ (z : Spread). IsSpread with_it (spread_with z new)) (sym (only q i y)) wide))
        (λ n. rw n (spread_kept q (in_Each (IsSpread s) q s.layout.spreads i is.spreads))) in
        record {
          areas = record {
            few = is.areas.few;
            ascend = is.areas.ascend;
            names_differ = is.areas.names_differ;
            each = Each-of (IsArea back_ends s) (IsArea back_ends with_it) s.layout.areas area_kept is.areas.each;
          };
          few_tables = is.few_tables;
          tables_ascend = is.tables_ascend;
          tables = is.tables;
          one_spread_each = length-mapped widen s.layout.spreads ∙ is.one_spread_each;
          spreads_numbered = goes_up s.layout.spreads is.spreads_numbered;
          spread_names_differ = not_twins (has_twins alike (map widen s.layout.spreads)) (twins_kept s.layout.spreads ∙ is_false _ is.spread_names_differ);
          spreads = each_mapped (IsSpread with_it) widen s.layout.spreads each;
        }

    some_of : (x y : Spread) → Some x ≡ Some y → x ≡ y
    some_of x y h = cc

    none_some : (x : Spread) → None ≡ Some x → ⊥
    none_some x h = cc

    -- rows by spread, where those of one have more before them
    module _ (rows : Spread → List Stored) (more : List Stored) (grouped : (t : Spread) → Each (λ (r : Stored). r.place.group ≡ t.number) (rows t))
        (its : Each (λ (r : Stored). r.place.group ≡ p.number) more) (x : Place)
        (step : lookup x (rows (spread_with p new)) ≡ option_or (lookup x more) (lookup x (rows p))) where
      abbrev found : List Spread → Option Spread
      found ss = find (λ (u : Spread). x.group == u.number) ss

      abbrev stands : Spread → Option (List ℕ)
      stands t = lookup x (rows t)

      by_group : (ss : List Spread) → GoUp 1 ss → lookup x (flat_map rows ss) ≡ option_and_then stands (found ss)
      by_group ss e =
          by_find x x.group rows stands (λ t h. refl)
          (λ t n. none_at (λ q. q.group ≡ t.number) (rows t) x (grouped t) (λ h. false≢true (sym n ∙ (Decides-eqb x.group t.number).1 h))) 1 ss e

      p_found : x.group ≡ p.number → found s.layout.spreads ≡ Some p
      p_found e = ap (λ n. find (λ (u : Spread). n == u.number) s.layout.spreads) e ∙ numbered 1 s.layout.spreads p is.spreads_numbered own.1

      nothing_more : (x.group ≡ p.number → ⊥) → lookup x more ≡ None
      nothing_more away = none_at (λ q. q.group ≡ p.number) more x its away

      cases : (o : Option Spread) → found s.layout.spreads ≡ o → option_and_then stands (option_map widen o) ≡ option_or (lookup x more) (option_and_then stands o)
      cases None e = sym (ap (λ o. option_or o None) (nothing_more (λ h. none_some p (sym e ∙ p_found h))))
      cases (Some q) e =
          let in_it = (find_holds (λ (u : Spread). x.group == u.number) s.layout.spreads q e).1 in
          by_test (bytes_eq q.name table)
          (λ y. rw y (subst (λ (z : Spread). lookup x (rows (spread_with z new)) ≡ option_or (lookup x more) (lookup x (rows z))) (sym (only q in_it y)) step))
          (λ n. rw n (sym (ap (λ o. option_or o (lookup x (rows q)))
          (nothing_more (λ h. let same : q ≡ p = some_of q p (sym e ∙ p_found h) in
          false≢true (sym n ∙ ap (λ (z : Spread). bytes_eq z.name table) same ∙ own.0))))))

      pub widened_rows : lookup x (flat_map rows (map widen s.layout.spreads)) ≡ option_or (lookup x more) (lookup x (flat_map rows s.layout.spreads))
      widened_rows =
          by_group (map widen s.layout.spreads) (goes_up s.layout.spreads is.spreads_numbered)
          ∙ ap (option_and_then stands) (find-mapped (λ (u : Spread). x.group == u.number) widen s.layout.spreads (λ q. ap (λ n. x.group == n) (same_number q)))
          ∙ cases (found s.layout.spreads) refl ∙ ap (λ o. option_or (lookup x more) o) (sym (by_group s.layout.spreads is.spreads_numbered))
