-- A state with one entry at its new area is a state.
use Rattle.std.proofs.Common.{◌≡◌, ℕ, zero, suc, ◌-◌, ◌*◌, ◌+◌, ◌<◌, List, [], ◌∷◌, length, map, Option, Some, Bool, true, false, not, refl, subst, sym, ap, ◌∙◌}
use Rattle.std.specs.Prelude.{◌==◌, slice_get, slice_set, Contains, IsSome, IsTrue}
use Rattle.std.proofs.lemmas.Bool.Decides.{Decides-eqb}
use Rattle.std.proofs.lemmas.List.{length-set}
use Rattle.std.proofs.lemmas.Option.{get_or_from_slice_get, slice_get_within}
use Rattle.hb_types.specs.declared.entry.Entry.{Entry}
use Rattle.hb_types.specs.declared.entry.Entry.TheVariants.{At, Moving}
use Rattle.hb_types.specs.Groups.{groups, target}
use Rattle.hb_types.specs.Lists.{Each, Has, IsIn, has_twins}
use Rattle.hb_types.proofs.Ascending.{Each-of, in_Each}
use Rattle.hb_types.proofs.PutLaws.{by_test}
use Rattle.hb_model.specs.Shapes.{Hint}
use Rattle.hb_model.specs.State.{State, Area, Spread, table_named}
use Rattle.hb_model.specs.Valid.{IsArea, IsEntry, IsFair, IsSpread, IsState, share}
use Rattle.hb_planlaws.proofs.Named.{is_false}
use Rattle.hb_planwrites.proofs.Systems.{each_mapped}
use Rattle.hb_movelaws.specs.Moving.{settled}
use Rattle.hb_movelaws.proofs.Settling.{alike, as_many, count_set, each_set, goes_up, put, same_of_number, twins_kept}

-- what is so of each entry is so of one of them
got : (P : Entry → Type 0) (es : List Entry) (k : ℕ) (e : Entry) → Each P es → slice_get es k ≡ Some e → P e
got P [] k e each h = cc
got P (x ∷ es) zero e each h = let same : x ≡ e = cc in subst P same each.0
got P (x ∷ es) (suc k) e each h = got P es k e each.1 h

module _ (s : State) (p : Spread) (is : IsSpread s p) (group old new : ℕ) (moving : slice_get p.entries group ≡ Some (Moving old new)) where
  abbrev pub done : Spread
  done = record p { entries = slice_set p.entries group (At new) }

  abbrev last : Option ℕ
  last = slice_get p.members (length p.members - 1)

  pub entry_among : IsEntry p.members last (Moving old new)
  entry_among = got (IsEntry p.members last) p.entries group (Moving old new) is.entries_among moving

  new_among : Contains p.members new
  new_among =
      (length p.members - 1, slice_get_within p.members (length p.members - 1) new entry_among.2, get_or_from_slice_get p.members (length p.members - 1) new _ entry_among.2)

  share_same : (area : ℕ) → share done area ≡ share p area
  share_same area = count_set (λ (e : Entry). target e == area) 0 p.entries group (At new) (Moving old new) moving refl

  fair_same : (area : ℕ) → IsFair p area → IsFair done area
  fair_same area h =
      let e = share_same area in
      (subst (λ n. n * length p.members < groups + length p.members) (sym e) h.0, subst (λ n. groups < n * length p.members + length p.members) (sym e) h.1)

  -- in a state that has its table and its areas
  pub done_is : (t : State) → IsSome (table_named t p.name) → Each (λ m. Has (λ (a : Area). a.number ≡ m) t.layout.areas) p.members → IsSpread t done
  done_is t of_table areas = record {
    of_table = of_table;
    some_members = is.some_members;
    few_members = is.few_members;
    members_differ = is.members_differ;
    members_are_areas = areas;
    all_groups = length-set p.entries group (At new) ∙ is.all_groups;
    entries_among = each_set (IsEntry p.members last) p.entries group (At new) is.entries_among new_among;
    fair = Each-of (IsFair p) (IsFair done) p.members fair_same is.fair;
  }

module _ (back_ends : ℕ) (s : State) (is : IsState back_ends s) (p : Spread) (there : IsIn p s.layout.spreads) (group old new : ℕ)
    (moving : slice_get p.entries group ≡ Some (Moving old new)) where
  abbrev pub hint : Hint
  hint = record { table = p.number; group = group; old = old; new = new }

  abbrev pub with_it : State
  with_it = settled s hint

  pub its_spread : IsSpread s p
  its_spread = in_Each (IsSpread s) p s.layout.spreads there is.spreads

  pub only : (q : Spread) → IsIn q s.layout.spreads → (q.number == p.number) ≡ true → q ≡ p
  only q i y = same_of_number s.layout.spreads q p is.spreads_numbered i there ((Decides-eqb q.number p.number).0 y)

  area_kept : (a : Area) → IsArea back_ends s a → IsArea back_ends with_it a
  area_kept a x = record { named = x.named; low = x.low; high = x.high; first = x.first; last = x.last }

  spread_kept : (q : Spread) → IsSpread s q → IsSpread with_it q
  spread_kept q x = record {
    of_table = x.of_table;
    some_members = x.some_members;
    few_members = x.few_members;
    members_differ = x.members_differ;
    members_are_areas = x.members_are_areas;
    all_groups = x.all_groups;
    entries_among = x.entries_among;
    fair = x.fair;
  }

  each : (q : Spread) → IsIn q s.layout.spreads → IsSpread with_it (put p.number group new q)
  each q i =
      by_test (q.number == p.number)
      (λ y. rw y (subst (λ (z : Spread). IsSpread with_it (record z { entries = slice_set z.entries group (At new) })) (sym (only q i y))
      (done_is s p its_spread group old new moving with_it its_spread.of_table its_spread.members_are_areas)))
      (λ n. rw n (spread_kept q (in_Each (IsSpread s) q s.layout.spreads i is.spreads)))

  not_twins : (x : Bool) → x ≡ false → IsTrue (not x)
  not_twins x e = ap not e

  pub state_after : IsState back_ends with_it
  state_after = record {
    areas = record {
      few = is.areas.few;
      ascend = is.areas.ascend;
      names_differ = is.areas.names_differ;
      each = Each-of (IsArea back_ends s) (IsArea back_ends with_it) s.layout.areas area_kept is.areas.each;
    };
    few_tables = is.few_tables;
    tables_ascend = is.tables_ascend;
    tables = is.tables;
    one_spread_each = as_many p.number group new s.layout.spreads ∙ is.one_spread_each;
    spreads_numbered = goes_up p.number group new s.layout.spreads is.spreads_numbered;
    spread_names_differ = not_twins (has_twins alike (map (put p.number group new) s.layout.spreads)) (twins_kept p.number group new s.layout.spreads ∙ is_false _ is.spread_names_differ);
    spreads = each_mapped (IsSpread with_it) (put p.number group new) s.layout.spreads each;
  }
