-- A table's rows where some of its groups turn to move to a new area.
use Rattle.std.proofs.Common.{◌≡◌, ◌⊎◌, inl, inr, ℕ, zero, suc, ◌+◌, ◌≤◌, ℤ, List, [], ◌∷◌, Option, Some, None, Bool, true, false, refl, subst, sym, ap, ◌∙◌, arith}
use Rattle.std.specs.Prelude.{◌==◌, nat_lt, slice_get, Contains, if◌then◌else◌}
use Rattle.std.specs.Option.{option_or}
use Rattle.std.proofs.lemmas.Bool.{false≢true}
use Rattle.std.proofs.lemmas.Bool.Decides.{Decides-eqb}
use Rattle.hb_types.specs.declared.entry.Entry.{Entry}
use Rattle.hb_types.specs.declared.entry.Entry.TheVariants.{At, Moving}
use Rattle.hb_types.specs.declared.places.Place.{Place}
use Rattle.hb_types.specs.Groups.{entry_after, group_of, map_from, reassigned, route}
use Rattle.hb_types.specs.Lists.{Each}
use Rattle.hb_types.specs.Places.{node_of_area}
use Rattle.hb_types.specs.Put.{lookup}
use Rattle.hb_groups.specs.Counts.{IsPlaced}
use Rattle.hb_model.specs.declared.table.Table.{Table}
use Rattle.hb_model.specs.Answers.{rows_of}
use Rattle.hb_model.specs.Define.{spread_with}
use Rattle.hb_model.specs.Families.{Family}
use Rattle.hb_model.specs.Spots.{place_in}
use Rattle.hb_model.specs.State.{Spread}
use Rattle.hb_model.specs.TableRows.{IsPlaced as IsPlacedRow, TableRows, along, standing}
use Rattle.hb_planlaws.proofs.Told.{contained}

-- ---- entries one by one

got_from : (f : ℕ → Entry → Entry) (n g : ℕ) (es : List Entry) → (P : Entry → Entry → Type 0) → ((m : ℕ) (x : Entry) → P x (f m x)) → (e : Entry) → slice_get (map_from f n es) g ≡ Some e
    → (old : Entry) × (slice_get es g ≡ Some old) × P old e
got_from f n g [] P h e is = cc
got_from f n zero (x ∷ es) P h e is = let same : f n x ≡ e = cc in (x, refl, subst (P x) same (h n x))
got_from f n (suc g) (x ∷ es) P h e is = got_from f (n + 1) g es P h e is

got_to : (f : ℕ → Entry → Entry) (n g : ℕ) (es : List Entry) → (P : Entry → Entry → Type 0) → ((m : ℕ) (x : Entry) → P x (f m x)) → (old : Entry) → slice_get es g ≡ Some old
    → (e : Entry) × (slice_get (map_from f n es) g ≡ Some e) × P old e
got_to f n g [] P h old is = cc
got_to f n zero (x ∷ es) P h old is = let same : x ≡ old = cc in (f n x, refl, subst (λ y. P y (f n x)) same (h n x))
got_to f n (suc g) (x ∷ es) P h old is = got_to f (n + 1) g es P h old is

-- a group stays, or an area's group moves to the new one
abbrev pub Turns : ℕ → Entry → Entry → Type 0
Turns new old e = (e ≡ old) ⊎ ((a : ℕ) × (old ≡ At a) × (e ≡ Moving a new))

turns : (new c q : ℕ) (x : Entry) → Turns new x (reassigned c q new x)
turns new c q (At a) = by (nat_lt c q)
  where
    by : (b : Bool) → Turns new (At a) (if b then At a else Moving a new)
    by true = inl refl
    by false = inr (a, refl, refl)
turns new c q (Moving a b) = inl refl

entry_placed : (members : List ℕ) (es : List Entry) (g : ℕ) (e : Entry) → Each (IsPlaced members) es → slice_get es g ≡ Some e → IsPlaced members e
entry_placed members [] g e h is = cc
entry_placed members (x ∷ es) zero e h is = let same : x ≡ e = cc in subst (IsPlaced members) same h.0
entry_placed members (x ∷ es) (suc g) e h is = entry_placed members es g e h.1 is

never_moving : (members : List ℕ) (a b : ℕ) (e : Entry) → IsPlaced members e → Moving a b ≡ e → ⊥
never_moving members a b (At x) h e = cc
never_moving members a b (Moving x y) h e = absurd h

contains_wider : (a n x : ℕ) → Contains (a ∷ []) x → Contains (a ∷ n ∷ []) x
contains_wider a n x (zero, l, e) = (0, omega arith, e)
contains_wider a n x (suc k, l, e) = absurd (omega (arith, l))

second : (a b c d : ℕ) → Moving a b ≡ Moving c d → b ≡ d
second a b c d e = cc

-- ---- rows

module _ (family : Family) (t : Table) (p : Spread) (new : ℕ) (placed : Each (IsPlaced p.members) p.entries) (apart : Each (λ m. (m == new) ≡ false) p.members)
    (far : 2 ≤ node_of_area new) (rows : TableRows family t p) where
  abbrev wider : Spread
  wider = spread_with p new

  was : (g : ℕ) (e : Entry) → slice_get wider.entries g ≡ Some e → (old : Entry) × (slice_get p.entries g ≡ Some old) × Turns new old e
  was g e h = got_from (entry_after p.entries p.members new) 0 g p.entries (Turns new) (λ m x. turns new _ _ x) e h

  becomes : (g : ℕ) (old : Entry) → slice_get p.entries g ≡ Some old → (e : Entry) × (slice_get wider.entries g ≡ Some e) × Turns new old e
  becomes g old h = got_to (entry_after p.entries p.members new) 0 g p.entries (Turns new) (λ m x. turns new _ _ x) old h

  away : (a : ℕ) (e : Entry) → IsPlaced p.members e → Contains (route e) a → (a == new) ≡ false
  away a (At x) h c = contained (λ m. (m == new) ≡ false) (x ∷ []) a (contained (λ m. (m == new) ≡ false) p.members x apart h, tt) c
  away a (Moving x y) h c = absurd h

  -- nothing stands in the new area
  none_new : (key : ℤ) → standing family p.number key new ≡ None
  none_new key = by (standing family p.number key new) refl
    where
      by : (o : Option (List ℕ)) → standing family p.number key new ≡ o → o ≡ None
      by None e = refl
      by (Some row) e =
          let r = rows.placed (node_of_area new) (place_in new p.number key) row far refl e in
          let at = r.area in
          absurd (false≢true (sym (away new at.0 (entry_placed p.members p.entries (group_of key) at.0 placed at.1) at.2) ∙ (Decides-eqb new new).1 refl))

  route_after : (a : ℕ) (old e : Entry) → Turns new old e → Contains (route old) a → Contains (route e) a
  route_after a old e (inl same) c = subst (λ x. Contains (route x) a) (sym same) c
  route_after a old e (inr (x, before, now)) c =
      subst (λ y. Contains (route y) a) (sym now) (contains_wider x new a (subst (λ y. Contains (route y) a) before c))

  abbrev Free : ℤ → ℕ → Type 0
  Free key a = standing family p.number key a ≡ None

  once_after : (key : ℤ) (a b : ℕ) (old : Entry) → IsPlaced p.members old → Turns new old (Moving a b) → Free key a ⊎ Free key b
  once_after key a b old is (inl same) = absurd (never_moving p.members a b old is same)
  once_after key a b old is (inr (x, before, now)) = inr (subst (Free key) (sym (second a b x new now)) (none_new key))

  along_after : (key : ℤ) (old e : Entry) → Turns new old e → along family p.number key (route e) ≡ along family p.number key (route old)
  along_after key old e (inl same) = ap (λ x. along family p.number key (route x)) same
  along_after key old e (inr (x, before, now)) =
      ap (λ y. along family p.number key (route y)) now ∙ ap (λ o. option_or (standing family p.number key x) (option_or o None)) (none_new key)
      ∙ sym (ap (λ y. along family p.number key (route y)) before)

  pub rows_wider : TableRows family t wider
  rows_wider = record {
    placed = placed_after;
    once = λ key a b h. let w = was (group_of key) (Moving a b) h in
        once_after key a b w.0 (entry_placed p.members p.entries (group_of key) w.0 placed w.1) w.2;
    same = λ key e h. let w = was (group_of key) e h in along_after key w.0 e w.2 ∙ rows.same key w.0 w.1;
  }
    where
      placed_after : (node : ℕ) (q : Place) (row : List ℕ) → 2 ≤ node → q.space.table ≡ wider.number → lookup q (rows_of node family) ≡ Some row → IsPlacedRow wider node q
      placed_after node q row two table stands =
          let r = rows.placed node q row two table stands in
          let at = r.area in
          let b = becomes q.group at.0 at.1 in
          record { group = r.group; on_node = r.on_node; area = (b.0, b.1, route_after q.space.area at.0 b.0 b.2 at.2) }
