-- Changes of several keys' rows, each where its row lies.
use Rattle.std.proofs.Common.{◌≡◌, ◌⊎◌, inl, inr, ℕ, zero, suc, ℤ, List, [], ◌∷◌, length, map, Option, Some, None, cond, refl, subst, sym, ap, ◌∙◌, arith}
use Rattle.std.specs.Prelude.{option_map, slice_get, Contains}
use Rattle.std.specs.Ordering.{int_eq, int_cmp}
use Rattle.std.specs.declared.cmp.Ordering.{Ordering}
use Rattle.std.specs.declared.cmp.Ordering.TheVariants.{Less}
use Rattle.std.proofs.lemmas.Bool.{false≢true}
use Rattle.std.proofs.lemmas.Bool.Decides.{Decides-int_eq}
use Rattle.std.proofs.lemmas.Cmp.{int_cmp_total, on_total}
use Rattle.hb_types.specs.declared.change.Change.{Change}
use Rattle.hb_types.specs.declared.entry.Entry.{Entry}
use Rattle.hb_types.specs.declared.entry.Entry.TheVariants.{At, Moving}
use Rattle.hb_types.specs.declared.places.Place.{Place}
use Rattle.hb_types.specs.declared.value.Value.{Value}
use Rattle.hb_types.specs.Groups.{group_of, route}
use Rattle.hb_types.specs.Lists.{Ascends, Each, IsIn}
use Rattle.hb_types.specs.Places.{node_of_area}
use Rattle.hb_types.specs.Rows.{row_bytes}
use Rattle.hb_types.proofs.Ascending.{Ascends-first, Ascends-tail, Each-in, in_Each, irreflexive}
use Rattle.hb_types.proofs.PutLaws.{by_test}
use Rattle.hb_model.specs.Answers.{put_at}
use Rattle.hb_model.specs.Families.{Family}
use Rattle.hb_model.specs.Spots.{place_in}
use Rattle.hb_model.specs.State.{Spread}
use Rattle.hb_model.specs.TableRows.{IsPlaced, standing}
use Rattle.hb_model.proofs.DictionaryRows.{not_true}
use Rattle.hb_talk.specs.Plans.{Lying}
use Rattle.hb_planwrites.proofs.Changed.{IsAside, aside_same, aside_then}
use Rattle.hb_planwrites.proofs.Closing.{written}
use Rattle.hb_planwrites.proofs.KeyWrites.{IsApart, IsBackEnd, RowsAre, key_aside, key_put, standing_other}

-- a row lies where it may
pub record Lies (family : Family) (p : Spread) (row : ℤ → Option (List Value)) (l : Lying) : Type 0 where
  pub at : l.0 ≡ place_in l.0.space.area p.number l.0.key
  pub back_end : IsBackEnd family l.0.space.area
  pub stands : standing family p.number l.0.key l.0.space.area ≡ Some (row_bytes l.1)
  pub is : row l.0.key ≡ Some l.1

-- by key
abbrev pub by_key : Lying → Lying → Ordering
by_key a b = int_cmp a.0.key b.0.key

-- the change of a row where it lies
abbrev pub change_at : (List Value → Option (List Value)) → Lying → Change
change_at new l = record { place = l.0; row = option_map row_bytes (new l.1) }

none_some : {A : Type 0} (x : A) → None ≡ Some x → ⊥
none_some x h = cc

pub is_in : (a : ℕ) (e : Entry) → Contains (route e) a → IsIn a (route e)
is_in a (At x) (zero, l, h) = inl h
is_in a (At x) (suc k, l, h) = absurd (omega (arith, l))
is_in a (Moving x y) (zero, l, h) = inl h
is_in a (Moving x y) (suc zero, l, h) = inr (inl h)
is_in a (Moving x y) (suc (suc k), l, h) = absurd (omega (arith, l))

module _ (p : Spread) (new : List Value → Option (List Value)) (apart : (g : ℕ) (e : Entry) → slice_get p.entries g ≡ Some e → IsApart e) where
  -- no other area of the route has a key that stands in one
  module _ (family : Family) (f : ℤ → Option (List Value)) (rows : RowsAre family p f) (l : Lying) (lies : Lies family p f l) where
    abbrev area : ℕ
    area = l.0.space.area

    abbrev key : ℤ
    key = l.0.key

    one_only : (x y : ℕ) → (standing family p.number key x ≡ None) ⊎ (standing family p.number key y ≡ None) → IsIn area (x ∷ y ∷ []) → (b : ℕ) → IsIn b (x ∷ y ∷ []) → (b ≡ area → ⊥)
        → standing family p.number key b ≡ None
    one_only x y none (inl a) b (inl i) n = absurd (n (sym i ∙ a))
    one_only x y (inl none) (inl a) b (inr (inl i)) n =
        absurd (none_some (row_bytes l.1) (sym none ∙ ap (λ z. standing family p.number key z) a ∙ lies.stands))
    one_only x y (inr none) (inl a) b (inr (inl i)) n = ap (λ z. standing family p.number key z) (sym i) ∙ none
    one_only x y none (inl a) b (inr (inr i)) n = absurd i
    one_only x y (inl none) (inr (inl a)) b (inl i) n = ap (λ z. standing family p.number key z) (sym i) ∙ none
    one_only x y (inr none) (inr (inl a)) b (inl i) n =
        absurd (none_some (row_bytes l.1) (sym none ∙ ap (λ z. standing family p.number key z) a ∙ lies.stands))
    one_only x y none (inr (inl a)) b (inr (inl i)) n = absurd (n (sym i ∙ a))
    one_only x y none (inr (inl a)) b (inr (inr i)) n = absurd i
    one_only x y none (inr (inr a)) b i n = absurd a

    pub others : (e : Entry) → slice_get p.entries (group_of key) ≡ Some e → IsIn area (route e) → (b : ℕ) → IsIn b (route e) → (b ≡ area → ⊥) → standing family p.number key b ≡ None
    others (At x) entry (inl a) b (inl i) n = absurd (n (sym i ∙ a))
    others (At x) entry (inl a) b (inr i) n = absurd i
    others (At x) entry (inr a) b i n = absurd a
    others (Moving x y) entry a b i n = one_only x y (rows.once key x y entry) a b i n

    abbrev after_one : Family
    after_one = put_at (node_of_area area) (change_at new l) family

    module _ (g : ℤ → Option (List Value)) (here : g key ≡ new l.1) (elsewhere : (j : ℤ) → (j ≡ key → ⊥) → g j ≡ f j) where
      placed : IsPlaced p (node_of_area area) (place_in area p.number key)
      placed = rows.placed (node_of_area area) (place_in area p.number key) (row_bytes l.1) lies.back_end.behind refl lies.stands

      abbrev change_of : Place → Change
      change_of q = record { place = q; row = option_map row_bytes (new l.1) }

      one_put : RowsAre after_one p g
      one_put =
          let e = placed.area in
          let on : IsIn area (route e.0) = is_in area e.0 e.2 in
          subst (λ q. RowsAre (put_at (node_of_area area) (change_of q) family) p g) (sym lies.at)
          (key_put family p key e.0 e.1 (apart (group_of key) e.0 e.1) area on lies.back_end (option_map row_bytes (new l.1)) (others e.0 e.1 on) f g rows (ap (option_map row_bytes) (sym here)) elsewhere)

    one_aside : IsAside p.number family after_one
    one_aside =
        let placed_there : IsPlaced p (node_of_area area) (place_in area p.number key) =
        rows.placed (node_of_area area) (place_in area p.number key) (row_bytes l.1) lies.back_end.behind refl lies.stands in
        let e = placed_there.area in
        subst (λ q. IsAside p.number family (put_at (node_of_area area) (record { place = q; row = option_map row_bytes (new l.1) }) family)) (sym lies.at)
        (key_aside family p key e.0 e.1 (apart (group_of key) e.0 e.1) area (is_in area e.0 e.2) lies.back_end (option_map row_bytes (new l.1)))

    -- the rows of other keys lie as they did
    lies_still : (g : ℤ → Option (List Value)) → ((j : ℤ) → (j ≡ key → ⊥) → g j ≡ f j) → (m : Lying) → (m.0.key ≡ key → ⊥) → Lies family p f m → Lies after_one p g m
    lies_still g elsewhere m n k =
        let placed_there : IsPlaced p (node_of_area area) (place_in area p.number key) =
        rows.placed (node_of_area area) (place_in area p.number key) (row_bytes l.1) lies.back_end.behind refl lies.stands in
        let e = placed_there.area in
        let servers : length after_one ≡ length family = one_aside.servers in
        let among = k.back_end.among in
        let same : standing after_one p.number m.0.key m.0.space.area ≡ standing family p.number m.0.key m.0.space.area =
        subst (λ q. standing (put_at (node_of_area area) (record { place = q; row = option_map row_bytes (new l.1) }) family) p.number m.0.key m.0.space.area ≡ standing family p.number m.0.key m.0.space.area) (sym lies.at)
        (standing_other family p key e.0 e.1 (apart (group_of key) e.0 e.1) area (is_in area e.0 e.2) lies.back_end (option_map row_bytes (new l.1)) m.0.key m.0.space.area n) in
        record {
          at = k.at;
          back_end = record { behind = k.back_end.behind; among = omega (arith, among, servers) };
          stands = same ∙ k.stands;
          is = elsewhere m.0.key n ∙ k.is;
        }

  below_apart : (l m : Lying) → by_key l m ≡ Less → m.0.key ≡ l.0.key → ⊥
  below_apart l m h e = irreflexive int_cmp int_cmp_total l.0.key (subst (λ k. int_cmp l.0.key k ≡ Less) e h)

  -- the rows once all are changed
  abbrev Put : Family → List Lying → (ℤ → Option (List Value)) → Type 0
  Put family ls g = RowsAre (written family (map (change_at new) ls)) p g × IsAside p.number family (written family (map (change_at new) ls))

  pub list_put : (ls : List Lying) (family : Family) (f g : ℤ → Option (List Value)) → RowsAre family p f → Each (Lies family p f) ls → Ascends by_key ls
      → Each (λ l. g l.0.key ≡ new l.1) ls → ((j : ℤ) → Each (λ l. l.0.key ≡ j → ⊥) ls → g j ≡ f j) → Put family ls g
  list_put [] family f g rows lies a here elsewhere = (
    record { placed = rows.placed; once = rows.once; same = λ key e h. rows.same key e h ∙ ap (option_map row_bytes) (sym (elsewhere key tt)) },
    aside_same p.number family,
  )
  list_put (l ∷ ls) family f g rows lies a here elsewhere =
      let k : ℤ = l.0.key in
      let next : ℤ → Option (List Value) = λ j. cond (int_eq j k) (new l.1) (f j) in
      let at_key : next k ≡ new l.1 = ap (λ b. cond b (new l.1) (f k)) ((Decides-int_eq k k).1 refl) in
      let other : (j : ℤ) → (j ≡ k → ⊥) → next j ≡ f j = λ j n. ap (λ b. cond b (new l.1) (f j)) (not_true (int_eq j k) (λ y. n ((Decides-int_eq j k).0 y))) in
      let order = on_total (λ (x : Lying). x.0.key) int_cmp_total in
      let first : Each (λ m. by_key l m ≡ Less) ls = Ascends-first by_key order l ls a in
      let still : Each (Lies (put_at (node_of_area l.0.space.area) (change_at new l) family) p next) ls =
      Each-in (Lies (put_at (node_of_area l.0.space.area) (change_at new l) family) p next) ls
      (λ m i. lies_still family f rows l lies.0 next other m (below_apart l m (in_Each (λ x. by_key l x ≡ Less) m ls i first)) (in_Each (Lies family p f) m ls i lies.1)) in
      let rest = list_put ls (put_at (node_of_area l.0.space.area) (change_at new l) family) next g (one_put family f rows l lies.0 next at_key other) still (Ascends-tail by_key order l ls a) here.1
      (λ j n. by_test (int_eq j k)
      (λ y. let is : j ≡ k = (Decides-int_eq j k).0 y in ap g is ∙ here.0 ∙ sym (ap (λ b. cond b (new l.1) (f j)) y))
      (λ y. elsewhere j ((λ h. false≢true (sym y ∙ (Decides-int_eq j k).1 (sym h))), n) ∙ sym (ap (λ b. cond b (new l.1) (f j)) y))) in
      (rest.0, aside_then p.number family (put_at (node_of_area l.0.space.area) (change_at new l) family) _ (one_aside family f rows l lies.0) rest.1)
