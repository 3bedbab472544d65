-- A change of one key's row, in an area of the key's route.
use Rattle.std.proofs.Common.{◌≡◌, ◌⊎◌, inl, inr, ℕ, zero, suc, ◌+◌, ◌-◌, ◌≤◌, ℤ, List, [], ◌∷◌, length, Option, Some, None, refl, subst, sym, ap, ◌∙◌, arith}
use Rattle.std.specs.Prelude.{◌/◌, ◌==◌, option_map, slice_get, Contains}
use Rattle.std.specs.Option.{option_or}
use Rattle.std.specs.Ordering.{int_eq}
use Rattle.std.proofs.lemmas.Bool.{false≢true}
use Rattle.std.proofs.lemmas.Bool.Decides.{Decides-eqb, Decides-int_eq}
use Rattle.hb_types.specs.declared.change.Change.{Change}
use Rattle.hb_types.specs.declared.entry.Entry.{Entry}
use Rattle.hb_types.specs.declared.entry.Entry.TheVariants.{At, Moving}
use Rattle.hb_types.specs.declared.places.Place.{Place}
use Rattle.hb_types.specs.declared.value.Value.{Value}
use Rattle.hb_types.specs.Groups.{group_of, route}
use Rattle.hb_types.specs.Lists.{Each, Has, IsIn}
use Rattle.hb_types.specs.Places.{node_of_area, same_place}
use Rattle.hb_types.specs.Put.{lookup}
use Rattle.hb_types.specs.Rows.{row_bytes}
use Rattle.hb_types.proofs.Ascending.{Each-of, in_Each, pick}
use Rattle.hb_types.proofs.PutLaws.{by_test}
use Rattle.hb_types.proofs.SamePlace.{same_place-eq}
use Rattle.hb_model.specs.declared.table.Table.{Table}
use Rattle.hb_model.specs.Answers.{rows_of, put_at}
use Rattle.hb_model.specs.Families.{Family}
use Rattle.hb_model.specs.Spots.{place_in}
use Rattle.hb_model.specs.State.{State, Area, Spread}
use Rattle.hb_model.specs.System.{Sys}
use Rattle.hb_model.specs.TableRows.{IsPlaced, TableRows, along, row_of, standing}
use Rattle.hb_model.specs.Valid.{IsArea, IsEntry, IsSpread}
use Rattle.hb_model.proofs.DictionaryRows.{not_true}
use Rattle.hb_planlaws.proofs.Told.{contained, each_got}
use Rattle.hb_planwrites.proofs.Changed.{IsAside, aside_put, at_elsewhere, at_here, at_other}

-- ---- areas of routes

-- an area of one of the back ends
abbrev Near : ℕ → ℕ → Type 0
Near back_ends a = (1 ≤ a / 256) × (a / 256 ≤ back_ends)

node_is : (a : ℕ) → 1 ≤ a / 256 → node_of_area a ≡ a / 256 + 1
node_is a low = rw (not_true (a == 0) (λ y. let e : a ≡ 0 = (Decides-eqb a 0).0 y in omega (arith, e, low))) refl

-- the two areas of an entry differ
abbrev pub IsApart : Entry → Type 0
IsApart (At a) = Unit {0}
IsApart (Moving a b) = a ≡ b → ⊥

near_area : (back_ends : ℕ) (s : State) (m : ℕ) → Each (IsArea back_ends s) s.layout.areas → Has (λ (a : Area). a.number ≡ m) s.layout.areas → Near back_ends m
near_area back_ends s m each h =
    let b = pick (λ (a : Area). a.number ≡ m) (IsArea back_ends s) s.layout.areas h each in
    subst (Near back_ends) b.one (b.other.low, b.other.high)

near_route : (back_ends : ℕ) (members : List ℕ) (e : Entry) → Each (Near back_ends) members → IsEntry members (slice_get members (length members - 1)) e → Each (Near back_ends) (route e)
near_route back_ends members (At a) each is = (contained (Near back_ends) members a each is, tt)
near_route back_ends members (Moving a b) each is =
    (contained (Near back_ends) members a each is.0, (each_got (Near back_ends) members (length members - 1) b each is.2, tt))

entry_at : (P : Entry → Type 0) (es : List Entry) (k : ℕ) (e : Entry) → Each P es → slice_get es k ≡ Some e → P e
entry_at P [] k e each h = cc
entry_at P (x ∷ es) zero e each h = let same : x ≡ e = cc in subst P same each.0
entry_at P (x ∷ es) (suc k) e each h = entry_at P es k e each.1 h

differ : (members : List ℕ) (last : Option ℕ) (e : Entry) → IsEntry members last e → IsApart e
differ members last (At a) is = tt
differ members last (Moving a b) is = is.1

-- the node of an area has a place in the family, behind that of ds
pub record IsBackEnd (family : Family) (a : ℕ) : Type 0 where
  pub behind : 2 ≤ node_of_area a
  pub among : node_of_area a ≤ length family

module _ (back_ends : ℕ) (family : Family) (s : State) (sys : Sys back_ends family s) (p : Spread) (there : IsIn p s.layout.spreads) where
  spread : IsSpread s p
  spread = in_Each (IsSpread s) p s.layout.spreads there sys.state.spreads

  entry_is : (g : ℕ) (e : Entry) → slice_get p.entries g ≡ Some e → IsEntry p.members (slice_get p.members (length p.members - 1)) e
  entry_is g e at = entry_at (IsEntry p.members (slice_get p.members (length p.members - 1))) p.entries g e spread.entries_among at

  pub entry_apart : (g : ℕ) (e : Entry) → slice_get p.entries g ≡ Some e → IsApart e
  entry_apart g e at = differ p.members (slice_get p.members (length p.members - 1)) e (entry_is g e at)

  on_back_end : (a : ℕ) → Near back_ends a → IsBackEnd family a
  on_back_end a near =
      let node = node_is a near.0 in let servers = sys.servers in let low = near.0 in let high = near.1 in
      record { behind = omega (arith, node, low); among = omega (arith, node, high, servers) }

  near_members : Each (Near back_ends) p.members
  near_members =
      Each-of (λ m. Has (λ (a : Area). a.number ≡ m) s.layout.areas) (Near back_ends) p.members (λ m h. near_area back_ends s m sys.state.areas.each h) spread.members_are_areas

  on_route : (e : Entry) → IsEntry p.members (slice_get p.members (length p.members - 1)) e → Each (IsBackEnd family) (route e)
  on_route e is = Each-of (Near back_ends) (IsBackEnd family) (route e) on_back_end (near_route back_ends p.members e near_members is)

  pub route_on_back_ends : (g : ℕ) (e : Entry) → slice_get p.entries g ≡ Some e → Each (IsBackEnd family) (route e)
  route_on_back_ends g e at = on_route e (entry_is g e at)

  pub all_on_back_ends : Each (λ e. Each (IsBackEnd family) (route e)) p.entries
  all_on_back_ends = Each-of (IsEntry p.members (slice_get p.members (length p.members - 1))) (λ e. Each (IsBackEnd family) (route e)) p.entries on_route spread.entries_among

-- ---- rows by key

-- what stands along the route of each key is its row
pub record RowsAre (family : Family) (p : Spread) (row : ℤ → Option (List Value)) : Type 0 where
  pub placed : (node : ℕ) (q : Place) (bytes : List ℕ) → 2 ≤ node → q.space.table ≡ p.number → lookup q (rows_of node family) ≡ Some bytes → IsPlaced p node q
  pub once : (key : ℤ) (a b : ℕ) → slice_get p.entries (group_of key) ≡ Some (Moving a b) → (standing family p.number key a ≡ None) ⊎ (standing family p.number key b ≡ None)
  pub same : (key : ℤ) (e : Entry) → slice_get p.entries (group_of key) ≡ Some e → along family p.number key (route e) ≡ option_map row_bytes (row key)

pub of_table : (family : Family) (p : Spread) (t : Table) → TableRows family t p → RowsAre family p (row_of t)
of_table family p t rows = record { placed = rows.placed; once = rows.once; same = rows.same }

pub to_table : (family : Family) (p : Spread) (t : Table) → RowsAre family p (row_of t) → TableRows family t p
to_table family p t rows = record { placed = rows.placed; once = rows.once; same = rows.same }

-- ---- one key

contains : (a : ℕ) (e : Entry) → IsIn a (route e) → Contains (route e) a
contains a (At x) (inl e) = (0, omega arith, e)
contains a (At x) (inr h) = absurd h
contains a (Moving x y) (inl e) = (0, omega arith, e)
contains a (Moving x y) (inr (inl e)) = (1, omega arith, e)
contains a (Moving x y) (inr (inr h)) = absurd h

same_some : {A : Type 0} (x y : A) → Some x ≡ Some y → x ≡ y
same_some x y h = cc

or_none : {A : Type 0} (o : Option A) → option_or o None ≡ o
or_none None = refl
or_none (Some x) = refl

module _ (family : Family) (p : Spread) (key : ℤ) (e : Entry) (entry : slice_get p.entries (group_of key) ≡ Some e) (apart : IsApart e)
    (a : ℕ) (on : IsIn a (route e)) (back_end : IsBackEnd family a) (row : Option (List ℕ)) where
  abbrev pub change : Change
  change = record { place = place_in a p.number key; row = row }

  abbrev pub after : Family
  after = put_at (node_of_area a) change family

  pub key_aside : IsAside p.number family after
  key_aside = aside_put p.number (node_of_area a) change family back_end.behind refl

  standing_here : standing after p.number key a ≡ row
  standing_here = let two = back_end.behind in at_here (node_of_area a) change family (omega (arith, two)) back_end.among

  pub standing_other : (j : ℤ) (b : ℕ) → (j ≡ key → ⊥) → standing after p.number j b ≡ standing family p.number j b
  standing_other j b n =
      at_other (node_of_area b) (node_of_area a) change family (place_in b p.number j)
      (not_true _ (λ y. n (ap (λ (q : Place). q.key) (same_place-eq (place_in b p.number j) (place_in a p.number key) y))))

  standing_aside : (b : ℕ) → (b ≡ a → ⊥) → standing after p.number key b ≡ standing family p.number key b
  standing_aside b n =
      at_other (node_of_area b) (node_of_area a) change family (place_in b p.number key)
      (not_true _ (λ y. n (ap (λ (q : Place). q.space.area) (same_place-eq (place_in b p.number key) (place_in a p.number key) y))))

  along_other : (j : ℤ) → (j ≡ key → ⊥) → (areas : List ℕ) → along after p.number j areas ≡ along family p.number j areas
  along_other j n [] = refl
  along_other j n (b ∷ more) = ap (λ o. option_or o (along after p.number j more)) (standing_other j b n) ∙ ap (λ o. option_or (standing family p.number j b) o) (along_other j n more)

  module _ (others : (b : ℕ) → IsIn b (route e) → (b ≡ a → ⊥) → standing family p.number key b ≡ None) where
    none_aside : (b : ℕ) → IsIn b (route e) → (b ≡ a → ⊥) → standing after p.number key b ≡ None
    none_aside b i n = standing_aside b n ∙ others b i n

    along_at : (x : ℕ) → x ≡ a → standing after p.number key x ≡ row
    along_at x e = subst (λ z. standing after p.number key z ≡ row) (sym e) standing_here

    -- in the two areas of a route
    along_two : (x y : ℕ) → (x ≡ y → ⊥) → (x ≡ a) ⊎ ((y ≡ a) ⊎ ⊥) → ((b : ℕ) → (x ≡ b) ⊎ ((y ≡ b) ⊎ ⊥) → (b ≡ a → ⊥) → standing after p.number key b ≡ None)
        → option_or (standing after p.number key x) (option_or (standing after p.number key y) None) ≡ row
    along_two x y n (inl is) none =
        let gone : standing after p.number key y ≡ None = none y (inr (inl refl)) (λ h. n (is ∙ sym h)) in
        ap (λ o. option_or (standing after p.number key x) (option_or o None)) gone ∙ or_none (standing after p.number key x) ∙ along_at x is
    along_two x y n (inr (inl is)) none =
        let gone : standing after p.number key x ≡ None = none x (inl refl) (λ h. n (h ∙ sym is)) in
        ap (λ o. option_or o (option_or (standing after p.number key y) None)) gone ∙ or_none (standing after p.number key y) ∙ along_at y is
    along_two x y n (inr (inr h)) none = absurd h

    one_of_two : (x y : ℕ) → (x ≡ y → ⊥) → (x ≡ a) ⊎ ((y ≡ a) ⊎ ⊥) → ((b : ℕ) → (x ≡ b) ⊎ ((y ≡ b) ⊎ ⊥) → (b ≡ a → ⊥) → standing after p.number key b ≡ None)
        → (standing after p.number key x ≡ None) ⊎ (standing after p.number key y ≡ None)
    one_of_two x y n (inl is) none = inr (none y (inr (inl refl)) (λ h. n (is ∙ sym h)))
    one_of_two x y n (inr (inl is)) none = inl (none x (inl refl) (λ h. n (h ∙ sym is)))
    one_of_two x y n (inr (inr h)) none = absurd h

    along_here : (f : Entry) → e ≡ f → along after p.number key (route f) ≡ row
    along_here (At x) is =
        or_none (standing after p.number key x) ∙ along_at x (elim (subst (λ g. IsIn a (route g)) is on) [ inl h ↦ h | inr h ↦ absurd h ])
    along_here (Moving x y) is =
        along_two x y (subst IsApart is apart) (subst (λ g. IsIn a (route g)) is on)
        (λ b i n. none_aside b (subst (λ g. IsIn b (route g)) (sym is) i) n)

    once_here : (x y : ℕ) → e ≡ Moving x y → (standing after p.number key x ≡ None) ⊎ (standing after p.number key y ≡ None)
    once_here x y is =
        one_of_two x y (subst IsApart is apart) (subst (λ g. IsIn a (route g)) is on)
        (λ b i n. none_aside b (subst (λ g. IsIn b (route g)) (sym is) i) n)

    module _ (f g : ℤ → Option (List Value)) (rows : RowsAre family p f) (here : row ≡ option_map row_bytes (g key)) (elsewhere : (j : ℤ) → (j ≡ key → ⊥) → g j ≡ f j) where
      same_after : (j : ℤ) (x : Entry) → slice_get p.entries (group_of j) ≡ Some x → along after p.number j (route x) ≡ option_map row_bytes (g j)
      same_after j x h =
          by_test (int_eq j key)
          (λ y. let is : key ≡ j = sym ((Decides-int_eq j key).0 y) in
          let same : e ≡ x = same_some e x (sym entry ∙ ap (λ k. slice_get p.entries (group_of k)) is ∙ h) in
          subst (λ k. along after p.number k (route x) ≡ option_map row_bytes (g k)) is (along_here x same ∙ here))
          (λ y. let n : j ≡ key → ⊥ = λ q. false≢true (sym y ∙ (Decides-int_eq j key).1 q) in
          along_other j n (route x) ∙ rows.same j x h ∙ ap (option_map row_bytes) (sym (elsewhere j n)))

      once_after : (j : ℤ) (x y : ℕ) → slice_get p.entries (group_of j) ≡ Some (Moving x y) → (standing after p.number j x ≡ None) ⊎ (standing after p.number j y ≡ None)
      once_after j x y h =
          by_test (int_eq j key)
          (λ z. let is : key ≡ j = sym ((Decides-int_eq j key).0 z) in
          let same : e ≡ Moving x y = same_some e (Moving x y) (sym entry ∙ ap (λ k. slice_get p.entries (group_of k)) is ∙ h) in
          subst (λ k. (standing after p.number k x ≡ None) ⊎ (standing after p.number k y ≡ None)) is (once_here x y same))
          (λ z. let n : j ≡ key → ⊥ = λ q. false≢true (sym z ∙ (Decides-int_eq j key).1 q) in
          elim (rows.once j x y h) [ inl k ↦ inl (standing_other j x n ∙ k) | inr k ↦ inr (standing_other j y n ∙ k) ])

      placed_after : (node : ℕ) (q : Place) (bytes : List ℕ) → 2 ≤ node → q.space.table ≡ p.number → lookup q (rows_of node after) ≡ Some bytes → IsPlaced p node q
      placed_after node q bytes two table stands =
          by_test (same_place q (place_in a p.number key))
          (λ y. let is : q ≡ place_in a p.number key = same_place-eq q (place_in a p.number key) y in
          by_test (node == node_of_area a)
          (λ z. subst (λ x. IsPlaced p node x) (sym is) (record { group = refl; on_node = sym ((Decides-eqb node (node_of_area a)).0 z); area = (e, entry, contains a e on) }))
          (λ z. let n : node ≡ node_of_area a → ⊥ = λ h. false≢true (sym z ∙ (Decides-eqb node (node_of_area a)).1 h) in
          rows.placed node q bytes two table (ap (lookup q) (sym (at_elsewhere node (node_of_area a) change family n)) ∙ stands)))
          (λ y. rows.placed node q bytes two table (sym (at_other node (node_of_area a) change family q y) ∙ stands))

      -- the rows are those with this row at the key
      pub key_put : RowsAre after p g
      key_put = record { placed = placed_after; once = once_after; same = same_after }

    pub key_changed : (t u : Table) → TableRows family t p → row ≡ option_map row_bytes (row_of u key) → ((j : ℤ) → (j ≡ key → ⊥) → row_of u j ≡ row_of t j) → TableRows after u p
    key_changed t u rows here elsewhere = to_table after p u (key_put (row_of t) (row_of u) (of_table family p t rows) here elsewhere)
