-- The spread of a new table, with areas that are there, is one that the system can have.
use Rattle.std.proofs.Common.{◌≡◌, ◌≢◌, inl, inr, ℕ, zero, suc, ◌+◌, ◌*◌, ◌-◌, ◌≤◌, ◌<◌, List, [], ◌∷◌, length, get_or, Option, Some, None, Bool, true, false, cond, not, refl, subst, sym, ap, ◌∙◌, arith}
use Rattle.std.specs.Prelude.{◌==◌, ◌/◌, ◌||◌, count_by, find, is_none, option_map, slice_get, All, AllPairs, IsSome}
use Rattle.std.specs.List.{list_any, AllByRecursion}
use Rattle.std.specs.Ordering.{nat_cmp}
use Rattle.std.specs.Str.{bytes_eq}
use Rattle.std.specs.declared.cmp.Ordering.{Ordering}
use Rattle.std.specs.declared.cmp.Ordering.TheVariants.{Less}
use Rattle.std.proofs.lemmas.Bool.{false≢true}
use Rattle.std.proofs.lemmas.Bool.Decides.{Decides-eqb}
use Rattle.std.proofs.lemmas.Cmp.{nat_cmp_total, on_total}
use Rattle.std.proofs.lemmas.List.Folds.{list_any_at}
use Rattle.std.proofs.lemmas.List.Kept.{AllPairs-cons}
use Rattle.std.proofs.lemmas.List.Sums.{sum_by-cons}
use Rattle.std.proofs.lemmas.Slice.Eq.{bytes_eq-Decides}
use Rattle.hb_types.specs.declared.entry.Entry.{Entry}
use Rattle.hb_types.specs.declared.entry.Entry.TheVariants.{At, Moving}
use Rattle.hb_types.specs.Groups.{groups, is_at, target}
use Rattle.hb_types.specs.Lists.{Ascends, Each, Has, IsIn, has_twins}
use Rattle.hb_types.specs.Places.{node_of_area}
use Rattle.hb_types.proofs.Ascending.{Ascends-first, Ascends-tail, Has-of, in_Each, irreflexive, pick}
use Rattle.hb_groups.specs.Counts.{IsEvenShare, IsPlaced, count_at}
use Rattle.hb_model.specs.Define.{numbers_of}
use Rattle.hb_model.specs.State.{State, Area, Spread, area_named, table_named}
use Rattle.hb_model.specs.Valid.{IsArea, IsEntry, IsFair, IsSpread, share}
use Rattle.hb_model.proofs.DictionaryRows.{not_true}
use Rattle.hb_planlaws.proofs.Named.{all_twins_more, find_holds}
use Rattle.hb_planlaws.proofs.Told.{contained}
use Rattle.hb_plantables.proofs.NextSystem.{IsSettled}

neither : (a b : Bool) → (a || b) ≡ false → (a ≡ false) × (b ≡ false)
neither true b e = absurd (false≢true (sym e))
neither false b e = (refl, e)

both_false : (a b : Bool) → a ≡ false → b ≡ false → (a || b) ≡ false
both_false true b e f = e
both_false false b e f = f

-- ---- areas by number

abbrev pub by_number : Area → Area → Ordering
by_number a b = nat_cmp a.number b.number

number_found : (areas : List Area) → Ascends by_number areas → (a : Area) → IsIn a areas → find (λ (x : Area). x.number == a.number) areas ≡ Some a
number_found [] h a i = absurd i
number_found (b ∷ areas) h a (inl e) =
    subst (λ (x : Area). find (λ (y : Area). y.number == x.number) (b ∷ areas) ≡ Some x) e (rw ((Decides-eqb b.number b.number).1 refl) refl)
number_found (b ∷ areas) h a (inr i) =
    let order = on_total (λ (x : Area). x.number) nat_cmp_total in
    let below : nat_cmp b.number a.number ≡ Less = in_Each (λ (y : Area). nat_cmp b.number y.number ≡ Less) a areas i (Ascends-first by_number order b areas h) in
    let apart : (b.number == a.number) ≡ false =
    not_true (b.number == a.number) (λ y. irreflexive nat_cmp nat_cmp_total a.number (subst (λ n. nat_cmp n a.number ≡ Less) ((Decides-eqb b.number a.number).0 y) below)) in
    rw apart (number_found areas (Ascends-tail by_number order b areas h) a i)

some_of : {A : Type 0} (x y : A) → Some x ≡ Some y → x ≡ y
some_of x y h = cc

one_of_number : (areas : List Area) → Ascends by_number areas → (a b : Area) → IsIn a areas → IsIn b areas → a.number ≡ b.number → a ≡ b
one_of_number areas h a b i j e =
    some_of a b (sym (number_found areas h a i) ∙ ap (λ n. find (λ (x : Area). x.number == n) areas) e ∙ number_found areas h b j)

-- ---- the areas of the names

there : {A : Type 0} (o : Option A) → is_none o ≡ false → (x : A) × (o ≡ Some x)
there None h = absurd (false≢true (sym h))
there (Some x) h = (x, refl)

module _ (s : State) (ascend : Ascends by_number s.layout.areas) where
  abbrev number_named : List ℕ → Option ℕ
  number_named name = option_map (λ (a : Area). a.number) (area_named s name)

  abbrev pub are_there : List (List ℕ) → Type 0
  are_there names = list_any (λ name. is_none (area_named s name)) names ≡ false

  record IsNamed (name : List ℕ) (names : List (List ℕ)) : Type 0 where
    area : Area
    among : IsIn area s.layout.areas
    its_name : area.name ≡ name
    numbers : numbers_of s (name ∷ names) ≡ area.number ∷ numbers_of s names
    more : are_there names

  named : (name : List ℕ) (names : List (List ℕ)) → are_there (name ∷ names) → IsNamed name names
  named name names h =
      let n = neither (is_none (area_named s name)) (list_any (λ x. is_none (area_named s x)) names) h in
      let a = there (area_named s name) n.0 in
      let f = find_holds (λ (x : Area). bytes_eq x.name name) s.layout.areas a.0 a.1 in
      let got : number_named name ≡ Some a.0.number = ap (option_map (λ (x : Area). x.number)) a.1 in
      record { area = a.0; among = f.1; its_name = (bytes_eq-Decides a.0.name name).0 f.0; numbers = kept names got; more = n.1 }
    where
      kept : (xs : List (List ℕ)) {m : ℕ} → number_named name ≡ Some m → numbers_of s (name ∷ xs) ≡ m ∷ numbers_of s xs
      kept xs h = rw h refl

  pub length_numbers : (names : List (List ℕ)) → are_there names → length (numbers_of s names) ≡ length names
  length_numbers [] h = refl
  length_numbers (name ∷ names) h =
      let n = named name names h in
      ap (λ xs. length xs) n.numbers ∙ ap (λ k. suc k) (length_numbers names n.more)

  abbrev pub IsArea-of : ℕ → Type 0
  IsArea-of m = Has (λ (a : Area). a.number ≡ m) s.layout.areas

  pub numbers_there : (names : List (List ℕ)) → are_there names → Each IsArea-of (numbers_of s names)
  numbers_there [] h = tt
  numbers_there (name ∷ names) h =
      let n = named name names h in
      subst (Each IsArea-of) (sym n.numbers)
      (Has-of (λ (a : Area). a ≡ n.area) (λ (a : Area). a.number ≡ n.area.number) s.layout.areas (λ a e. ap (λ (x : Area). x.number) e) n.among, numbers_there names n.more)

  unlike : (a : Area) → IsIn a s.layout.areas → (names : List (List ℕ)) → are_there names → list_any (bytes_eq a.name) names ≡ false
      → list_any (λ m. a.number == m) (numbers_of s names) ≡ false
  unlike a i [] h e = refl
  unlike a i (name ∷ names) h e =
      let n = named name names h in
      let f = neither (bytes_eq a.name name) (list_any (bytes_eq a.name) names) e in
      let apart : (a.number == n.area.number) ≡ false =
      not_true (a.number == n.area.number) (λ y. let same : a ≡ n.area = one_of_number s.layout.areas ascend a n.area i n.among ((Decides-eqb a.number n.area.number).0 y) in
      false≢true (sym f.0 ∙ (bytes_eq-Decides a.name name).1 (ap (λ (x : Area). x.name) same ∙ n.its_name))) in
      ap (list_any (λ m. a.number == m)) n.numbers ∙ both_false (a.number == n.area.number) (list_any (λ m. a.number == m) (numbers_of s names)) apart (unlike a i names n.more f.1)

  pub numbers_differ : (names : List (List ℕ)) → are_there names → has_twins bytes_eq names ≡ false → has_twins (λ (a b : ℕ). a == b) (numbers_of s names) ≡ false
  numbers_differ [] h e = refl
  numbers_differ (name ∷ names) h e =
      let n = named name names h in
      let f = neither (list_any (bytes_eq name) names) (has_twins bytes_eq names) (sym (all_twins_more bytes_eq name names) ∙ e) in
      ap (has_twins (λ (a b : ℕ). a == b)) n.numbers ∙ all_twins_more (λ (a b : ℕ). a == b) n.area.number (numbers_of s names)
      ∙ both_false (list_any (λ m. n.area.number == m) (numbers_of s names)) (has_twins (λ (a b : ℕ). a == b) (numbers_of s names))
      (unlike n.area n.among names n.more (subst (λ x. list_any (bytes_eq x) names ≡ false) (sym n.its_name) f.0)) (numbers_differ names n.more f.1)

-- ---- numbers that differ

none_like : (m : ℕ) (ms : List ℕ) → list_any (λ (n : ℕ). m == n) ms ≡ false → All (λ (n : ℕ). m ≢ n) ms
none_like m ms is = λ k d lt e. false≢true (sym is ∙ list_any_at (λ (n : ℕ). m == n) ms k d lt ((Decides-eqb m (get_or ms k d)).1 e))

pub all_differ : (ms : List ℕ) → has_twins (λ (a b : ℕ). a == b) ms ≡ false → AllPairs (λ (a b : ℕ). a ≢ b) ms
all_differ [] is = λ i j d lt below. absurd (omega arith)
all_differ (m ∷ ms) is =
    let apart = neither (list_any (λ (n : ℕ). m == n) ms) (has_twins (λ (a b : ℕ). a == b) ms) (sym (all_twins_more (λ (a b : ℕ). a == b) m ms) ∙ is) in
    AllPairs-cons (λ (a b : ℕ). a ≢ b) m ms (none_like m ms apart.0) (all_differ ms apart.1)

-- ---- entries and shares

pub each_of_all : {A : Type 0} (P : A → Type 0) (xs : List A) → AllByRecursion P xs → Each P xs
each_of_all P [] h = tt
each_of_all P (x ∷ xs) h = (h.0, each_of_all P xs h.1)

placed_among : (members : List ℕ) (last : Option ℕ) (es : List Entry) → Each (IsPlaced members) es → Each (IsEntry members last) es
placed_among members last [] h = tt
placed_among members last (At a ∷ es) h = (h.0, placed_among members last es h.1)
placed_among members last (Moving a b ∷ es) h = absurd h.0

abbrev bit : Bool → ℕ
bit b = cond b 1 0

pub share_counts : (members : List ℕ) (area : ℕ) (es : List Entry) → Each (IsPlaced members) es → count_by (λ e. target e == area) es ≡ count_at es area
share_counts members area [] h = refl
share_counts members area (At a ∷ es) h =
    let one = sum_by-cons (λ e. bit (target e == area)) (At a) es in
    let two = sum_by-cons (λ e. bit (is_at area e)) (At a) es in
    let rest = share_counts members area es h.1 in
    one ∙ ap (λ n. bit (a == area) + n) rest ∙ sym two
share_counts members area (Moving a b ∷ es) h = absurd h.0

each_by_place : (P : ℕ → Type 0) (xs : List ℕ) → ((i : ℕ) → i < length xs → P (get_or xs i 0)) → Each P xs
each_by_place P [] h = tt
each_by_place P (x ∷ xs) h = (h 0 (omega arith), each_by_place P xs (λ i l. h (suc i) (omega (arith, l))))

fair_of : (p : Spread) → Each (IsPlaced p.members) p.entries → ((i : ℕ) → i < length p.members → IsEvenShare (count_at p.entries (get_or p.members i 0)) (length p.members))
    → Each (IsFair p) p.members
fair_of p placed even =
    each_by_place (IsFair p) p.members
    (λ i l. let same : share p (get_or p.members i 0) ≡ count_at p.entries (get_or p.members i 0) = share_counts p.members (get_or p.members i 0) p.entries placed in
    let e = even i l in
    subst (λ n. (n * length p.members < groups + length p.members) × (groups < n * length p.members + length p.members)) (sym same) (e.1, e.0))

-- a spread of groups that lie in areas that are there
pub is_spread : (s : State) (p : Spread) → IsSome (table_named s p.name) → 1 ≤ length p.members → length p.members ≤ 16 → has_twins (λ (a b : ℕ). a == b) p.members ≡ false
    → Each (λ m. Has (λ (a : Area). a.number ≡ m) s.layout.areas) p.members → length p.entries ≡ groups → Each (IsPlaced p.members) p.entries
    → ((i : ℕ) → i < length p.members → IsEvenShare (count_at p.entries (get_or p.members i 0)) (length p.members)) → IsSpread s p
is_spread s p of_table some few differ areas full placed even = record {
  of_table = of_table;
  some_members = some;
  few_members = few;
  members_differ = ap not differ;
  members_are_areas = areas;
  all_groups = full;
  entries_among = placed_among p.members (slice_get p.members (length p.members - 1)) p.entries placed;
  fair = fair_of p placed even;
}

-- ---- settled groups

pub near : (back_ends : ℕ) (s : State) (m : ℕ) → Each (IsArea back_ends s) s.layout.areas → Has (λ (a : Area). a.number ≡ m) s.layout.areas → 2 ≤ node_of_area m
near back_ends s m each h =
    let b = pick (λ (a : Area). a.number ≡ m) (IsArea back_ends s) s.layout.areas h each in
    let low : 1 ≤ m / 256 = subst (λ n. 1 ≤ n / 256) b.one b.other.low in
    let is : node_of_area m ≡ m / 256 + 1 = rw (not_true (m == 0) (λ y. let e : m ≡ 0 = (Decides-eqb m 0).0 y in omega (arith, e, low))) refl in
    omega (arith, is, low)

pub settled_at : (members : List ℕ) (es : List Entry) → Each (λ m. 2 ≤ node_of_area m) members → Each (IsPlaced members) es → (g : ℕ) (e : Entry) → slice_get es g ≡ Some e → IsSettled e
settled_at members [] far placed g e h = cc
settled_at members (At a ∷ es) far placed zero e h =
    let same : At a ≡ e = cc in
    subst IsSettled same (contained (λ m. 2 ≤ node_of_area m) members a far placed.0)
settled_at members (Moving a b ∷ es) far placed zero e h = absurd placed.0
settled_at members (x ∷ es) far placed (suc g) e h = settled_at members es far placed.1 g e h
