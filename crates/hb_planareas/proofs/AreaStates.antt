-- A state with one area more is one that the system can have.
use Rattle.std.proofs.Common.{◌≡◌, inl, inr, ℕ, zero, suc, ◌+◌, ◌*◌, ◌≤◌, ◌<◌, List, [], ◌∷◌, length, Some, None, Bool, true, false, cond, not, refl, subst, sym, ap, ◌∙◌, arith}
use Rattle.std.specs.Prelude.{◌||◌, ◌/◌, ◌%◌, ◌==◌, find, fold, count_by, IsTrue}
use Rattle.std.specs.List.{list_any, range_with_len}
use Rattle.std.specs.Ordering.{nat_cmp, is_lt, MatchOrdering, ordering_reverse}
use Rattle.std.specs.Str.{bytes_eq}
use Rattle.std.specs.declared.cmp.Ordering.{Ordering}
use Rattle.std.specs.declared.cmp.Ordering.TheVariants.{Less, Equal, Greater}
use Rattle.std.proofs.lemmas.Bool.{false≢true}
use Rattle.std.proofs.lemmas.Bool.Decides.{Decides-eqb}
use Rattle.std.proofs.lemmas.Cmp.{nat_cmp_total, on_total, ranked}
use Rattle.std.proofs.lemmas.Slice.Eq.{bytes_eq-Decides}
use Rattle.hb_types.specs.Lists.{Ascends, Each, Has, IsIn, has_twins}
use Rattle.hb_types.proofs.Ascending.{Ascends-first, Ascends-tail, Each-of}
use Rattle.hb_types.proofs.PutLaws.{by_test}
use Rattle.hb_model.specs.Define.{areas_of, create_area, new_area}
use Rattle.hb_model.specs.Names.{back_end_name, back_end_named}
use Rattle.hb_model.specs.State.{State, Area, Spread, area_named, with_area}
use Rattle.hb_model.specs.Valid.{AreAreas, IsArea, IsName, IsSpread, IsState}
use Rattle.hb_model.proofs.DictionaryRows.{not_true}
use Rattle.hb_planlaws.proofs.Named.{all_twins_more, find_holds, is_false}
use Rattle.hb_planwrites.proofs.RowsPut.{first_below}

-- ---- a list with one area more

abbrev by_number : Area → Area → Ordering
by_number a b = nat_cmp a.number b.number

each_more : (P : Area → Type 0) (a : Area) (bs : List Area) → P a → Each P bs → Each P (with_area a bs)
each_more P a [] h e = (h, tt)
each_more P a (b ∷ bs) h e = by_test (is_lt (nat_cmp a.number b.number)) (λ t. rw t (h, e)) (λ f. rw f (e.0, each_more P a bs h e.1))

has_more : (P : Area → Type 0) (a : Area) (bs : List Area) → Has P bs → Has P (with_area a bs)
has_more P a [] h = absurd h
has_more P a (b ∷ bs) (inl h) = by_test (is_lt (nat_cmp a.number b.number)) (λ t. rw t (inr (inl h))) (λ f. rw f (inl h))
has_more P a (b ∷ bs) (inr h) = by_test (is_lt (nat_cmp a.number b.number)) (λ t. rw t (inr (inr h))) (λ f. rw f (inr (has_more P a bs h)))

length_more : (a : Area) (bs : List Area) → length (with_area a bs) ≡ length bs + 1
length_more a [] = omega arith
length_more a (b ∷ bs) = by_test (is_lt (nat_cmp a.number b.number)) (λ t. rw t (omega arith)) (λ f. rw f (let e = length_more a bs in omega (arith, e)))

is_less : (o : Ordering) → is_lt o ≡ true → o ≡ Less
is_less Less e = refl
is_less Equal e = absurd (false≢true e)
is_less Greater e = absurd (false≢true e)

equal_at : (n m : ℕ) (o : Ordering) → MatchOrdering o (n < m) (n ≡ m) (m < n) → o ≡ Equal → n ≡ m
equal_at n m Less h e = cc
equal_at n m Equal h e = h
equal_at n m Greater h e = cc

nat_equal : (n m : ℕ) → nat_cmp n m ≡ Equal → n ≡ m
nat_equal n m e = equal_at n m (nat_cmp n m) (ranked n m (nat_cmp n m) refl) e

above : (o : Ordering) (n m : ℕ) → nat_cmp n m ≡ o → is_lt o ≡ false → (m ≡ n → ⊥) → nat_cmp m n ≡ Less
above Less n m h l d = absurd (false≢true (sym l))
above Equal n m h l d = absurd (d (sym (nat_equal n m h)))
above Greater n m h l d = nat_cmp_total.antisymm m n ∙ ap ordering_reverse h

ascends_more : (a : Area) (bs : List Area) → Ascends by_number bs → Each (λ (b : Area). b.number ≡ a.number → ⊥) bs → Ascends by_number (with_area a bs)
ascends_more a [] h e = tt
ascends_more a (b ∷ bs) h e =
    let order = on_total (λ (x : Area). x.number) nat_cmp_total in
    by_test (is_lt (nat_cmp a.number b.number))
    (λ t. rw t (is_less (nat_cmp a.number b.number) t, h))
    (λ f. let below : by_number b a ≡ Less = above (nat_cmp a.number b.number) a.number b.number refl f e.0 in
    rw f (first_below by_number order b (with_area a bs) (each_more (λ x. by_number b x ≡ Less) a bs below (Ascends-first by_number order b bs h)) (ascends_more a bs (Ascends-tail by_number order b bs h) e.1)))

-- ---- names

abbrev alike : Area → Area → Bool
alike a b = bytes_eq a.name b.name

neither : (a b : Bool) → (a || b) ≡ false → (a ≡ false) × (b ≡ false)
neither true b e = absurd (false≢true (sym e))
neither false b e = (refl, e)

both_false : (a b : Bool) → a ≡ false → b ≡ false → (a || b) ≡ false
both_false true b e f = e
both_false false b e f = f

any_more : (p : Area → Bool) (a : Area) (bs : List Area) → p a ≡ false → list_any p bs ≡ false → list_any p (with_area a bs) ≡ false
any_more p a [] h e = both_false (p a) false h refl
any_more p a (b ∷ bs) h e =
    let n = neither (p b) (list_any p bs) e in
    by_test (is_lt (nat_cmp a.number b.number))
    (λ t. rw t (both_false (p a) (p b || list_any p bs) h e))
    (λ f. rw f (both_false (p b) (list_any p (with_area a bs)) n.0 (any_more p a bs h n.1)))

all_unlike : (p : Area → Bool) (bs : List Area) → Each (λ b. p b ≡ false) bs → list_any p bs ≡ false
all_unlike p [] e = refl
all_unlike p (b ∷ bs) e = both_false (p b) (list_any p bs) e.0 (all_unlike p bs e.1)

twins_more : (a : Area) (bs : List Area) → has_twins alike bs ≡ false → Each (λ b. alike a b ≡ false) bs → Each (λ b. alike b a ≡ false) bs → has_twins alike (with_area a bs) ≡ false
twins_more a [] e l r = refl
twins_more a (b ∷ bs) e l r =
    let n = neither (list_any (alike b) bs) (has_twins alike bs) (sym (all_twins_more alike b bs) ∙ e) in
    by_test (is_lt (nat_cmp a.number b.number))
    (λ t. rw t (all_twins_more alike a (b ∷ bs) ∙ both_false (list_any (alike a) (b ∷ bs)) (has_twins alike (b ∷ bs)) (all_unlike (alike a) (b ∷ bs) l) e))
    (λ f. rw f (all_twins_more alike b (with_area a bs)
    ∙ both_false (list_any (alike b) (with_area a bs)) (has_twins alike (with_area a bs)) (any_more (alike b) a bs r.0 n.0) (twins_more a bs n.1 l.1 r.1)))

unnamed : (name : List ℕ) (bs : List Area) → find (λ (b : Area). bytes_eq b.name name) bs ≡ None → Each (λ (b : Area). bytes_eq b.name name ≡ false) bs
unnamed name [] e = tt
unnamed name (b ∷ bs) e =
    by_test (bytes_eq b.name name)
    (λ t. absurd (some_none b (sym (ap (λ x. cond x (Some b) (find (λ (c : Area). bytes_eq c.name name) bs)) t) ∙ e)))
    (λ f. (f, unnamed name bs (sym (ap (λ x. cond x (Some b) (find (λ (c : Area). bytes_eq c.name name) bs)) f) ∙ e)))
  where
    some_none : (x : Area) → Some x ≡ None → ⊥
    some_none x h = cc

-- ---- counts

count_from : (p : Area → Bool) (bs : List Area) (n : ℕ) → fold (λ a (b : Area). a + cond (p b) 1 0) n bs ≡ n + count_by p bs
count_from p [] n = omega arith
count_from p (b ∷ bs) n = let x = count_from p bs (n + cond (p b) 1 0) in let y = count_from p bs (0 + cond (p b) 1 0) in omega (arith, x, y)

count_cons : (p : Area → Bool) (b : Area) (bs : List Area) → count_by p (b ∷ bs) ≡ cond (p b) 1 0 + count_by p bs
count_cons p b bs = let x = count_from p bs (0 + cond (p b) 1 0) in omega (arith, x)

count_more : (p : Area → Bool) (a : Area) (bs : List Area) → count_by p (with_area a bs) ≡ cond (p a) 1 0 + count_by p bs
count_more p a [] = count_cons p a []
count_more p a (b ∷ bs) =
    by_test (is_lt (nat_cmp a.number b.number))
    (λ t. rw t (count_cons p a (b ∷ bs)))
    (λ f. rw f (let x = count_cons p b (with_area a bs) in let y = count_more p a bs in let z = count_cons p b bs in omega (arith, x, y, z)))

one_at_most : (b : Bool) → cond b 1 0 ≤ 1
one_at_most true = omega arith
one_at_most false = omega arith

pub count_few : (p : Area → Bool) (bs : List Area) → count_by p bs ≤ length bs
count_few p [] = omega arith
count_few p (b ∷ bs) = let x = count_cons p b bs in let y = count_few p bs in let z = one_at_most (p b) in omega (arith, x, y, z)

-- ---- the state

quotient : (b k : ℕ) → k < 256 → (256 * b + k) / 256 ≡ b
quotient b k l = omega (arith, l)

remainder : (b k : ℕ) → k < 256 → (256 * b + k) % 256 ≡ k
remainder b k l = omega (arith, l)

range_bounds : (first n : ℕ) (x : ℕ) → IsIn x (range_with_len first n) → (first ≤ x) × (x < first + n)
range_bounds first zero x i = absurd i
range_bounds first (suc n) x (inl e) = (omega (arith, e), omega (arith, e))
range_bounds first (suc n) x (inr i) = let r = range_bounds (first + 1) n x i in (omega (arith, r.0), omega (arith, r.1))

module _ (back_ends : ℕ) (s : State) (is : IsState back_ends s) (name : List ℕ) (b : ℕ) (named : IsName name) (low : 1 ≤ b) (high : b ≤ back_ends)
    (free : area_named s name ≡ None) (few : length s.layout.areas < 64) where
  abbrev added : Area
  added = new_area s name b

  abbrev after : State
  after = create_area s added

  few_on_it : areas_of s b ≤ length s.layout.areas
  few_on_it = count_few (λ a. a.number / 256 == b) s.layout.areas

  its_back_end : added.number / 256 ≡ b
  its_back_end = let l = few_on_it in quotient b (areas_of s b + 1) (omega (arith, l, few))

  its_rank : added.number % 256 ≡ areas_of s b + 1
  its_rank = let l = few_on_it in remainder b (areas_of s b + 1) (omega (arith, l, few))

  pub numbers_apart : Each (λ (a : Area). a.number ≡ added.number → ⊥) s.layout.areas
  numbers_apart =
      Each-of (IsArea back_ends s) (λ (a : Area). a.number ≡ added.number → ⊥) s.layout.areas
      (λ a x e. let quotients : a.number / 256 ≡ b = ap (λ n. n / 256) e ∙ its_back_end in
      let remainders : a.number % 256 ≡ areas_of s b + 1 = ap (λ n. n % 256) e ∙ its_rank in
      let bound : a.number % 256 ≤ areas_of s b = subst (λ n. a.number % 256 ≤ areas_of s n) quotients x.last in
      absurd (omega (arith, remainders, bound))) is.areas.each

  counted : (n : ℕ) → areas_of after n ≡ cond (added.number / 256 == n) 1 0 + areas_of s n
  counted n = count_more (λ a. a.number / 256 == n) added s.layout.areas

  old_area : (a : Area) → IsArea back_ends s a → IsArea back_ends after a
  old_area a x =
      let count = counted (a.number / 256) in
      let last = x.last in
      record { named = x.named; low = x.low; high = x.high; first = x.first; last = omega (arith, count, last) }

  its_count : areas_of after b ≡ areas_of s b + 1
  its_count =
      let same : (added.number / 256 == b) ≡ true = (Decides-eqb (added.number / 256) b).1 its_back_end in
      counted b ∙ ap (λ x. cond x 1 0 + areas_of s b) same ∙ one_more (areas_of s b)
    where
      one_more : (n : ℕ) → 1 + n ≡ n + 1
      one_more n = omega arith

  its_area : IsArea back_ends after added
  its_area =
      let count = its_count in
      record {
        named = named;
        low = subst (λ n. 1 ≤ n) (sym its_back_end) low;
        high = subst (λ n. n ≤ back_ends) (sym its_back_end) high;
        first = subst (λ n. 1 ≤ n) (sym its_rank) (omega arith);
        last = subst (λ n. n ≤ areas_of after (added.number / 256)) (sym its_rank) (subst (λ n. areas_of s b + 1 ≤ areas_of after n) (sym its_back_end) (omega (arith, count)));
      }

  differ : Each (λ a. alike added a ≡ false) s.layout.areas × Each (λ a. alike a added ≡ false) s.layout.areas
  differ =
      let others = unnamed name s.layout.areas free in (
        Each-of (λ (a : Area). bytes_eq a.name name ≡ false) (λ a. alike added a ≡ false) s.layout.areas
            (λ a f. not_true (bytes_eq name a.name) (λ y. false≢true (sym f ∙ (bytes_eq-Decides a.name name).1 (sym ((bytes_eq-Decides name a.name).0 y))))) others,
        others,
      )

  spread_kept : (p : Spread) → IsSpread s p → IsSpread after p
  spread_kept p x = record {
    of_table = x.of_table;
    some_members = x.some_members;
    few_members = x.few_members;
    members_differ = x.members_differ;
    members_are_areas = Each-of (λ m. Has (λ (a : Area). a.number ≡ m) s.layout.areas) (λ m. Has (λ (a : Area). a.number ≡ m) after.layout.areas) p.members
        (λ m h. has_more (λ (a : Area). a.number ≡ m) added s.layout.areas h) x.members_are_areas;
    all_groups = x.all_groups;
    entries_among = x.entries_among;
    fair = x.fair;
  }

  not_twins : (x : Bool) → x ≡ false → IsTrue (not x)
  not_twins x e = ap not e

  areas_after : AreAreas back_ends after
  areas_after =
      let more = length_more added s.layout.areas in
      record {
        few = omega (arith, more, few);
        ascend = ascends_more added s.layout.areas is.areas.ascend numbers_apart;
        names_differ = not_twins (has_twins alike (with_area added s.layout.areas)) (twins_more added s.layout.areas (is_false _ is.areas.names_differ) differ.0 differ.1);
        each = each_more (IsArea back_ends after) added s.layout.areas its_area (Each-of (IsArea back_ends s) (IsArea back_ends after) s.layout.areas old_area is.areas.each);
      }

  pub state_after : IsState back_ends after
  state_after = record {
    areas = areas_after;
    few_tables = is.few_tables;
    tables_ascend = is.tables_ascend;
    tables = is.tables;
    one_spread_each = is.one_spread_each;
    spreads_numbered = is.spreads_numbered;
    spread_names_differ = is.spread_names_differ;
    spreads = Each-of (IsSpread s) (IsSpread after) s.layout.spreads spread_kept is.spreads;
  }

-- the back end of a name is one of those that are there
pub named_among : (back_ends : ℕ) (node : List ℕ) (b : ℕ) → back_end_named back_ends node ≡ Some b → (1 ≤ b) × (b ≤ back_ends)
named_among back_ends node b h =
    let f = find_holds (λ (i : ℕ). bytes_eq (back_end_name i) node) (range_with_len 1 back_ends) b h in
    let r = range_bounds 1 back_ends b f.1 in (r.0, omega (arith, r.1))
