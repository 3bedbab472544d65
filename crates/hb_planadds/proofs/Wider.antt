-- A spread with one area more is one that the system can have.
use Rattle.std.proofs.Common.{◌≡◌, ◌≢◌, ℕ, zero, suc, ◌+◌, ◌*◌, ◌-◌, ◌≤◌, ◌<◌, List, [], ◌∷◌, ◌++◌, length, get_or, Option, Some, Bool, true, false, cond, not, refl, subst, sym, ap, ◌∙◌, arith}
use Rattle.std.specs.Prelude.{◌==◌, ◌||◌, nat_lt, count_by, slice_get, AllPairs, Contains, IsSome, if◌then◌else◌}
use Rattle.std.specs.List.{list_any, AllByRecursion}
use Rattle.std.proofs.lemmas.Bool.{false≢true}
use Rattle.std.proofs.lemmas.Bool.Decides.{Decides-eqb}
use Rattle.std.proofs.lemmas.List.Elements.{All-from_recursion}
use Rattle.std.proofs.lemmas.List.Sums.{sum_by-cons}
use Rattle.hb_types.specs.declared.entry.Entry.{Entry}
use Rattle.hb_types.specs.declared.entry.Entry.TheVariants.{At, Moving}
use Rattle.hb_types.specs.Groups.{entry_after, groups, is_at, is_moving, map_from, quota, reassign, reassigned, target}
use Rattle.hb_types.specs.Lists.{Each, Has, has_twins}
use Rattle.hb_types.proofs.Ascending.{Each-append}
use Rattle.hb_groups.specs.Counts.{IsEvenShare, IsPlaced, count_at}
use Rattle.hb_groups.proofs.Folding.{length-map_from}
use Rattle.hb_groups.proofs.Reassigned.{count-moving, kept_at}
use Rattle.hb_groups.proofs.Shares.{even-enough, quota-even}
use Rattle.hb_model.specs.Define.{spread_with}
use Rattle.hb_model.specs.State.{State, Area, Spread, table_named}
use Rattle.hb_model.specs.Valid.{IsEntry, IsFair, IsSpread, share}
use Rattle.hb_model.proofs.DictionaryRows.{not_true}
use Rattle.hb_planlaws.proofs.Named.{all_twins_more, is_false}
use Rattle.hb_planlaws.proofs.Told.{contained}
use Rattle.hb_plantables.proofs.NewSpread.{all_differ, share_counts}
use Rattle.hb_plantables.proofs.NextState.{length_more}

neither : (a b : Bool) → (a || b) ≡ false → (a ≡ false) × (b ≡ false)
neither true b e = absurd (false≢true (sym e))
neither false b e = (refl, e)

both_false : (a b : Bool) → a ≡ false → b ≡ false → (a || b) ≡ false
both_false true b e f = e
both_false false b e f = f

-- ---- lists of numbers with one more

any_more : (p : ℕ → Bool) (xs : List ℕ) (x : ℕ) → list_any p xs ≡ false → p x ≡ false → list_any p (xs ++ x ∷ []) ≡ false
any_more p [] x e h = both_false (p x) false h refl
any_more p (y ∷ xs) x e h = let n = neither (p y) (list_any p xs) e in both_false (p y) (list_any p (xs ++ x ∷ [])) n.0 (any_more p xs x n.1 h)

abbrev same : ℕ → ℕ → Bool
same a b = a == b

twins_with : (xs : List ℕ) (x : ℕ) → has_twins same xs ≡ false → Each (λ y. (y == x) ≡ false) xs → has_twins same (xs ++ x ∷ []) ≡ false
twins_with [] x e h = refl
twins_with (y ∷ xs) x e h =
    let n = neither (list_any (same y) xs) (has_twins same xs) (sym (all_twins_more same y xs) ∙ e) in
    all_twins_more same y (xs ++ x ∷ []) ∙ both_false (list_any (same y) (xs ++ x ∷ [])) (has_twins same (xs ++ x ∷ [])) (any_more (same y) xs x n.0 h.0) (twins_with xs x n.1 h.1)

pub last_is : (xs : List ℕ) (x : ℕ) → slice_get (xs ++ x ∷ []) (length (xs ++ x ∷ []) - 1) ≡ Some x
last_is xs x =
    let n : length (xs ++ x ∷ []) - 1 ≡ length xs = (let e = length_more xs x in omega (arith, e)) in
    ap (slice_get (xs ++ x ∷ [])) n ∙ at_end xs
  where
    at_end : (ys : List ℕ) → slice_get (ys ++ x ∷ []) (length ys) ≡ Some x
    at_end [] = refl
    at_end (y ∷ ys) = at_end ys

contains_more : (xs : List ℕ) (x a : ℕ) → Contains xs a → Contains (xs ++ x ∷ []) a
contains_more xs x a c = by xs c.0 c.1 c.2
  where
    by : (ys : List ℕ) (k : ℕ) → k < length ys → get_or ys k a ≡ a → Contains (ys ++ x ∷ []) a
    by [] k l e = absurd (omega (arith, l))
    by (y ∷ ys) zero l e = (0, omega arith, e)
    by (y ∷ ys) (suc k) l e = let r = by ys k (omega (arith, l)) e in (suc r.0, (let m = r.1 in omega (arith, m)), r.2)

each_place : (P : ℕ → Type 0) (xs : List ℕ) (i : ℕ) → Each P xs → i < length xs → P (get_or xs i 0)
each_place P [] i e l = absurd (omega (arith, l))
each_place P (x ∷ xs) zero e l = e.0
each_place P (x ∷ xs) (suc i) e l = each_place P xs i e.1 (omega (arith, l))

each_by_place : (P : ℕ → Type 0) (xs : List ℕ) → ((i : ℕ) → i < length xs → P (get_or xs i 0)) → Each P xs
each_by_place P [] h = tt
each_by_place P (x ∷ xs) h = (h 0 (omega arith), each_by_place P xs (λ i l. h (suc i) (omega (arith, l))))

all_of_each : {A : Type 0} (P : A → Type 0) (xs : List A) → Each P xs → AllByRecursion P xs
all_of_each P [] e = tt
all_of_each P (x ∷ xs) e = (e.0, all_of_each P xs e.1)

-- ---- entries

pub placed_of : (members : List ℕ) (last : Option ℕ) (es : List Entry) → Each (IsEntry members last) es → list_any is_moving es ≡ false → Each (IsPlaced members) es
placed_of members last [] e h = tt
placed_of members last (At a ∷ es) e h = (e.0, placed_of members last es e.1 h)
placed_of members last (Moving a b ∷ es) e h = absurd (false≢true (sym h))

-- a group stays in its area or moves from it to the new one
abbrev pub IsGiven : List ℕ → ℕ → Entry → Type 0
IsGiven members new (At a) = Contains members a
IsGiven members new (Moving a b) = Contains members a × (b ≡ new)

given : (members : List ℕ) (new c q : ℕ) (e : Entry) → IsPlaced members e → IsGiven members new (reassigned c q new e)
given members new c q (At a) h = by (nat_lt c q)
  where
    by : (b : Bool) → IsGiven members new (if b then At a else Moving a new)
    by true = h
    by false = (h, refl)
given members new c q (Moving a b) h = absurd h

each_from : {A B : Type 0} (P : A → Type 0) (Q : B → Type 0) (f : ℕ → A → B) → ((n : ℕ) (x : A) → P x → Q (f n x)) → (n : ℕ) (xs : List A) → Each P xs → Each Q (map_from f n xs)
each_from P Q f h n [] e = tt
each_from P Q f h n (x ∷ xs) e = (h n x e.0, each_from P Q f h (n + 1) xs e.1)

pub all_given : (members : List ℕ) (new : ℕ) (es : List Entry) → Each (IsPlaced members) es → Each (IsGiven members new) (reassign es members new)
all_given members new es e = each_from (IsPlaced members) (IsGiven members new) (entry_after es members new) (λ n x h. given members new _ _ x h) 0 es e

abbrev bit : Bool → ℕ
bit b = cond b 1 0

share_of_old : (members : List ℕ) (new area : ℕ) (es : List Entry) → (new == area) ≡ false → Each (IsGiven members new) es → count_by (λ e. target e == area) es ≡ count_at es area
share_of_old members new area [] apart h = refl
share_of_old members new area (At a ∷ es) apart h =
    let one = sum_by-cons (λ e. bit (target e == area)) (At a) es in
    let two = sum_by-cons (λ e. bit (is_at area e)) (At a) es in
    one ∙ ap (λ n. bit (a == area) + n) (share_of_old members new area es apart h.1) ∙ sym two
share_of_old members new area (Moving a b ∷ es) apart h =
    let one = sum_by-cons (λ e. bit (target e == area)) (Moving a b) es in
    let two = sum_by-cons (λ e. bit (is_at area e)) (Moving a b) es in
    let none : bit (b == area) ≡ 0 = ap (λ n. bit (n == area)) h.0.1 ∙ ap bit apart in
    one ∙ ap (λ n. n + count_by (λ e. target e == area) es) none ∙ ap (λ n. 0 + n) (share_of_old members new area es apart h.1) ∙ sym two

share_of_new : (members : List ℕ) (new : ℕ) (es : List Entry) → Each (λ m. (m == new) ≡ false) members → Each (IsGiven members new) es → count_by (λ e. target e == new) es ≡ count_by is_moving es
share_of_new members new [] apart h = refl
share_of_new members new (At a ∷ es) apart h =
    let one = sum_by-cons (λ e. bit (target e == new)) (At a) es in
    let two = sum_by-cons (λ e. bit (is_moving e)) (At a) es in
    let none : bit (a == new) ≡ 0 = ap bit (contained (λ m. (m == new) ≡ false) members a apart h.0) in
    one ∙ ap (λ n. n + count_by (λ e. target e == new) es) none ∙ ap (λ n. 0 + n) (share_of_new members new es apart h.1) ∙ sym two
share_of_new members new (Moving a b ∷ es) apart h =
    let one = sum_by-cons (λ e. bit (target e == new)) (Moving a b) es in
    let two = sum_by-cons (λ e. bit (is_moving e)) (Moving a b) es in
    let some : bit (b == new) ≡ 1 = ap bit ((Decides-eqb b new).1 h.0.1) in
    one ∙ ap (λ n. n + count_by (λ e. target e == new) es) some ∙ ap (λ n. 1 + n) (share_of_new members new es apart h.1) ∙ sym two

given_among : (members : List ℕ) (new : ℕ) (es : List Entry) → Each (λ m. (m == new) ≡ false) members → Each (IsGiven members new) es
    → Each (IsEntry (members ++ new ∷ []) (slice_get (members ++ new ∷ []) (length (members ++ new ∷ []) - 1))) es
given_among members new [] apart h = tt
given_among members new (At a ∷ es) apart h = (contains_more members new a h.0, given_among members new es apart h.1)
given_among members new (Moving a b ∷ es) apart h = (
  (
    contains_more members new a h.0.0,
    (λ e. false≢true (sym (contained (λ m. (m == new) ≡ false) members a apart h.0.0) ∙ (Decides-eqb a new).1 (e ∙ h.0.1))),
    last_is members new ∙ ap (λ n. Some n) (sym h.0.1),
  ),
  given_among members new es apart h.1,
)

-- ---- the spread

fair_by : (p : Spread) (area i : ℕ) → share p area ≡ quota i (length p.members) → i < length p.members → length p.members ≤ 16 → IsFair p area
fair_by p area i is l few =
    let e = quota-even (length p.members) i l few in
    subst (λ n. (n * length p.members < groups + length p.members) × (groups < n * length p.members + length p.members)) (sym is) (e.1, e.0)

others_apart : (new : ℕ) (ms : List ℕ) → list_any (λ n. new == n) ms ≡ false → Each (λ m. (m == new) ≡ false) ms
others_apart new [] e = tt
others_apart new (m ∷ ms) e =
    let n = neither (new == m) (list_any (λ k. new == k) ms) e in
    (not_true (m == new) (λ y. false≢true (sym n.0 ∙ (Decides-eqb new m).1 (sym ((Decides-eqb m new).0 y)))), others_apart new ms n.1)

module _ (s : State) (p : Spread) (is : IsSpread s p) (new : ℕ) (still : list_any is_moving p.entries ≡ false) (fresh : list_any (λ n. new == n) p.members ≡ false) (few : length p.members < 16) where
  abbrev wider : Spread
  wider = spread_with p new

  pub apart : Each (λ m. (m == new) ≡ false) p.members
  apart = others_apart new p.members fresh

  pub placed : Each (IsPlaced p.members) p.entries
  placed = placed_of p.members (slice_get p.members (length p.members - 1)) p.entries is.entries_among still

  pub all_are_given : Each (IsGiven p.members new) wider.entries
  all_are_given = all_given p.members new p.entries placed

  distinct : AllPairs (λ (a b : ℕ). a ≢ b) p.members
  distinct = all_differ p.members (is_false _ is.members_differ)

  even : (i : ℕ) → i < length p.members → IsEvenShare (count_at p.entries (get_or p.members i 0)) (length p.members)
  even i l =
      let f = each_place (IsFair p) p.members i is.fair l in
      subst (λ n. IsEvenShare n (length p.members)) (share_counts p.members (get_or p.members i 0) p.entries placed) (f.1, f.0)

  enough : (i : ℕ) → i < length p.members → quota i (length p.members + 1) ≤ count_at p.entries (get_or p.members i 0)
  enough i l = even-enough (length p.members) i (count_at p.entries (get_or p.members i 0)) l (omega (arith, few)) (even i l)

  one_more : length wider.members ≡ length p.members + 1
  one_more = length_more p.members new

  fair_old : (i : ℕ) → i < length p.members → IsFair wider (get_or p.members i 0)
  fair_old i l =
      let area = get_or p.members i 0 in
      let m = one_more in
      let away : (new == area) ≡ false =
      not_true (new == area) (λ y. false≢true (sym (each_place (λ k. (k == new) ≡ false) p.members i apart l) ∙ (Decides-eqb area new).1 (sym ((Decides-eqb new area).0 y)))) in
      fair_by wider area i
      (share_of_old p.members new area wider.entries away all_are_given ∙ kept_at p.entries p.members new i distinct l (enough i l) ∙ ap (λ n. quota i n) (sym m))
      (omega (arith, m, l)) (omega (arith, m, few))

  fair_new : IsFair wider new
  fair_new =
      let m = one_more in
      fair_by wider new (length p.members)
      (share_of_new p.members new wider.entries apart all_are_given
      ∙ count-moving p.entries p.members new distinct (omega (arith, few)) is.all_groups (All-from_recursion (IsPlaced p.members) p.entries (all_of_each (IsPlaced p.members) p.entries placed)) enough
      ∙ ap (λ n. quota (length p.members) n) (sym m))
      (omega (arith, m)) (omega (arith, m, few))

  -- in a state that has its table and its areas
  pub wider_is : (t : State) → IsSome (table_named t p.name) → Each (λ m. Has (λ (a : Area). a.number ≡ m) t.layout.areas) p.members → Has (λ (a : Area). a.number ≡ new) t.layout.areas
      → IsSpread t wider
  wider_is t of_table areas there =
      let m = one_more in
      record {
        of_table = of_table;
        some_members = omega (arith, m);
        few_members = omega (arith, m, few);
        members_differ = ap not (twins_with p.members new (is_false _ is.members_differ) apart);
        members_are_areas = Each-append (λ n. Has (λ (a : Area). a.number ≡ n) t.layout.areas) p.members (new ∷ []) areas (there, tt);
        all_groups = length-map_from (entry_after p.entries p.members new) 0 p.entries ∙ is.all_groups;
        entries_among = given_among p.members new wider.entries apart all_are_given;
        fair = Each-append (IsFair wider) p.members (new ∷ []) (each_by_place (IsFair wider) p.members fair_old) (fair_new, tt);
      }
