-- Owners apart: a caller's transactions stand in its list by their numbers.
use Rattle.std.proofs.Common.{◌≡◌, ◌∙◌, ℕ, zero, suc, ◌+◌, ◌<◌, ◌⊎◌, List, [], ◌∷◌, ◌++◌, Some, ap, append-nil, arith, inl, inr, length, map, refl, subst, sym}
use Rattle.std.specs.Prelude.{slice_get, if◌then◌else◌}
use Rattle.std.specs.Ordering.{nat_cmp}
use Rattle.std.specs.declared.cmp.Ordering.TheVariants.{Less}
use Rattle.std.proofs.lemmas.Cmp.{nat_cmp_total}
use Rattle.hb_types.specs.declared.answer.Answer.{Answer}
use Rattle.hb_types.specs.declared.answer.Answer.TheVariants as answer
use Rattle.hb_types.specs.declared.names.Owner.{Owner}
use Rattle.hb_types.specs.declared.trail.Call.{Call}
use Rattle.hb_types.specs.Lists.{Ascends, IsIn}
use Rattle.hb_types.proofs.Ascending.{Ascends-first, Ascends-tail, in_Each}
use Rattle.hb_model.specs.Items.{Item, calls_of}
use Rattle.hb_disks.specs.Images.{Logs}
use Rattle.hb_law.specs.Callers.{begun_count, is_begun}
use Rattle.hb_law.specs.Histories.{Labelled, Trails}
use Rattle.hb_law.specs.Transactions.{AreTxns, IsTxnOf, OwnersApart, Txn, begins_of, begun_in, caller_of}
use Rattle.hb_coordlaws.specs.Ascending.{TransactionsAscend}
use Rattle.hb_parts.specs.Callings.{Callings}
use Rattle.hb_whose.proofs.Currents.{begins_append}
use Rattle.hb_whose.proofs.Owners.{begins_ascend, same_caller}
use Rattle.hb_whose.proofs.Parts.{none_some, some_is}
use Rattle.hb_whose.proofs.Told.{less_is}
use Rattle.hb_whose.proofs.Trailing.{same_got}
use Rattle.hb_ends.proofs.Belonging.{begun_here, its_list, list_is}

-- ---- places in a list that ascends

got_in : (xs : List ℕ) (i x : ℕ) → slice_get xs i ≡ Some x → IsIn x xs
got_in [] i x h = absurd (none_some x h)
got_in (y ∷ ys) zero x h = inl (some_is y x h)
got_in (y ∷ ys) (suc i) x h = inr (got_in ys i x h)

got_behind : (xs : List ℕ) (t : ℕ) (ys : List ℕ) → slice_get (xs ++ t ∷ ys) (length xs) ≡ Some t
got_behind [] t ys = refl
got_behind (x ∷ xs) t ys = got_behind xs t ys

later_is_more : (xs : List ℕ) (i j x y : ℕ) → Ascends nat_cmp xs → slice_get xs i ≡ Some x → slice_get xs j ≡ Some y → i < j → x < y
later_is_more [] i j x y a p q lt = absurd (none_some x p)
later_is_more (z ∷ zs) zero zero x y a p q lt = absurd (omega (arith, lt))
later_is_more (z ∷ zs) zero (suc j) x y a p q lt =
    subst (λ v. v < y) (some_is z x p) (less_is z y (in_Each (λ v. nat_cmp z v ≡ Less) y zs (got_in zs j y q) (Ascends-first nat_cmp nat_cmp_total z zs a)))
later_is_more (z ∷ zs) (suc i) zero x y a p q lt = absurd (omega (arith, lt))
later_is_more (z ∷ zs) (suc i) (suc j) x y a p q lt = later_is_more zs i j x y (Ascends-tail nat_cmp nat_cmp_total z zs a) p q (omega (arith, lt))

irreflexive_less : (x : ℕ) → x < x → ⊥
irreflexive_less x h = omega (arith, h)

one_place : (xs : List ℕ) (i j x : ℕ) → Ascends nat_cmp xs → slice_get xs i ≡ Some x → slice_get xs j ≡ Some x → i ≡ j
one_place xs i j x a p q = by (kinds i j)
  where
    kinds : (a b : ℕ) → (a < b) ⊎ (a ≡ b) ⊎ (b < a)
    kinds a b = grind arith

    by : (i < j) ⊎ (i ≡ j) ⊎ (j < i) → i ≡ j
    by (inl lt) = absurd (irreflexive_less x (later_is_more xs i j x x a p q lt))
    by (inr (inl e)) = e
    by (inr (inr gt)) = absurd (irreflexive_less x (later_is_more xs j i x x a q p gt))

-- ---- how many were begun

one_counts : (a : Answer) (n : ℕ) (l : List ℕ) → n ≡ length l → (if is_begun a then n + 1 else n) ≡ length (begun_in a ++ l)
one_counts (answer.Begun tx) n l e = ap (λ z. z + 1) e ∙ suc_is (length l)
  where
    suc_is : (j : ℕ) → j + 1 ≡ suc j
    suc_is j = omega arith
one_counts a n l e = e

counts_begins : (calls : List Call) → begun_count calls ≡ length (begins_of calls)
counts_begins [] = refl
counts_begins (c ∷ cs) = one_counts c.answer (begun_count cs) (begins_of cs) (counts_begins cs)

-- ---- a transaction's place among those of its caller

pub record Place (lists : List (List Call)) (t : Txn) : Type 0 where
  pub list : List Call
  pub its_list : slice_get lists (caller_of t.owner) ≡ Some list
  pub place : ℕ
  pub nth : t.owner.nth ≡ place + 1
  pub at_place : slice_get (begins_of list) place ≡ Some t.tx
  pub begun : IsIn t.tx (begins_of list)

begins_are : (t : ℕ) (f p : List Call) (b : Call) (rest : List Call) → begins_of p ≡ [] → begins_of (b ∷ []) ≡ t ∷ []
    → begins_of ((f ++ p) ++ b ∷ rest) ≡ begins_of f ++ t ∷ begins_of rest
begins_are t f p b rest none begun =
    begins_append (f ++ p) (b ∷ rest)
    ∙ ap (λ l. l ++ begins_of (b ∷ rest)) (begins_append f p ∙ ap (λ l. begins_of f ++ l) none ∙ append-nil (begins_of f))
    ∙ ap (λ l. begins_of f ++ l) (begins_append (b ∷ []) rest ∙ ap (λ l. l ++ begins_of rest) begun)

owner_is : (o p : Owner) → o.session ≡ p.session → o.nth ≡ p.nth → o ≡ p
owner_is o p e f = λ i. record { session = e i; nth = f i }

less_one : (a b c d : ℕ) → a ≡ c + 1 → b ≡ d + 1 → a < b → c < d
less_one a b c d e f h = omega (arith, e, f, h)

same_less_one : (a b c d : ℕ) → a ≡ c + 1 → b ≡ d + 1 → a ≡ b → c ≡ d
same_less_one a b c d e f h = omega (arith, e, f, h)

less_one_same : (a b : ℕ) → a + 1 ≡ b + 1 → a ≡ b
less_one_same a b h = omega (arith, h)

module _ (ta : TransactionsAscend) (base logs : Logs) (trails : Trails) (lists : List (List Item)) (fes : List Labelled) (k : Callings base logs trails (map calls_of lists))
    (at : slice_get trails 0 ≡ Some fes) where
  placed : (t : Txn) → IsTxnOf lists t → Place (map calls_of lists) t
  placed t x =
      let begins : begins_of (calls_of (x.front ++ x.stretch ++ x.back)) ≡ begins_of (calls_of x.front) ++ t.tx ∷ begins_of ((x.begins.more ++ calls_of x.others) ++ calls_of x.back) =
      ap begins_of (list_is ta base logs trails lists fes k at t x)
      ∙ begins_are t.tx (calls_of x.front) x.begins.before x.begins.begin ((x.begins.more ++ calls_of x.others) ++ calls_of x.back) x.begins.none_before x.begins.begun in
      record {
        list = calls_of (x.front ++ x.stretch ++ x.back);
        its_list = its_list ta base logs trails lists fes k at t x;
        place = begun_count (calls_of x.front);
        nth = x.counted;
        at_place =
            ap (λ l. slice_get l (begun_count (calls_of x.front))) begins
            ∙ ap (λ n. slice_get (begins_of (calls_of x.front) ++ t.tx ∷ begins_of ((x.begins.more ++ calls_of x.others) ++ calls_of x.back)) n) (counts_begins (calls_of x.front))
            ∙ got_behind (begins_of (calls_of x.front)) t.tx (begins_of ((x.begins.more ++ calls_of x.others) ++ calls_of x.back));
        begun = begun_here ta base logs trails lists fes k at t x;
      }

  module _ (t u : Txn) (p : Place (map calls_of lists) t) (q : Place (map calls_of lists) u) where
    -- the first one's place, in the second one's list
    moved : t.owner.session ≡ u.owner.session → slice_get (begins_of q.list) p.place ≡ Some t.tx
    moved e =
        subst (λ l. slice_get (begins_of l) p.place ≡ Some t.tx)
        (same_got (map calls_of lists) (caller_of t.owner) (caller_of u.owner) p.list q.list p.its_list q.its_list (ap (λ z. z + 1) e)) p.at_place

    ascends : Ascends nat_cmp (begins_of q.list)
    ascends = begins_ascend ta base logs trails (map calls_of lists) k fes at (caller_of u.owner) q.list q.its_list

    one_tx : t.owner ≡ u.owner → t.tx ≡ u.tx
    one_tx e =
        some_is t.tx u.tx
        (sym (moved (ap (λ o. o.session) e)) ∙ ap (λ n. slice_get (begins_of q.list) n) (same_less_one t.owner.nth u.owner.nth p.place q.place p.nth q.nth (ap (λ o. o.nth) e)) ∙ q.at_place)

    ascend : t.owner.session ≡ u.owner.session → t.owner.nth < u.owner.nth → t.tx < u.tx
    ascend e lt = later_is_more (begins_of q.list) p.place q.place t.tx u.tx ascends (moved e) q.at_place (less_one t.owner.nth u.owner.nth p.place q.place p.nth q.nth lt)

    same_session : t.tx ≡ u.tx → t.owner.session ≡ u.owner.session
    same_session e =
        less_one_same t.owner.session u.owner.session
        (same_caller ta base logs trails (map calls_of lists) k fes at (caller_of t.owner) (caller_of u.owner) u.tx p.list q.list p.its_list q.its_list (subst (λ z. IsIn z (begins_of p.list)) e p.begun) q.begun)

    one_owner : t.tx ≡ u.tx → t.owner ≡ u.owner
    one_owner e =
        let s = same_session e in
        let n = one_place (begins_of q.list) p.place q.place u.tx ascends (moved s ∙ ap (λ z. Some z) e) q.at_place in
        owner_is t.owner u.owner s (p.nth ∙ ap (λ z. z + 1) n ∙ sym q.nth)

  pub owners_apart : (txns : List Txn) → AreTxns lists txns → OwnersApart txns
  owners_apart txns are =
      record {
        one_tx = λ t u i j. one_tx t u (place_of t i) (place_of u j);
        one_owner = λ t u i j. one_owner t u (place_of t i) (place_of u j);
        ascend = λ t u i j. ascend t u (place_of t i) (place_of u j);
      }
    where
      place_of : (t : Txn) → IsIn t txns → Place (map calls_of lists) t
      place_of t i = placed t (in_Each (IsTxnOf lists) t txns i are.each)
