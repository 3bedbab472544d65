-- An entry is inserted where its row goes by key.
use Rattle.std.proofs.Common.{◌≡◌, ℕ, ℤ, ◌+◌, ◌<◌, ◌≤◌, List, [], ◌∷◌, map, refl, ap, sym, ◌∙◌, arith}
use Rattle.std.specs.Prelude.{cond}
use Rattle.std.specs.BTreeMap.{insert_entry}
use Rattle.std.specs.Ordering.{int_cmp, nat_cmp, ordering_then, is_lt, match_ordering}
use Rattle.std.specs.declared.cmp.Ordering.{Ordering}
use Rattle.std.specs.declared.cmp.Ordering.TheVariants.{Less, Equal, Greater}
use Rattle.hb_types.specs.Lists.{Each}
use Rattle.hb_talk.specs.Plans.{Lying, by_key}
use Rattle.hb_planrows.specs.declared.ranks.Rank.{Rank}
use Rattle.hb_planrows.specs.Ranks.{rank_cmp, AreRanked, ranked_rows}

later : (a b : ℕ) → b < a → nat_cmp a b ≡ Greater
later a b lt = grind arith

-- one entry in front, by how the keys compare
in_front : (r : Rank) (l : Lying) (e : Rank × Lying) (es : List (Rank × Lying)) (o : Ordering) → int_cmp r.key e.0.key ≡ o → nat_cmp r.nth e.0.nth ≡ Greater
    → ranked_rows (insert_entry rank_cmp es r l) ≡ by_key l (ranked_rows es)
    → ranked_rows (match_ordering (ordering_then o (nat_cmp r.nth e.0.nth)) ((r, l) ∷ e ∷ es) ((e.0, l) ∷ es) (e ∷ insert_entry rank_cmp es r l))
    ≡ cond (is_lt o) (l ∷ e.1 ∷ ranked_rows es) (e.1 ∷ by_key l (ranked_rows es))
in_front r l e es Less is after more = refl
in_front r l e es Equal is after more = rw after (ap (λ ls. e.1 ∷ ls) more)
in_front r l e es Greater is after more = ap (λ ls. e.1 ∷ ls) more

same_order : (r : Rank) (l : Lying) (e : Rank × Lying) → r.key ≡ l.0.key → e.0.key ≡ e.1.0.key → int_cmp r.key e.0.key ≡ int_cmp l.0.key e.1.0.key
same_order r l e key its = ap (λ k. int_cmp k e.0.key) key ∙ ap (int_cmp l.0.key) its

pub inserted : (n : ℕ) (r : Rank) (l : Lying) (es : List (Rank × Lying)) → r.key ≡ l.0.key → n ≤ r.nth → AreRanked n es
    → ranked_rows (insert_entry rank_cmp es r l) ≡ by_key l (ranked_rows es)
inserted n r l [] key above ranked = refl
inserted n r l (e ∷ es) key above ranked =
    in_front r l e es (int_cmp r.key e.0.key) refl (later r.nth e.0.nth (omega (arith, ranked.0.1, above))) (inserted n r l es key above ranked.1)
    ∙ ap (λ o. cond (is_lt o) (l ∷ e.1 ∷ ranked_rows es) (e.1 ∷ by_key l (ranked_rows es))) (same_order r l e key ranked.0.0)

pub more_ranked : (n : ℕ) (es : List (Rank × Lying)) → AreRanked n es → AreRanked (n + 1) es
more_ranked n [] ranked = tt
more_ranked n (e ∷ es) ranked = ((ranked.0.0, omega (arith, ranked.0.1)), more_ranked n es ranked.1)

ranks_in_front : (n : ℕ) (r : Rank) (l : Lying) (e : Rank × Lying) (es : List (Rank × Lying)) (o : Ordering) → nat_cmp r.nth e.0.nth ≡ Greater
    → AreRanked n ((r, l) ∷ e ∷ es) → AreRanked n (insert_entry rank_cmp es r l)
    → AreRanked n (match_ordering (ordering_then o (nat_cmp r.nth e.0.nth)) ((r, l) ∷ e ∷ es) ((e.0, l) ∷ es) (e ∷ insert_entry rank_cmp es r l))
ranks_in_front n r l e es Less after front behind = front
ranks_in_front n r l e es Equal after front behind = rw after (front.1.0, behind)
ranks_in_front n r l e es Greater after front behind = (front.1.0, behind)

pub still_ranked : (n : ℕ) (r : Rank) (l : Lying) (es : List (Rank × Lying)) → r.key ≡ l.0.key → r.nth ≡ n → AreRanked n es → AreRanked (n + 1) (insert_entry rank_cmp es r l)
still_ranked n r l [] key is ranked = ((key, omega (arith, is)), tt)
still_ranked n r l (e ∷ es) key is ranked =
    ranks_in_front (n + 1) r l e es (int_cmp r.key e.0.key) (later r.nth e.0.nth (omega (arith, ranked.0.1, is)))
    ((key, omega (arith, is)), more_ranked n (e ∷ es) ranked) (still_ranked n r l es key is ranked.1)

pub nth_ranked : (n : ℕ) (l : Lying) (es : List (Rank × Lying)) → AreRanked n es → AreRanked (n + 1) (insert_entry rank_cmp es (record { key = l.0.key; nth = n }) l)
nth_ranked n l es ranked = still_ranked n (record { key = l.0.key; nth = n }) l es refl refl ranked
