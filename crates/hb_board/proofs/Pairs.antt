-- Lists of pairs and of nodes, by their tests.
use Rattle.std.proofs.Common.{◌≡◌, ℕ, ◌+◌, ◌<◌, ◌≤◌, refl, ◌∙◌, ap, subst, true, false, List, [], ◌∷◌, ◌++◌, filter, arith, zero, suc}
use Rattle.std.specs.Prelude.{Bool, ◌==◌, ◌||◌, ◌&&◌, not}
use Rattle.std.specs.List.{list_any, range_with_len}
use Rattle.std.proofs.lemmas.Bool.{eqb-true, ne_eqb, eq-eqb, false≢true}
use Rattle.hb_types.proofs.PutLaws.{by_test}
use Rattle.hb_runs.specs.Board.{has_pair, pairs_with}

-- whether a number is one of a list
abbrev pub among : ℕ → List ℕ → Bool
among n xs = list_any (λ m. m == n) xs

pub pairs-append : (t tx n : ℕ) (ns : List ℕ) (ps : List (ℕ × ℕ)) → has_pair (pairs_with t ns ++ ps) tx n ≡ ((t == tx) && among n ns) || has_pair ps tx n
pairs-append t tx n [] ps = by_test (t == tx) (λ e. rw e refl) (λ e. rw e refl)
pairs-append t tx n (m ∷ ns) ps =
    ap (λ b. ((t == tx) && (m == n)) || b) (pairs-append t tx n ns ps)
    ∙ by_test (t == tx) (λ e. rw e (by_test (m == n) (λ f. rw f refl) (λ f. rw f refl))) (λ e. rw e refl)

pub among-filter : (p : ℕ → Bool) (n : ℕ) (xs : List ℕ) → among n (filter p xs) ≡ (p n && among n xs)
among-filter p n [] = by_test (p n) (λ e. rw e refl) (λ e. rw e refl)
among-filter p n (x ∷ xs) =
    by_test (x == n)
    (λ e. subst (λ m. among m (filter p (x ∷ xs)) ≡ (p m && among m (x ∷ xs))) (eqb-true x n e) (here (among-filter p x xs)))
    (λ e. by_test (p x) (λ t. rw (t, e) (among-filter p n xs)) (λ f. rw (f, e) (among-filter p n xs)))
  where
    here : among x (filter p xs) ≡ (p x && among x xs) → among x (filter p (x ∷ xs)) ≡ (p x && among x (x ∷ xs))
    here rest = by_test (p x) (λ t. rw (t, eq-eqb x x refl) refl) (λ f. rw f (rest ∙ rw f refl))

pub all_nodes : (n : ℕ) → n < 11 → among n (range_with_len 0 11) ≡ true
all_nodes zero lt = refl
all_nodes (suc zero) lt = refl
all_nodes (suc (suc zero)) lt = refl
all_nodes (suc (suc (suc zero))) lt = refl
all_nodes (suc (suc (suc (suc zero)))) lt = refl
all_nodes (suc (suc (suc (suc (suc zero))))) lt = refl
all_nodes (suc (suc (suc (suc (suc (suc zero)))))) lt = refl
all_nodes (suc (suc (suc (suc (suc (suc (suc zero))))))) lt = refl
all_nodes (suc (suc (suc (suc (suc (suc (suc (suc zero)))))))) lt = refl
all_nodes (suc (suc (suc (suc (suc (suc (suc (suc (suc zero))))))))) lt = refl
all_nodes (suc (suc (suc (suc (suc (suc (suc (suc (suc (suc zero)))))))))) lt = refl
all_nodes (suc (suc (suc (suc (suc (suc (suc (suc (suc (suc (suc n))))))))))) lt = absurd (omega (arith, lt))

pub no_node : (n : ℕ) → 11 ≤ n → among n (range_with_len 0 11) ≡ false
no_node n le = none 0 11 n le
  where
    none : (from count n : ℕ) → from + count ≤ n → among n (range_with_len from count) ≡ false
    none from zero n le = refl
    none from (suc count) n le = rw (ne_eqb from n (λ e. omega (arith, e, le))) (none (from + 1) count n (omega (arith, le)))

pub pairs-without : (t m tx n : ℕ) (ps : List (ℕ × ℕ)) → has_pair (filter (λ p. not ((p.0 == t) && (p.1 == m))) ps) tx n ≡ (has_pair ps tx n && not ((t == tx) && (m == n)))
pairs-without t m tx n [] = refl
pairs-without t m tx n (p ∷ ps) =
    by_test ((p.0 == t) && (p.1 == m))
    (λ e. rw e (pairs-without t m tx n ps ∙ gone e))
    (λ e. rw e (ap (λ b. ((p.0 == tx) && (p.1 == n)) || b) (pairs-without t m tx n ps) ∙ kept e))
  where
    both : (a b : Bool) → (a && b) ≡ true → (a ≡ true) × (b ≡ true)
    both true true e = (refl, refl)
    both true false e = absurd (false≢true e)
    both false b e = absurd (false≢true e)

    gone : ((p.0 == t) && (p.1 == m)) ≡ true → (has_pair ps tx n && not ((t == tx) && (m == n))) ≡ ((((p.0 == tx) && (p.1 == n)) || has_pair ps tx n) && not ((t == tx) && (m == n)))
    gone e =
        let same = both (p.0 == t) (p.1 == m) e in
        let a : p.0 ≡ t = eqb-true p.0 t same.0 in
        let b : p.1 ≡ m = eqb-true p.1 m same.1 in
        rw (← a, ← b) (by_test ((p.0 == tx) && (p.1 == n)) (λ u. rw u (by_test (has_pair ps tx n) (λ v. rw v refl) (λ v. rw v refl))) (λ u. rw u refl))

    kept : ((p.0 == t) && (p.1 == m)) ≡ false → (((p.0 == tx) && (p.1 == n)) || (has_pair ps tx n && not ((t == tx) && (m == n)))) ≡ ((((p.0 == tx) && (p.1 == n)) || has_pair ps tx n) && not ((t == tx) && (m == n)))
    kept e = by_test ((t == tx) && (m == n))
        (λ u. let same = both (t == tx) (m == n) u in
        let a : t ≡ tx = eqb-true t tx same.0 in
        let b : m ≡ n = eqb-true m n same.1 in
        let f : ((p.0 == tx) && (p.1 == n)) ≡ false = subst (λ y. ((p.0 == tx) && (p.1 == y)) ≡ false) b (subst (λ y. ((p.0 == y) && (p.1 == m)) ≡ false) a e) in
        rw (f, u) (by_test (has_pair ps tx n) (λ v. rw v refl) (λ v. rw v refl)))
        (λ u. rw u (by_test ((p.0 == tx) && (p.1 == n)) (λ v. rw v refl) (λ v. rw v (by_test (has_pair ps tx n) (λ w. rw w refl) (λ w. rw w refl)))))
