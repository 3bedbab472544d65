-- Maps and sets of numbers, by the key.
use Rattle.std.proofs.Common.{◌≡◌, ◌≢◌, ◌⊎◌, ℕ, refl, sym, ◌∙◌, ap, true, false, arith, inl, inr, List, [], ◌∷◌}
use Rattle.std.specs.Prelude.{Some, ◌==◌, ◌||◌}
use Rattle.std.specs.List.{list_any}
use Rattle.std.specs.Ordering.{nat_cmp}
use Rattle.std.specs.BTreeMap.{BTreeMap, get, is_at, Updates as UpdatesMap}
use Rattle.std.specs.BTreeSet.{BTreeSet, contains, Updates as UpdatesSet}
use Rattle.std.proofs.lemmas.Bool.{eqb-true, eqb-false, ne_eqb, eq-eqb, false≢true}
use Rattle.std.proofs.lemmas.Cmp.{ranked, by_ranked}
use Rattle.hb_runs.specs.Coordinator.{without_active}
use Rattle.hb_types.specs.Lists.{Has}
use Rattle.hb_types.proofs.PutLaws.{by_test}

same : (k q : ℕ) → (k == q) ≡ is_at (nat_cmp k) q
same k q =
    by_ranked _ _ _ (nat_cmp k q) (ranked k q (nat_cmp k q) refl)
    (λ o lt. rw (o, ne_eqb k q (λ e. omega (arith, e, lt))) refl)
    (λ o e. rw o (eq-eqb k q e))
    (λ o gt. rw (o, ne_eqb k q (λ e. omega (arith, e, gt))) refl)

-- the map says this of a key and the same as before of the others
pub got_same : {X : Type 0} (old new : BTreeMap ℕ X) (k : ℕ) (v : X) → UpdatesMap nat_cmp old new k (Some v) → get nat_cmp new k ≡ Some v
got_same old new k v u = u.1

pub got_other : {X : Type 0} (old new : BTreeMap ℕ X) (k q : ℕ) (v : X) → k ≢ q → UpdatesMap nat_cmp old new k (Some v) → get nat_cmp new q ≡ get nat_cmp old q
got_other old new k q v ne u = u.2 q (sym (same k q) ∙ ne_eqb k q ne)

-- the set has a key more
pub has_more : (old new : BTreeSet ℕ) (k : ℕ) (list : List ℕ) → ((tx : ℕ) → contains nat_cmp old tx ≡ list_any (λ t. t == tx) list) → UpdatesSet nat_cmp old new k true
    → (tx : ℕ) → contains nat_cmp new tx ≡ list_any (λ t. t == tx) (k ∷ list)
has_more old new k list has u tx = u.0 tx ∙ by_test (k == tx) (λ e. rw (← (same k tx), e) refl) (λ e. rw (← (same k tx), e) (has tx))

-- the set has a key less
pub has_less : (old new : BTreeSet ℕ) (k : ℕ) (list : List ℕ) → ((tx : ℕ) → contains nat_cmp old tx ≡ list_any (λ t. t == tx) list) → UpdatesSet nat_cmp old new k false
    → (tx : ℕ) → contains nat_cmp new tx ≡ list_any (λ t. t == tx) (without_active k list)
has_less old new k list has u tx =
    u.0 tx ∙ by_test (k == tx)
    (λ e. rw (← (same k tx), e) (sym (gone list (eqb-true k tx e))))
    (λ e. rw (← (same k tx), e) (has tx ∙ sym (stays list (eqb-false k tx e))))
  where
    gone : (list : List ℕ) → k ≡ tx → list_any (λ t. t == tx) (without_active k list) ≡ false
    gone [] e = refl
    gone (x ∷ xs) e = by_test (x == k) (λ t. rw t (gone xs e)) (λ f. rw f (rw (ne_eqb x tx (λ is. eqb-false x k f (is ∙ sym e))) (gone xs e)))

    stays : (list : List ℕ) → k ≢ tx → list_any (λ t. t == tx) (without_active k list) ≡ list_any (λ t. t == tx) list
    stays [] ne = refl
    stays (x ∷ xs) ne = by_test (x == k) (λ t. rw (t, ne_eqb x tx (λ is. ne (sym (eqb-true x k t) ∙ is))) (stays xs ne)) (λ f. rw f (ap (λ b. (x == tx) || b) (stays xs ne)))

-- what the test of a list says
pub has_tx : (tx : ℕ) (list : List ℕ) → list_any (λ t. t == tx) list ≡ true → Has (λ t. t ≡ tx) list
has_tx tx [] e = absurd (false≢true e)
has_tx tx (x ∷ xs) e = by_test (x == tx) (λ t. inl (eqb-true x tx t)) (λ f. inr (has_tx tx xs (rw f at e)))

pub tx_there : (tx : ℕ) (list : List ℕ) → Has (λ t. t ≡ tx) list → list_any (λ t. t == tx) list ≡ true
tx_there tx [] h = absurd h
tx_there tx (x ∷ xs) (inl e) = rw (eq-eqb x tx e) refl
tx_there tx (x ∷ xs) (inr h) = by_test (x == tx) (λ t. rw t refl) (λ f. rw f (tx_there tx xs h))

-- nothing goes with one that isn't there
pub without_none : (tx : ℕ) (list : List ℕ) → (Has (λ t. t ≡ tx) list → ⊥) → without_active tx list ≡ list
without_none tx [] none = refl
without_none tx (x ∷ xs) none = by_test (x == tx) (λ t. absurd (none (inl (eqb-true x tx t)))) (λ f. rw f (ap (λ l. x ∷ l) (without_none tx xs (λ h. none (inr h)))))

pub there_or_not : (tx : ℕ) (list : List ℕ) → Has (λ t. t ≡ tx) list ⊎ (Has (λ t. t ≡ tx) list → ⊥)
there_or_not tx list = by_test (list_any (λ t. t == tx) list) (λ t. inl (has_tx tx list t)) (λ f. inr (λ h. false≢true (sym f ∙ tx_there tx list h)))
