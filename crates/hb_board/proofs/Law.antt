-- No transactions come to wait for each other, and a cycle is answered exactly where a wait would close one.
use Rattle.std.proofs.Common.{◌≡◌, ◌≢◌, ◌⊎◌, ⊎_elim, inl, inr, ℕ, zero, suc, refl, sym, ◌∙◌, ap, subst, true, arith, List, [], ◌∷◌, ◌++◌, filter}
use Rattle.std.specs.Prelude.{◌==◌, not, All, Contains}
use Rattle.std.proofs.lemmas.Bool.{cases_eq, eqb-true, ne_eqb, eq-eqb, false≢true}
use Rattle.std.proofs.lemmas.List.Elements.{All-cons, All-head, All-tail, All-contains, All-nil, Contains-append_cases, Contains-append_left, Contains-append_right}
use Rattle.hb_types.specs.declared.answer.Edge.{Edge}
use Rattle.hb_types.specs.declared.names.NodeName.{NodeName}
use Rattle.hb_types.specs.declared.names.Tx.{Tx}
use Rattle.hb_runs.specs.Board.{Board, Reaches, IsFirstReaching, IsCycleOf, is_live_edge, live_edges, waits_of, keeping}
use Rattle.hb_runs.specs.Chains.{IsChain}
use Rattle.hb_board.specs.Cycles.{HasCycle, HasNoCycle, LeadsBack, last_holder}
use Rattle.hb_board.specs.Waiting.{AreOf}
use Rattle.hb_board.proofs.Reaching.{in_filter, from_filter, in_middle, reaches_here, reaches_on}

-- ---- fewer live edges

fewer_reach : (b c : Board) → ((e : Edge) → Contains (live_edges c) e → Contains (live_edges b) e) → (t : ℕ) (e : Edge) → Reaches c t e → Reaches b t e
fewer_reach b c within t e (es, chain, all, last) = (es, chain, (λ k d lt. within _ (all k d lt)), last)

pub fewer_edges : (b c : Board) → ((e : Edge) → Contains (live_edges c) e → Contains (live_edges b) e) → HasNoCycle b → HasNoCycle c
fewer_edges b c within none (e, live, back) = none (e, within e live, fewer_reach b c within e.waiter.0 e back)

-- ---- paths

-- two paths, one behind the other
joined : (b : Board) (t s : ℕ) (f e : Edge) → Contains (live_edges b) e → e.waiter.0 ≡ t → Reaches b s e → Reaches b t f → Reaches b s f
joined b t s f e live is rest ([], chain, all, last) = reaches_on b s f e live (λ i. record { 0 = (last ∙ sym is) i }) rest
joined b t s f e live is rest (g ∷ gs, chain, all, last) =
    reaches_on b s f g (All-head (λ (h : Edge). Contains (live_edges b) h) g gs all) chain.0
    (joined b t s g e live is rest (gs, chain.1, All-tail (λ (h : Edge). Contains (live_edges b) h) g gs all, last))

-- ---- the edges of a wait are kept

module _ (b : Board) (tx : Tx) (node : NodeName) (es : List Edge) (are : AreOf tx node es) where
  abbrev kept : Board
  kept = keeping b tx es

  of_waiter : (l : List Edge) (e : Edge) → AreOf tx node l → Contains l e → e.waiter.0 ≡ tx.0
  of_waiter [] e all (k, lt, is) = absurd (omega (arith, lt))
  of_waiter (x ∷ l) e all (zero, lt, is) = subst (λ (y : Edge). y.waiter.0 ≡ tx.0) is all.0.0
  of_waiter (x ∷ l) e all (suc k, lt, is) = of_waiter l e all.1 (k, omega (arith, lt), is)

  -- a live edge then is one that was live before, of another waiter, or one of the wait
  was_or_is : (e : Edge) → Contains (live_edges kept) e → (Contains (live_edges b) e × (e.waiter.0 ≢ tx.0)) ⊎ (Contains es e × (e.waiter.0 ≡ tx.0))
  was_or_is e c =
      let live = from_filter (is_live_edge b) e (filter (λ f. not (f.waiter.0 == tx.0)) b.edges ++ es) c in
      ⊎_elim
      (λ (old : Contains (filter (λ f. not (f.waiter.0 == tx.0)) b.edges) e). let parts = from_filter (λ f. not (f.waiter.0 == tx.0)) e b.edges old in
      inl (in_filter (is_live_edge b) e b.edges live.0 parts.1, (λ is. false≢true (sym (ap not (eq-eqb e.waiter.0 tx.0 is)) ∙ parts.0))))
      (λ (new : Contains es e). inr (new, of_waiter es e are new))
      (Contains-append_cases (filter (λ f. not (f.waiter.0 == tx.0)) b.edges) es e live.1)

  still_live : (e : Edge) → Contains (live_edges b) e → e.waiter.0 ≢ tx.0 → Contains (live_edges kept) e
  still_live e c ne =
      let parts = from_filter (is_live_edge b) e b.edges c in
      in_filter (is_live_edge b) e (filter (λ f. not (f.waiter.0 == tx.0)) b.edges ++ es) parts.0
      (Contains-append_left (filter (λ f. not (f.waiter.0 == tx.0)) b.edges) es e (in_filter (λ f. not (f.waiter.0 == tx.0)) e b.edges (ap not (ne_eqb e.waiter.0 tx.0 ne)) parts.1))

  -- along old edges, or along old ones to the waiter and on by one of its new edges
  along : (t : ℕ) (e : Edge) → Reaches kept t e → Reaches b t e ⊎ (Reaches b tx.0 e × ((f : Edge) × Contains es f × Reaches kept t f))
  along t e ([], chain, all, last) = inl (reaches_here b t e last)
  along t e (f ∷ fs, chain, all, last) =
      let live : Contains (live_edges kept) f = All-head (λ (h : Edge). Contains (live_edges kept) h) f fs all in
      let on : Reaches kept t f = (fs, chain.1, All-tail (λ (h : Edge). Contains (live_edges kept) h) f fs all, last) in
      ⊎_elim
      (λ (old : Contains (live_edges b) f × (f.waiter.0 ≢ tx.0)). ⊎_elim
      (λ (here : Reaches b t f). inl (reaches_on b t e f old.0 chain.0 here))
      (λ (far : Reaches b tx.0 f × ((g : Edge) × Contains es g × Reaches kept t g)). inr (reaches_on b tx.0 e f old.0 chain.0 far.0, far.1))
      (along t f (fs, chain.1, All-tail (λ (h : Edge). Contains (live_edges kept) h) f fs all, last)))
      (λ (new : Contains es f × (f.waiter.0 ≡ tx.0)). inr (reaches_here b tx.0 e (ap (λ (x : Tx). x.0) chain.0 ∙ new.1), (f, new.0, on)))
      (was_or_is f live)

  module _ (none : HasNoCycle b) (never : All (λ e. ¬ (Reaches b tx.0 e)) es) where
    not_from : (e : Edge) → Contains es e → ¬ (Reaches b tx.0 e)
    not_from e c = All-contains (λ (f : Edge). ¬ (Reaches b tx.0 f)) es e never c

    pub kept_no_cycle : HasNoCycle kept
    kept_no_cycle (e, live, back) = ⊎_elim
        (λ (old : Contains (live_edges b) e × (e.waiter.0 ≢ tx.0)). ⊎_elim
        (λ (here : Reaches b e.waiter.0 e). none (e, old.0, here))
        (λ (far : Reaches b tx.0 e × ((f : Edge) × Contains es f × Reaches kept e.waiter.0 f)). ⊎_elim
        (λ (there : Reaches b e.waiter.0 far.1.0). not_from far.1.0 far.1.1 (joined b e.waiter.0 tx.0 far.1.0 e old.0 refl far.0 there))
        (λ (more : Reaches b tx.0 far.1.0 × ((g : Edge) × Contains es g × Reaches kept e.waiter.0 g)). not_from far.1.0 far.1.1 more.0)
        (along e.waiter.0 far.1.0 far.1.2))
        (along e.waiter.0 e back))
        (λ (new : Contains es e × (e.waiter.0 ≡ tx.0)). ⊎_elim
        (λ (here : Reaches b e.waiter.0 e). not_from e new.0 (subst (λ t. Reaches b t e) new.1 here))
        (λ (far : Reaches b tx.0 e × ((f : Edge) × Contains es f × Reaches kept e.waiter.0 f)). not_from e new.0 far.0)
        (along e.waiter.0 e back))
        (was_or_is e live)

  -- the way to the waiter is there too where its edges are kept: at the latest it ends where it comes to the waiter first
  then_too : (e : Edge) → Reaches b tx.0 e → Reaches kept tx.0 e
  then_too e ([], chain, all, last) = reaches_here kept tx.0 e last
  then_too e (f ∷ fs, chain, all, last) = ⊎_elim
      (λ is. reaches_here kept tx.0 e (ap (λ (x : Tx). x.0) chain.0 ∙ is))
      (λ ne. reaches_on kept tx.0 e f (still_live f (All-head (λ (h : Edge). Contains (live_edges b) h) f fs all) ne) chain.0
      (then_too f (fs, chain.1, All-tail (λ (h : Edge). Contains (live_edges b) h) f fs all, last)))
      (cases_eq f.waiter.0 tx.0)

  pub kept_cycle : (e : Edge) → Contains es e → is_live_edge b e ≡ true → Reaches b tx.0 e → HasCycle kept
  kept_cycle e c live back = (
    e,
    in_filter (is_live_edge b) e (filter (λ f. not (f.waiter.0 == tx.0)) b.edges ++ es) live (Contains-append_right (filter (λ f. not (f.waiter.0 == tx.0)) b.edges) es e c),
    subst (λ t. Reaches kept t e) (sym (of_waiter es e are c)) (then_too e back),
  )

-- ---- a cycle leads back

in_waits : (b : Board) (h : Tx) (e : Edge) → Contains (waits_of b h) e → (e.waiter.0 ≡ h.0) × Contains (live_edges b) e
in_waits b h e c = let parts = from_filter (λ f. f.waiter.0 == h.0) e (live_edges b) c in (eqb-true e.waiter.0 h.0 parts.0, parts.1)

first_in : (b : Board) (tx : ℕ) (edges : List Edge) (e : Edge) → IsFirstReaching b tx edges e → Contains edges e
first_in b tx edges e first = subst (λ (l : List Edge). Contains l e) (sym first.parts) (in_middle first.front first.back e)

pub first_of : (b : Board) (tx : ℕ) (edges : List Edge) (e : Edge) (es : List Edge) → IsCycleOf b tx edges (e ∷ es) → IsFirstReaching b tx edges e
first_of b tx edges e [] is = is.0
first_of b tx edges e (f ∷ es) is = is.0

pub cycle_reaches : (b : Board) (tx : ℕ) (edges es : List Edge) → IsCycleOf b tx edges es → (e : Edge) × Contains edges e × Reaches b tx e
cycle_reaches b tx edges [] is = absurd is
cycle_reaches b tx edges (e ∷ es) is = let first = first_of b tx edges e es is in (e, first_in b tx edges e first, first.reaches)

chain_of : (b : Board) (tx : ℕ) (edges es : List Edge) → IsCycleOf b tx edges es → IsChain es
chain_of b tx edges [] is = tt
chain_of b tx edges (e ∷ []) is = tt
chain_of b tx edges (e ∷ f ∷ es) is =
    let there = in_waits b e.holder f (first_in b tx (waits_of b e.holder) f (first_of b tx (waits_of b e.holder) f es is.2)) in
    ((λ i. record { 0 = sym there.0 i }), chain_of b tx (waits_of b e.holder) (f ∷ es) is.2)

rest_kept : (b : Board) (tx : ℕ) (edges : List Edge) (e : Edge) (es : List Edge) → IsCycleOf b tx edges (e ∷ es) → All (λ (f : Edge). Contains (live_edges b) f) es
rest_kept b tx edges e [] is = All-nil (λ (f : Edge). Contains (live_edges b) f)
rest_kept b tx edges e (f ∷ es) is =
    All-cons (λ (g : Edge). Contains (live_edges b) g) f es
    (in_waits b e.holder f (first_in b tx (waits_of b e.holder) f (first_of b tx (waits_of b e.holder) f es is.2))).1
    (rest_kept b tx (waits_of b e.holder) f es is.2)

ends_at : (b : Board) (tx : ℕ) (edges : List Edge) (e : Edge) (es : List Edge) → IsCycleOf b tx edges (e ∷ es) → last_holder e es ≡ tx
ends_at b tx edges e [] is = is.1
ends_at b tx edges e (f ∷ es) is = ends_at b tx (waits_of b e.holder) f es is.2

pub leads_back : (b : Board) (tx : Tx) (node : NodeName) (edges es : List Edge) → AreOf tx node edges → IsCycleOf b tx.0 edges es → LeadsBack b tx.0 es
leads_back b tx node edges [] are is = is
leads_back b tx node edges (e ∷ es) are is = (
  of_waiter b tx node edges are edges e are (first_in b tx.0 edges e (first_of b tx.0 edges e es is)),
  chain_of b tx.0 edges (e ∷ es) is,
  ends_at b tx.0 edges e es is,
  rest_kept b tx.0 edges e es is,
)
