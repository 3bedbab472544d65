-- Edges by their waiters and nodes.
use Rattle.std.proofs.Common.{◌≡◌, ◌≢◌, ℕ, refl, sym, ◌∙◌, ap, subst, true, false, List, [], ◌∷◌, ◌++◌, filter}
use Rattle.std.specs.Prelude.{◌==◌, not}
use Rattle.std.proofs.lemmas.Bool.{eqb-true, ne_eqb, eq-eqb}
use Rattle.std.proofs.lemmas.List.Elements.{filter-append}
use Rattle.hb_types.specs.declared.answer.Edge.{Edge}
use Rattle.hb_types.specs.declared.names.NodeName.{NodeName}
use Rattle.hb_types.specs.declared.names.Tx.{Tx}
use Rattle.hb_types.specs.Lists.{Each}
use Rattle.hb_types.proofs.PutLaws.{by_test}
use Rattle.hb_board.specs.Waiting.{AreOf}

pub no_more_of : (tx : ℕ) (es : List Edge) → filter (λ e. e.waiter.0 == tx) (filter (λ e. not (e.waiter.0 == tx)) es) ≡ []
no_more_of tx [] = refl
no_more_of tx (e ∷ es) = by_test (e.waiter.0 == tx) (λ t. rw t (no_more_of tx es)) (λ f. rw f (rw f (no_more_of tx es)))

pub others_of : (tx q : ℕ) → tx ≢ q → (es : List Edge) → filter (λ e. e.waiter.0 == q) (filter (λ e. not (e.waiter.0 == tx)) es) ≡ filter (λ e. e.waiter.0 == q) es
others_of tx q ne [] = refl
others_of tx q ne (e ∷ es) =
    by_test (e.waiter.0 == tx)
    (λ t. let n : (e.waiter.0 == q) ≡ false = ne_eqb e.waiter.0 q (λ i. ne (sym (eqb-true e.waiter.0 tx t) ∙ i)) in rw (t, n) (others_of tx q ne es))
    (λ f. rw f (by_test (e.waiter.0 == q) (λ u. rw u (ap (λ (l : List Edge). e ∷ l) (others_of tx q ne es))) (λ u. rw u (others_of tx q ne es))))

-- the edges of one waiter
all_of : (tx : Tx) (node : NodeName) (es : List Edge) → AreOf tx node es → filter (λ e. e.waiter.0 == tx.0) es ≡ es
all_of tx node [] are = refl
all_of tx node (e ∷ es) are = rw (eq-eqb e.waiter.0 tx.0 are.0.0) (ap (λ (l : List Edge). e ∷ l) (all_of tx node es are.1))

none_of : (tx : Tx) (node : NodeName) (q : ℕ) → tx.0 ≢ q → (es : List Edge) → AreOf tx node es → filter (λ e. e.waiter.0 == q) es ≡ []
none_of tx node q ne [] are = refl
none_of tx node q ne (e ∷ es) are = rw (ne_eqb e.waiter.0 q (λ i. ne (sym are.0.0 ∙ i))) (none_of tx node q ne es are.1)

nothing_behind : (l : List Edge) → l ++ [] ≡ l
nothing_behind [] = refl
nothing_behind (x ∷ l) = ap (λ (r : List Edge). x ∷ r) (nothing_behind l)

pub kept_same : (tx : Tx) (node : NodeName) (edges es : List Edge) → AreOf tx node es → filter (λ e. e.waiter.0 == tx.0) (filter (λ e. not (e.waiter.0 == tx.0)) edges ++ es) ≡ es
kept_same tx node edges es are =
    filter-append (λ e. e.waiter.0 == tx.0) (filter (λ e. not (e.waiter.0 == tx.0)) edges) es
    ∙ ap (λ (l : List Edge). l ++ filter (λ e. e.waiter.0 == tx.0) es) (no_more_of tx.0 edges)
    ∙ all_of tx node es are

pub kept_other : (tx : Tx) (node : NodeName) (q : ℕ) (edges es : List Edge) → tx.0 ≢ q → AreOf tx node es → filter (λ e. e.waiter.0 == q) (filter (λ e. not (e.waiter.0 == tx.0)) edges ++ es) ≡ filter (λ e. e.waiter.0 == q) edges
kept_other tx node q edges es ne are =
    filter-append (λ e. e.waiter.0 == q) (filter (λ e. not (e.waiter.0 == tx.0)) edges) es
    ∙ ap (λ (l : List Edge). filter (λ e. e.waiter.0 == q) (filter (λ e. not (e.waiter.0 == tx.0)) edges) ++ l) (none_of tx node q ne es are)
    ∙ nothing_behind (filter (λ e. e.waiter.0 == q) (filter (λ e. not (e.waiter.0 == tx.0)) edges))
    ∙ others_of tx.0 q ne edges

pub at_one_node : (tx : Tx) (node : NodeName) (es : List Edge) → AreOf tx node es → Each (λ e. e.node.0 ≡ node.0) es
at_one_node tx node [] are = tt
at_one_node tx node (e ∷ es) are = (are.0.1, at_one_node tx node es are.1)

-- ---- the edges at a node

pub all_elsewhere : (at node : ℕ) (es : List Edge) → (at == node) ≡ false → Each (λ e. e.node.0 ≡ at) es → filter (λ e. not (e.node.0 == node)) es ≡ es
all_elsewhere at node [] apart each = refl
all_elsewhere at node (e ∷ es) apart each =
    let f : (e.node.0 == node) ≡ false = subst (λ n. (n == node) ≡ false) (sym each.0) apart in
    rw f (ap (λ (l : List Edge). e ∷ l) (all_elsewhere at node es apart each.1))

pub none_elsewhere : (at node : ℕ) (es : List Edge) → (at == node) ≡ true → Each (λ e. e.node.0 ≡ at) es → filter (λ e. not (e.node.0 == node)) es ≡ []
none_elsewhere at node [] same each = refl
none_elsewhere at node (e ∷ es) same each =
    let t : (e.node.0 == node) ≡ true = subst (λ n. (n == node) ≡ true) (sym each.0) same in
    rw t (none_elsewhere at node es same each.1)
