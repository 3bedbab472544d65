-- A set of ds and back ends with one of them more.
use Rattle.std.proofs.Common.{◌≡◌, ◌≢◌, ℕ, zero, suc, ◌+◌, ◌≤◌, Bool, true, false, [], refl, ap, sym, ◌∙◌, inl, inr, arith, lit≤}
use Rattle.std.proofs.lemmas.Bool.{false≢true}
use Rattle.hb_model.specs.NodeSets.{has_node, with_node, nodes_in}
use Rattle.hb_talk.proofs.Bits.{only_with, with_it}
use Rattle.hb_nodeset.specs.NodesFrom.{nodes_from}
use Rattle.hb_nodeset.proofs.Walks.{there, not_there}
use Rattle.hb_commit.specs.Driving.{AreBranches}

-- ---- some node is in

some_from : (k set n : ℕ) → n + k ≤ 10 → has_node set (n + k) ≡ true → nodes_from set n ≢ []
some_from zero set n within has =
    let here : has_node set n ≡ true = ap (has_node set) (omega arith) ∙ has in
    let first = there set n (omega (arith, within)) here in λ e. cc (first, e)
some_from (suc k) set n within has =
    let moved : has_node set (n + 1 + k) ≡ true = ap (has_node set) (omega arith) ∙ has in
    by_first (some_from k set (n + 1) (omega (arith, within)) moved) (has_node set n) refl
  where
    by_first : nodes_from set (n + 1) ≢ [] → (b : Bool) → has_node set n ≡ b → nodes_from set n ≢ []
    by_first later true is = let first = there set n (omega (arith, within)) is in λ e. cc (first, e)
    by_first later false is = λ e. later (sym (not_there set n (omega (arith, within)) is) ∙ e)

some_in : (set n : ℕ) → n ≤ 9 → has_node set n ≡ true → nodes_in set ≢ []
some_in set n high has =
    let moved : has_node set (0 + n) ≡ true = ap (has_node set) (omega arith) ∙ has in
    some_from n set 0 (omega (arith, high)) moved

-- ---- the set with a node

out : (set n m : ℕ) → (m ≡ n → ⊥) → has_node set m ≡ false → has_node (with_node set n) m ≡ false
out set n m apart free = by (has_node (with_node set n) m) refl
  where
    by : (b : Bool) → has_node (with_node set n) m ≡ b → has_node (with_node set n) m ≡ false
    by true e = elim (only_with set n m e) [
      | inl is ↦ absurd (apart is)
      | inr has ↦ absurd (false≢true (sym free ∙ has))
    ]
    by false e = e

pub with_branch : (set n : ℕ) → AreBranches set → 1 ≤ n → n ≤ 9 → AreBranches (with_node set n)
with_branch set n branches low high =
    (out set n 0 (λ e. omega (arith, e, low)) branches.0, out set n 10 (λ e. omega (arith, e, high)) branches.1, some_in (with_node set n) n high (with_it set n))

pub first_branch : AreBranches (with_node 0 1)
first_branch = (refl, refl, some_in 2 1 (lit≤ tt) refl)
