-- The votes of a driver ascend, one node after another.
use Rattle.std.proofs.Common.{◌≡◌, ◌≢◌, ℕ, ◌+◌, ◌≤◌, ◌<◌, All, true, true≢false, List, [], ◌∷◌, ◌++◌, refl, ap, sym, ◌∙◌, arith, length}
use Rattle.std.proofs.lemmas.Bool.{lt-ltb}
use Rattle.std.proofs.lemmas.List.Elements.{All-cons}
use Rattle.std.specs.Ordering.{nat_cmp}
use Rattle.std.specs.declared.cmp.Ordering.TheVariants.{Less}
use Rattle.hb_types.specs.Calls.{IsVote, AreVotes}
use Rattle.hb_types.specs.Lists.{Ascends, Each}
use Rattle.hb_types.specs.declared.names.NodeName.{NodeName}
use Rattle.hb_types.specs.declared.names.Number.{Number}
use Rattle.hb_types.specs.declared.request.Vote.{Vote}
use Rattle.hb_model.specs.NodeSets.{has_node}
use Rattle.hb_nodeset.proofs.Walks.{there}
use Rattle.hb_nodeset.specs.NodesFrom.{nodes_from}
use Rattle.hb_commit.specs.Driving.{AreBranches, IsBallot}

less : (a b : ℕ) → a < b → nat_cmp a b ≡ Less
less a b h = rw (lt-ltb a b h) refl

pub branch_within : (set n : ℕ) → AreBranches set → has_node set n ≡ true → n ≤ 10 → (1 ≤ n) × (n ≤ 9)
branch_within set n b has within =
    let not_zero : n ≢ 0 = λ e. true≢false (sym has ∙ ap (has_node set) e ∙ b.0) in
    let not_ten : n ≢ 10 = λ e. true≢false (sym has ∙ ap (has_node set) e ∙ b.1) in
    (omega (arith, not_zero), omega (arith, not_ten))

below : (from n : ℕ) → from ≤ n → (votes : List Vote) → Each (λ v. IsVote v × (v.node.0 < from)) votes → Each (λ v. IsVote v × (v.node.0 < n)) votes
below from n le [] each = tt
below from n le (v ∷ vs) each = ((each.0.0, omega (arith, le, each.0.1)), below from n le vs each.1)

-- the votes so far, at the next node of the set
pub later : (set from n : ℕ) (votes : List Vote) → IsBallot set from votes → from ≤ n → n ≤ 10 → has_node set n ≡ true
    → nodes_from set from ≡ n ∷ nodes_from set (n + 1) → IsBallot set n votes
later set from n votes b le within has next = record {
  branches = b.branches;
  ascend = b.ascend;
  each = below from n le votes b.each;
  some = λ none. there set n within has ∙ sym next ∙ b.some none;
}

ascends_with : (votes : List Vote) (v : Vote) → Ascends (λ a b. nat_cmp a.node.0 b.node.0) votes → Each (λ w. IsVote w × (w.node.0 < v.node.0)) votes
    → Ascends (λ a b. nat_cmp a.node.0 b.node.0) (votes ++ v ∷ [])
ascends_with [] v ascend each = tt
ascends_with (w ∷ []) v ascend each = (less w.node.0 v.node.0 each.0.1, tt)
ascends_with (w ∷ x ∷ xs) v ascend each = (ascend.0, ascends_with (x ∷ xs) v ascend.1 each.1)

each_with : (P : Vote → Type 0) (votes : List Vote) (v : Vote) → Each P votes → P v → Each P (votes ++ v ∷ [])
each_with P [] v each is = (is, tt)
each_with P (w ∷ ws) v each is = (each.0, each_with P ws v each.1 is)

some_there : (votes : List Vote) (v : Vote) → votes ++ v ∷ [] ≡ [] → ⊥
some_there [] v e = absurd (omega (arith, ap length e))
some_there (w ∷ ws) v e = absurd (omega (arith, ap length e))

-- the votes with that of a node
pub with_vote : (set : ℕ) (node : NodeName) (floor : Number) (votes : List Vote) → IsBallot set node.0 votes → IsVote (record { node = node; floor = floor })
    → IsBallot set (node.0 + 1) (votes ++ record { node = node; floor = floor } ∷ [])
with_vote set node floor votes b is = record {
  branches = b.branches;
  ascend = ascends_with votes (record { node = node; floor = floor }) b.ascend b.each;
  each = each_with (λ v. IsVote v × (v.node.0 < node.0 + 1)) votes (record { node = node; floor = floor }) (below node.0 (node.0 + 1) (omega arith) votes b.each) (is, omega arith);
  some = λ none. absurd (some_there votes (record { node = node; floor = floor }) none);
}

are_votes : (votes : List Vote) (n : ℕ) → Each (λ v. IsVote v × (v.node.0 < n)) votes → All IsVote votes
are_votes [] n each = λ k d h. absurd (omega (arith, h))
are_votes (v ∷ vs) n each = All-cons IsVote v vs each.0.0 (are_votes vs n each.1)

-- where no node is left, the votes are those of a decision
pub whole : (set from : ℕ) (votes : List Vote) → IsBallot set from votes → nodes_from set from ≡ [] → AreVotes votes
whole set from votes b none = ((λ e. b.branches.2 (sym (b.some e) ∙ none)), are_votes votes from b.each, b.ascend)
