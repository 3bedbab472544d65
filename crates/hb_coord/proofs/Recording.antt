-- The records of a coordinator have their bytes.
use Rattle.std.proofs.Common.{◌≡◌, ℕ, ◌+◌, ◌<◌, ◌≤◌, List, [], ◌∷◌, length, map, suc, refl, sym, ap, arith}
use Rattle.std.specs.Prelude.{All}
use Rattle.std.specs.Ordering.{nat_cmp}
use Rattle.std.proofs.lemmas.Cmp.{ranked}
use Rattle.std.proofs.lemmas.List.Elements.{All-map, All-head, All-tail}
use Rattle.std.specs.declared.cmp.Ordering.TheVariants.{Less}
use Rattle.hb_types.specs.declared.names.NodeName.{NodeName}
use Rattle.hb_types.specs.declared.request.Vote.{Vote}
use Rattle.hb_types.specs.Calls.{AreVotes, IsVote}
use Rattle.hb_types.specs.Lists.{Ascends}
use Rattle.hb_types.specs.Numbers.{IsNumber}
use Rattle.hb_types.specs.Records.{HasRecord}
use Rattle.hb_runs.specs.Coordinator.{nodes_of, decision_item}

abbrev IsNode : NodeName → Type 0
IsNode n = (1 ≤ n.0) × (n.0 ≤ 9)

nodes_ascend : (votes : List Vote) → Ascends (λ a b. nat_cmp a.node.0 b.node.0) votes → Ascends (λ a b. nat_cmp a.0 b.0) (nodes_of votes)
nodes_ascend [] up = tt
nodes_ascend (v ∷ []) up = tt
nodes_ascend (v ∷ w ∷ vs) up = (up.0, nodes_ascend (w ∷ vs) up.1)

nodes_are : (votes : List Vote) → All IsVote votes → All IsNode (nodes_of votes)
nodes_are votes all = All-map IsNode (λ (v : Vote). v.node) votes (λ k d lt. let is = all k d lt in (is.0, is.1))

few : (low : ℕ) (n : NodeName) (ns : List NodeName) → Ascends (λ a b. nat_cmp a.0 b.0) (n ∷ ns) → All IsNode (n ∷ ns) → low ≤ n.0 → length (n ∷ ns) + low ≤ 10
few low n [] up all le = let is : IsNode n = All-head IsNode n [] all in omega (arith, is.1)
few low n (m ∷ ns) up all le =
    let lt : n.0 < m.0 = ranked n.0 m.0 Less (sym up.0) in
    let rest : length (m ∷ ns) + (low + 1) ≤ 10 = few (low + 1) m ns up.1 (All-tail IsNode n (m ∷ ns) all) (omega (arith, lt)) in
    omega (arith, rest)

pub decision_has_record : (tx n : ℕ) (votes : List Vote) → IsNumber tx → IsNumber n → AreVotes votes → HasRecord (decision_item tx n (nodes_of votes))
decision_has_record tx n [] is_tx is_n are = absurd (are.0 refl)
decision_has_record tx n (v ∷ vs) is_tx is_n are =
    let up = nodes_ascend (v ∷ vs) are.2 in
    let all = nodes_are (v ∷ vs) are.1 in
    let most : length (nodes_of (v ∷ vs)) + 0 ≤ 10 = few 0 v.node (nodes_of vs) up all (omega arith) in
    let long : length (map (λ (n : NodeName). n.0) (nodes_of (v ∷ vs))) ≡ length (nodes_of (v ∷ vs)) = same_length (nodes_of (v ∷ vs)) in
    ((is_tx, is_n, up, omega arith, all), omega (arith, most, long))
  where
    same_length : (ns : List NodeName) → length (map (λ (n : NodeName). n.0) ns) ≡ length ns
    same_length [] = refl
    same_length (n ∷ ns) = ap suc (same_length ns)
