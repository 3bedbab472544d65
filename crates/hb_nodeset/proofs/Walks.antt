-- The nodes of a set, one by one.
use Rattle.std.proofs.Common.{◌≡◌, ℕ, suc, ◌+◌, ◌-◌, ◌≤◌, ◌<◌, Bool, true, false, List, [], ◌∷◌, ap, refl, ◌∙◌, arith}
use Rattle.std.specs.List.{range_with_len, filter}
use Rattle.hb_model.specs.NodeSets.{has_node}
use Rattle.hb_nodeset.specs.NodesFrom.{nodes_from}

kept : (p : ℕ → Bool) (n : ℕ) (ns : List ℕ) → p n ≡ true → filter p (n ∷ ns) ≡ n ∷ filter p ns
kept p n ns is = rw is refl

left_out : (p : ℕ → Bool) (n : ℕ) (ns : List ℕ) → p n ≡ false → filter p (n ∷ ns) ≡ filter p ns
left_out p n ns is = rw is refl

-- the nodes from one on begin with it
split : (set n : ℕ) → n ≤ 10 → nodes_from set n ≡ filter (has_node set) (n ∷ range_with_len (n + 1) (11 - (n + 1)))
split set n within = ap (λ k. filter (has_node set) (range_with_len n k)) (count n within)
  where
    count : (n : ℕ) → n ≤ 10 → 11 - n ≡ suc (11 - (n + 1))
    count n within = omega arith

pub there : (set n : ℕ) → n ≤ 10 → has_node set n ≡ true → nodes_from set n ≡ n ∷ nodes_from set (n + 1)
there set n within is = split set n within ∙ kept (has_node set) n (range_with_len (n + 1) (11 - (n + 1))) is

pub not_there : (set n : ℕ) → n ≤ 10 → has_node set n ≡ false → nodes_from set n ≡ nodes_from set (n + 1)
not_there set n within is = split set n within ∙ left_out (has_node set) n (range_with_len (n + 1) (11 - (n + 1))) is

pub none_left : (set n : ℕ) → 10 < n → nodes_from set n ≡ []
none_left set n past = let none : 11 - n ≡ 0 = omega arith in ap (λ k. filter (has_node set) (range_with_len n k)) none
