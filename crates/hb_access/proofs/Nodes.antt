-- The nodes that a transaction uses, as answers leave them.
use Rattle.std.proofs.Common.{◌≡◌, ◌⊎◌, inl, inr, ℕ, ◌==◌, Bool, true, false, List, [], ◌∷◌, refl, ap, sym, subst, ◌∙◌, arith}
use Rattle.std.proofs.lemmas.Bool.Decides.{nat_tests}
use Rattle.std.specs.Prelude.{◌&&◌, ◌||◌}
use Rattle.std.specs.List.{list_all, filter, range_with_len}
use Rattle.std.proofs.lemmas.Bool.{false≢true}
use Rattle.hb_types.specs.declared.answer.Answer.{Answer}
use Rattle.hb_types.specs.declared.answer.Answer.TheVariants as answer
use Rattle.hb_types.specs.Lists.{Each}
use Rattle.hb_model.specs.NodeSets.{has_node, with_node, nodes_in}
use Rattle.hb_talk.specs.Sessions.{rolls_back}
use Rattle.hb_talk.specs.Talk.{refusal_of}
use Rattle.hb_talk.proofs.Bits.{with_others}
use Rattle.hb_access.specs.Accesses.{keeps_nodes, is_part}

same : (n : ℕ) → (n == n) ≡ true
same n = grind (arith, nat_tests)

equal : (a b : ℕ) → (a == b) ≡ true → a ≡ b
equal a b e = grind (arith, nat_tests)

-- ---- nodes among others

part_step : (set n m : ℕ) (ns : List ℕ) → list_all (has_node (with_node set n)) (filter (has_node set) ns) ≡ true → (b : Bool) → has_node set m ≡ b
    → list_all (has_node (with_node set n)) (filter (has_node set) (m ∷ ns)) ≡ true
part_step set n m ns rest true e = rw (e, with_others set n m e) rest
part_step set n m ns rest false e = rw e rest

part_of : (set n : ℕ) (ns : List ℕ) → list_all (has_node (with_node set n)) (filter (has_node set) ns) ≡ true
part_of set n [] = refl
part_of set n (m ∷ ns) = part_step set n m ns (part_of set n ns) (has_node set m) refl

each_step : (p : ℕ → Bool) (n : ℕ) (ns : List ℕ) → (list_all p ns ≡ true → Each (λ n. p n ≡ true) ns) → (b : Bool) → p n ≡ b → (b && list_all p ns) ≡ true → Each (λ n. p n ≡ true) (n ∷ ns)
each_step p n ns rest true e all = (e, rest all)
each_step p n ns rest false e all = absurd (false≢true all)

pub each_of : (p : ℕ → Bool) (ns : List ℕ) → list_all p ns ≡ true → Each (λ n. p n ≡ true) ns
each_of p [] all = tt
each_of p (n ∷ ns) all = each_step p n ns (each_of p ns) (p n) refl all

-- ---- what is kept

pub stays : (old new : ℕ) (rolls : Bool) → new ≡ old → keeps_nodes old new rolls ≡ true
unfolding keeps_nodes
stays old new rolls e = ap (λ b. b || (rolls && is_part new old)) (subst (λ k. (k == old) ≡ true) (sym e) (same old))

-- behind an answer that did not roll back, what goes on with the same nodes
pub goes_on : (old mid new : ℕ) (rolls : Bool) → keeps_nodes old mid false ≡ true → new ≡ mid → keeps_nodes old new rolls ≡ true
unfolding keeps_nodes
goes_on old mid new rolls k e = by (mid == old) refl
  where
    by : (b : Bool) → (mid == old) ≡ b → keeps_nodes old new rolls ≡ true
    by true m = stays old new rolls (e ∙ equal mid old m)
    by false m = absurd (false≢true (subst (λ (b : Bool). (b || (false && is_part mid old)) ≡ true) m k))

-- without the node whose Enlist was refused
pub leaves_out : (old before n : ℕ) → old ≡ with_node before n → keeps_nodes old before true ≡ true
unfolding keeps_nodes
leaves_out old before n e =
    subst (λ k. ((before == k) || (true && is_part before k)) ≡ true) (sym e) (either (before == with_node before n) (part_of before n (range_with_len 0 11)))
  where
    either : (b : Bool) → {c : Bool} → c ≡ true → (b || (true && c)) ≡ true
    either true h = refl
    either false h = h

pub kept : (old new : ℕ) (rolls : Bool) → keeps_nodes old new rolls ≡ true → (new ≡ old) ⊎ ((rolls ≡ true) × Each (λ n. has_node old n ≡ true) (nodes_in new))
unfolding keeps_nodes
kept old new rolls k = by (new == old) rolls refl refl
  where
    by : (b r : Bool) → (new == old) ≡ b → rolls ≡ r → (new ≡ old) ⊎ ((rolls ≡ true) × Each (λ n. has_node old n ≡ true) (nodes_in new))
    by true r e is = inl (equal new old e)
    by false true e is = inr (is, each_of (has_node old) (nodes_in new) (subst (λ (b : Bool). (b && is_part new old) ≡ true) is (subst (λ (b : Bool). (b || (rolls && is_part new old)) ≡ true) e k)))
    by false false e is = absurd (false≢true (subst (λ (b : Bool). (b && is_part new old) ≡ true) is (subst (λ (b : Bool). (b || (rolls && is_part new old)) ≡ true) e k)))

-- what an answer other than the one asked for is to a session rolls its transaction back
pub rolls_refusal : (node : ℕ) (a : Answer) → rolls_back (refusal_of node a) ≡ true
rolls_refusal node answer.Down = refl
rolls_refusal node (answer.Fault area) = refl
rolls_refusal node (answer.Cycle edges) = refl
rolls_refusal node answer.NumbersSpent = refl
rolls_refusal node answer.NoMemory = refl
rolls_refusal node a = refl

-- ---- sets of nodes

all_step : (p : ℕ → Bool) (n : ℕ) (ns : List ℕ) → list_all p (filter p ns) ≡ true → (b : Bool) → p n ≡ b → list_all p (filter p (n ∷ ns)) ≡ true
all_step p n ns rest true e = rw (e, e) rest
all_step p n ns rest false e = rw e rest

all_of : (p : ℕ → Bool) (ns : List ℕ) → list_all p (filter p ns) ≡ true
all_of p [] = refl
all_of p (n ∷ ns) = all_step p n ns (all_of p ns) (p n) refl

-- a set's nodes are in the set
pub each_in : (set : ℕ) → Each (λ n. has_node set n ≡ true) (nodes_in set)
each_in set = each_of (has_node set) (nodes_in set) (all_of (has_node set) (range_with_len 0 11))

-- the nodes that an answer leaves are among those that were used
pub among : (old new : ℕ) (rolls : Bool) → keeps_nodes old new rolls ≡ true → Each (λ n. has_node old n ≡ true) (nodes_in new)
among old new rolls k = elim (kept old new rolls k) [
  | inl e ↦ subst (λ x. Each (λ n. has_node old n ≡ true) (nodes_in x)) (sym e) (each_in old)
  | inr h ↦ h.1
]

-- they are the same where nothing is rolled back
pub still : (old new : ℕ) (rolls : Bool) → rolls ≡ false → keeps_nodes old new rolls ≡ true → new ≡ old
still old new rolls is k = elim (kept old new rolls k) [
  | inl e ↦ e
  | inr h ↦ absurd (false≢true (sym is ∙ h.0))
]
