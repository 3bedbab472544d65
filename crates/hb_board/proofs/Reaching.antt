-- What is reached along kept edges to live holders, edge by edge, and the cycle that follows from it.
use Rattle.std.proofs.Common.{◌≡◌, ◌≢◌, ℕ, refl, sym, ◌∙◌, ap, subst, true, arith, List, [], ◌∷◌, ◌++◌, filter, append_assoc, zero, suc}
use Rattle.std.specs.Prelude.{Bool, ◌==◌, All, Contains}
use Rattle.std.proofs.lemmas.Bool.{eqb-true, eq-eqb}
use Rattle.std.proofs.lemmas.List.Elements.{All-cons, All-head, All-tail, All-contains}
use Rattle.hb_types.specs.declared.answer.Edge.{Edge}
use Rattle.hb_types.specs.declared.names.Tx.{Tx}
use Rattle.hb_types.proofs.PutLaws.{by_test}
use Rattle.hb_runs.specs.Board.{Board as BoardState, Reaches, IsFirstReaching, IsCycleOf, live_edges, waits_of}
use Rattle.hb_runs.specs.Chains.{Follows}

-- ---- members

none_in : {A : Type 0} (x : A) → Contains [] x → ⊥
none_in x c = omega (arith, c.1)

pub in_filter : {A : Type 0} (p : A → Bool) (x : A) (xs : List A) → p x ≡ true → Contains xs x → Contains (filter p xs) x
in_filter p x [] t c = absurd (none_in x c)
in_filter p x (y ∷ ys) t (zero, lt, is) = here
  where
    here : Contains (filter p (y ∷ ys)) x
    here = let u : p y ≡ true = subst (λ z. p z ≡ true) (sym is) t in rw u (0, omega arith, is)
in_filter p x (y ∷ ys) t (suc k, lt, is) =
    let rest = in_filter p x ys t (k, omega (arith, lt), is) in
    by_test (p y) (λ u. rw u (suc rest.0, omega (arith, rest.1), rest.2)) (λ f. rw f rest)

-- ---- one edge

pub reaches_here : (b : BoardState) (tx : ℕ) (e : Edge) → e.holder.0 ≡ tx → Reaches b tx e
reaches_here b tx e is = ([], tt, (λ k d lt. absurd (omega (arith, lt))), is)

pub reaches_on : (b : BoardState) (tx : ℕ) (e f : Edge) → Contains (live_edges b) f → Follows e f → Reaches b tx f → Reaches b tx e
reaches_on b tx e f live follows (es, chain, all, last) = (f ∷ es, (follows, chain), All-cons (λ g. Contains (live_edges b) g) f es live all, last)

not_reached : (b : BoardState) (tx : ℕ) (e : Edge) → e.holder.0 ≢ tx → All (λ f. ¬ (Reaches b tx f)) (waits_of b e.holder) → ¬ (Reaches b tx e)
not_reached b tx e ne none ([], chain, all, last) = ne last
not_reached b tx e ne none (f ∷ es, chain, all, last) =
    All-contains (λ g. ¬ (Reaches b tx g)) (waits_of b e.holder) f none
    (in_filter (λ g. g.waiter.0 == e.holder.0) f (live_edges b) (eq-eqb f.waiter.0 e.holder.0 (ap (λ (t : Tx). t.0) (sym chain.0))) (All-head (λ g. Contains (live_edges b) g) f es all))
    (es, chain.1, All-tail (λ g. Contains (live_edges b) g) f es all, last)

-- ---- the first that reaches

pub all_append : {A : Type 0} (P : A → Type 0) (xs ys : List A) → All P xs → All P ys → All P (xs ++ ys)
all_append P [] ys a c = c
all_append P (x ∷ xs) ys a c = All-cons P x (xs ++ ys) (All-head P x xs a) (all_append P xs ys (All-tail P x xs a) c)

-- edges in front from which it isn't reached change nothing
later_first : (b : BoardState) (tx : ℕ) (front edges : List Edge) (e : Edge) → All (λ f. ¬ (Reaches b tx f)) front → IsFirstReaching b tx edges e → IsFirstReaching b tx (front ++ edges) e
later_first b tx front edges e none first = record {
  front = front ++ first.front;
  back = first.back;
  parts = ap (λ (l : List Edge). front ++ l) first.parts ∙ sym (append_assoc front first.front (e ∷ first.back));
  reaches = first.reaches;
  earlier = all_append (λ f. ¬ (Reaches b tx f)) front first.front none first.earlier;
}

pub later_cycle : (b : BoardState) (tx : ℕ) (front edges es : List Edge) → All (λ f. ¬ (Reaches b tx f)) front → IsCycleOf b tx edges es → IsCycleOf b tx (front ++ edges) es
later_cycle b tx front edges [] none is = is
later_cycle b tx front edges (e ∷ []) none is = (later_first b tx front edges e none is.0, is.1)
later_cycle b tx front edges (e ∷ f ∷ es) none is = (later_first b tx front edges e none is.0, is.1, is.2)

-- an edge to the transaction itself
pub cycle_here : (b : BoardState) (tx : ℕ) (e : Edge) (back : List Edge) → e.holder.0 ≡ tx → IsCycleOf b tx (e ∷ back) (e ∷ [])
cycle_here b tx e back is = (record { front = []; back = back; parts = refl; reaches = reaches_here b tx e is; earlier = λ k d lt. absurd (omega (arith, lt)) }, is)

pub from_filter : {A : Type 0} (p : A → Bool) (x : A) (xs : List A) → Contains (filter p xs) x → (p x ≡ true) × Contains xs x
from_filter p x [] c = absurd (none_in x c)
from_filter p x (y ∷ ys) c =
    by_test (p y)
    (λ u. let d : Contains (y ∷ filter p ys) x = rw u at c in hit (from_filter p x ys) u d)
    (λ f. let d : Contains (filter p ys) x = rw f at c in let rest = from_filter p x ys d in (rest.0, (suc rest.1.0, omega (arith, rest.1.1), rest.1.2)))
  where
    hit : (Contains (filter p ys) x → (p x ≡ true) × Contains ys x) → p y ≡ true → Contains (y ∷ filter p ys) x → (p x ≡ true) × Contains (y ∷ ys) x
    hit rest u (zero, lt, is) = (subst (λ z. p z ≡ true) is u, (0, omega arith, is))
    hit rest u (suc k, lt, is) = let found = rest (k, omega (arith, lt), is) in (found.0, (suc found.1.0, omega (arith, found.1.1), found.1.2))

pub in_middle : {A : Type 0} (front back : List A) (x : A) → Contains (front ++ x ∷ back) x
in_middle [] back x = (0, omega arith, refl)
in_middle (y ∷ front) back x = let rest = in_middle front back x in (suc rest.0, omega (arith, rest.1), rest.2)

-- an edge whose holder waits along a cycle's way
pub reaches_along : (b : BoardState) (tx : ℕ) (e f : Edge) → IsFirstReaching b tx (waits_of b e.holder) f → Reaches b tx e
reaches_along b tx e f first =
    let there : Contains (waits_of b e.holder) f = subst (λ (l : List Edge). Contains l f) (sym first.parts) (in_middle first.front first.back f) in
    let found = from_filter (λ g. g.waiter.0 == e.holder.0) f (live_edges b) there in
    let same : f.waiter.0 ≡ e.holder.0 = eqb-true f.waiter.0 e.holder.0 found.0 in
    reaches_on b tx e f found.1 (λ i. record { 0 = sym same i }) first.reaches

first_of_cycle : (b : BoardState) (tx : ℕ) (edges : List Edge) (f : Edge) (es : List Edge) → IsCycleOf b tx edges (f ∷ es) → IsFirstReaching b tx edges f
first_of_cycle b tx edges f [] is = is.0
first_of_cycle b tx edges f (g ∷ es) is = is.0

-- an edge, and the way on from its holder
pub cycle_on : (b : BoardState) (tx : ℕ) (e : Edge) (back es : List Edge) → e.holder.0 ≢ tx → IsCycleOf b tx (waits_of b e.holder) es → IsCycleOf b tx (e ∷ back) (e ∷ es)
cycle_on b tx e back [] ne is = absurd is
cycle_on b tx e back (f ∷ es) ne is = (
  record { front = []; back = back; parts = refl; reaches = reaches_along b tx e f (first_of_cycle b tx (waits_of b e.holder) f es is); earlier = λ k d lt. absurd (omega (arith, lt)) },
  ne,
  is,
)

pub not_here : (b : BoardState) (tx : ℕ) (e : Edge) → e.holder.0 ≢ tx → All (λ f. ¬ (Reaches b tx f)) (waits_of b e.holder) → ¬ (Reaches b tx e)
not_here b tx e ne none = not_reached b tx e ne none

-- and so do edges behind
longer_first : (b : BoardState) (tx : ℕ) (edges back : List Edge) (e : Edge) → IsFirstReaching b tx edges e → IsFirstReaching b tx (edges ++ back) e
longer_first b tx edges back e first = record {
  front = first.front;
  back = first.back ++ back;
  parts = ap (λ (l : List Edge). l ++ back) first.parts ∙ append_assoc first.front (e ∷ first.back) back;
  reaches = first.reaches;
  earlier = first.earlier;
}

pub longer_cycle : (b : BoardState) (tx : ℕ) (edges back es : List Edge) → IsCycleOf b tx edges es → IsCycleOf b tx (edges ++ back) es
longer_cycle b tx edges back [] is = is
longer_cycle b tx edges back (e ∷ []) is = (longer_first b tx edges back e is.0, is.1)
longer_cycle b tx edges back (e ∷ f ∷ es) is = (longer_first b tx edges back e is.0, is.1, is.2)
