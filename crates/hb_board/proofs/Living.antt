-- Which edges are live, in memory and on the board, and what is first among them.
use Rattle.std.proofs.Common.{◌≡◌, ℕ, ◌+◌, ◌<◌, refl, ◌∙◌, ap, true, false, arith, List, [], ◌∷◌, filter, length, take, get_or, zero, suc, add-one}
use Rattle.std.specs.Prelude.{Bool, Option, Some, None, ◌==◌, ◌&&◌, not, find}
use Rattle.hb_types.specs.declared.answer.Answer.{Answer}
use Rattle.hb_types.specs.declared.answer.Answer.TheVariants as answer
use Rattle.hb_types.specs.declared.answer.Edge.{Edge}
use Rattle.hb_types.specs.declared.names.Tx.{Tx}
use Rattle.hb_types.proofs.PutLaws.{by_test}
use Rattle.hb_runs.specs.Board.{Board as BoardState, is_over, is_live_edge, waits_of, target_of}
use Rattle.hb_board.specs.declared.known.Known.{Known}
use Rattle.hb_board.specs.declared.board.Board.{Board}
use Rattle.hb_board.specs.Shows.{Shows, IsKnown, over_in, is_live_in, is_open, known_in, kept_by}

over_is : (b : BoardState) (tx node : ℕ) (o : Option Known) → IsKnown b tx o → is_over b node tx ≡ over_in o node
over_is b tx node None is = rw is.ended refl
over_is b tx node (Some x) is = rw (is.ended, is.left node) (tidy x.ended (is_open x node))
  where
    tidy : (a c : Bool) → (a && not (a && c)) ≡ (a && not c)
    tidy true c = refl
    tidy false c = refl

pub live_is : (b : BoardState) (m : Board) (e : Edge) → Shows b m → is_live_edge b e ≡ is_live_in m.known e
live_is b m e shows = ap not (over_is b e.holder.0 e.node.0 (known_in m e.holder.0) (shows.known e.holder.0))

pub filter_swap : {A : Type 0} (p q : A → Bool) (xs : List A) → filter p (filter q xs) ≡ filter q (filter p xs)
filter_swap p q [] = refl
filter_swap p q (x ∷ xs) =
    by_test (p x)
    (λ t. by_test (q x) (λ u. rw t (rw u (rw t (ap (λ l. x ∷ l) (filter_swap p q xs))))) (λ u. rw (t, u) (filter_swap p q xs)))
    (λ t. by_test (q x) (λ u. rw (t, u) (rw t (filter_swap p q xs))) (λ u. rw (t, u) (filter_swap p q xs)))

pub filter_same : {A : Type 0} (p q : A → Bool) (xs : List A) → ((x : A) → p x ≡ q x) → filter p xs ≡ filter q xs
filter_same p q [] same = refl
filter_same p q (x ∷ xs) same = by_test (q x) (λ t. rw (same x, t) (ap (λ l. x ∷ l) (filter_same p q xs same))) (λ t. rw (same x, t) (filter_same p q xs same))

-- the live waits of a transaction, in memory
pub waits_are : (b : BoardState) (m : Board) (tx : Tx) → Shows b m → waits_of b tx ≡ filter (is_live_in m.known) (kept_by m tx.0)
waits_are b m tx shows =
    filter_swap (λ e. e.waiter.0 == tx.0) (is_live_edge b) b.edges
    ∙ ap (filter (is_live_edge b)) (shows.edges tx.0)
    ∙ filter_same (is_live_edge b) (is_live_in m.known) (kept_by m tx.0) (λ e. live_is b m e shows)

-- ---- the first live edge

abbrev pub target_in : Option Edge → Answer
target_in None = answer.Ready
target_in (Some e) = answer.NotYet e.holder

pub first_target : (p : Edge → Bool) (edges : List Edge) → target_of (filter p edges) ≡ target_in (find p edges)
first_target p [] = refl
first_target p (e ∷ es) = by_test (p e) (λ t. rw t refl) (λ f. rw f (first_target p es))

-- a list that is gone over
pub find_here : (p : Edge → Bool) (edges : List Edge) (i : ℕ) (d : Edge) → i < length edges → find p (take i edges) ≡ None → p (get_or edges i d) ≡ true → find p edges ≡ Some (get_or edges i d)
find_here p [] i d lt none holds = absurd (omega (arith, lt))
find_here p (x ∷ xs) zero d lt none holds = rw holds refl
find_here p (x ∷ xs) (suc i) d lt none holds =
    by_test (p x) (λ t. absurd (wrong (rw t at none))) (λ f. rw f (find_here p xs i d (omega (arith, lt)) (rw f at none) holds))
  where
    wrong : Some x ≡ None → ⊥
    wrong e = cc

more : (p : Edge → Bool) (edges : List Edge) (i : ℕ) (d : Edge) → i < length edges → find p (take i edges) ≡ None → p (get_or edges i d) ≡ false → find p (take (suc i) edges) ≡ None
more p [] i d lt none fails = absurd (omega (arith, lt))
more p (x ∷ xs) zero d lt none fails = rw fails refl
more p (x ∷ xs) (suc i) d lt none fails =
    by_test (p x) (λ t. absurd (wrong (rw t at none))) (λ f. rw f (more p xs i d (omega (arith, lt)) (rw f at none) fails))
  where
    wrong : Some x ≡ None → ⊥
    wrong e = cc

pub find_more : (p : Edge → Bool) (edges : List Edge) (i : ℕ) (d : Edge) → i < length edges → find p (take i edges) ≡ None → p (get_or edges i d) ≡ false → find p (take (i + 1) edges) ≡ None
find_more p edges i d lt none fails = rw add-one (more p edges i d lt none fails)
