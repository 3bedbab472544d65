-- What a step of the board makes of it.
use Rattle.std.proofs.Common.{◌≡◌, ◌≢◌, ⊎_elim, ℕ, refl, sym, ◌∙◌, ap, subst, true, false, List, ◌∷◌, ◌++◌, filter}
use Rattle.std.specs.Prelude.{Bool, Some, None, ◌==◌, ◌&&◌, not, Contains, filter_map}
use Rattle.std.proofs.lemmas.Bool.{cases_eq, ne_eqb, false≢true}
use Rattle.hb_types.specs.declared.answer.Answer.{Answer}
use Rattle.hb_types.specs.declared.answer.Answer.TheVariants as answer
use Rattle.hb_types.specs.declared.answer.Edge.{Edge}
use Rattle.hb_types.specs.declared.lock.Holder.{Holder}
use Rattle.hb_types.specs.declared.lock.Mode.{Mode}
use Rattle.hb_types.specs.declared.names.Left.{Left}
use Rattle.hb_types.specs.declared.names.NodeName.{NodeName}
use Rattle.hb_types.specs.declared.names.Owner.{Owner}
use Rattle.hb_types.specs.declared.names.Tx.{Tx}
use Rattle.hb_types.specs.declared.places.Path.{Path}
use Rattle.hb_types.specs.declared.request.Request.{Request}
use Rattle.hb_types.specs.declared.request.Request.TheVariants as request
use Rattle.hb_types.proofs.PutLaws.{by_test}
use Rattle.hb_runs.specs.Board.{Board as BoardState, Steps, enters, entered_before, gone, cycle, waits, cannot_wait, ready, ends, settles, halts, others, no_memory, is_managed, is_live_edge, live_edges, edges_of, ending, settling, halting, has_entered, has_ended, has_pair, left_nodes, pairs_with, edge_to}
use Rattle.hb_board.specs.Asking.{Fits, after, edges_kept, is_done, takes_none}
use Rattle.hb_board.specs.Cycles.{HasNoCycle, IsExact}
use Rattle.hb_board.specs.Waiting.{AreOf}
use Rattle.hb_board.proofs.Edges.{edges_of_waiter}
use Rattle.hb_board.proofs.Law.{fewer_edges, kept_no_cycle, kept_cycle, cycle_reaches, leads_back}
use Rattle.hb_board.proofs.Pairs.{pairs-append, pairs-without}
use Rattle.hb_board.proofs.Reaching.{from_filter, in_filter}

-- ---- by the request and the answer

other_after : (b : BoardState) (q : Request) → not (is_managed q) ≡ true → b ≡ after b q answer.NotMine
other_after b (request.Enter tx owner) h = refl
other_after b (request.Wait tx node path wanted holders) h = refl
other_after b (request.End tx left) h = absurd (false≢true h)
other_after b (request.Settled tx node) h = absurd (false≢true h)
other_after b (request.Halted node) h = absurd (false≢true h)
other_after b _ h = refl

nothing_after : (b : BoardState) (q : Request) → (takes_none q ≡ true → answer.NoMemory ≢ answer.NoMemory) → b ≡ after b q answer.NoMemory
nothing_after b (request.Enter tx owner) h = refl
nothing_after b (request.Wait tx node path wanted holders) h = refl
nothing_after b (request.End tx left) h = absurd (h refl refl)
nothing_after b (request.Settled tx node) h = absurd (h refl refl)
nothing_after b (request.Halted node) h = absurd (h refl refl)
nothing_after b _ h = refl

pub steps_after : (b c : BoardState) (q : Request) (a : Answer) → Steps b q a c → (takes_none q ≡ true → a ≢ answer.NoMemory) → c ≡ after b q a
steps_after b c q a (enters tx owner h) m = refl
steps_after b c q a (entered_before tx owner h) m = refl
steps_after b c q a (gone tx node path wanted holders can none) m = refl
steps_after b c q a (cycle tx node path wanted holders es can is) m = refl
steps_after b c q a (waits tx node path wanted holders can some never) m = refl
steps_after b c q a (cannot_wait tx node path wanted holders cannot) m = refl
steps_after b c q a (ready tx) m = refl
steps_after b c q a (ends tx set) m = refl
steps_after b c q a (settles tx node) m = refl
steps_after b c q a (halts node) m = refl
steps_after b c q a (others r h) m = other_after b r h
steps_after b c q a (no_memory r) m = nothing_after b r m

not_done : (b : BoardState) (q : Request) (a : Answer) → is_done a ≡ false → edges_kept a ≡ None → Fits b q a
not_done b (request.Enter tx owner) a done kept = λ e. absurd (false≢true (sym done ∙ e))
not_done b (request.Wait tx node path wanted holders) a done kept = λ es e. absurd (none_some es (sym kept ∙ e))
  where
    none_some : (es : List Edge) → None ≡ Some es → ⊥
    none_some es e = cc
not_done b _ a done kept = tt

pub steps_fit : (b c : BoardState) (q : Request) (a : Answer) → Steps b q a c → Fits b q a
steps_fit b c q a (enters tx owner h) = λ e. unentered (has_entered b tx.0) h
  where
    unentered : (x : Bool) → not x ≡ true → x ≡ false
    unentered true e = absurd (false≢true e)
    unentered false e = refl
steps_fit b c q a (entered_before tx owner h) = not_done b (request.Enter tx owner) answer.NotMine refl refl
steps_fit b c q a (gone tx node path wanted holders can none) = not_done b (request.Wait tx node path wanted holders) answer.Gone refl refl
steps_fit b c q a (cycle tx node path wanted holders es can is) = not_done b (request.Wait tx node path wanted holders) (answer.Cycle es) refl refl
steps_fit b c q a (waits tx node path wanted holders can some never) = λ es e. subst (AreOf tx node) (same es e) (edges_of_waiter tx node path wanted b holders)
  where
    same : (es : List Edge) → Some (edges_of b tx node path wanted holders) ≡ Some es → edges_of b tx node path wanted holders ≡ es
    same es e = cc
steps_fit b c q a (cannot_wait tx node path wanted holders cannot) = not_done b (request.Wait tx node path wanted holders) answer.NotMine refl refl
steps_fit b c q a (ready tx) = tt
steps_fit b c q a (ends tx set) = tt
steps_fit b c q a (settles tx node) = tt
steps_fit b c q a (halts node) = tt
steps_fit b c q a (others r h) = not_done b r answer.NotMine refl refl
steps_fit b c q a (no_memory r) = not_done b r answer.NoMemory refl refl

-- ---- by the request alone

pub other_request : (q : Request) → ((tx : Tx) (owner : Owner) → q ≡ request.Enter tx owner → ⊥) → ((tx : Tx) (node : NodeName) (path : Path) (wanted : Mode) (holders : List Holder) → q ≡ request.Wait tx node path wanted holders → ⊥)
    → ((tx : Tx) → q ≡ request.Ready tx → ⊥) → ((tx : Tx) (left : Left) → q ≡ request.End tx left → ⊥) → ((tx : Tx) (node : NodeName) → q ≡ request.Settled tx node → ⊥) → ((node : NodeName) → q ≡ request.Halted node → ⊥)
    → not (is_managed q) ≡ true
other_request (request.Enter tx owner) e w r d s h = absurd (e tx owner refl)
other_request (request.Wait tx node path wanted holders) e w r d s h = absurd (w tx node path wanted holders refl)
other_request (request.Ready tx) e w r d s h = absurd (r tx refl)
other_request (request.End tx left) e w r d s h = absurd (d tx left refl)
other_request (request.Settled tx node) e w r d s h = absurd (s tx node refl)
other_request (request.Halted node) e w r d s h = absurd (h node refl)
other_request _ e w r d s h = refl

pub after_other : (b : BoardState) (a : Answer) (q : Request) → ((tx : Tx) (owner : Owner) → q ≡ request.Enter tx owner → ⊥) → ((tx : Tx) (node : NodeName) (path : Path) (wanted : Mode) (holders : List Holder) → q ≡ request.Wait tx node path wanted holders → ⊥)
    → ((tx : Tx) (left : Left) → q ≡ request.End tx left → ⊥) → ((tx : Tx) (node : NodeName) → q ≡ request.Settled tx node → ⊥) → ((node : NodeName) → q ≡ request.Halted node → ⊥) → b ≡ after b q a
after_other b a (request.Enter tx owner) e w d s h = absurd (e tx owner refl)
after_other b a (request.Wait tx node path wanted holders) e w d s h = absurd (w tx node path wanted holders refl)
after_other b a (request.End tx left) e w d s h = absurd (d tx left refl)
after_other b a (request.Settled tx node) e w d s h = absurd (s tx node refl)
after_other b a (request.Halted node) e w d s h = absurd (h node refl)
after_other b a _ e w d s h = refl

pub not_done_is : (a : Answer) → (a ≡ answer.Done → ⊥) → is_done a ≡ false
not_done_is answer.Done not = absurd (not refl)
not_done_is _ not = refl

pub none_kept : (a : Answer) → ((es : List Edge) → a ≡ answer.Waiting es → ⊥) → edges_kept a ≡ None
none_kept (answer.Waiting es) not = absurd (not es refl)
none_kept _ not = refl

pub done_is_done : answer.Done ≢ answer.NoMemory
done_is_done e = false≢true (sym (ap is_done e))

pub ended_step : (b : BoardState) (q : Request) (tx : Tx) (left : Left) → q ≡ request.End tx left → (c : BoardState) × Steps b q answer.Done c
ended_step b q tx left is = rw is (ending b tx.0 left.0, ends tx left.0)

pub settled_step : (b : BoardState) (q : Request) (tx : Tx) (node : NodeName) → q ≡ request.Settled tx node → (c : BoardState) × Steps b q answer.Done c
settled_step b q tx node is = rw is (settling b tx.0 node.0, settles tx node)

pub halted_step : (b : BoardState) (q : Request) (node : NodeName) → q ≡ request.Halted node → (c : BoardState) × Steps b q answer.Done c
halted_step b q node is = rw is (halting b node, halts node)

-- ---- ends, settled branches, nodes that stop

both_true : (a c : Bool) → (a && c) ≡ true → (a ≡ true) × (c ≡ true)
both_true true true e = (refl, refl)
both_true true false e = absurd (false≢true e)
both_true false c e = absurd (false≢true e)

live_before : (b : BoardState) (tx : ℕ) (ns : List ℕ) (e : Edge) → has_ended b tx ≡ false
    → is_live_edge (record b { ended = tx ∷ b.ended; left = pairs_with tx ns ++ b.left }) e ≡ true → is_live_edge b e ≡ true
live_before b tx ns e new live = ⊎_elim
    (λ is. let f : has_ended b e.holder.0 ≡ false = subst (λ t. has_ended b t ≡ false) is new in rw f refl)
    (λ ne. let apart : (tx == e.holder.0) ≡ false = ne_eqb tx e.holder.0 ne in
    let same : has_pair (pairs_with tx ns ++ b.left) e.holder.0 e.node.0 ≡ has_pair b.left e.holder.0 e.node.0 = pairs-append tx e.holder.0 e.node.0 ns b.left ∙ rw apart refl in
    rw (apart, same) at live)
    (cases_eq tx e.holder.0)

module _ (b : BoardState) (tx set : ℕ) where
  abbrev ended_now : BoardState
  ended_now = record b { ended = tx ∷ b.ended; left = pairs_with tx (left_nodes b tx set) ++ b.left; edges = filter (λ e. not (e.waiter.0 == tx)) b.edges }

  unended : (has_entered b tx && not (has_ended b tx)) ≡ true → has_ended b tx ≡ false
  unended t = is_not (has_ended b tx) (both_true (has_entered b tx) (not (has_ended b tx)) t).1
    where
      is_not : (x : Bool) → not x ≡ true → x ≡ false
      is_not true e = absurd (false≢true e)
      is_not false e = refl

  end_within : has_ended b tx ≡ false → (e : Edge) → Contains (live_edges ended_now) e → Contains (live_edges b) e
  end_within new e c =
      let live = from_filter (is_live_edge ended_now) e (filter (λ f. not (f.waiter.0 == tx)) b.edges) c in
      in_filter (is_live_edge b) e b.edges (live_before b tx (left_nodes b tx set) e new live.0) (from_filter (λ f. not (f.waiter.0 == tx)) e b.edges live.1).1

  ended_fewer : HasNoCycle b → HasNoCycle (ending b tx set)
  ended_fewer none = by_test (has_entered b tx && not (has_ended b tx)) (λ t. rw t (fewer_edges b ended_now (end_within (unended t)) none)) (λ f. rw f none)

module _ (b : BoardState) (tx node : ℕ) where
  abbrev settled_now : BoardState
  settled_now = record b { left = filter (λ p. not ((p.0 == tx) && (p.1 == node))) b.left; settled = (tx, node) ∷ b.settled }

  weaker : (ended left out : Bool) → not (ended && not (left && not out)) ≡ true → not (ended && not left) ≡ true
  weaker false left out e = refl
  weaker true true out e = refl
  weaker true false out e = e

  live_too : (e : Edge) → is_live_edge settled_now e ≡ true → is_live_edge b e ≡ true
  live_too e live =
      weaker (has_ended b e.holder.0) (has_pair b.left e.holder.0 e.node.0) ((tx == e.holder.0) && (node == e.node.0))
      (ap (λ x. not (has_ended b e.holder.0 && not x)) (sym (pairs-without tx node e.holder.0 e.node.0 b.left)) ∙ live)

  settle_within : (e : Edge) → Contains (live_edges settled_now) e → Contains (live_edges b) e
  settle_within e c = let live = from_filter (is_live_edge settled_now) e b.edges c in in_filter (is_live_edge b) e b.edges (live_too e live.0) live.1

  settled_fewer : HasNoCycle b → HasNoCycle (settling b tx node)
  settled_fewer none = by_test (has_entered b tx) (λ t. rw t (fewer_edges b settled_now settle_within none)) (λ f. rw f none)

halted_fewer : (b : BoardState) (node : NodeName) → HasNoCycle b → HasNoCycle (halting b node)
halted_fewer b node none = fewer_edges b (halting b node) within none
  where
    within : (e : Edge) → Contains (live_edges (halting b node)) e → Contains (live_edges b) e
    within e c =
        let live = from_filter (is_live_edge b) e (filter (λ f. not (f.node.0 == node.0)) b.edges) c in
        in_filter (is_live_edge b) e b.edges live.0 (from_filter (λ f. not (f.node.0 == node.0)) e b.edges live.1).1

-- ---- the law

pub steps_keep : (b c : BoardState) (q : Request) (a : Answer) → Steps b q a c → HasNoCycle b → HasNoCycle c
steps_keep b c q a (enters tx owner h) none = none
steps_keep b c q a (entered_before tx owner h) none = none
steps_keep b c q a (gone tx node path wanted holders can empty) none = none
steps_keep b c q a (cycle tx node path wanted holders es can is) none = none
steps_keep b c q a (waits tx node path wanted holders can some never) none = kept_no_cycle b tx node (edges_of b tx node path wanted holders) (edges_of_waiter tx node path wanted b holders) none never
steps_keep b c q a (cannot_wait tx node path wanted holders cannot) none = none
steps_keep b c q a (ready tx) none = none
steps_keep b c q a (ends tx set) none = ended_fewer b tx.0 set none
steps_keep b c q a (settles tx node) none = settled_fewer b tx.0 node.0 none
steps_keep b c q a (halts node) none = halted_fewer b node none
steps_keep b c q a (others r h) none = none
steps_keep b c q a (no_memory r) none = none

nothing_said : (b : BoardState) (q : Request) → IsExact b q answer.NotMine × IsExact b q answer.NoMemory
nothing_said b (request.Wait tx node path wanted holders) = (tt, tt)
nothing_said b _ = (tt, tt)

pub steps_exact : (b c : BoardState) (q : Request) (a : Answer) → Steps b q a c → HasNoCycle b → IsExact b q a
steps_exact b c q a (enters tx owner h) none = tt
steps_exact b c q a (entered_before tx owner h) none = tt
steps_exact b c q a (gone tx node path wanted holders can empty) none = empty
steps_exact b c q a (cycle tx node path wanted holders es can is) none =
    let reached = cycle_reaches b tx.0 (edges_of b tx node path wanted holders) es is in
    let are = edges_of_waiter tx node path wanted b holders in (
      kept_cycle b tx node (edges_of b tx node path wanted holders) are reached.0 reached.1
          (from_filter (is_live_edge b) reached.0 (filter_map (edge_to b tx node path wanted) holders) reached.1).0 reached.2,
      leads_back b tx node (edges_of b tx node path wanted holders) es are is,
    )
steps_exact b c q a (waits tx node path wanted holders can some never) none =
    (kept_no_cycle b tx node (edges_of b tx node path wanted holders) (edges_of_waiter tx node path wanted b holders) none never, refl, some)
steps_exact b c q a (cannot_wait tx node path wanted holders cannot) none = tt
steps_exact b c q a (ready tx) none = tt
steps_exact b c q a (ends tx set) none = tt
steps_exact b c q a (settles tx node) none = tt
steps_exact b c q a (halts node) none = tt
steps_exact b c q a (others r h) none = (nothing_said b r).0
steps_exact b c q a (no_memory r) none = (nothing_said b r).1
