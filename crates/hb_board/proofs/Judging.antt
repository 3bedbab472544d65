-- What a wait is answered, by the search.
use Rattle.std.proofs.Common.{◌≡◌, ◌≢◌, refl, sym, ◌∙◌, ap, subst, true, false, List, [], ◌∷◌, ◌++◌, filter}
use Rattle.std.specs.Prelude.{Bool}
use Rattle.std.proofs.lemmas.Bool.{false≢true}
use Rattle.hb_types.specs.declared.answer.Answer.TheVariants as answer
use Rattle.hb_types.specs.declared.answer.Edge.{Edge}
use Rattle.hb_types.specs.declared.request.Request.TheVariants as request
use Rattle.hb_types.specs.declared.lock.Holder.{Holder}
use Rattle.hb_types.specs.declared.lock.Mode.{Mode}
use Rattle.hb_types.specs.declared.names.NodeName.{NodeName}
use Rattle.hb_types.specs.declared.names.Tx.{Tx}
use Rattle.hb_types.specs.declared.places.Path.{Path}
use Rattle.hb_types.proofs.PutLaws.{by_test}
use Rattle.hb_runs.specs.Board as steps
use Rattle.hb_runs.specs.Board.{Board as BoardState, Steps, Reaches, IsCycleOf, edges_of, is_live_edge, keeping}
use Rattle.hb_board.specs.declared.board.Board.{Board}
use Rattle.hb_board.specs.declared.search.Search.{Search}
use Rattle.hb_board.specs.declared.waits.Waits.TheVariants as waits
use Rattle.hb_board.specs.Searches.{AreCleared, NoneReaches, Finds}
use Rattle.hb_board.specs.Shows.{Shows}
use Rattle.hb_board.specs.Waiting.{AreOf, Judges, Waited, can_wait_in, edges_now}
use Rattle.hb_board.proofs.Edges.{edges_are, edges_of_waiter, may_wait}

filter_twice : (p : Edge → Bool) (es : List Edge) → filter p (filter p es) ≡ filter p es
filter_twice p [] = refl
filter_twice p (e ∷ es) = by_test (p e) (λ t. rw t (rw t (ap (λ (l : List Edge). e ∷ l) (filter_twice p es)))) (λ f. rw f (filter_twice p es))

module _ (m : Board) (tx : Tx) (node : NodeName) (path : Path) (wanted : Mode) (hs : List Holder) (edges : List Edge) (are : edges ≡ edges_now m.known tx node path wanted hs) where
  on_board : (b : BoardState) → Shows b m → edges ≡ edges_of b tx node path wanted hs
  on_board b shows = are ∙ sym (edges_are tx node path wanted b m hs shows)

  all_live : (b : BoardState) → Shows b m → filter (is_live_edge b) edges ≡ edges_of b tx node path wanted hs
  all_live b shows = ap (filter (is_live_edge b)) (on_board b shows) ∙ filter_twice (is_live_edge b) _

  pub judged_gone : edges ≡ [] → (b : BoardState) → Shows b m → Judges b tx (edges_of b tx node path wanted hs) waits.Gone
  judged_gone none b shows = sym (on_board b shows) ∙ none

  module _ (old new : Search) (target : old.target ≡ tx) (cleared : old.cleared.keys ≡ []) (laid : old.path.items ≡ []) where
    at_first : (b : BoardState) → AreCleared b old
    at_first b h has = absurd (false≢true (rw cleared at has))

    pub judged_cycle : Finds m edges old new true → (b : BoardState) → Shows b m → Judges b tx (edges_of b tx node path wanted hs) (waits.Cycle new.path.items)
    judged_cycle finds b shows =
        let found = (finds.finds b shows (at_first b)).1 in
        let way : IsCycleOf b tx.0 (edges_of b tx node path wanted hs) found.0 = subst (λ (t : Tx). IsCycleOf b t.0 (edges_of b tx node path wanted hs) found.0) target (subst (λ (l : List Edge). IsCycleOf b old.target.0 l found.0) (all_live b shows) found.2) in
        subst (λ (l : List Edge). IsCycleOf b tx.0 (edges_of b tx node path wanted hs) l) (sym (found.1 ∙ ap (λ (l : List Edge). l ++ found.0) laid)) way

    pub judged_waiting : edges ≢ [] → Finds m edges old new false → (b : BoardState) → Shows b m → Judges b tx (edges_of b tx node path wanted hs) (waits.Waiting edges)
    judged_waiting some finds b shows =
        let found = (finds.finds b shows (at_first b)).1 in (
          on_board b shows,
          (λ none. some (on_board b shows ∙ none)),
          subst (λ (t : Tx). NoneReaches b t.0 (edges_of b tx node path wanted hs)) target (subst (λ (l : List Edge). NoneReaches b old.target.0 l) (all_live b shows) found.1),
        )

-- ---- a wait, judged and kept

module _ (old new : Board) (tx : Tx) (node : NodeName) (path : Path) (wanted : Mode) (hs : List Holder) (can : can_wait_in old.known tx hs ≡ true) where
  pub waited : (es slice : List Edge) → ((b : BoardState) → Shows b old → Judges b tx (edges_of b tx node path wanted hs) (waits.Waiting es)) → slice ≡ es
      → ((b : BoardState) → Shows b old → AreOf tx node slice → Shows (keeping b tx slice) new) → Waited tx node path wanted hs (waits.Waiting es) old new
  waited es slice judged same kept b shows =
      let edges = edges_of b tx node path wanted hs in
      let is = judged b shows in (
        keeping b tx edges,
        subst (λ (l : List Edge). Steps b (request.Wait tx node path wanted hs) (answer.Waiting l) (keeping b tx edges)) (sym is.0) (steps.waits tx node path wanted hs (may_wait b old tx hs shows can) is.1 is.2),
        subst (λ (l : List Edge). Shows (keeping b tx l) new) (same ∙ is.0) (kept b shows (subst (AreOf tx node) (sym (same ∙ is.0)) (edges_of_waiter tx node path wanted b hs))),
      )

  pub cycled : (es : List Edge) → ((b : BoardState) → Shows b old → Judges b tx (edges_of b tx node path wanted hs) (waits.Cycle es)) → new ≡ old → Waited tx node path wanted hs (waits.Cycle es) old new
  cycled es judged same b shows = (b, steps.cycle tx node path wanted hs es (may_wait b old tx hs shows can) (judged b shows), subst (Shows b) (sym same) shows)

  pub nobody : ((b : BoardState) → Shows b old → Judges b tx (edges_of b tx node path wanted hs) waits.Gone) → new ≡ old → Waited tx node path wanted hs waits.Gone old new
  nobody judged same b shows = (b, steps.gone tx node path wanted hs (may_wait b old tx hs shows can) (judged b shows), subst (Shows b) (sym same) shows)
