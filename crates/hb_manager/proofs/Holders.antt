-- Holders that are waited for are numbers of transactions, and so is what the manager answers.
use Rattle.std.proofs.Common.{◌≡◌, ℕ, true, List, [], ◌∷◌, refl, subst, filter}
use mathlib.Core.Logic.{∥∥₁_elim, ∥∥₁_map}
use Rattle.std.proofs.Props.{props}
use Rattle.std.specs.List.{cons_option}
use Rattle.std.specs.Prelude.{Bool, Some, None, Option, ◌==◌, ◌&&◌, not, All, filter_map}
use Rattle.std.proofs.lemmas.List.Elements.{All-head, All-tail}
use Rattle.hb_types.specs.declared.answer.Answer.{Answer}
use Rattle.hb_types.specs.declared.answer.Answer.TheVariants as answer
use Rattle.hb_types.specs.declared.answer.Edge.{Edge}
use Rattle.hb_types.specs.declared.lock.Holder.{Holder}
use Rattle.hb_types.specs.declared.lock.Mode.{Mode}
use Rattle.hb_types.specs.declared.names.NodeName.{NodeName}
use Rattle.hb_types.specs.declared.names.Owner.{Owner}
use Rattle.hb_types.specs.declared.names.Tx.{Tx}
use Rattle.hb_types.specs.declared.places.Path.{Path}
use Rattle.hb_types.specs.declared.request.Request.{Request}
use Rattle.hb_types.specs.Calls.{IsRequest, IsAnswer}
use Rattle.hb_types.specs.Lists.{Each}
use Rattle.hb_types.specs.Numbers.{IsNumber}
use Rattle.hb_types.proofs.Ascending.{Each-append}
use Rattle.hb_types.proofs.PutLaws.{by_test}
use Rattle.hb_runs.specs.Board.{Board as BoardState, Steps, enters, entered_before, gone, cycle, waits, cannot_wait, ready, ends, settles, halts, others, no_memory, is_live_edge, live_edges, edges_of, edge_to, ending, settling, has_entered, has_ended, waits_of, target_of, owner_in, new_board}
use Rattle.hb_runs.specs.Kinds.{tells_nothing}
use Rattle.hb_board.specs.Shows.{Shows}
use Rattle.hb_board.specs.declared.board.Board.{Board}
use Rattle.hb_manager.specs.Managing.{GoesOn, IsManagers, IsSound}

abbrev HasNumber : Edge → Type 0
HasNumber e = IsNumber e.holder.0

-- ---- lists

in_filter : (p : Edge → Bool) (es : List Edge) → Each HasNumber es → Each HasNumber (filter p es)
in_filter p [] each = tt
in_filter p (e ∷ es) each = by_test (p e) (λ t. rw t (each.0, in_filter p es each.1)) (λ f. rw f (in_filter p es each.1))

module _ (b : BoardState) (tx : Tx) (node : NodeName) (path : Path) (wanted : Mode) where
  by_owners : (h : Holder) (o p : Option Owner) → owner_in b tx.0 ≡ o → owner_in b h.tx.0 ≡ p → (es : List Edge) → IsNumber h.tx.0 → Each HasNumber es → Each HasNumber (cons_option (edge_to b tx node path wanted h) es)
  by_owners h None p e1 e2 es is each = rw e1 each
  by_owners h (Some o) None e1 e2 es is each = rw (e1, e2) each
  by_owners h (Some o) (Some p) e1 e2 es is each = rw (e1, e2) (is, each)

  edges_made : (hs : List Holder) → All (λ h. IsNumber h.tx.0) hs → Each HasNumber (filter_map (edge_to b tx node path wanted) hs)
  edges_made [] all = tt
  edges_made (h ∷ hs) all =
      by_owners h (owner_in b tx.0) (owner_in b h.tx.0) refl refl (filter_map (edge_to b tx node path wanted) hs) (All-head (λ (x : Holder). IsNumber x.tx.0) h hs all) (edges_made hs (All-tail (λ (x : Holder). IsNumber x.tx.0) h hs all))

  edges_wait : (hs : List Holder) → All (λ h. IsNumber h.tx.0) hs → Each HasNumber (edges_of b tx node path wanted hs)
  edges_wait hs all = in_filter (is_live_edge b) (filter_map (edge_to b tx node path wanted) hs) (edges_made hs all)

-- ---- a step

ended : (b : BoardState) (tx set : ℕ) → Each HasNumber b.edges → Each HasNumber (ending b tx set).edges
ended b tx set each = by_test (has_entered b tx && not (has_ended b tx)) (λ t. rw t (in_filter (λ e. not (e.waiter.0 == tx)) b.edges each)) (λ f. rw f each)

settled : (b : BoardState) (tx node : ℕ) → Each HasNumber b.edges → Each HasNumber (settling b tx node).edges
settled b tx node each = by_test (has_entered b tx) (λ t. rw t each) (λ f. rw f each)

steps_number : (b c : BoardState) (q : Request) (a : Answer) → Steps b q a c → IsRequest q → Each HasNumber b.edges → Each HasNumber c.edges
steps_number b c q a (enters tx owner h) well each = each
steps_number b c q a (entered_before tx owner h) well each = each
steps_number b c q a (gone tx node path wanted holders can empty) well each = each
steps_number b c q a (cycle tx node path wanted holders es can is) well each = each
steps_number b c q a (waits tx node path wanted holders can some never) well each =
    Each-append HasNumber (filter (λ e. not (e.waiter.0 == tx.0)) b.edges) (edges_of b tx node path wanted holders)
    (in_filter (λ e. not (e.waiter.0 == tx.0)) b.edges each) (edges_wait b tx node path wanted holders well.1.1)
steps_number b c q a (cannot_wait tx node path wanted holders cannot) well each = each
steps_number b c q a (ready tx) well each = each
steps_number b c q a (ends tx set) well each = ended b tx.0 set each
steps_number b c q a (settles tx node) well each = settled b tx.0 node.0 each
steps_number b c q a (halts node) well each = in_filter (λ e. not (e.node.0 == node.0)) b.edges each
steps_number b c q a (others r h) well each = each
steps_number b c q a (no_memory r) well each = each

-- ---- what is answered

told_once : (a : Answer) → IsProp (IsManagers a)
told_once (answer.NotYet target) = hlevel props
told_once answer.Done = hlevel props
told_once answer.NotMine = hlevel props
told_once answer.Gone = hlevel props
told_once (answer.Cycle es) = hlevel props
told_once (answer.Waiting es) = hlevel props
told_once answer.Ready = hlevel props
told_once answer.NoMemory = hlevel props
told_once _ = hlevel props

pub told_well : (a : Answer) → IsManagers a → IsAnswer a
told_well (answer.NotYet target) is = is
told_well answer.Done is = tt
told_well answer.NotMine is = tt
told_well answer.Gone is = tt
told_well (answer.Cycle es) is = tt
told_well (answer.Waiting es) is = tt
told_well answer.Ready is = tt
told_well answer.NoMemory is = tt
told_well _ is = absurd is

told_target : (es : List Edge) → Each HasNumber es → IsManagers (target_of es)
told_target [] each = tt
told_target (e ∷ es) each = each.0

steps_tell : (b c : BoardState) (q : Request) (a : Answer) → Steps b q a c → Each HasNumber b.edges → IsManagers a
steps_tell b c q a (enters tx owner h) each = tt
steps_tell b c q a (entered_before tx owner h) each = tt
steps_tell b c q a (gone tx node path wanted holders can empty) each = tt
steps_tell b c q a (cycle tx node path wanted holders es can is) each = tt
steps_tell b c q a (waits tx node path wanted holders can some never) each = tt
steps_tell b c q a (cannot_wait tx node path wanted holders cannot) each = tt
steps_tell b c q a (ready tx) each = told_target (waits_of b tx) (in_filter (λ e. e.waiter.0 == tx.0) (live_edges b) (in_filter (is_live_edge b) b.edges each))
steps_tell b c q a (ends tx set) each = tt
steps_tell b c q a (settles tx node) each = tt
steps_tell b c q a (halts node) each = tt
steps_tell b c q a (others r h) each = tt
steps_tell b c q a (no_memory r) each = tt

-- ---- the manager's board

pub stays_sound : (old new : Board) (q : Request) (a : Answer) → GoesOn q a old new → IsRequest q → ∥ IsSound old ∥₁ → ∥ IsSound new ∥₁
stays_sound old new q a goes well sound = ∥∥₁_map sound on
  where
    on : IsSound old → IsSound new
    on (b, shows, each) = let s = goes b shows in (s.0, s.2, steps_number b s.0 q a s.1 well each)

pub answers : (old new : Board) (q : Request) (a : Answer) → GoesOn q a old new → ∥ IsSound old ∥₁ → IsManagers a
answers old new q a goes sound = ∥∥₁_elim sound (told_once a) tells
  where
    tells : IsSound old → IsManagers a
    tells (b, shows, each) = let s = goes b shows in steps_tell b s.0 q a s.1 each

pub new_sound : (m : Board) → Shows new_board m → ∥ IsSound m ∥₁
new_sound m shows = ∣ (new_board, shows, tt) ∣₁

pub no_fault : (a : Answer) (area : Bool) → IsManagers a → a ≡ answer.Fault area → ⊥
no_fault a area is e = subst IsManagers e is

-- whatever it is, it tells nothing of transactions, decisions and rows
pub manager_tells : (a : Answer) → IsManagers a → tells_nothing a ≡ true
manager_tells (answer.NotYet target) h = refl
manager_tells answer.Done h = refl
manager_tells answer.NotMine h = refl
manager_tells answer.Gone h = refl
manager_tells (answer.Cycle edges) h = refl
manager_tells (answer.Waiting edges) h = refl
manager_tells answer.Ready h = refl
manager_tells answer.NoMemory h = refl
manager_tells _ h = absurd h
