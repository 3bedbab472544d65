-- A rolling back at none but nodes that the transaction has used: it is permitted.
use Rattle.std.proofs.Common.{◌≡◌, ℕ, Bool, true, false, List, [], ◌∷◌, sym, subst, inl}
use Rattle.std.specs.List.{range_with_len}
use Rattle.hb_types.specs.declared.request.Request.TheVariants as request
use Rattle.hb_types.specs.Lists.{Each}
use Rattle.hb_types.proofs.Ascending.{Each-in}
use Rattle.hb_model.specs.NodeSets.{has_node, nodes_in}
use Rattle.hb_model.specs.declared.reply.Reply.{Reply}
use Rattle.hb_talk.specs.Ends.{fes1, rollbacks, rolling_back}
use Rattle.hb_talk.specs.Talk.{Use}
use Rattle.hb_access.specs.Accesses.{use_of}
use Rattle.hb_access.specs.declared.usage.Usage.{Usage}
use Rattle.hb_session.specs.Sitting.{finishing}
use Rattle.hb_obeys.proofs.Members.{filter-from}
use Rattle.hb_obeys.proofs.Obeying.{Always, Caller, Permits}
use Rattle.hb_obeys.proofs.Permits.{may_abort, may_undo}
use Rattle.hb_obeys.proofs.Planning.{plainly, within}
use Rattle.hb_obeys.proofs.Standing.{Moment, Standing, inside}

-- nothing is said of the end
abbrev pub Anyhow : {R : Type 0} → Moment → R → Type 0
Anyhow m r = Unit {0}

pub nodes_used : (used : ℕ) → Each (λ n. has_node used n ≡ true) (nodes_in used)
nodes_used used = Each-in (λ n. has_node used n ≡ true) (nodes_in used) (λ n i. (filter-from (has_node used) n (range_with_len 0 11) i).1)

module _ (w : Caller) (begun : ℕ) (u : Usage) where
  abbrev stands : Bool → Standing
  stands undone = record { tx = u.tx.0; used = u.used.0; prepared = []; votes = []; decisions = []; undone = undone }

  rollbacks_may : (v : Use) (ns : List ℕ) (left : ℕ) (r : Reply) (undone : Bool) → v.tx ≡ u.tx.0 → Each (λ n. has_node u.used.0 n ≡ true) ns
      → Always w (finishing (rollbacks v 0 ns left r)) (inside begun (stands undone)) Anyhow
  rollbacks_may v [] left r undone e there = ((plainly, λ front st. tt), λ a. tt)
  rollbacks_may v (n ∷ ns) left r undone e there = (
    subst (λ t. Permits w (inside begun (stands undone)) n (request.Rollback (record { 0 = t }))) (sym e)
        (plainly, λ front st. inl (may_undo (stands undone) front n there.0 (λ h. h) st.stands)),
    λ a. rollbacks_may v ns _ r true e there.1,
  )

  pub rolling_back_may : (v : Use) (r : Reply) → v.tx ≡ u.tx.0 → Each (λ n. has_node u.used.0 n ≡ true) (nodes_in v.used)
      → Always w (finishing (rolling_back v 0 r)) (within begun (use_of u)) Anyhow
  rolling_back_may v r e there = (
    subst (λ t. Permits w (inside begun (stands false)) fes1 (request.Abort (record { 0 = t }))) (sym e)
        (plainly, λ front st. may_abort (stands false) front (λ h. h) st.stands),
    λ a. rollbacks_may v (nodes_in v.used) 0 r true e there,
  )
