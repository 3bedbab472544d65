-- Which nodes a transaction uses where its statement goes on or is refused, whatever the answers tell.
use Rattle.std.proofs.Common.{◌≡◌, inl, inr, ℕ, ◌==◌, Bool, true, false, List, [], ◌∷◌, refl, ap, sym, ◌∙◌, subst}
use Rattle.std.specs.Prelude.{◌&&◌, not}
use Rattle.hb_types.specs.declared.names.NodeName.{NodeName}
use Rattle.hb_types.specs.declared.request.Request.{Request}
use Rattle.hb_types.specs.declared.request.Request.TheVariants as request
use Rattle.hb_types.specs.Lists.{Each}
use Rattle.hb_model.specs.NodeSets.{has_node, nodes_in}
use Rattle.hb_model.specs.declared.reply.Reply.{Reply}
use Rattle.hb_access.specs.Accesses.{at_branch, use_of, used_after}
use Rattle.hb_access.specs.declared.access.Next.TheVariants as next
use Rattle.hb_access.specs.declared.usage.Usage.{Usage}
use Rattle.hb_plan.specs.Planned.{Planned}
use Rattle.hb_wait.specs.declared.pending.Pending.TheVariants as pending
use Rattle.hb_session.specs.declared.stage.Asking.{Asking}
use Rattle.hb_session.specs.declared.stage.Stage.{Stage}
use Rattle.hb_session.specs.declared.stage.Stage.TheVariants as stage
use Rattle.hb_session.specs.Sitting.{Sitting, is_ending}
use Rattle.hb_session.specs.Steps.{AsksAt, IsSameUse, Moves, RollsBack, StaysAt, Undoes}

-- a refusal before anything is asked leaves the nodes as they are
pub used_refusal : (used : ℕ) (r : Reply) → used_after used (next.Refused r) ≡ used
unfolding used_after
used_refusal used r = refl

-- ---- the same transaction and nodes, counted otherwise

same_branch : (u v : Usage) (n : NodeName) (q : Request) → IsSameUse u v → at_branch v (next.Ask n q) ≡ at_branch u (next.Ask n q)
unfolding at_branch
same_branch u v n (request.Enlist tx) s = ap (λ x. (tx.0 == x) && not (has_node v.used.0 n.0)) s.0 ∙ ap (λ x. (tx.0 == u.tx.0) && not (has_node x n.0)) s.1
same_branch u v n (request.Lock tx path mode) s = ap (λ x. (tx.0 == x) && has_node v.used.0 n.0) s.0 ∙ ap (λ x. (tx.0 == u.tx.0) && has_node x n.0) s.1
same_branch u v n (request.Read tx place) s = ap (λ x. (tx.0 == x) && has_node v.used.0 n.0) s.0 ∙ ap (λ x. (tx.0 == u.tx.0) && has_node x n.0) s.1
same_branch u v n (request.Scan tx space) s = ap (λ x. (tx.0 == x) && has_node v.used.0 n.0) s.0 ∙ ap (λ x. (tx.0 == u.tx.0) && has_node x n.0) s.1
same_branch u v n (request.ScanGroup tx space group) s = ap (λ x. (tx.0 == x) && has_node v.used.0 n.0) s.0 ∙ ap (λ x. (tx.0 == u.tx.0) && has_node x n.0) s.1
same_branch u v n (request.Write tx change) s = ap (λ x. (tx.0 == x) && has_node v.used.0 n.0) s.0 ∙ ap (λ x. (tx.0 == u.tx.0) && has_node x n.0) s.1
same_branch u v n q s = refl

asks_same : (u v : Usage) (b : Asking) → IsSameUse u v → AsksAt v b → AsksAt u b
asks_same u v b s h = record {
  node = h.node;
  request = h.request;
  pending = h.pending;
  branch = sym (same_branch u v h.node h.request s) ∙ h.branch;
  tx = h.tx ∙ s.0;
  used = h.used ∙ ap (λ x. used_after x (next.Ask h.node h.request)) s.1;
}

pub stays_same : (u v : Usage) (g : Stage) → IsSameUse u v → StaysAt v g → StaysAt u g
stays_same u v (stage.Asks b) s h = asks_same u v b s h
stays_same u v (stage.Open w) s h = (h.0 ∙ s.0, h.1 ∙ s.1)
stays_same u v (stage.Refused w r) s h = (h.0 ∙ s.0, h.1 ∙ s.1)
stays_same u v _ s h = absurd h

undoes_same : (u v : Usage) (new : Sitting) → IsSameUse u v → Undoes v new → Undoes u new
undoes_same u v new s h = record {
  uses = h.uses;
  why = h.why;
  tx = h.tx ∙ s.0;
  nodes = subst (λ x. Each (λ n. has_node x n ≡ true) (nodes_in h.uses.used)) s.1 h.nodes;
  rolls = h.rolls;
  ending = h.ending;
}

pub moves_same : (u v : Usage) (new : Sitting) → IsSameUse u v → Moves v new → Moves u new
moves_same u v new s (inl h) = inl (stays_same u v new.stage s h)
moves_same u v new s (inr h) = inr (undoes_same u v new s h)

-- ---- where it goes

-- the request that is next is held
pub asks_at : (u : Usage) (held : Planned) (node : NodeName) (q : Request) → at_branch u (next.Ask node q) ≡ true → held.usage.tx.0 ≡ u.tx.0
    → held.usage.used.0 ≡ used_after u.used.0 (next.Ask node q) → AsksAt u (record { plan = held; pending = pending.Asks node q })
asks_at u held node q branch tx used = record { node = node; request = q; pending = refl; branch = branch; tx = tx; used = used }

-- rolled back at the nodes that are left
pub undone : (u v : Usage) (r : Reply) (new : Sitting) → v.tx.0 ≡ u.tx.0 → Each (λ n. has_node u.used.0 n ≡ true) (nodes_in v.used.0) → RollsBack (use_of v) r new
    → is_ending new.stage ≡ true → Undoes u new
undone u v r new tx nodes rolled ending = record { uses = use_of v; why = r; tx = tx; nodes = nodes; rolls = rolled; ending = ending }
