-- The nodes of a plan, which are ds and back ends.
use Rattle.std.proofs.Common.{◌≡◌, ◌⊎◌, inl, inr, ℕ, refl, ap, sym, ◌∙◌, subst}
use Rattle.hb_types.specs.declared.answer.Answer.{Answer}
use Rattle.hb_types.specs.declared.names.NodeName.{NodeName}
use Rattle.hb_types.specs.declared.names.Tx.{Tx}
use Rattle.hb_types.specs.declared.request.Request.{Request}
use Rattle.hb_types.specs.declared.request.Request.TheVariants as request
use Rattle.hb_model.specs.NodeSets.{with_node}
use Rattle.hb_model.specs.declared.reply.Reply.{Reply}
use Rattle.hb_talk.specs.Talk.{Talk, asks}
use Rattle.hb_access.specs.Accesses.{used_after, IsServer}
use Rattle.hb_access.specs.declared.access.Next.TheVariants as next
use Rattle.hb_commit.specs.Driving.{AreBranches}
use Rattle.hb_commit.proofs.Branches.{first_branch, with_branch}
use Rattle.hb_moveplan.specs.declared.plan.Plan.{Plan}
use Rattle.hb_moveplan.specs.MovePlans.{Came, now_talks, usage_of}
use Rattle.hb_round.specs.Onward.{Ends}
use Rattle.hb_turn.specs.Turning.{Starts}

-- what is asked next adds a branch, or there is one
by_uses : (old new : ℕ) (node : NodeName) (q : Request) → new ≡ used_after old (next.Ask node q) → IsServer node.0 → AreBranches old → AreBranches new
unfolding used_after
by_uses old new node (request.Enlist tx) e server b = subst AreBranches (sym e) (with_branch old node.0 b server.0 server.1)
by_uses old new node q e server b = subst AreBranches (sym e) b

with_enlisted : (used : ℕ) (node : NodeName) (tx : Tx) → used_after used (next.Ask node (request.Enlist tx)) ≡ with_node used node.0
unfolding used_after
with_enlisted used node tx = refl

by_start : (plan : Plan) (new : ℕ) (node : NodeName) (q : Request) (k : Answer → Talk (Ends Came)) → new ≡ used_after (usage_of plan).used.0 (next.Ask node q)
    → now_talks plan ≡ asks node.0 q k → Starts plan → AreBranches new
by_start plan new node q k e told starts =
    let first = starts.first in
    let is : q ≡ request.Enlist (usage_of plan).tx = cc in
    let at : node.0 ≡ 1 = cc in
    let whole : new ≡ with_node 0 1 =
    e ∙ ap (λ x. used_after (usage_of plan).used.0 (next.Ask node x)) is ∙ with_enlisted (usage_of plan).used.0 node (usage_of plan).tx
    ∙ ap (λ x. with_node x node.0) starts.none ∙ ap (with_node 0) at in
    subst AreBranches (sym whole) first_branch

pub used_next : (plan : Plan) (new : ℕ) (node : NodeName) (q : Request) (k : Answer → Talk (Ends Came)) → new ≡ used_after (usage_of plan).used.0 (next.Ask node q) → IsServer node.0
    → now_talks plan ≡ asks node.0 q k → (AreBranches (usage_of plan).used.0 ⊎ Starts plan) → AreBranches new
used_next plan new node q k e server told (inl b) = by_uses (usage_of plan).used.0 new node q e server b
used_next plan new node q k e server told (inr starts) = by_start plan new node q k e told starts

-- a refusal before anything is asked leaves the nodes as they are
pub used_refusal : (used : ℕ) (r : Reply) → used_after used (next.Refused r) ≡ used
unfolding used_after
used_refusal used r = refl
