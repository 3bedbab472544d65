-- The nodes of a plan, which are ds and back ends.
use Rattle.std.proofs.Common.{◌≡◌, ◌≢◌, ℕ, true, false, refl, ap, sym, ◌∙◌, subst}
use Rattle.hb_model.specs.NodeSets.{with_node}
use Rattle.std.proofs.Common.{◌⊎◌, inl, inr, Err}
use Rattle.hb_types.specs.declared.answer.Answer.{Answer}
use Rattle.hb_types.specs.declared.names.NodeName.{NodeName}
use Rattle.hb_types.specs.declared.names.Tx.{Tx}
use Rattle.hb_types.specs.declared.request.Request.{Request}
use Rattle.hb_types.specs.declared.request.Request.TheVariants as request
use Rattle.hb_model.specs.declared.reply.Reply.{Reply}
use Rattle.hb_model.specs.declared.reply.Reply.TheVariants as reply
use Rattle.hb_talk.specs.Sessions.{rolls_back}
use Rattle.hb_talk.specs.Talk.{Talk, says, asks}
use Rattle.hb_access.specs.Accesses.{use_of, used_after, IsServer}
use Rattle.hb_access.specs.declared.access.Next.TheVariants as next
use Rattle.hb_access.specs.declared.usage.Usage.{Usage}
use Rattle.hb_plan.specs.Planned.{Planned, Said, now_talks}
use Rattle.hb_session.specs.Sitting.{Starts}
use Rattle.hb_commit.specs.Driving.{AreBranches}
use Rattle.hb_commit.proofs.Branches.{first_branch, with_branch}
use Rattle.std.proofs.lemmas.Bool.{false≢true}

-- ---- the nodes of a plan

-- what is asked next adds a branch, or there is one
by_uses : (old new : ℕ) (node : NodeName) (q : Request) → new ≡ used_after old (next.Ask node q) → IsServer node.0 → AreBranches old → AreBranches new
unfolding used_after
by_uses old new node (request.Enlist tx) e server b = subst AreBranches (sym e) (with_branch old node.0 b server.0 server.1)
by_uses old new node q e server b = subst AreBranches (sym e) b

with_enlisted : (used : ℕ) (node : NodeName) (tx : Tx) → used_after used (next.Ask node (request.Enlist tx)) ≡ with_node used node.0
unfolding used_after
with_enlisted used node tx = refl

by_start : (plan : Planned) (new : ℕ) (node : NodeName) (q : Request) (k : Answer → Talk Said) → new ≡ used_after plan.usage.used.0 (next.Ask node q)
    → now_talks plan ≡ asks node.0 q k → Starts plan → AreBranches new
by_start plan new node q k e told starts =
    let first = starts.first in
    let is : q ≡ request.Enlist plan.usage.tx = cc in
    let at : node.0 ≡ 1 = cc in
    let whole : new ≡ with_node 0 1 =
    e ∙ ap (λ x. used_after plan.usage.used.0 (next.Ask node x)) is ∙ with_enlisted plan.usage.used.0 node plan.usage.tx
    ∙ ap (λ x. with_node x node.0) starts.none ∙ ap (with_node 0) at in
    subst AreBranches (sym whole) first_branch

pub used_next : (plan : Planned) (new : ℕ) (node : NodeName) (q : Request) (k : Answer → Talk Said) → new ≡ used_after plan.usage.used.0 (next.Ask node q) → IsServer node.0
    → now_talks plan ≡ asks node.0 q k → (AreBranches plan.usage.used.0 ⊎ Starts plan) → AreBranches new
used_next plan new node q k e server told (inl b) = by_uses plan.usage.used.0 new node q e server b
used_next plan new node q k e server told (inr starts) = by_start plan new node q k e told starts

-- a refusal that leaves the transaction open comes behind a branch
pub used_refused : (plan : Planned) (new : Usage) (r : Reply) → ((now_talks plan ≡ says (Err r, use_of new)) ⊎ (r ≡ reply.NoMemory))
    → new.used.0 ≡ plan.usage.used.0 → (AreBranches plan.usage.used.0 ⊎ Starts plan) → rolls_back r ≡ false → AreBranches new.used.0
used_refused plan new r told used (inl b) is = subst AreBranches (sym used) b
used_refused plan new r (inl told) used (inr starts) is = let first = starts.first in absurd (cc (told, first))
used_refused plan new r (inr none) used (inr starts) is = absurd (false≢true (sym is ∙ ap rolls_back none))
