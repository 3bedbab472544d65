use Rattle.std.proofs.Common.{ap, sym, ◌∙◌, subst, ◌≡◌, true, ◌∷◌, ◌+◌}
use Rattle.hb_commit.specs.Driving.{IsSound, SoundAt, IsBallot}
use Rattle.hb_commit.proofs.Ballots.{branch_within, later}
use Rattle.hb_model.specs.NodeSets.{has_node}
use Rattle.hb_nodeset.specs.NodesFrom.{nodes_from}
use Rattle.hb_commit.proofs.driver.Driver.await_vote.Goals as goal

pub returns-clause-sound : goal.returns-clause-sound
returns-clause-sound c = λ s.
    let from = c.requires.0 in
    let node = c.args.node.0 in
    let set = c.self.inside.nodes.0 in
    let votes = c.self.inside.votes.votes in
    let sound = subst IsSound (sym c.self.view_is) s in
    let b : IsBallot set from votes = subst (SoundAt set votes) (ap (λ d. d.stage) c.self.view_is ∙ c.requires.1) sound.1 in
    let has : has_node set node ≡ true = ap (λ d. has_node d.nodes.0 node) c.self.view_is ∙ c.requires.4 in
    let next : nodes_from set from ≡ node ∷ nodes_from set (node + 1) = subst (λ d. nodes_from d.nodes.0 from ≡ node ∷ nodes_from d.nodes.0 (node + 1)) (sym c.self.view_is) c.requires.5 in
    let within = branch_within set node b.branches has c.requires.3 in
    ((sound.0, (later set from node votes b c.requires.2 c.requires.3 has next, within.0, within.1)), (sound.0, c.requires.3))
