use Rattle.std.proofs.Common.{ap, sym, ◌∙◌, ◌+◌, subst}
use Rattle.hb_types.specs.Calls.{IsAnswer}
use Rattle.hb_commit.specs.Driving.{IsSound, SoundAt, IsBallot}
use Rattle.hb_commit.proofs.Ballots.{with_vote}
use Rattle.hb_commit.proofs.driver.Driver.take_vote.Goals as goal

pub returns-in-Vote-clause-sound : goal.returns-in-Vote-clause-sound
returns-in-Vote-clause-sound c = λ s is.
    let set = c.self.inside.nodes.0 in
    let votes = c.self.inside.votes.votes in
    let sound = subst IsSound (sym c.self.view_is) s in
    let at = subst (SoundAt set votes) (ap (λ d. d.stage) c.self.view_is ∙ c.requires.stage) sound.1 in
    let floor = subst IsAnswer c.in-Vote.is is in
    (sound.0, subst (IsBallot set (c.args.node.0 + 1)) (sym (ap (λ b. b.votes) c.push.ensures)) (with_vote set c.args.node c.in-Vote.floor votes at.0 (at.1, at.2, floor)))
