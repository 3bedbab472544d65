use Rattle.std.proofs.Common.{◌∙◌}
use Rattle.hb_coord.proofs.Recording.{decision_has_record}
use Rattle.hb_coord.proofs.forcing.decision.Goals as goal

pub returns-in_err-nodes_in-clause-has_record : goal.returns-in_err-nodes_in-clause-has_record
returns-in_err-nodes_in-clause-has_record c = decision_has_record c.args.tx.0 c.args.number.0 c.args.votes.now c.requires.tx c.requires.number c.requires.votes

pub frame-requires : goal.frame-requires
frame-requires c = rw (c.from_vec-nodes.ensures ∙ c.in_ok-nodes_in.ensures) (decision_has_record c.args.tx.0 c.args.number.0 c.args.votes.now c.requires.tx c.requires.number c.requires.votes)

pub returns-clause-has_record : goal.returns-clause-has_record
returns-clause-has_record c = decision_has_record c.args.tx.0 c.args.number.0 c.args.votes.now c.requires.tx c.requires.number c.requires.votes
