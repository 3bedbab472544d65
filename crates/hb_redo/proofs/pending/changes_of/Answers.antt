use Rattle.std.proofs.Common.{◌∙◌, sym}
use Rattle.hb_redo.proofs.Leaving.{of_none, of_vote}
use Rattle.hb_redo.proofs.pending.changes_of.Goals as goal

pub returns-in-Some-clause-are : goal.returns-in-Some-clause-are
returns-in-Some-clause-are c = λ voted doubts has.
    c.changes_at.ensures.at ∙ of_vote c.args.records.now c.args.votes.now voted doubts c.args.tx.0 c.in-Some.index has (sym c.voted_by.ensures ∙ c.in-Some.is)

pub returns-in-None-clause-are : goal.returns-in-None-clause-are
returns-in-None-clause-are c = λ voted doubts has. sym (of_none c.args.records.now c.args.votes.now voted doubts c.args.tx.0 has (sym c.voted_by.ensures ∙ c.in-None.is))
