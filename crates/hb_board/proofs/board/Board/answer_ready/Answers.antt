use Rattle.std.proofs.Common.{subst}
use Rattle.hb_types.specs.declared.answer.Answer.{Answer}
use Rattle.hb_types.specs.declared.request.Request.TheVariants as request
use Rattle.hb_runs.specs.Board.{ready, Steps}
use Rattle.hb_board.proofs.board.Board.answer_ready.Goals as goal

pub returns-in-Ready-clause-steps : goal.returns-in-Ready-clause-steps
returns-in-Ready-clause-steps c = λ b shows. (b, subst (λ (a : Answer). Steps b (request.Ready c.args.tx) a b) (c.in-Ready.ensures b shows) (ready c.args.tx))

pub returns-in-NotYet-clause-steps : goal.returns-in-NotYet-clause-steps
returns-in-NotYet-clause-steps c = λ b shows. (b, subst (λ (a : Answer). Steps b (request.Ready c.args.tx) a b) (c.in-NotYet.ensures b shows) (ready c.args.tx))
