use Rattle.std.proofs.Common.{ap, ◌∙◌, subst}
use Rattle.hb_model.specs.declared.reply.Reply.TheVariants as reply
use Rattle.hb_model.specs.declared.statement.Statement.TheVariants as statement
use Rattle.hb_session.specs.Sitting.{Sitting}
use Rattle.hb_session.specs.Steps.{Gives}
use Rattle.hb_session.specs.contracts.session.Session.{the_view}
use Rattle.hb_session.proofs.Ends.{commit_given, ends_with}
use Rattle.hb_session.proofs.session.Session.commit.Goals as goal

pub returns-in-Ok-clause-given : goal.returns-in-Ok-clause-given
returns-in-Ok-clause-given c =
    let d = c.in-Ok.driver in
    let of = c.in-Ok.ensures.of in
    let old : Sitting = the_view c.self.inside in
    let new : Sitting = record old { stage = ends_with c.args.usage d reply.RolledBack } in
    subst (λ s. Gives s new statement.Commit) c.self.view_is
    (commit_given old c.args.usage d reply.RolledBack (ap (λ s. s.stage) c.self.view_is ∙ c.requires.stage) of.0 of.1 c.in-Ok.ensures.talk)
