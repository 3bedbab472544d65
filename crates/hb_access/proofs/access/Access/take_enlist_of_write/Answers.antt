use Rattle.std.proofs.Common.{◌≡◌, true, ap, sym, subst, ◌∙◌}
use Rattle.hb_talk.specs.Sessions.{rolls_back}
use Rattle.hb_access.specs.Accesses.{keeps_nodes}
use Rattle.hb_access.proofs.Nodes.{stays, leaves_out, rolls_refusal}
use Rattle.hb_access.proofs.access.Access.take_enlist_of_write.Goals as goal

pub returns-in-Done-clause-used : goal.returns-in-Done-clause-used
returns-in-Done-clause-used c = stays _ _ _ c.begin_write.ensures.used

pub returns-in_default-clause-used : goal.returns-in_default-clause-used
returns-in_default-clause-used c =
    subst (λ b. keeps_nodes c.args.self.now.usage.used.0 c.lose.new.self.usage.used.0 b ≡ true)
    (sym (ap rolls_back c.refusal.ensures ∙ rolls_refusal _ _))
    (subst (λ k. keeps_nodes c.args.self.now.usage.used.0 k true ≡ true) (sym (ap (λ a. a.usage.used.0) c.lose.ensures)) (leaves_out _ _ _ c.requires.branch))
