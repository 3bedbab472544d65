use Rattle.std.proofs.Common.{◌≡◌, true, ap, ◌∙◌, subst, drop}
use Rattle.hb_mover.specs.Moving.{Moving, is_going}
use Rattle.hb_mover.specs.Steps.{Stepped}
use Rattle.hb_mover.specs.declared.mover.Progress.TheVariants as progress
use Rattle.hb_mover.specs.contracts.mover.Mover.{the_view}
use Rattle.hb_mover.proofs.Stepping.{kept_step, stepped_more, stepped_said, stepped_waits}
use Rattle.hb_mover.proofs.mover.Mover.step.Goals as goal

pub invariant_of-self : goal.invariant_of-self
invariant_of-self g c =
    let i = c.self.inside in
    let st = c.step.ensures.stepped.steps in kept_step i.turn c.step.new.self (drop i.at i.hints) st.1 c.self.invariant st.4.begun

pub invariant_of-self-in-Said : goal.invariant_of-self-in-Said
invariant_of-self-in-Said g c =
    let i = c.self.inside in
    let st = c.step.ensures.stepped.steps in kept_step i.turn c.step.new.self (drop i.at i.hints) st.1 c.self.invariant st.4.begun

pub returns-in-More-clause-stepped : goal.returns-in-More-clause-stepped
returns-in-More-clause-stepped g c =
    let i = c.self.inside in
    let t = c.step.new.self in
    let lists = g.N.Nodes.lists in
    let going : is_going (the_view i) ≡ true = ap is_going c.self.view_is ∙ c.requires.going in
    subst (λ (m : Moving). Stepped m (record (the_view i) { turn = t }) (lists c.args.nodes.now) (lists c.step.new.nodes) progress.More) c.self.view_is
    (stepped_more (the_view i) t (lists c.args.nodes.now) (lists c.step.new.nodes) going c.self.invariant.begun c.in-More.ensures.stepped)

pub returns-in-Waits-clause-stepped : goal.returns-in-Waits-clause-stepped
returns-in-Waits-clause-stepped g c =
    let i = c.self.inside in
    let t = c.step.new.self in
    let lists = g.N.Nodes.lists in
    let going : is_going (the_view i) ≡ true = ap is_going c.self.view_is ∙ c.requires.going in
    subst (λ (m : Moving). Stepped m (record (the_view i) { turn = t }) (lists c.args.nodes.now) (lists c.step.new.nodes) (progress.Waits c.in-Waits.edges)) c.self.view_is
    (stepped_waits (the_view i) t (lists c.args.nodes.now) (lists c.step.new.nodes) c.in-Waits.edges going c.self.invariant.begun c.in-Waits.ensures.stepped)

pub returns-in-Said-clause-stepped : goal.returns-in-Said-clause-stepped
returns-in-Said-clause-stepped g c =
    let i = c.self.inside in
    let t = c.step.new.self in
    let lists = g.N.Nodes.lists in
    let going : is_going (the_view i) ≡ true = ap is_going c.self.view_is ∙ c.requires.going in
    subst (λ (m : Moving). Stepped m c.follow.new.self (lists c.args.nodes.now) (lists c.step.new.nodes) c.follow.result) c.self.view_is
    (stepped_said (the_view i) c.follow.new.self t (lists c.args.nodes.now) (lists c.step.new.nodes) c.in-Said.turned c.follow.result going c.self.invariant.begun
    c.in-Said.ensures.stepped c.in-Said.ensures.ending c.follow.ensures)
