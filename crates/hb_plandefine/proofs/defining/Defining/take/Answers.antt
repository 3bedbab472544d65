use Rattle.std.proofs.Common.{◌≡◌, ap, sym, subst, ◌∙◌}
use Rattle.hb_plandefine.specs.declared.stage.Stage.{Stage}
use Rattle.hb_plandefine.specs.Defines.{Goes, IsHeard, Tells, is_waiting, now_hears, usage_at}
use Rattle.hb_plandefine.proofs.Standing.{went_hears, went_keeps}
use Rattle.hb_plandefine.proofs.defining.Defining.take.Goals as goal

pub answered-went-requires-clause-waiting : goal.answered-went-requires-clause-waiting
answered-went-requires-clause-waiting c = ap is_waiting (c.replace-stage.ensures.value ∙ c.self.view_is) ∙ c.requires

pub returns-clause-hears : goal.returns-clause-hears
returns-clause-hears c = λ tells.
    let same : c.replace-stage.result ≡ c.args.self.now = c.replace-stage.ensures.value ∙ c.self.view_is in
    let goes = c.answered-went.ensures.goes (subst (λ (s : Stage). Tells s c.args.answer) (sym same) tells) in
    went_hears c.args.self.now c.go.new.self c.args.answer c.answered-went.result c.go.result
    (subst (λ (s : Stage). Goes (now_hears s c.args.answer) c.answered-went.result) same goes) c.go.ensures.went

pub returns-clause-used : goal.returns-clause-used
returns-clause-used c =
    let same : c.replace-stage.result ≡ c.args.self.now = c.replace-stage.ensures.value ∙ c.self.view_is in
    went_keeps (usage_at c.args.self.now) c.go.new.self c.answered-went.result c.go.result
    (subst (λ (s : Stage). IsHeard (usage_at s) c.answered-went.result) same c.answered-went.ensures.heard) c.go.ensures.went
