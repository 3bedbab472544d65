use Rattle.std.proofs.Common.{◌≡◌, refl, ap, sym, ◌∙◌}
use Rattle.hb_types.specs.declared.request.Request.TheVariants as request
use Rattle.hb_talk.specs.Talk.{asks}
use Rattle.hb_access.specs.Accesses.{use_of, talk_at, written, once_enlisted}
use Rattle.hb_access.specs.declared.access.Stage.TheVariants as stage
use Rattle.hb_access.proofs.Asking.{enlists_before_write}
use Rattle.hb_access.proofs.access.Access.ask_write.Goals as goal

pub returns-then-enlists-clause-next : goal.returns-then-enlists-clause-next
returns-then-enlists-clause-next c =
    let node = c.args.node.0 in
    let change = c.in-Write.change in
    let u = use_of c.self.inside.usage in
    let view : c.self.inside.stage ≡ c.args.self.now.stage = ap (λ a. a.stage) c.self.view_is in
    let first = c.requires.stage.1 in
    let value = c.replace.ensures.value in
    let is = c.in-Write.is in
    let st : c.args.self.now.stage ≡ stage.Write c.args.node change = cc in
    let asked = c.enlist-enlists.ensures.asked c.if-enlists.true in (
      refl,
      ap (λ s. talk_at s (use_of c.args.self.now.usage)) st
          ∙ ap (λ a. written node change (use_of a.usage)) (sym c.self.view_is)
          ∙ enlists_before_write node change u asked.0
          ∙ ap (λ v. asks node (request.Enlist c.self.inside.usage.tx) (once_enlisted node u.used (written node change) v)) (sym asked.1),
    )
