use Rattle.std.proofs.Common.{refl, ap, sym, ◌∙◌}
use Rattle.hb_types.specs.declared.request.Request.TheVariants as request
use Rattle.hb_talk.specs.Talk.{asks}
use Rattle.hb_access.specs.Accesses.{use_of, talk_at, locked, behind_lock, once_done, once_enlisted}
use Rattle.hb_access.proofs.Asking.{enlists_first, locks_next}
use Rattle.hb_access.proofs.access.Access.ask_lock.Goals as goal

pub returns-in-Enlist-clause-next : goal.returns-in-Enlist-clause-next
returns-in-Enlist-clause-next c =
    let g = c.args.goal in
    let u = use_of c.self.inside.usage in (
      refl,
      ap (λ s. talk_at s (use_of c.args.self.now.usage)) c.requires.stage
          ∙ ap (λ a. locked g (use_of a.usage)) (sym c.self.view_is)
          ∙ enlists_first g u c.in-Enlist.ensures.0
          ∙ ap (λ v. asks g.node.0 (request.Enlist c.self.inside.usage.tx) (once_enlisted g.node.0 u.used (locked g) v)) (sym c.in-Enlist.ensures.1),
    )

pub returns-in-Lock-clause-next : goal.returns-in-Lock-clause-next
returns-in-Lock-clause-next c =
    let g = c.args.goal in
    let u = use_of c.self.inside.usage in (
      refl,
      ap (λ s. talk_at s (use_of c.args.self.now.usage)) c.requires.stage
          ∙ ap (λ a. locked g (use_of a.usage)) (sym c.self.view_is)
          ∙ locks_next g u c.in-Lock.ensures.0 c.in-Lock.ensures.1
          ∙ ap (λ v. asks g.node.0 (request.Lock c.self.inside.usage.tx g.path g.mode) (once_done g.node.0 (behind_lock g) v)) (sym c.in-Lock.ensures.2),
    )
