use Rattle.std.proofs.Common.{sym, subst, ◌∙◌, List}
use Rattle.hb_types.specs.declared.answer.Answer.TheVariants as answer
use Rattle.hb_types.specs.declared.change.Change.{Change}
use Rattle.hb_types.specs.declared.request.Request.TheVariants as request
use Rattle.hb_types.specs.Put.{put_all}
use Rattle.hb_engine.specs.Fits.{Stands}
use Rattle.hb_engine.specs.Turned.{Turned}
use Rattle.hb_engine.proofs.Ending.{commit_turn, doubt_changes, never_gone}
use Rattle.hb_engine.proofs.engine.Engine.committed.Goals as goal

pub returns-in-Some : goal.returns-in-Some
returns-in-Some c =
    let e = c.args.self.now in
    λ rows s f st d. (
      doubt_changes e.slots e.locks e.floor rows s c.args.tx f c.in-Some.slot st d (sym c.in-Some.ensures.slot) ∙ sym c.into_list.ensures,
      λ above.
          subst
          (λ (cs : List Change). Turned s (request.Commit c.args.tx c.args.number) answer.Done (λ t. Stands c.remove.new.slots c.remove.new.locks c.later-self.result (put_all rows cs) t))
          (sym c.into_list.ensures)
          (commit_turn e.slots c.remove.new.slots e.locks c.remove.new.locks e.floor c.later-self.result rows s c.args.tx c.args.number f c.in-Some.slot st d above (sym c.in-Some.ensures.slot)
          c.remove.ensures.slots c.remove.ensures.released c.remove.ensures.compatible c.later-self.ensures),
    )

pub returns-in-None : goal.returns-in-None
returns-in-None c =
    let e = c.args.self.now in
    λ rows s f st d. never_gone e.slots e.locks e.floor rows s c.args.tx.0 f st d (sym c.in-None.ensures.slot)
