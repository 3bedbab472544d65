use Rattle.std.proofs.Common.{ap, sym, ◌∙◌}
use Rattle.hb_access.specs.Accesses.{locked, use_of}
use Rattle.hb_round.specs.Onward.{onward}
use Rattle.hb_batch.specs.Batches.{hint_of}
use Rattle.hb_moveplan.specs.declared.finish.Part.TheVariants as part
use Rattle.hb_moveplan.specs.MovePlans.{behind}
use Rattle.hb_moveplan.proofs.Plans.{finish_begins}
use Rattle.hb_moveplan.proofs.finish.Finish.begin.Goals as goal

pub returns-clause-talk : goal.returns-clause-talk
returns-clause-talk c =
    let h = hint_of c.args.hint in
    let u = use_of c.args.usage in
    ap (onward (behind h part.Entry)) (c.lock-access.ensures.talk ∙ ap (λ g. locked g u) c.entry_goal.ensures.goal) ∙ sym (finish_begins h u)
