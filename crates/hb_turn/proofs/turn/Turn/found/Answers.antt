use Rattle.std.proofs.Common.{ap, sym, ◌∙◌}
use Rattle.std.specs.Prelude.{map}
use Rattle.hb_batch.specs.Batches.{hint_of}
use Rattle.hb_turn.specs.Turning.{follows, shown_of}
use Rattle.hb_turn.specs.declared.stage.After.TheVariants as after
use Rattle.hb_turn.proofs.Talks.{uncounted_check}
use Rattle.hb_turn.proofs.turn.Turn.found.Goals as goal

pub returns-in-Ok-clause-told : goal.returns-in-Ok-clause-told
returns-in-Ok-clause-told c = sym (ap (follows (after.Checked c.args.hints)) (c.in-Ok.ensures.told (shown_of (after.Checked c.args.hints))))

pub returns-in-Err-clause-told : goal.returns-in-Err-clause-told
returns-in-Err-clause-told c =
    sym (ap (follows (after.Checked c.args.hints)) (c.in-Err.ensures.told (shown_of (after.Checked c.args.hints))) ∙ uncounted_check (map hint_of c.args.hints) c.in-Err.reply c.in-Err.ensures.none)
