use Rattle.std.proofs.Common.{ap, sym, ◌∙◌}
use Rattle.hb_talk.specs.Moves.{onward}
use Rattle.hb_turn.specs.Turning.{follows, shown_of}
use Rattle.hb_turn.specs.declared.stage.After.TheVariants as after
use Rattle.hb_turn.proofs.Talks.{uncounted_commit}
use Rattle.hb_turn.proofs.turn.Turn.set.Goals as goal

pub returns-in-Ok-clause-told : goal.returns-in-Ok-clause-told
returns-in-Ok-clause-told c = sym (ap (follows (after.Set c.args.group)) (c.in-Ok.ensures.told (shown_of (after.Set c.args.group))))

pub returns-in-Err-clause-told : goal.returns-in-Err-clause-told
returns-in-Err-clause-told c =
    sym (ap (follows (after.Set c.args.group)) (c.in-Err.ensures.told (shown_of (after.Set c.args.group))) ∙ uncounted_commit (λ rs. onward) c.in-Err.reply c.in-Err.ensures.none)
