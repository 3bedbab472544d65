use Rattle.std.proofs.Common.{ap, sym, ◌∙◌}
use Rattle.hb_talk.specs.Moves.{again}
use Rattle.hb_turn.specs.Turning.{follows, shown_of}
use Rattle.hb_turn.specs.declared.stage.After.TheVariants as after
use Rattle.hb_turn.proofs.Talks.{uncounted_commit}
use Rattle.hb_turn.proofs.turn.Turn.moved.Goals as goal

pub returns-in-Ok-clause-told : goal.returns-in-Ok-clause-told
returns-in-Ok-clause-told c =
    let f = after.Moved c.args.rows c.args.group in
    c.moved_line.ensures ∙ sym (ap (follows f) (c.in-Ok.ensures.told (shown_of f)))

pub returns-in-Err-clause-told : goal.returns-in-Err-clause-told
returns-in-Err-clause-told c =
    let f = after.Moved c.args.rows c.args.group in
    sym (ap (follows f) (c.in-Err.ensures.told (shown_of f)) ∙ uncounted_commit again c.in-Err.reply c.in-Err.ensures.none)
