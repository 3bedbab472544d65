use Rattle.std.proofs.Common.{◌≡◌, map, length, None, false, ap, sym, ◌∙◌, subst}
use Rattle.hb_types.specs.Lists.{Each}
use Rattle.hb_model.specs.declared.reply.Reply.TheVariants as reply
use Rattle.hb_model.specs.Rows.{chooses}
use Rattle.hb_talk.specs.Plans.{removing}
use Rattle.hb_writes.specs.Underway.{IsWrite}
use Rattle.hb_endings.specs.Endings.{changing}
use Rattle.hb_endings.specs.Rows.{IsFit, chosen_of}
use Rattle.hb_endings.proofs.Ends.{delete_at, length-mapped}
use Rattle.hb_endings.proofs.FitRows.{each_passed}
use Rattle.hb_endings.proofs.Steps.{removing_writes}
use Rattle.hb_endings.proofs.ending.delete_rows.Goals as goal

pub returns-in_ok-changes-in-Ok-clause-end : goal.returns-in_ok-changes-in-Ok-clause-end
returns-in_ok-changes-in-Ok-clause-end c =
    let t = c.args.table.now in
    let pred = c.args.pred.now in
    let found : map (λ l. l.now) c.as_slice.result.now ≡ chosen_of t pred c.args.rows.now = rw c.as_slice.ensures c.in-Ok.ensures.chosen in
    let count : c.len.result ≡ length (chosen_of t pred c.args.rows.now) = c.len.ensures ∙ ap length (sym c.as_slice.ensures) ∙ sym (length-mapped (λ l. l.now) c.as_slice.result.now) ∙ ap length found in
    (λ i. changing ((c.in_ok-changes-in-Ok.ensures ∙ ap (map (λ l. removing l.0)) found) i) (reply.Deleted (count i)))
    ∙ sym (delete_at t pred c.args.rows.now None false (sym c.in_default.is ∙ c.select_check.ensures) c.in-Ok.ensures.told)

pub returns-in_ok-changes-in-Ok-clause-sound : goal.returns-in_ok-changes-in-Ok-clause-sound
returns-in_ok-changes-in-Ok-clause-sound c =
    let t = c.args.table.now in
    let pred = c.args.pred.now in
    let found : map (λ l. l.now) c.as_slice.result.now ≡ chosen_of t pred c.args.rows.now = rw c.as_slice.ensures c.in-Ok.ensures.chosen in
    subst (Each IsWrite) (sym (c.in_ok-changes-in-Ok.ensures ∙ ap (map (λ l. removing l.0)) found))
    (removing_writes t (chosen_of t pred c.args.rows.now) (each_passed (IsFit t) (λ l. chooses t pred l.1) c.args.rows.now c.requires))
