use Rattle.std.proofs.Common.{◌≡◌, map, None, false, ap, sym, ◌∙◌}
use Rattle.hb_model.specs.declared.reply.Reply.TheVariants as reply
use Rattle.hb_model.specs.Rows.{chooses, shown}
use Rattle.hb_planrows.specs.PlanRows.{rows_in}
use Rattle.hb_endings.specs.Endings.{answer}
use Rattle.hb_endings.specs.Rows.{IsFit, chosen_of}
use Rattle.hb_endings.proofs.Ends.{select_at}
use Rattle.hb_endings.proofs.FitRows.{each_passed}
use Rattle.hb_endings.proofs.ending.select_rows.Goals as goal

pub show-requires : goal.show-requires
show-requires c = rw (c.as_slice.ensures, c.in-Ok.ensures.chosen) (each_passed (IsFit c.args.table.now) (λ l. chooses c.args.table.now c.args.pred.now l.1) c.args.rows.now c.requires)

pub returns-in_ok-show-in-Ok : goal.returns-in_ok-show-in-Ok
returns-in_ok-show-in-Ok c =
    let t = c.args.table.now in
    let w = c.args.what.now in
    let pred = c.args.pred.now in
    let found : map (λ l. l.now) c.as_slice.result.now ≡ chosen_of t pred c.args.rows.now = rw c.as_slice.ensures c.in-Ok.ensures.chosen in
    ap (λ vs. answer (reply.Rows vs)) (c.in_ok-show-in-Ok.ensures ∙ ap (λ ls. shown t w (rows_in ls)) found)
    ∙ sym (select_at t pred c.args.rows.now w None false (sym c.in_default.is ∙ c.select_check.ensures) c.in-Ok.ensures.told)
