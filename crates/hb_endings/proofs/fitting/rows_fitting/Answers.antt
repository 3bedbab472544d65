use Rattle.std.proofs.Common.{◌≡◌, sym, subst, ◌∙◌}
use Rattle.std.proofs.lemmas.Result.{IfOk-weaker}
use Rattle.hb_types.specs.Lists.{Each}
use Rattle.hb_talk.specs.Plans.{lying_rows}
use Rattle.hb_endings.specs.Rows.{Suits}
use Rattle.hb_endings.proofs.FitRows.{are_rows, lying_suit}
use Rattle.hb_endings.proofs.fitting.rows_fitting.Goals as goal

pub returns-clause-all : goal.returns-clause-all
returns-clause-all c = λ of.
    let t = c.args.table.now in
    let rows = c.args.rows.now in
    let is = c.in_ok-rows_lying.ensures (are_rows t rows of) in
    IfOk-weaker c.all_kept.result _ (λ ls. ls.items ≡ lying_rows rows) (λ ls same. same ∙ is) (c.all_kept.ensures.all (subst (Each (Suits t)) (sym is) (lying_suit t rows of)))
