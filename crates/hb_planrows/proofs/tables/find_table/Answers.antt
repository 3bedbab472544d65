use Rattle.std.proofs.Common.{◌+◌, drop, ap, sym, ◌∙◌}
use Rattle.std.specs.Option.{option_or}
use Rattle.hb_model.specs.Told.{table_among}
use Rattle.hb_planrows.proofs.Among.{found_now}
use Rattle.hb_planrows.proofs.tables.find_table.Goals as goal

pub returns-in-Some-clause-found : goal.returns-in-Some-clause-found
returns-in-Some-clause-found c = λ tell.
    let rows = c.args.rows.now in
    let i = c.loop-row.row-index in
    let name = c.args.name.now in
    sym (c.loop-row.invariant tell
    ∙ found_now rows i c.row-item.result name c.row-item.is c.loop-row-test.true c.in_ok-found.field-0 c.in_ok-found.ensures.told tell
    ∙ ap (λ o. option_or o (table_among (drop (i + 1) rows) name)) c.in-Some.is)

pub loop-row-preserved : goal.loop-row-preserved
loop-row-preserved c = λ tell.
    let rows = c.args.rows.now in
    let i = c.loop-row.row-index in
    let name = c.args.name.now in
    c.loop-row.invariant tell
    ∙ found_now rows i c.row-item.result name c.row-item.is c.loop-row-test.true c.in_ok-found.field-0 c.in_ok-found.ensures.told tell
    ∙ ap (λ o. option_or o (table_among (drop (i + 1) rows) name)) c.in-None.is
