use Rattle.std.proofs.Common.{map}
use Rattle.std.proofs.lemmas.Result.{err_from_is_err_and}
use Rattle.hb_sqlrow.proofs.Steps.{each_at}
use Rattle.hb_endings.specs.Rows.{IsFit}
use Rattle.hb_endings.proofs.Steps.{below_mapped, item_mapped, refused_at, updates_step}
use Rattle.hb_endings.proofs.changes.updates.Goals as goal

pub update-requires-clause-fit : goal.update-requires-clause-fit
update-requires-clause-fit c = each_at (IsFit c.args.table.now) (λ r. r.now) c.args.found.now c.rows.l-index c.l-item.result c.requires.fit c.rows-test.true c.l-item.is

pub returns-in_err-change-clause-refused : goal.returns-in_err-change-clause-refused
returns-in_err-change-clause-refused c =
    let p = err_from_is_err_and c.from_residual.result c.from_residual.ensures.1 in
    rw (p.1, p.2)
    (refused_at c.args.table.now c.args.sets.now (map (λ r. r.now) c.args.found.now) c.rows.l-index c.l-item.result.now c.in_err-change.field-0.0 (below_mapped _ c.args.found.now c.rows.l-index c.rows-test.true)
    (item_mapped (λ r. r.now) c.args.found.now c.rows.l-index c.l-item.result c.rows-test.true c.l-item.is) c.rows.invariant.accepted c.in_err-change.ensures.refused)

pub rows-preserved : goal.rows-preserved
rows-preserved c =
    updates_step c.args.table.now c.args.sets.now (map (λ r. r.now) c.args.found.now) c.rows.l-index c.l-item.result.now c.rows.changes.items c.add.new.changes.items c.in_ok-change.change
    (below_mapped _ c.args.found.now c.rows.l-index c.rows-test.true) (item_mapped (λ r. r.now) c.args.found.now c.rows.l-index c.l-item.result c.rows-test.true c.l-item.is)
    c.rows.invariant c.in_ok-change.ensures.change c.in_ok-change.ensures.write c.in_ok-change.ensures.accepted c.in_ok-add.ensures
