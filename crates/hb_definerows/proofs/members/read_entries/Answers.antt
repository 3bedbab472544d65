use Rattle.std.specs.Prelude.{Some}
use Rattle.hb_types.specs.declared.change.Stored.{Stored}
use Rattle.hb_model.specs.Told.{entry_of}
use Rattle.hb_planrows.specs.PlanRows.{TellsEntry}
use Rattle.hb_definerows.proofs.Reading.{read_more}
use Rattle.hb_definerows.proofs.members.read_entries.Goals as goal

pub loop-row-preserved : goal.loop-row-preserved
loop-row-preserved c =
    read_more (λ (r : Stored). TellsEntry (Some r.row)) (λ (r : Stored). entry_of (Some r.row)) c.args.rows.now c.loop-row.row-index c.row-item.result c.in_ok-entry_told.field-0
    c.loop-row.entries.items c.push_some.new.items.items c.row-item.is c.loop-row-test.true c.in_ok-entry_told.ensures c.loop-row.invariant c.in_ok-push_some.ensures
