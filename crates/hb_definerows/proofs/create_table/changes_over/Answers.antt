use Rattle.std.proofs.Common.{◌∙◌, List, subst}
use Rattle.std.specs.Prelude.{[]}
use Rattle.hb_types.specs.declared.entry.Entry.{Entry}
use Rattle.hb_model.specs.Dictionary.{entry_rows}
use Rattle.hb_definerows.specs.DefineRows.{Puts, spread_told}
use Rattle.hb_definerows.proofs.RowsPut.{puts_three}
use Rattle.hb_definerows.proofs.create_table.changes_over.Goals as goal

pub returns : goal.returns
returns c =
    puts_three _ c.put_table.new.changes.items c.put_members.new.changes.items c.put_entries.new.changes.items _ _ _ c.new-changes.ensures.items c.in_ok-put_table.ensures c.in_ok-put_members.ensures
    (subst (λ (es : List Entry). Puts c.put_members.new.changes.items c.put_entries.new.changes.items (entry_rows (spread_told c.args.number [] es))) (c.as_slice.ensures.value ∙ c.in_ok-entries.ensures)
    c.in_ok-put_entries.ensures)
