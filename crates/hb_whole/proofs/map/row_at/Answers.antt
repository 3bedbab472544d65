use Rattle.std.proofs.Common.{sym, ◌∙◌, subst, None, Option, List, ℕ}
use Rattle.std.specs.Prelude.{IfSome}
use Rattle.hb_types.specs.Rows.{IsRow}
use Rattle.hb_whole.proofs.SlotRows.{found_row, found_slot, if_copied}
use Rattle.hb_whole.proofs.map.row_at.Goals as goal

pub returns-in-Some-clause-row : goal.returns-in-Some-clause-row
returns-in-Some-clause-row c = c.row_of.ensures ∙ sym (found_row c.args.map.now.entries c.args.place _ c.in-Some.ensures.value c.len.ensures.ordered)

pub returns-in-None-clause-row : goal.returns-in-None-clause-row
returns-in-None-clause-row c = sym (found_row c.args.map.now.entries c.args.place None c.in-None.ensures.value c.len.ensures.ordered)

pub returns-in-Some-clause-fits : goal.returns-in-Some-clause-fits
returns-in-Some-clause-fits c = if_copied c.row_of.result (subst (λ (o : Option (List ℕ)). IfSome o IsRow) (sym c.row_of.ensures) (found_slot c.args.map.now.entries c.args.place c.in-Some.slot.now c.in-Some.ensures.value c.requires).1)
