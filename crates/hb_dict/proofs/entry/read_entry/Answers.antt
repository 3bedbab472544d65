use Rattle.hb_types.specs.Rows.{IsRowOf}
use Rattle.hb_dict.proofs.Tells.{one_row}
use Rattle.hb_dict.proofs.entry.read_entry.Goals as goal

pub returns-clause-refused : goal.returns-clause-refused
returns-clause-refused c =
    let row : IsRowOf c.args.row.now c.as_slice.result.now = rw c.as_slice.ensures c.in_ok-values.ensures.values in
    λ is e a. c.in-None.ensures.refused e a.areas (one_row c.args.row.now c.as_slice.result.now _ row a.spelled)
