use Rattle.std.proofs.Common.{arith}
use Rattle.hb_types.specs.declared.entry.Entry.TheVariants as entry
use Rattle.hb_definerows.proofs.Short.{entry_is_row}
use Rattle.hb_moveplan.proofs.finish.row_at.Goals as goal

pub returns-clause-sound : goal.returns-clause-sound
returns-clause-sound c =
    let fits = c.ranges.area.fits in
    entry_is_row c.in_ok-row.row (entry.At c.args.area) (omega (arith, fits)) c.in_ok-row.ensures
