use Rattle.std.proofs.Common.{sym}
use Rattle.hb_dict.proofs.ValuesBack.{values_back}
use Rattle.hb_planrows.proofs.lying.values_of.Goals as goal

pub returns-in-Ok : goal.returns-in-Ok
returns-in-Ok c = λ row. sym (values_back c.args.row.now c.in-Ok.values c.in-Ok.ensures.row)
