use Rattle.std.proofs.Common.{[]}
use Rattle.hb_turns.proofs.laws.checks_tell_numbers.Goals as goal

pub returns : goal.returns
returns c =
    λ back_ends family s tx table number names entries calls few sys answers rows told.
    let k = (c.check_tells.ensures back_ends family s tx table 0 number names entries calls [] few sys answers rows told tt).1 in
    (k.spread, k.named, k.numbered)
