use Rattle.std.proofs.Common.{◌≡◌, take, filter_map}
use Rattle.hb_model.specs.Values.{value_in}
use Rattle.hb_sqlrow.proofs.showing.named.Given as goal

abbrev pub invariant-loop-name : goal.invariant-loop-name
invariant-loop-name l = l.out ≡ filter_map (value_in l.columns l.row) (take l.name-index l.names)
