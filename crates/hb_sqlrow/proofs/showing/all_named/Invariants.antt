use Rattle.std.proofs.Common.{◌≡◌, map, take, filter_map}
use Rattle.hb_model.specs.Values.{value_in}
use Rattle.hb_sqlrow.proofs.showing.all_named.Given as goal

abbrev pub invariant-loop-row : goal.invariant-loop-row
invariant-loop-row l = l.out ≡ map (λ row. filter_map (value_in l.columns row) l.names) (map (λ x. x.now) (take l.row-index l.rows))
