use Rattle.std.proofs.Common.{Some, ap}
use Rattle.hb_types.specs.declared.change.Change.{Change}
use Rattle.hb_batch.proofs.Steps.{place_same, put_is_much, puts_row}
use Rattle.hb_batch.proofs.batch.Batch.put.Goals as goal

pub returns-in-Some : goal.returns-in-Some
returns-in-Some c =
    let s = c.self.inside in
    let change = ap {B = Change} (λ p. record { place = p; row = Some c.args.row }) (place_same s.hint.new s.hint.table s.key c.place.result c.self.invariant.1 c.place.ensures) in
    puts_row _ _ _ _ _ _ c.args.row _ c.self.view_is c.usage.ensures change c.in-Some.ensures c.write.ensures.usage c.write.ensures.asking c.node_of.ensures c.write.ensures.talk

pub returns-in-None : goal.returns-in-None
returns-in-None c =
    let s = c.self.inside in
    let change = ap {B = Change} (λ p. record { place = p; row = Some c.args.row }) (place_same s.hint.new s.hint.table s.key c.place.result c.self.invariant.1 c.place.ensures) in
    put_is_much _ _ _ _ c.args.row c.self.view_is c.usage.ensures change c.in-None.ensures
