use Rattle.std.proofs.Common.{None, ap}
use Rattle.hb_types.specs.declared.change.Change.{Change}
use Rattle.hb_batch.proofs.Steps.{out_is_much, place_same, takes_row_out}
use Rattle.hb_batch.proofs.batch.Batch.take_out.Goals as goal

pub returns-in-Some : goal.returns-in-Some
returns-in-Some c =
    let s = c.self.inside in
    let change = ap {B = Change} (λ p. record { place = p; row = None }) (place_same s.hint.old s.hint.table s.key c.place.result c.self.invariant.1 c.place.ensures) in
    takes_row_out _ _ _ _ _ _ _ c.self.view_is c.usage.ensures change c.in-Some.ensures c.write.ensures.usage c.write.ensures.asking c.node_of.ensures c.write.ensures.talk

pub returns-in-None : goal.returns-in-None
returns-in-None c =
    let s = c.self.inside in
    let change = ap {B = Change} (λ p. record { place = p; row = None }) (place_same s.hint.old s.hint.table s.key c.place.result c.self.invariant.1 c.place.ensures) in
    out_is_much _ _ _ _ c.self.view_is c.usage.ensures change c.in-None.ensures
