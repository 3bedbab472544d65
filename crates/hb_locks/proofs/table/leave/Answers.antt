use Rattle.std.proofs.Common.{refl, [], None, List}
use Rattle.hb_types.specs.declared.lock.Holder.{Holder}
use Rattle.hb_locks.proofs.Order.{left, written}
use Rattle.hb_locks.proofs.table.leave.Goals as goal

pub returns-then-take_out : goal.returns-then-take_out
returns-then-take_out c =
    let mid = c.take_out.new.table.entries in
    let new = c.remove.new.self.entries in
    λ q. left c.args.table.now.entries mid new c.args.path c.args.tx c.take_out.ensures.removed (c.take_out.ensures.empty c.if-take_out.true)
    (λ r. written mid new c.args.path (λ (hs : List Holder). []) None refl r (c.remove.ensures.updates.0 r)) q
