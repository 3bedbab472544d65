use Rattle.std.proofs.Common.{ap, subst}
use Rattle.std.specs.Vec.Iter.{into_iter_items}
use Rattle.hb_access.specs.Accesses as access
use Rattle.hb_writes.specs.Underway.{Underway}
use Rattle.hb_writes.proofs.Behind.{asks_next}
use Rattle.hb_writes.proofs.writing.Writing.next.Goals as goal

pub returns-clause-next : goal.returns-clause-next
returns-clause-next c =
    asks_next c.args.self.now (record { access = c.next.new.self; left = into_iter_items c.self.inside.left; reply = c.self.inside.reply }) c.next.result
    (ap (λ w. w.left) c.self.view_is) (ap (λ w. w.reply) c.self.view_is)
    (subst (λ (w : Underway). access.NextIs w.access c.next.new.self c.next.result) c.self.view_is c.next.ensures.next)
