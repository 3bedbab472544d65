use Rattle.std.proofs.Common.{◌≡◌, max, refl, rules}
use Rattle.hb_coord.proofs.Knowing.{knows_decision, numbers_more}
use Rattle.hb_coord.proofs.kept.Recorded.decide.Goals as goal

pub returns-clause-ok : goal.returns-clause-ok
returns-clause-ok c = λ log nodes knows.
    let is : c.max-self.result ≡ max c.args.self.now.number c.args.number.0 = search rules in
    knows_decision log c.args.self.now _ c.args.tx.0 c.args.number.0 nodes knows refl is c.in_ok-insert.ensures.updates

pub invariant_of-self-2 : goal.invariant_of-self-2
invariant_of-self-2 c = record { numbers = numbers_more c.args.self.now.decided c.insert.new.self c.args.tx.0 c.args.number.0 c.args.self.now.numbers c.requires c.in_ok-insert.ensures.updates }
