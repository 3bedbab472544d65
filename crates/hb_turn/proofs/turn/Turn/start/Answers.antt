use Rattle.std.proofs.Common.{inr, sym, subst}
use Rattle.hb_wait.specs.Courses.{free}
use Rattle.hb_turn.specs.Turning.{nothing_used}
use Rattle.hb_turn.specs.Steps.{started, CarriesOn}
use Rattle.hb_turn.proofs.Calls.{batch_starts, batch_started, finish_starts, finish_started}
use Rattle.hb_turn.proofs.turn.Turn.start.Goals as goal

pub go_on-requires-clause-starts : goal.go_on-requires-clause-starts
go_on-requires-clause-starts c =
    inr (batch_starts c.in-Batch.hint c.in-Batch.keys c.args.tx c.batch-plan.result c.unused.result c.unused.ensures c.batch-plan.ensures.usage c.batch-plan.ensures.talk)

pub go_on-requires-in-Finish-clause-starts : goal.go_on-requires-in-Finish-clause-starts
go_on-requires-in-Finish-clause-starts c =
    inr (finish_starts c.in-Finish.hint c.args.tx c.finish-plan.result c.unused-in-Finish.result c.unused-in-Finish.ensures c.finish-plan.ensures.usage c.finish-plan.ensures.talk)

pub returns-in-Check : goal.returns-in-Check
returns-in-Check c =
    subst (λ k. CarriesOn (free (started c.args.self.now c.args.tx k)) (nothing_used c.args.tx) c.args.self.now c.start_check.new.self c.start_check.result) (sym c.in-Check.is) c.start_check.ensures

pub returns-in-Batch : goal.returns-in-Batch
returns-in-Batch c =
    subst (λ k. CarriesOn (free (started c.args.self.now c.args.tx k)) (nothing_used c.args.tx) c.args.self.now c.go_on.new.self c.go_on.result) (sym c.in-Batch.is)
    (batch_started c.args.self.now c.go_on.new.self c.args.tx c.in-Batch.hint c.in-Batch.keys c.batch-plan.result c.unused.result c.go_on.result
    c.unused.ensures c.batch-plan.ensures.usage c.batch-plan.ensures.talk c.go_on.ensures)

pub returns-in-Finish : goal.returns-in-Finish
returns-in-Finish c =
    subst (λ k. CarriesOn (free (started c.args.self.now c.args.tx k)) (nothing_used c.args.tx) c.args.self.now c.go_on-in-Finish.new.self c.go_on-in-Finish.result) (sym c.in-Finish.is)
    (finish_started c.args.self.now c.go_on-in-Finish.new.self c.args.tx c.in-Finish.hint c.finish-plan.result c.unused-in-Finish.result c.go_on-in-Finish.result
    c.unused-in-Finish.ensures c.finish-plan.ensures.usage c.finish-plan.ensures.talk c.go_on-in-Finish.ensures)
