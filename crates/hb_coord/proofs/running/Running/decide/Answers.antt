use Rattle.std.proofs.Common.{◌≡◌, refl, arith, ◌++◌, ◌∷◌, []}
use Rattle.hb_edge.specs.Runs.{weaker}
use Rattle.hb_types.specs.declared.request.Request.TheVariants as request
use Rattle.hb_runs.specs.Coordinator.{IsActive, HasRoomFor, next_number, nodes_of, decision_item, happens, decided}
use Rattle.hb_coord.proofs.Reflecting.{reflects_log}
use Rattle.hb_coord.proofs.Turning.{between_none, decided_turn, decide_between, decide_refused, stays, knows_end}
use Rattle.hb_coord.proofs.running.Running.decide.Goals as goal

pub returns-then-not-is_active-clause-leaves : goal.returns-then-not-is_active-clause-leaves
returns-then-not-is_active-clause-leaves g c = λ k up. between_none g.D.Disk.content g.D.Disk.left g.D.Disk.last k c.args.self.now c.args.clock.now up (request.Decide c.args.tx c.args.votes.now) (g.met.D.Disk.stands c.args.self.now.log.disk)

pub returns-in_default-clause-leaves : goal.returns-in_default-clause-leaves
returns-in_default-clause-leaves g c = λ k up. between_none g.D.Disk.content g.D.Disk.left g.D.Disk.last k c.args.self.now c.args.clock.now up (request.Decide c.args.tx c.args.votes.now) (g.met.D.Disk.stands c.args.self.now.log.disk)

pub returns-in-Err-clause-leaves : goal.returns-in-Err-clause-leaves
returns-in-Err-clause-leaves g c = λ k up. between_none g.D.Disk.content g.D.Disk.left g.D.Disk.last k c.args.self.now c.args.clock.now up (request.Decide c.args.tx c.args.votes.now) (g.met.D.Disk.stands c.args.self.now.log.disk)

pub returns-in-Err-decide-clause-leaves : goal.returns-in-Err-decide-clause-leaves
returns-in-Err-decide-clause-leaves g c = λ k up. between_none g.D.Disk.content g.D.Disk.left g.D.Disk.last k c.args.self.now c.args.clock.now up (request.Decide c.args.tx c.args.votes.now) (g.met.D.Disk.stands c.args.self.now.log.disk)

pub decision-requires-clause-number : goal.decision-requires-clause-number
decision-requires-clause-number g c = c.in-Some.ensures.within

pub returns-in-Err-clause-turns : goal.returns-in-Err-clause-turns
returns-in-Err-clause-turns g c = λ k up.
    let active : IsActive k c.args.tx.0 = (c.is_active.ensures k up.reflects).0 c.if-not-is_active.false in
    let is : c.in-Some.number ≡ next_number k c.args.votes.now = c.in-Some.ensures.is k up.reflects.knows in
    decide_refused g.D.Disk.content g.D.Disk.left g.D.Disk.last k c.args.self.now c.args.clock.now up c.args.tx c.args.votes.now c.in-Err.refusal c.answer.result _ c.args.clock.now active c.answer.ensures.spent c.answer.ensures.no_memory
    (λ e room. c.in-Err.ensures.spent e (omega (arith, room, c.end.ensures, knows_end g.D.Disk.content g.D.Disk.left g.D.Disk.last k c.args.self.now c.args.clock.now up)))
    (stays g.D.Disk.content g.D.Disk.left g.D.Disk.last k c.args.self.now c.args.clock.now up _ c.args.clock.now (omega arith) refl up.reflects)

pub returns-in_err-append-clause-leaves : goal.returns-in_err-append-clause-leaves
returns-in_err-append-clause-leaves g c = λ k up.
    let active : IsActive k c.args.tx.0 = (c.is_active.ensures k up.reflects).0 c.if-not-is_active.false in
    let is : c.in-Some.number ≡ next_number k c.args.votes.now = c.in-Some.ensures.is k up.reflects.knows in
    let room : HasRoomFor k (decision_item c.args.tx.0 c.in-Some.number (nodes_of c.args.votes.now)) = omega (arith, c.in-Ok.ensures.room, c.end.ensures, knows_end g.D.Disk.content g.D.Disk.left g.D.Disk.last k c.args.self.now c.args.clock.now up) in
    weaker c.args.clock.now _ _ _ _ (λ m image le e. decide_between g.D.Disk.content g.D.Disk.left g.D.Disk.last k c.args.self.now c.args.clock.now up c.args.tx (record { 0 = c.in-Some.number }) c.args.votes.now image active is c.in-Some.ensures.within.1 room e)
    (c.append.ensures.leaves k.log (decision_item c.args.tx.0 c.in-Some.number (nodes_of c.args.votes.now)) up.log c.decision.ensures.has_record c.in-Ok.ensures.spelled)

pub returns-clause-leaves : goal.returns-clause-leaves
returns-clause-leaves g c = λ k up.
    let active : IsActive k c.args.tx.0 = (c.is_active.ensures k up.reflects).0 c.if-not-is_active.false in
    let is : c.in-Some.number ≡ next_number k c.args.votes.now = c.in-Some.ensures.is k up.reflects.knows in
    let room : HasRoomFor k (decision_item c.args.tx.0 c.in-Some.number (nodes_of c.args.votes.now)) = omega (arith, c.in-Ok.ensures.room, c.end.ensures, knows_end g.D.Disk.content g.D.Disk.left g.D.Disk.last k c.args.self.now c.args.clock.now up) in
    weaker c.args.clock.now _ _ _ _ (λ m image le e. decide_between g.D.Disk.content g.D.Disk.left g.D.Disk.last k c.args.self.now c.args.clock.now up c.args.tx (record { 0 = c.in-Some.number }) c.args.votes.now image active is c.in-Some.ensures.within.1 room e)
    (c.append.ensures.leaves k.log (decision_item c.args.tx.0 c.in-Some.number (nodes_of c.args.votes.now)) up.log c.decision.ensures.has_record c.in-Ok.ensures.spelled)

pub returns-clause-turns : goal.returns-clause-turns
returns-clause-turns g c = λ k up.
    let active : IsActive k c.args.tx.0 = (c.is_active.ensures k up.reflects).0 c.if-not-is_active.false in
    let is : c.in-Some.number ≡ next_number k c.args.votes.now = c.in-Some.ensures.is k up.reflects.knows in
    let room : HasRoomFor k (decision_item c.args.tx.0 c.in-Some.number (nodes_of c.args.votes.now)) = omega (arith, c.in-Ok.ensures.room, c.end.ensures, knows_end g.D.Disk.content g.D.Disk.left g.D.Disk.last k c.args.self.now c.args.clock.now up) in
    let knows = c.in-Ok-decide.ensures.ok k.log (nodes_of c.args.votes.now) up.reflects.knows in
    decided_turn g.D.Disk.content g.D.Disk.left g.D.Disk.last k c.args.self.now c.args.clock.now up c.args.tx (record { 0 = c.in-Some.number }) c.args.votes.now _ c.append.new.clock active is c.in-Some.ensures.within.1 room
    (c.in_ok-append.ensures.done k.log (decision_item c.args.tx.0 c.in-Some.number (nodes_of c.args.votes.now)) up.log c.decision.ensures.has_record c.in-Ok.ensures.spelled)
    (c.end-2.ensures.ended (happens k (decided c.args.tx.0 c.in-Some.number (nodes_of c.args.votes.now)))
    (reflects_log k (k.log ++ decision_item c.args.tx.0 c.in-Some.number (nodes_of c.args.votes.now) ∷ []) c.args.self.now.ledger _ up.reflects knows refl refl))
