use Rattle.std.proofs.Common.{◌≡◌, ◌≤◌, ◌<◌, refl, ◌∙◌, arith, ◌++◌, ◌∷◌, []}
use Rattle.hb_edge.specs.Runs.{weaker}
use Rattle.hb_types.specs.declared.request.Request.TheVariants as request
use Rattle.hb_types.specs.Records.{HasRecord}
use Rattle.hb_disks.specs.StandsFor.{greatest_upto}
use Rattle.hb_runs.specs.Coordinator.{HasRoomFor, next_upto, ids_item, happens, begun}
use Rattle.hb_types.specs.Numbers.{greatest}
use Rattle.hb_coord.proofs.Reflecting.{reflects_log}
use Rattle.hb_coord.proofs.Turning.{between_none, reserved_turn, begin_between, begin_refused, stays, knows_end}
use Rattle.hb_coord.proofs.running.Running.reserve.Goals as goal

pub frame-requires : goal.frame-requires
frame-requires g c = ((c.next_upto-upto.ensures.within.0, c.next_upto-upto.ensures.within.1), omega arith)

pub returns-in-Err-clause-turns : goal.returns-in-Err-clause-turns
returns-in-Err-clause-turns g c = λ k up.
    let is : c.next_upto-upto.result ≡ next_upto k = c.next_upto-upto.ensures.is k up.reflects.knows in
    let end = up.log.settled.end in
    begin_refused g.D.Disk.content g.D.Disk.left g.D.Disk.last k c.args.self.now c.args.clock.now up c.args._owner c.in-Err.refusal c.answer.result _ c.args.clock.now
    (omega (arith, c.requires.spent, up.reflects.next, up.reflects.knows.reserved)) c.answer.ensures.spent c.answer.ensures.no_memory
    (λ e room. c.in-Err.ensures.spent e (omega (arith, room, c.end.ensures, knows_end g.D.Disk.content g.D.Disk.left g.D.Disk.last k c.args.self.now c.args.clock.now up)))
    (stays g.D.Disk.content g.D.Disk.left g.D.Disk.last k c.args.self.now c.args.clock.now up _ c.args.clock.now (omega arith) refl up.reflects)

pub returns-in-Err-clause-leaves : goal.returns-in-Err-clause-leaves
returns-in-Err-clause-leaves g c = λ k up.
    between_none g.D.Disk.content g.D.Disk.left g.D.Disk.last k c.args.self.now c.args.clock.now up (request.Begin c.args._owner) (g.met.D.Disk.stands c.args.self.now.log.disk)

pub returns-in-Err-begin-clause-leaves : goal.returns-in-Err-begin-clause-leaves
returns-in-Err-begin-clause-leaves g c = λ k up.
    between_none g.D.Disk.content g.D.Disk.left g.D.Disk.last k c.args.self.now c.args.clock.now up (request.Begin c.args._owner) (g.met.D.Disk.stands c.args.self.now.log.disk)

pub returns-in_err-append-clause-leaves : goal.returns-in_err-append-clause-leaves
returns-in_err-append-clause-leaves g c = λ k up.
    let is : c.next_upto-upto.result ≡ next_upto k = c.next_upto-upto.ensures.is k up.reflects.knows in
    let low : greatest_upto k.log < k.next = omega (arith, c.requires.spent, up.reflects.next, up.reflects.knows.reserved) in
    let within : k.next ≤ greatest = omega (arith, c.requires.within, up.reflects.next) in
    let room : HasRoomFor k (ids_item c.next_upto-upto.result) = omega (arith, c.in-Ok.ensures.room, c.end.ensures, knows_end g.D.Disk.content g.D.Disk.left g.D.Disk.last k c.args.self.now c.args.clock.now up) in
    let has_record : HasRecord (ids_item c.next_upto-upto.result) = ((c.next_upto-upto.ensures.within.0, c.next_upto-upto.ensures.within.1), omega arith) in
    weaker c.args.clock.now _ _ _ _ (λ m image le e. begin_between g.D.Disk.content g.D.Disk.left g.D.Disk.last k c.args.self.now c.args.clock.now up c.args._owner c.next_upto-upto.result image is low within room e)
    (c.append.ensures.leaves k.log (ids_item c.next_upto-upto.result) up.log has_record c.in-Ok.ensures.spelled)

pub returns-clause-leaves : goal.returns-clause-leaves
returns-clause-leaves g c = λ k up.
    let is : c.next_upto-upto.result ≡ next_upto k = c.next_upto-upto.ensures.is k up.reflects.knows in
    let low : greatest_upto k.log < k.next = omega (arith, c.requires.spent, up.reflects.next, up.reflects.knows.reserved) in
    let within : k.next ≤ greatest = omega (arith, c.requires.within, up.reflects.next) in
    let room : HasRoomFor k (ids_item c.next_upto-upto.result) = omega (arith, c.in-Ok.ensures.room, c.end.ensures, knows_end g.D.Disk.content g.D.Disk.left g.D.Disk.last k c.args.self.now c.args.clock.now up) in
    let has_record : HasRecord (ids_item c.next_upto-upto.result) = ((c.next_upto-upto.ensures.within.0, c.next_upto-upto.ensures.within.1), omega arith) in
    weaker c.args.clock.now _ _ _ _ (λ m image le e. begin_between g.D.Disk.content g.D.Disk.left g.D.Disk.last k c.args.self.now c.args.clock.now up c.args._owner c.next_upto-upto.result image is low within room e)
    (c.append.ensures.leaves k.log (ids_item c.next_upto-upto.result) up.log has_record c.in-Ok.ensures.spelled)

pub returns-clause-turns : goal.returns-clause-turns
returns-clause-turns g c = λ k up.
    let is : c.next_upto-upto.result ≡ next_upto k = c.next_upto-upto.ensures.is k up.reflects.knows in
    let low : greatest_upto k.log < k.next = omega (arith, c.requires.spent, up.reflects.next, up.reflects.knows.reserved) in
    let within : k.next ≤ greatest = omega (arith, c.requires.within, up.reflects.next) in
    let room : HasRoomFor k (ids_item c.next_upto-upto.result) = omega (arith, c.in-Ok.ensures.room, c.end.ensures, knows_end g.D.Disk.content g.D.Disk.left g.D.Disk.last k c.args.self.now c.args.clock.now up) in
    let has_record : HasRecord (ids_item c.next_upto-upto.result) = ((c.next_upto-upto.ensures.within.0, c.next_upto-upto.ensures.within.1), omega arith) in
    let begins = c.in-Ok-begin.ensures.begun k up.reflects in
    reserved_turn g.D.Disk.content g.D.Disk.left g.D.Disk.last k c.args.self.now c.args.clock.now up c.args._owner c.in-Ok-begin.tx c.next_upto-upto.result _ c.append.new.clock
    (c.in-Ok-begin.ensures.next ∙ up.reflects.next) is low within room
    (c.in_ok-append.ensures.done k.log (ids_item c.next_upto-upto.result) up.log has_record c.in-Ok.ensures.spelled)
    (reflects_log (happens k (begun c.in-Ok-begin.tx.0)) (k.log ++ ids_item c.next_upto-upto.result ∷ []) c.begin.new.self _ begins (c.reserve.ensures k.log begins.knows) refl refl)
