use Rattle.std.proofs.Common.{◌≤◌, true, false, refl, arith, Err, ap, ◌∙◌}
use Rattle.std.specs.Prelude.{⊤}
use Rattle.hb_types.specs.declared.answer.Answer.TheVariants as answer
use Rattle.hb_server.specs.Law.{IsStoppedLog}
use Rattle.hb_server.proofs.Rest.{at_some, leaves_then, read_has, rests_later, told_some, unmoved}
use Rattle.hb_server.proofs.Waking.{any_leaves, goes_on, later_leaves, loading, loads, refuses, restarted}
use Rattle.std.proofs.lemmas.Bool.{false≢true}
use Rattle.hb_server.proofs.Finding.{held_before, load_finds, point_finds}
use Rattle.hb_server.proofs.start.begin_again.Goals as goal

pub returns-in-Err-clause-goes : goal.returns-in-Err-clause-goes
returns-in-Err-clause-goes g c = λ first trail is.
    let r = c.restart.ensures in
    let log = restarted g.D.Disk.content g.D.Disk.left g.D.Disk.last (IsStoppedLog is.point is.read first trail) c.args.rest.log c.args.clock.now is.log_rests c.restart.new.self c.restart.new.clock (g.met.D.Disk.stands c.args.rest.log) (g.met.D.Disk.stands_on c.restart.new.self) r.clock r.last r.told r.stop in
    let le1 : c.args.clock.now ≤ c.restart.new.clock = omega (arith, r.clock) in
    let area = rests_later g.D.Disk.content g.D.Disk.left g.D.Disk.last (λ image. g.S.Store.point_in image is.point) c.args.rest.area c.args.clock.now is.area_rests c.restart.new.clock le1 in
    refuses g.D.Disk.content g.D.Disk.left g.D.Disk.last g.S.Store.rows g.S.Store.keeps g.S.Store.staged g.S.Store.point_in first trail c.args.rest c.args.clock.now is (answer.Fault false) (record { log = c.restart.new.self; area = c.args.rest.area; store = c.args.rest.store }) c.restart.new.clock refl log.0 (unmoved c.args.clock.now _ _ _ (g.met.D.Disk.stands c.args.rest.area) is.area_rests.in_time (λ m image l. tt)) log.1 area

pub returns-in-Err-restart-clause-goes : goal.returns-in-Err-restart-clause-goes
returns-in-Err-restart-clause-goes g c = λ first trail is.
    let r = c.restart.ensures in
    let log = restarted g.D.Disk.content g.D.Disk.left g.D.Disk.last (IsStoppedLog is.point is.read first trail) c.args.rest.log c.args.clock.now is.log_rests c.restart.new.self c.restart.new.clock (g.met.D.Disk.stands c.args.rest.log) (g.met.D.Disk.stands_on c.restart.new.self) r.clock r.last r.told r.stop in
    let le1 : c.args.clock.now ≤ c.restart.new.clock = omega (arith, r.clock) in
    let area = rests_later g.D.Disk.content g.D.Disk.left g.D.Disk.last (λ image. g.S.Store.point_in image is.point) c.args.rest.area c.args.clock.now is.area_rests c.restart.new.clock le1 in
    let q = c.restart-2.ensures in
    let le2 : c.restart.new.clock ≤ c.restart-2.new.clock = omega (arith, q.clock) in
    let again = restarted g.D.Disk.content g.D.Disk.left g.D.Disk.last (λ image. g.S.Store.point_in image is.point) c.args.rest.area c.restart.new.clock area c.restart-2.new.self c.restart-2.new.clock (g.met.D.Disk.stands c.args.rest.area) (g.met.D.Disk.stands_on c.restart-2.new.self) q.clock q.last q.told q.stop in
    let waited = later_leaves c.args.clock.now c.restart.new.clock _ _ _ _ le1 (g.met.D.Disk.stands c.args.rest.area) is.area_rests.in_time again.0 in
    refuses g.D.Disk.content g.D.Disk.left g.D.Disk.last g.S.Store.rows g.S.Store.keeps g.S.Store.staged g.S.Store.point_in first trail c.args.rest c.args.clock.now is (answer.Fault true) (record { log = c.restart.new.self; area = c.restart-2.new.self; store = c.args.rest.store }) c.restart-2.new.clock refl log.0 waited (rests_later g.D.Disk.content g.D.Disk.left g.D.Disk.last (IsStoppedLog is.point is.read first trail) c.restart.new.self c.restart.new.clock log.1 c.restart-2.new.clock le2) again.1

pub returns-in-Err-load-clause-goes : goal.returns-in-Err-load-clause-goes
returns-in-Err-load-clause-goes g c = λ first trail is.
    let r = c.restart.ensures in
    let log = restarted g.D.Disk.content g.D.Disk.left g.D.Disk.last (IsStoppedLog is.point is.read first trail) c.args.rest.log c.args.clock.now is.log_rests c.restart.new.self c.restart.new.clock (g.met.D.Disk.stands c.args.rest.log) (g.met.D.Disk.stands_on c.restart.new.self) r.clock r.last r.told r.stop in
    let le1 : c.args.clock.now ≤ c.restart.new.clock = omega (arith, r.clock) in
    let area = rests_later g.D.Disk.content g.D.Disk.left g.D.Disk.last (λ image. g.S.Store.point_in image is.point) c.args.rest.area c.args.clock.now is.area_rests c.restart.new.clock le1 in
    let q = c.restart-2.ensures in
    let le2 : c.restart.new.clock ≤ c.restart-2.new.clock = omega (arith, q.clock) in
    let again = restarted g.D.Disk.content g.D.Disk.left g.D.Disk.last (λ image. g.S.Store.point_in image is.point) c.args.rest.area c.restart.new.clock area c.restart-2.new.self c.restart-2.new.clock (g.met.D.Disk.stands c.args.rest.area) (g.met.D.Disk.stands_on c.restart-2.new.self) q.clock q.last q.told q.stop in
    let waited = later_leaves c.args.clock.now c.restart.new.clock _ _ _ _ le1 (g.met.D.Disk.stands c.args.rest.area) is.area_rests.in_time again.0 in
    let le3 : c.restart-2.new.clock ≤ c.load.new.clock = c.load.ensures.clock in
    let loaded = loading g.D.Disk.content g.D.Disk.left g.D.Disk.last g.S.Store.point_in is.point c.restart-2.new.self c.restart-2.new.clock again.1 c.load.new.disk c.load.new.clock (g.met.D.Disk.stands_on c.load.new.disk) (g.met.D.Disk.as_read c.restart-2.new.self) c.load.ensures.stop c.load.ensures.told c.load.ensures.in_time in
    let both = leaves_then c.args.clock.now c.restart-2.new.clock _ _ _ (λ m image. ⊤) (omega (arith, le1, le2)) waited (any_leaves c.restart-2.new.clock _ _ _ loaded.0) in
    let rests = rests_later g.D.Disk.content g.D.Disk.left g.D.Disk.last (IsStoppedLog is.point is.read first trail) c.restart.new.self c.restart.new.clock log.1 c.load.new.clock (omega (arith, le2, le3)) in
    refuses g.D.Disk.content g.D.Disk.left g.D.Disk.last g.S.Store.rows g.S.Store.keeps g.S.Store.staged g.S.Store.point_in first trail c.args.rest c.args.clock.now is c.store_answer.result (record { log = c.restart.new.self; area = c.load.new.disk; store = c.load.new.self }) c.load.new.clock c.store_answer.ensures.refusal log.0 both rests loaded.1

pub returns-in-Ok-load-clause-goes : goal.returns-in-Ok-load-clause-goes
returns-in-Ok-load-clause-goes g c = λ first trail is.
    let r = c.restart.ensures in
    let log = restarted g.D.Disk.content g.D.Disk.left g.D.Disk.last (IsStoppedLog is.point is.read first trail) c.args.rest.log c.args.clock.now is.log_rests c.restart.new.self c.restart.new.clock (g.met.D.Disk.stands c.args.rest.log) (g.met.D.Disk.stands_on c.restart.new.self) r.clock r.last r.told r.stop in
    let le1 : c.args.clock.now ≤ c.restart.new.clock = omega (arith, r.clock) in
    let area = rests_later g.D.Disk.content g.D.Disk.left g.D.Disk.last (λ image. g.S.Store.point_in image is.point) c.args.rest.area c.args.clock.now is.area_rests c.restart.new.clock le1 in
    let q = c.restart-2.ensures in
    let le2 : c.restart.new.clock ≤ c.restart-2.new.clock = omega (arith, q.clock) in
    let again = restarted g.D.Disk.content g.D.Disk.left g.D.Disk.last (λ image. g.S.Store.point_in image is.point) c.args.rest.area c.restart.new.clock area c.restart-2.new.self c.restart-2.new.clock (g.met.D.Disk.stands c.args.rest.area) (g.met.D.Disk.stands_on c.restart-2.new.self) q.clock q.last q.told q.stop in
    let waited = later_leaves c.args.clock.now c.restart.new.clock _ _ _ _ le1 (g.met.D.Disk.stands c.args.rest.area) is.area_rests.in_time again.0 in
    let le3 : c.restart-2.new.clock ≤ c.load.new.clock = c.load.ensures.clock in
    let loaded = loading g.D.Disk.content g.D.Disk.left g.D.Disk.last g.S.Store.point_in is.point c.restart-2.new.self c.restart-2.new.clock again.1 c.load.new.disk c.load.new.clock (g.met.D.Disk.stands_on c.load.new.disk) (g.met.D.Disk.as_read c.restart-2.new.self) c.load.ensures.stop c.load.ensures.told c.load.ensures.in_time in
    let both = leaves_then c.args.clock.now c.restart-2.new.clock _ _ _ (λ m image. ⊤) (omega (arith, le1, le2)) waited (any_leaves c.restart-2.new.clock _ _ _ loaded.0) in
    let rests = rests_later g.D.Disk.content g.D.Disk.left g.D.Disk.last (IsStoppedLog is.point is.read first trail) c.restart.new.self c.restart.new.clock log.1 c.load.new.clock (omega (arith, le2, le3)) in
    let read = told_some (g.D.Disk.content c.restart-2.new.self) again.1.told in
    let has = read_has g.D.Disk.content g.D.Disk.left g.D.Disk.last (λ image. g.S.Store.point_in image is.point) c.restart-2.new.self c.restart-2.new.clock again.1 read.0 (g.met.D.Disk.as_read c.restart-2.new.self) read.1 in
    let ready = loads g.D.Disk.content g.D.Disk.left g.D.Disk.last g.S.Store.rows g.S.Store.keeps g.S.Store.staged g.S.Store.point_in first trail c.args.rest c.args.clock.now is (record { log = c.restart.new.self; area = c.load.new.disk; store = c.load.new.self }) c.in-Ok-load.point c.load.new.clock read.0 has c.points_are_one.ensures (c.in-Ok-load.ensures.point read.0 read.1) rests loaded.1.in_time in
    goes_on g.D.Disk.content g.D.Disk.left g.D.Disk.last g.S.Store.rows g.S.Store.keeps g.S.Store.staged g.S.Store.point_in first trail c.args.rest c.args.clock.now is c.open_log.result.1 (record { log = c.restart.new.self; area = c.load.new.disk; store = c.load.new.self }) c.open_log.result.0 c.load.new.clock c.open_log.new.clock (omega (arith, le1, le2, le3)) log.0 both (c.open_log.ensures.goes first trail ready)

pub returns-in-Err-clause-finds : goal.returns-in-Err-clause-finds
returns-in-Err-clause-finds g c = λ in_time found log_told area_told. absurd (false≢true found)

pub returns-in-Err-restart-clause-finds : goal.returns-in-Err-restart-clause-finds
returns-in-Err-restart-clause-finds g c = λ in_time found log_told area_told. absurd (false≢true found)

pub returns-in-Err-load-clause-finds : goal.returns-in-Err-load-clause-finds
returns-in-Err-load-clause-finds g c = λ in_time found log_told area_told.
    let content = g.D.Disk.content in
    let left = g.D.Disk.left in
    let last = g.D.Disk.last in
    let q = c.restart-2.ensures in
    let log = told_some (content c.args.rest.log) log_told in
    let area = told_some (content c.restart-2.new.self) (q.told ∙ area_told) in (
      log.0,
      area.0,
      at_some (content c.args.rest.log) log.0 (left c.args.rest.log (last c.args.rest.log)) log.1 (g.met.D.Disk.as_read c.args.rest.log),
      held_before left last c.args.rest.area c.restart-2.new.self c.restart-2.new.clock q.last q.stop area.0 (at_some (content c.restart-2.new.self) area.0 (left c.restart-2.new.self (last c.restart-2.new.self)) area.1 (g.met.D.Disk.as_read c.restart-2.new.self)),
      load_finds g.S.Store.point_in g.S.Store.header_in log.0 area.0 c.in-Err-load.fault c.store_answer.result (λ place is. c.load.ensures.damaged place (c.in-Err-load.is ∙ ap Err is) area.0 area.1) c.store_answer.ensures.fault c.store_answer.ensures.damaged c.store_answer.ensures.spent c.store_answer.ensures.no_memory,
    )

pub returns-in-Ok-load-clause-finds : goal.returns-in-Ok-load-clause-finds
returns-in-Ok-load-clause-finds g c = λ in_time found log_told area_told.
    let content = g.D.Disk.content in
    let left = g.D.Disk.left in
    let last = g.D.Disk.last in
    let r = c.restart.ensures in
    let q = c.restart-2.ensures in
    let log = told_some (content c.restart.new.self) (r.told ∙ log_told) in
    let area = told_some (content c.restart-2.new.self) (q.told ∙ area_told) in
    let loaded = c.load.ensures.clock in
    let later : last c.restart.new.self ≤ c.load.new.clock = omega (arith, in_time, r.last, r.clock, q.clock, loaded) in
    let point = c.in-Ok-load.ensures.point area.0 area.1 in (
      log.0,
      area.0,
      held_before left last c.args.rest.log c.restart.new.self c.restart.new.clock r.last r.stop log.0 (at_some (content c.restart.new.self) log.0 (left c.restart.new.self (last c.restart.new.self)) log.1 (g.met.D.Disk.as_read c.restart.new.self)),
      held_before left last c.args.rest.area c.restart-2.new.self c.restart-2.new.clock q.last q.stop area.0 (at_some (content c.restart-2.new.self) area.0 (left c.restart-2.new.self (last c.restart-2.new.self)) area.1 (g.met.D.Disk.as_read c.restart-2.new.self)),
      point_finds g.S.Store.point_in g.S.Store.header_in log.0 area.0 point.0 c.in-Ok-load.point c.open_log.result.1 point.1 point.2 (c.open_log.ensures.finds log.0 log.1 later),
    )
