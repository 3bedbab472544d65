use Rattle.std.proofs.Common.{subst}
use Rattle.hb_edge.specs.Fuses.{last_of}
use Rattle.hb_edge.specs.Stops.{Leaves}
use Rattle.hb_types.specs.declared.request.Request.TheVariants as request
use Rattle.hb_coord.specs.Law.{content_of, left_of, IsLeftIn}
use Rattle.hb_coord.proofs.Lawful.{repaired, comes_up, stays_down, start_leaves, fused_stands_on}
use Rattle.hb_coord.proofs.Leaving.{start_left}
use Rattle.hb_coord.proofs.turn.begin_again.Goals as goal

pub returns-in-Ok-clause-run : goal.returns-in-Ok-clause-run
returns-in-Ok-clause-run g c = λ first trail down.
    let again = repaired g.D.Disk.content g.D.Disk.left g.D.Disk.last first trail c.args.disk c.repair.new.self c.args.clock.now c.repair.ensures.inner c.repair.ensures.failed_at down in
    rw c.new-doubts.ensures
    (comes_up (content_of g.D.Disk.content) (left_of g.D.Disk.left) (last_of g.D.Disk.last) first trail c.records_have_one_form.ensures.one_form c.repair.new.self c.in-Ok.running c.args.clock.now c.start.new.clock again (c.in-Ok.ensures.starts again.told again.in_time))

pub returns-in-Ok-clause-stop : goal.returns-in-Ok-clause-stop
returns-in-Ok-clause-stop g c = λ first trail down.
    let again = repaired g.D.Disk.content g.D.Disk.left g.D.Disk.last first trail c.args.disk c.repair.new.self c.args.clock.now c.repair.ensures.inner c.repair.ensures.failed_at down in
    subst (λ d. Leaves c.args.clock.now (g.D.Disk.left d) (g.D.Disk.left c.in-Ok.running.log.disk.inner) (λ m image. IsLeftIn first trail request.Start image)) c.repair.ensures.inner
    (start_leaves (content_of g.D.Disk.content) (left_of g.D.Disk.left) (last_of g.D.Disk.last) first trail c.records_have_one_form.ensures.one_form c.repair.new.self c.in-Ok.running.log.disk c.args.clock.now again (c.in-Ok.ensures.stop again.told again.in_time))

pub returns-in-Err-clause-run : goal.returns-in-Err-clause-run
returns-in-Err-clause-run g c = λ first trail down.
    let again = repaired g.D.Disk.content g.D.Disk.left g.D.Disk.last first trail c.args.disk c.repair.new.self c.args.clock.now c.repair.ensures.inner c.repair.ensures.failed_at down in
    let e = c.in-Err.ensures in
    stays_down (content_of g.D.Disk.content) (left_of g.D.Disk.left) (last_of g.D.Disk.last) first trail c.records_have_one_form.ensures.one_form c.repair.new.self c.in-Err.disk c.args.clock.now c.start.new.clock c.in-Err.fault c.fault_answer.result
    (fused_stands_on g.D.Disk.left g.D.Disk.last c.in-Err.disk (g.met.D.Disk.stands c.in-Err.disk.inner) (g.met.D.Disk.stands_on c.in-Err.disk.inner)) again (e.stop_err again.told again.in_time) e.told_err (e.in_time_err again.in_time) c.start.ensures.clock.0
    e.not_closed c.fault_answer.ensures.fault c.fault_answer.ensures.damaged c.fault_answer.ensures.no_memory

pub returns-in-Err-clause-stop : goal.returns-in-Err-clause-stop
returns-in-Err-clause-stop g c = λ first trail down.
    let again = repaired g.D.Disk.content g.D.Disk.left g.D.Disk.last first trail c.args.disk c.repair.new.self c.args.clock.now c.repair.ensures.inner c.repair.ensures.failed_at down in
    subst (λ d. Leaves c.args.clock.now (g.D.Disk.left d) (g.D.Disk.left c.in-Err.disk.inner) (λ m image. IsLeftIn first trail request.Start image)) c.repair.ensures.inner
    (start_leaves (content_of g.D.Disk.content) (left_of g.D.Disk.left) (last_of g.D.Disk.last) first trail c.records_have_one_form.ensures.one_form c.repair.new.self c.in-Err.disk c.args.clock.now again (c.in-Err.ensures.stop_err again.told again.in_time))

pub returns-in-Ok-clause-left_by : goal.returns-in-Ok-clause-left_by
returns-in-Ok-clause-left_by g c = λ first trail down.
    let again = repaired g.D.Disk.content g.D.Disk.left g.D.Disk.last first trail c.args.disk c.repair.new.self c.args.clock.now c.repair.ensures.inner c.repair.ensures.failed_at down in
    start_left (content_of g.D.Disk.content) (left_of g.D.Disk.left) (last_of g.D.Disk.last) first trail c.records_have_one_form.ensures.one_form c.repair.new.self c.in-Ok.running.log.disk c.args.clock.now _ again (c.in-Ok.ensures.stop again.told again.in_time)

pub returns-in-Err-clause-left_by : goal.returns-in-Err-clause-left_by
returns-in-Err-clause-left_by g c = λ first trail down.
    let again = repaired g.D.Disk.content g.D.Disk.left g.D.Disk.last first trail c.args.disk c.repair.new.self c.args.clock.now c.repair.ensures.inner c.repair.ensures.failed_at down in
    start_left (content_of g.D.Disk.content) (left_of g.D.Disk.left) (last_of g.D.Disk.last) first trail c.records_have_one_form.ensures.one_form c.repair.new.self c.in-Err.disk c.args.clock.now _ again (c.in-Err.ensures.stop_err again.told again.in_time)
