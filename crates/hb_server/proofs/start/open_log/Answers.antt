use Rattle.std.proofs.Common.{◌≡◌, ◌+◌, ℕ, ap, refl, sym, subst, List, ◌∙◌, arith, length, Err}
use Rattle.std.specs.Prelude.{All}
use Rattle.hb_types.specs.declared.answer.Answer.TheVariants as answer
use Rattle.hb_types.specs.declared.change.Placed.{Placed}
use Rattle.hb_types.specs.Logs.{Records, end_of}
use Rattle.hb_types.specs.Records.{HasRecord}
use Rattle.hb_log.specs.Log.{IsSettled}
use Rattle.hb_server.specs.Law.{IsStoppedLog}
use Rattle.hb_server.proofs.Rest.{read_has, told_some, unmoved}
use Rattle.hb_server.proofs.Starting.{opening_leaves, fails, opens_inside, comes_up, keeps_up, started_well, told_many}
use Rattle.hb_server.proofs.Finding.{redo_finds, room_left, start_finds}
use Rattle.hb_server.proofs.start.open_log.Goals as goal

pub returns-in-Err-clause-goes : goal.returns-in-Err-clause-goes
returns-in-Err-clause-goes g c = λ first trail is.
    let r = told_some (g.D.Disk.content c.args.rest.log) is.log_rests.told in
    let has = read_has g.D.Disk.content g.D.Disk.left g.D.Disk.last (IsStoppedLog is.point is.read first trail) c.args.rest.log c.args.clock.now is.log_rests r.0 (g.met.D.Disk.as_read c.args.rest.log) r.1 in
    let e = c.in-Err.ensures in
    let leaves = e.stop_err r.0 r.1 is.log_rests.in_time in
    record {
      explains = fails g.D.Disk.content g.D.Disk.left g.D.Disk.last g.S.Store.rows g.S.Store.keeps g.S.Store.staged g.S.Store.point_in g.met.S.Store.holds first trail c.args.rest c.args.point c.args.clock.now is r.0 r.1 has c.in-Err.log c.log_answer.result c.start.new.clock c.start.ensures.clock.0 c.log_answer.ensures.refusal leaves (g.met.D.Disk.stands_on c.in-Err.log) e.told_err (e.in_time_err is.log_rests.in_time);
      log = opening_leaves g.D.Disk.content g.D.Disk.left g.D.Disk.last g.S.Store.rows g.S.Store.keeps g.S.Store.staged g.S.Store.point_in g.met.S.Store.holds first trail c.args.rest c.args.point c.args.clock.now is r.0 r.1 has c.in-Err.log c.log_answer.result leaves;
      area = unmoved c.args.clock.now _ _ _ (g.met.D.Disk.stands c.args.rest.area) is.area_in_time (λ m image l. tt);
    }

pub returns-then-not-takes_ends-clause-goes : goal.returns-then-not-takes_ends-clause-goes
returns-then-not-takes_ends-clause-goes g c = λ first trail is.
    let r = told_some (g.D.Disk.content c.args.rest.log) is.log_rests.told in
    let has = read_has g.D.Disk.content g.D.Disk.left g.D.Disk.last (IsStoppedLog is.point is.read first trail) c.args.rest.log c.args.clock.now is.log_rests r.0 (g.met.D.Disk.as_read c.args.rest.log) r.1 in
    let e = c.in-Ok.ensures in
    let leaves = e.stop r.0 r.1 is.log_rests.in_time in
    record {
      explains = rw c.into_disk-log.ensures
          (fails g.D.Disk.content g.D.Disk.left g.D.Disk.last g.S.Store.rows g.S.Store.keeps g.S.Store.staged g.S.Store.point_in g.met.S.Store.holds first trail c.args.rest c.args.point c.args.clock.now is r.0 r.1 has c.in-Ok.log.disk answer.NoMemory c.start.new.clock c.start.ensures.clock.0 refl leaves (g.met.D.Disk.stands_on c.in-Ok.log.disk) e.told (e.in_time is.log_rests.in_time));
      log = rw c.into_disk-log.ensures (opening_leaves g.D.Disk.content g.D.Disk.left g.D.Disk.last g.S.Store.rows g.S.Store.keeps g.S.Store.staged g.S.Store.point_in g.met.S.Store.holds first trail c.args.rest c.args.point c.args.clock.now is r.0 r.1 has c.in-Ok.log.disk answer.NoMemory leaves);
      area = unmoved c.args.clock.now _ _ _ (g.met.D.Disk.stands c.args.rest.area) is.area_in_time (λ m image l. tt);
    }

pub returns-in-Err-redo-clause-goes : goal.returns-in-Err-redo-clause-goes
returns-in-Err-redo-clause-goes g c = λ first trail is.
    let r = told_some (g.D.Disk.content c.args.rest.log) is.log_rests.told in
    let has = read_has g.D.Disk.content g.D.Disk.left g.D.Disk.last (IsStoppedLog is.point is.read first trail) c.args.rest.log c.args.clock.now is.log_rests r.0 (g.met.D.Disk.as_read c.args.rest.log) r.1 in
    let e = c.in-Ok.ensures in
    let leaves = e.stop r.0 r.1 is.log_rests.in_time in
    record {
      explains = rw c.into_disk-log-in-Err-redo.ensures
          (fails g.D.Disk.content g.D.Disk.left g.D.Disk.last g.S.Store.rows g.S.Store.keeps g.S.Store.staged g.S.Store.point_in g.met.S.Store.holds first trail c.args.rest c.args.point c.args.clock.now is r.0 r.1 has c.in-Ok.log.disk c.redo_answer.result c.start.new.clock c.start.ensures.clock.0 c.redo_answer.ensures.refusal leaves (g.met.D.Disk.stands_on c.in-Ok.log.disk) e.told (e.in_time is.log_rests.in_time));
      log = rw c.into_disk-log-in-Err-redo.ensures (opening_leaves g.D.Disk.content g.D.Disk.left g.D.Disk.last g.S.Store.rows g.S.Store.keeps g.S.Store.staged g.S.Store.point_in g.met.S.Store.holds first trail c.args.rest c.args.point c.args.clock.now is r.0 r.1 has c.in-Ok.log.disk c.redo_answer.result leaves);
      area = unmoved c.args.clock.now _ _ _ (g.met.D.Disk.stands c.args.rest.area) is.area_in_time (λ m image l. tt);
    }

pub returns-else-not-takes_ends-clause-goes : goal.returns-else-not-takes_ends-clause-goes
returns-else-not-takes_ends-clause-goes g c = λ first trail is.
    let r = told_some (g.D.Disk.content c.args.rest.log) is.log_rests.told in
    let has = read_has g.D.Disk.content g.D.Disk.left g.D.Disk.last (IsStoppedLog is.point is.read first trail) c.args.rest.log c.args.clock.now is.log_rests r.0 (g.met.D.Disk.as_read c.args.rest.log) r.1 in
    let e = c.in-Ok.ensures in
    let leaves = e.stop r.0 r.1 is.log_rests.in_time in
    let here = subst (λ (l : List Placed). Records r.0 c.args.point.from l) (sym c.items.ensures) (e.items r.0 r.1) in
    let settled = subst (λ (l : List Placed). IsSettled g.D.Disk.content g.D.Disk.left g.D.Disk.last c.args.point.from l c.in-Ok.log) (sym c.items.ensures) (e.settled r.0 r.1 is.log_rests.in_time (opens_inside g.D.Disk.content g.D.Disk.left g.D.Disk.last g.S.Store.rows g.S.Store.keeps g.S.Store.staged g.S.Store.point_in g.met.S.Store.holds first trail c.args.rest c.args.point c.args.clock.now is r.0 r.1 has)) in
    record {
      explains = comes_up g.D.Disk.content g.D.Disk.left g.D.Disk.last g.S.Store.rows g.S.Store.keeps g.S.Store.staged g.S.Store.point_in g.met.S.Store.holds first trail c.args.rest c.args.point c.args.clock.now is r.0 r.1 has c.records_have_one_form.ensures.one_form c.items.result.now c.in-Ok-redo.field-0.doubts (record { log = c.in-Ok.log; store = c.redo.new.store; engine = c.in-Ok-redo.field-0.engine }) c.start.new.clock c.start.ensures.clock.0 here settled (e.in_time is.log_rests.in_time)
          (e.content r.0 r.1) c.in-Ok-redo.ensures.stands c.in-Ok-redo.ensures.doubts c.redo.ensures.stays;
      log = opening_leaves g.D.Disk.content g.D.Disk.left g.D.Disk.last g.S.Store.rows g.S.Store.keeps g.S.Store.staged g.S.Store.point_in g.met.S.Store.holds first trail c.args.rest c.args.point c.args.clock.now is r.0 r.1 has c.in-Ok.log.disk _ leaves;
      area = unmoved c.args.clock.now _ _ _ (g.met.D.Disk.stands c.args.rest.area) is.area_in_time (λ m image l. tt);
    }

pub returns-else-not-takes_ends-clause-fit : goal.returns-else-not-takes_ends-clause-fit
returns-else-not-takes_ends-clause-fit g c = (
  c.in-Ok.ensures.fresh,
  ∣ (keeps_up g.S.Store.rows g.S.Store.room c.args.rest.store c.args.point c.items.result.now c.end.result (record { log = c.in-Ok.log; store = c.redo.new.store; engine = c.in-Ok-redo.field-0.engine }) (sym c.end.ensures) c.requires.in_range.1 c.requires.fresh.1
      (subst (λ (l : List Placed). All (λ (p : Placed). HasRecord p.item) l) (sym c.items.ensures) c.in-Ok.ensures.recorded) c.in-Ok-redo.ensures.stands c.in-Ok-redo.ensures.end c.in-Ok-redo.ensures.room).0 ∣₁,
)

pub returns-else-not-takes_ends-clause-well_formed : goal.returns-else-not-takes_ends-clause-well_formed
returns-else-not-takes_ends-clause-well_formed g c =
    started_well (g.S.Store.rows c.args.rest.store) c.args.point c.items.result.now c.in-Ok-redo.field-0.doubts c.requires.in_range.1 c.requires.fresh.1
    (subst (λ (l : List Placed). All (λ (p : Placed). HasRecord p.item) l) (sym c.items.ensures) c.in-Ok.ensures.recorded) c.in-Ok-redo.ensures.doubts

pub returns-else-not-takes_ends-clause-ends : goal.returns-else-not-takes_ends-clause-ends
returns-else-not-takes_ends-clause-ends g c =
    let k = keeps_up g.S.Store.rows g.S.Store.room c.args.rest.store c.args.point c.items.result.now c.end.result (record { log = c.in-Ok.log; store = c.redo.new.store; engine = c.in-Ok-redo.field-0.engine }) (sym c.end.ensures) c.requires.in_range.1 c.requires.fresh.1
    (subst (λ (l : List Placed). All (λ (p : Placed). HasRecord p.item) l) (sym c.items.ensures) c.in-Ok.ensures.recorded) c.in-Ok-redo.ensures.stands c.in-Ok-redo.ensures.end c.in-Ok-redo.ensures.room in
    let many = told_many (g.S.Store.rows c.args.rest.store) c.args.point c.items.result.now c.in-Ok-redo.field-0.doubts c.in-Ok-redo.ensures.doubts in
    let count = k.1 in
    let some = c.requires.room in
    let more : c.takes_ends.new.trail.spare ≡ c.args.trail.now.spare + length c.in-Ok-redo.field-0.doubts = c.takes_ends.ensures.yes c.if-not-takes_ends.false ∙ ap (λ (n : ℕ). c.args.trail.now.spare + n) c.len.ensures in
    ∣ (k.0, omega (arith, many, count, some, more)) ∣₁

pub returns-in-Err-clause-finds : goal.returns-in-Err-clause-finds
returns-in-Err-clause-finds g c = λ read told in_time.
    start_finds read c.args.point.from c.in-Err.fault c.log_answer.result (λ place is. (c.in-Err.ensures.damaged place is read told).1) c.log_answer.ensures.fault c.log_answer.ensures.closed c.log_answer.ensures.damaged c.log_answer.ensures.no_memory

pub returns-in-Err-redo-clause-finds : goal.returns-in-Err-redo-clause-finds
returns-in-Err-redo-clause-finds g c = λ read told in_time.
    let here = subst (λ (l : List Placed). Records read c.args.point.from l) (sym c.items.ensures) (c.in-Ok.ensures.items read told) in
    redo_finds read c.args.point.from c.items.result.now c.end.result c.in-Err-redo.fault c.redo_answer.result (here, λ inside. c.end.ensures ∙ (c.in-Ok.ensures.settled read told in_time inside).end ∙ ap (end_of c.args.point.from) (sym c.items.ensures)) (λ place is. c.redo.ensures.damaged place (c.in-Err-redo.is ∙ ap Err is)) c.redo_answer.ensures.damaged c.redo_answer.ensures.no_memory

pub returns-then-not-takes_ends-clause-finds : goal.returns-then-not-takes_ends-clause-finds
returns-then-not-takes_ends-clause-finds g c = λ read told in_time. tt

pub returns-else-not-takes_ends-clause-finds : goal.returns-else-not-takes_ends-clause-finds
returns-else-not-takes_ends-clause-finds g c = λ read told in_time.
    let here = subst (λ (l : List Placed). Records read c.args.point.from l) (sym c.items.ensures) (c.in-Ok.ensures.items read told) in (
      c.items.result.now,
      c.end.result,
      (here, λ inside. c.end.ensures ∙ (c.in-Ok.ensures.settled read told in_time inside).end ∙ ap (end_of c.args.point.from) (sym c.items.ensures)),
      c.in-Ok-redo.ensures.none_bad,
      room_left (g.S.Store.rows c.args.rest.store) c.args.point c.items.result.now c.end.result c.in-Ok-redo.ensures.end,
    )
