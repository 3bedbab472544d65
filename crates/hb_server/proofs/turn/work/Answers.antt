use Rattle.std.proofs.Common.{ap, ◌∙◌, false}
use Rattle.std.specs.Prelude.{is_some}
use Rattle.std.proofs.Props.{props}
use mathlib.Core.Logic.{∥∥₁_elim, ∥∥₁_map}
use Rattle.hb_types.specs.declared.answer.Answer.TheVariants as answer
use Rattle.hb_types.proofs.PutLaws.{by_test}
use Rattle.hb_force.specs.Standing.{is_recorded}
use Rattle.hb_server.specs.Law.{from_of}
use Rattle.hb_server.proofs.Rest.{at_some, unmoved}
use Rattle.hb_server.proofs.Rooming.{ends_behind, few_calls, right_plain, up_entry}
use Rattle.hb_server.proofs.Working.{works, works_on, recorded_leaves, quiet_leaves, faults, fault_leaves}
use Rattle.hb_server.proofs.turn.work.Goals as goal

pub returns-in-Ok-clause-goes : goal.returns-in-Ok-clause-goes
returns-in-Ok-clause-goes g c = λ first trail is.
    let disk = c.serve.new.self.log.disk in
    let t = c.in-Ok.ensures.turns (from_of is.point) is.read is.state is.is_up in
    let read = at_some (g.D.Disk.content c.serve.new.self.log.disk) t.at.log.settled.image (g.D.Disk.left c.serve.new.self.log.disk (g.D.Disk.last c.serve.new.self.log.disk)) t.at.log.settled.told (g.met.D.Disk.as_read disk) in
    record {
      explains = works g.D.Disk.content g.D.Disk.left g.D.Disk.last g.S.Store.rows g.S.Store.keeps g.S.Store.staged g.S.Store.point_in g.met.S.Store.holds first trail c.args.serves c.args.clock.now is c.args.request.now c.serve.new.self c.serve.new.clock c.serve.ensures.clock.0 (c.serve.ensures.leaves (from_of is.point) is.read is.state is.is_up) c.serve.ensures.stays c.in-Ok.answer (g.met.D.Disk.stands_on disk) t read;
      log = by_test (is_recorded c.args.request.now c.in-Ok.answer)
          (λ yes. recorded_leaves g.D.Disk.content g.D.Disk.left g.D.Disk.last g.S.Store.rows g.S.Store.keeps g.S.Store.staged g.S.Store.point_in g.met.S.Store.holds first trail c.args.serves c.args.clock.now is c.args.request.now c.serve.new.self c.serve.new.clock c.serve.ensures.clock.0 (c.serve.ensures.leaves (from_of is.point) is.read is.state is.is_up) c.serve.ensures.stays c.in-Ok.answer t.state yes t.turn)
          (λ no. quiet_leaves g.D.Disk.content g.D.Disk.left g.D.Disk.last g.S.Store.rows g.S.Store.keeps g.S.Store.staged g.S.Store.point_in g.met.S.Store.holds first trail c.args.serves c.args.clock.now is c.args.request.now c.serve.new.self c.serve.new.clock c.serve.ensures.clock.0 (c.serve.ensures.leaves (from_of is.point) is.read is.state is.is_up) c.serve.ensures.stays c.in-Ok.answer (g.met.D.Disk.stands c.args.serves.running.log.disk) (c.in-Ok.ensures.unrecorded no));
      area = unmoved c.args.clock.now _ _ _ (g.met.D.Disk.stands c.args.serves.area) is.area_in_time (λ m image l. tt);
    }

pub returns-in-Ok-clause-passes : goal.returns-in-Ok-clause-passes
returns-in-Ok-clause-passes g c = λ passed first trail is.
    let disk = c.serve.new.self.log.disk in
    let t = c.in-Ok.ensures.turns (from_of is.point) is.read is.state is.is_up in
    let read = at_some (g.D.Disk.content c.serve.new.self.log.disk) t.at.log.settled.image (g.D.Disk.left c.serve.new.self.log.disk (g.D.Disk.last c.serve.new.self.log.disk)) t.at.log.settled.told (g.met.D.Disk.as_read disk) in
    works_on g.D.Disk.content g.D.Disk.left g.D.Disk.last g.S.Store.rows g.S.Store.keeps g.S.Store.staged g.S.Store.point_in g.met.S.Store.holds first trail c.args.serves c.args.clock.now is c.args.request.now c.serve.new.self c.serve.new.clock c.serve.ensures.clock.0 (c.serve.ensures.leaves (from_of is.point) is.read is.state is.is_up) c.serve.ensures.stays c.in-Ok.answer passed (g.met.D.Disk.stands_on disk) t read

pub returns-in-Err-clause-goes : goal.returns-in-Err-clause-goes
returns-in-Err-clause-goes g c = λ first trail is.
    let right = c.in-Err.ensures.faulted (from_of is.point) is.read is.state is.is_up in
    record {
      explains = rw c.into_parts-log.ensures
          (faults g.D.Disk.content g.D.Disk.left g.D.Disk.last g.S.Store.rows g.S.Store.keeps g.S.Store.staged g.S.Store.point_in g.met.S.Store.holds first trail c.args.serves c.args.clock.now is c.args.request.now c.serve.new.self c.serve.new.clock c.serve.ensures.clock.0 (c.serve.ensures.leaves (from_of is.point) is.read is.state is.is_up) c.serve.ensures.stays right (g.met.D.Disk.stands_on c.serve.new.self.log.disk) (c.serve.ensures.told ∙ ap is_some is.is_up.log.settled.told) (c.serve.ensures.in_time is.is_up.log.in_time));
      log = rw c.into_parts-log.ensures (fault_leaves g.D.Disk.content g.D.Disk.left g.D.Disk.last g.S.Store.rows g.S.Store.keeps g.S.Store.staged g.S.Store.point_in g.met.S.Store.holds first trail c.args.serves c.args.clock.now is c.args.request.now c.serve.new.self c.serve.new.clock c.serve.ensures.clock.0 (c.serve.ensures.leaves (from_of is.point) is.read is.state is.is_up) c.serve.ensures.stays right);
      area = unmoved c.args.clock.now _ _ _ (g.met.D.Disk.stands c.args.serves.area) is.area_in_time (λ m image l. tt);
    }

pub returns-in-Ok-clause-entry : goal.returns-in-Ok-clause-entry
returns-in-Ok-clause-entry g c = λ spare has. ∥∥₁_elim has (hlevel props) (λ h. up_entry g.S.Store.rows g.S.Store.room c.args.serves c.args.request.now c.in-Ok.answer spare h)

pub returns-in-Ok-clause-ends : goal.returns-in-Ok-clause-ends
returns-in-Ok-clause-ends g c = λ spare has. ∥∥₁_map has (λ h.
    ends_behind g.S.Store.rows g.S.Store.room c.args.serves (record { running = c.serve.new.self; area = c.args.serves.area }) c.args.request.now c.in-Ok.answer spare c.requires.no_stop c.in-Ok.ensures.quiet c.in-Ok.ensures.follows h)

pub returns-in-Ok-clause-memory : goal.returns-in-Ok-clause-memory
returns-in-Ok-clause-memory g c = λ none. ∥∥₁_elim c.requires.fit.1 (hlevel props) (λ k.
    right_plain k.state c.args.request.now c.in-Ok.answer k.stands.up c.requires.no_stop none (c.in-Ok.ensures.follows k).1.right)

pub returns-in-Err-clause-entry : goal.returns-in-Err-clause-entry
returns-in-Err-clause-entry g c = λ spare has. ∥∥₁_elim has (hlevel props) (λ h. up_entry g.S.Store.rows g.S.Store.room c.args.serves c.args.request.now (answer.Fault false) spare h)

pub returns-in-Err-clause-ends : goal.returns-in-Err-clause-ends
returns-in-Err-clause-ends g c = λ spare has. ∣ tt ∣₁

pub returns-in-Ok-clause-calls : goal.returns-in-Ok-clause-calls
returns-in-Ok-clause-calls g c = few_calls c.args.request.now c.args.clock.now c.serve.new.clock c.serve.ensures.clock.1 c.serve.ensures.no_calls

pub returns-in-Err-clause-calls : goal.returns-in-Err-clause-calls
returns-in-Err-clause-calls g c = few_calls c.args.request.now c.args.clock.now c.serve.new.clock c.serve.ensures.clock.1 c.serve.ensures.no_calls
