use Rattle.std.proofs.Common.{◌+◌, ℕ, List, sym, ◌∙◌, ap, subst, arith, ◌++◌}
use mathlib.Core.Logic.{∥∥₁_elim, ∥∥₁_map}
use Rattle.std.proofs.Props.{props}
use Rattle.hb_edge.specs.Runs.{weaker}
use Rattle.hb_types.specs.declared.answer.Answer.TheVariants as answer
use Rattle.hb_types.specs.declared.request.Request.TheVariants as request
use Rattle.hb_types.specs.declared.change.Stored.{Stored}
use Rattle.hb_types.specs.declared.change.LogItem.TheVariants as item
use Rattle.hb_types.specs.Records.{HasRecord}
use Rattle.hb_runs.specs.Server.{SState}
use Rattle.hb_runs.specs.ServerEffects.{happens, aborted}
use Rattle.hb_runs.specs.ServerRuns.{Turns}
use Rattle.hb_engine.specs.Turned.{StandsFor}
use Rattle.hb_force.proofs.Causing.{doubt_dead}
use Rattle.hb_force.proofs.Measuring.{spelled_long}
use Rattle.hb_force.proofs.Turning.{aborted_turn, abort_between, abort_state}
use Rattle.hb_force.proofs.Keeping.{changes_room, end_room, kept_aborted}
use Rattle.hb_force.proofs.running.Running.rollback.Goals as goal

pub returns-in_err-append-clause-leaves : goal.returns-in_err-append-clause-leaves
returns-in_err-append-clause-leaves g c = λ from read s up.
    let d = c.requires.rolls_back.1 (g.S.Store.rows c.args.self.now.store) s up.stands in
    let has_record : HasRecord (item.Abort c.args.tx) = (c.requires.tx, omega arith) in
    weaker c.args.clock.now _ _ _ _
    (λ m image le e. (abort_between g.D.Disk.content g.D.Disk.left g.D.Disk.last g.S.Store.rows from read s c.args.self.now c.args.clock.now up c.args.tx d.0 image d.1 e.0, e.1))
    (c.append.ensures.leaves from (read ++ s.log) (item.Abort c.args.tx) up.log has_record c.abort_bytes.ensures)

pub unroom-requires : goal.unroom-requires
unroom-requires g c = λ place. ∥∥₁_elim c.requires.kept (hlevel props) (λ k.
    let d = c.requires.rolls_back.1 (g.S.Store.rows c.args.self.now.store) k.state k.stands in
    let are = (c.in-Some.ensures (g.S.Store.rows c.args.self.now.store) k.state d.0 k.stands d.1).0 in
    changes_room g.S.Store.rows g.S.Store.room c.args.self.now k c.args.tx.0 c.deref.result.now place (are ∙ sym c.deref.ensures.value))

pub unreachable-requires : goal.unreachable-requires
unreachable-requires g c = ∥∥₁_elim c.requires.kept (hlevel props) (λ k.
    let d = c.requires.rolls_back.1 (g.S.Store.rows c.args.self.now.store) k.state k.stands in
    c.in-None.ensures (g.S.Store.rows c.args.self.now.store) k.state d.0 k.stands d.1)

pub returns-clause-leaves : goal.returns-clause-leaves
returns-clause-leaves g c = λ from read s up.
    let d = c.requires.rolls_back.1 (g.S.Store.rows c.args.self.now.store) s up.stands in
    let has_record : HasRecord (item.Abort c.args.tx) = (c.requires.tx, omega arith) in
    weaker c.args.clock.now _ _ _ _
    (λ m image le e. (abort_between g.D.Disk.content g.D.Disk.left g.D.Disk.last g.S.Store.rows from read s c.args.self.now c.args.clock.now up c.args.tx d.0 image d.1 e.0, e.1))
    (c.append.ensures.leaves from (read ++ s.log) (item.Abort c.args.tx) up.log has_record c.abort_bytes.ensures)

pub returns-clause-turns : goal.returns-clause-turns
returns-clause-turns g c = λ from read s up.
    let d = c.requires.rolls_back.1 (g.S.Store.rows c.args.self.now.store) s up.stands in
    let has_record : HasRecord (item.Abort c.args.tx) = (c.requires.tx, omega arith) in
    aborted_turn g.D.Disk.content g.D.Disk.left g.D.Disk.last g.S.Store.rows from read s c.args.self.now c.args.clock.now up c.args.tx d.0 (g.S.Store.rows c.args.self.now.store) _ c.append.new.clock d.1
    (sym c.unroom.ensures.rows) ((c.in-Some.ensures (g.S.Store.rows c.args.self.now.store) s d.0 up.stands d.1).1)
    (c.in_ok-append.ensures.done from (read ++ s.log) (item.Abort c.args.tx) up.log has_record c.abort_bytes.ensures)

pub returns-clause-follows : goal.returns-clause-follows
returns-clause-follows g c = λ k.
    let d = c.requires.rolls_back.1 (g.S.Store.rows c.args.self.now.store) k.state k.stands in
    let rows = g.S.Store.rows c.args.self.now.store in
    let e = c.in-Some.ensures rows k.state d.0 k.stands d.1 in
    let here = abort_state k.state c.args.tx (λ t. StandsFor c.aborted.new.self rows t) (doubt_dead c.args.self.now.engine rows k.state c.args.tx.0 d.0 k.stands d.1) e.1 in
    let n = kept_aborted g.S.Store.rows g.S.Store.room c.args.self.now k _ c.args.tx d.0 c.deref.result.now d.1 (e.0 ∙ sym c.deref.ensures.value)
    (subst (λ (l : List Stored). StandsFor c.aborted.new.self l (happens k.state (aborted c.args.tx.0))) (sym c.unroom.ensures.rows)
    (subst (λ (x : SState). StandsFor c.aborted.new.self rows x) (sym here) e.1.at))
    (c.in_ok-append.ensures.end ∙ ap (λ (n : ℕ). c.args.self.now.log.end + n) (spelled_long (item.Abort c.args.tx) c.abort_bytes.result c.abort_bytes.ensures))
    c.unroom.ensures.room in
    (n.0, subst (λ (x : SState). Turns k.state (record { request = request.Rollback c.args.tx; answer = answer.Done }) x) (sym here ∙ n.1) e.1.turn)

pub returns-clause-kept : goal.returns-clause-kept
returns-clause-kept g c = ∥∥₁_map c.requires.kept (λ k. (returns-clause-follows g c k).0)

pub append-requires-clause-fits : goal.append-requires-clause-fits
append-requires-clause-fits g c = ∥∥₁_elim c.requires.kept (hlevel props) (λ k.
    let d = c.requires.rolls_back.1 (g.S.Store.rows c.args.self.now.store) k.state k.stands in
    let room = end_room g.S.Store.rows g.S.Store.room c.args.self.now k c.args.tx.0 d.0 d.1 in
    let long = spelled_long (item.Abort c.args.tx) c.abort_bytes.result c.abort_bytes.ensures in
    omega (arith, room, long))
