use Rattle.std.proofs.Common.{◌+◌, ℕ, List, sym, ◌∙◌, ap, subst, arith, ◌++◌}
use mathlib.Core.Logic.{∥∥₁_elim, ∥∥₁_map}
use Rattle.std.proofs.Props.{props}
use Rattle.hb_edge.specs.Runs.{weaker}
use Rattle.hb_types.specs.declared.answer.Answer.TheVariants as answer
use Rattle.hb_types.specs.declared.request.Request.TheVariants as request
use Rattle.hb_types.specs.declared.change.Stored.{Stored}
use Rattle.hb_types.specs.declared.change.LogItem.TheVariants as item
use Rattle.hb_types.specs.Put.{put_all}
use Rattle.hb_types.specs.Records.{HasRecord}
use Rattle.hb_runs.specs.Server.{SState}
use Rattle.hb_runs.specs.ServerEffects.{happens, committed}
use Rattle.hb_runs.specs.ServerRuns.{Turns}
use Rattle.hb_engine.specs.Turned.{StandsFor}
use Rattle.hb_force.proofs.Measuring.{spelled_long}
use Rattle.hb_force.proofs.Once.{changes_once}
use Rattle.hb_force.proofs.Turning.{committed_turn, commit_between, commit_state}
use Rattle.hb_force.proofs.Keeping.{changes_room, changes_sound, end_room, kept_committed}
use Rattle.hb_force.proofs.running.Running.commit.Goals as goal

pub returns-in_err-append-clause-leaves : goal.returns-in_err-append-clause-leaves
returns-in_err-append-clause-leaves g c = λ from read s up.
    let d = c.requires.commits (g.S.Store.rows c.args.self.now.store) s up.stands in
    let has_record : HasRecord (item.Commit c.args.tx c.args.number) = ((c.requires.tx, c.requires.number), omega arith) in
    weaker c.args.clock.now _ _ _ _
    (λ m image le e. (commit_between g.D.Disk.content g.D.Disk.left g.D.Disk.last g.S.Store.rows from read s c.args.self.now c.args.clock.now up c.args.tx c.args.number d.0 image d.1 d.2 e.0, e.1))
    (c.append.ensures.leaves from (read ++ s.log) (item.Commit c.args.tx c.args.number) up.log has_record c.commit_bytes.ensures)

pub apply_all-requires-clause-room : goal.apply_all-requires-clause-room
apply_all-requires-clause-room g c = λ place. ∥∥₁_elim c.requires.kept (hlevel props) (λ k.
    let d = c.requires.commits (g.S.Store.rows c.args.self.now.store) k.state k.stands in
    let are = (c.in-Some.ensures (g.S.Store.rows c.args.self.now.store) k.state d.0 k.stands d.1).0 in
    changes_room g.S.Store.rows g.S.Store.room c.args.self.now k c.args.tx.0 c.in-Some.changes.items place are)

pub apply_all-requires-clause-fit : goal.apply_all-requires-clause-fit
apply_all-requires-clause-fit g c = ∥∥₁_elim c.requires.kept (changes_once c.rows_have_one_form.ensures.one_form c.in-Some.changes.items) (λ k.
    let d = c.requires.commits (g.S.Store.rows c.args.self.now.store) k.state k.stands in
    let are = (c.in-Some.ensures (g.S.Store.rows c.args.self.now.store) k.state d.0 k.stands d.1).0 in
    changes_sound g.S.Store.rows g.S.Store.room c.args.self.now k c.args.tx.0 c.in-Some.changes.items are)

pub unreachable-requires : goal.unreachable-requires
unreachable-requires g c = ∥∥₁_elim c.requires.kept (hlevel props) (λ k.
    let d = c.requires.commits (g.S.Store.rows c.args.self.now.store) k.state k.stands in
    c.in-None.ensures (g.S.Store.rows c.args.self.now.store) k.state d.0 k.stands d.1)

pub returns-clause-leaves : goal.returns-clause-leaves
returns-clause-leaves g c = λ from read s up.
    let d = c.requires.commits (g.S.Store.rows c.args.self.now.store) s up.stands in
    let has_record : HasRecord (item.Commit c.args.tx c.args.number) = ((c.requires.tx, c.requires.number), omega arith) in
    weaker c.args.clock.now _ _ _ _
    (λ m image le e. (commit_between g.D.Disk.content g.D.Disk.left g.D.Disk.last g.S.Store.rows from read s c.args.self.now c.args.clock.now up c.args.tx c.args.number d.0 image d.1 d.2 e.0, e.1))
    (c.append.ensures.leaves from (read ++ s.log) (item.Commit c.args.tx c.args.number) up.log has_record c.commit_bytes.ensures)

pub returns-clause-turns : goal.returns-clause-turns
returns-clause-turns g c = λ from read s up.
    let d = c.requires.commits (g.S.Store.rows c.args.self.now.store) s up.stands in
    let has_record : HasRecord (item.Commit c.args.tx c.args.number) = ((c.requires.tx, c.requires.number), omega arith) in
    committed_turn g.D.Disk.content g.D.Disk.left g.D.Disk.last g.S.Store.rows from read s c.args.self.now c.args.clock.now up c.args.tx c.args.number (put_all (g.S.Store.rows c.args.self.now.store) c.in-Some.changes.items) _ c.append.new.clock
    (sym c.apply_all.ensures.rows) ((c.in-Some.ensures (g.S.Store.rows c.args.self.now.store) s d.0 up.stands d.1).1 d.2)
    (c.in_ok-append.ensures.done from (read ++ s.log) (item.Commit c.args.tx c.args.number) up.log has_record c.commit_bytes.ensures)

pub returns-clause-follows : goal.returns-clause-follows
returns-clause-follows g c = λ k.
    let d = c.requires.commits (g.S.Store.rows c.args.self.now.store) k.state k.stands in
    let e = c.in-Some.ensures (g.S.Store.rows c.args.self.now.store) k.state d.0 k.stands d.1 in
    let rows = put_all (g.S.Store.rows c.args.self.now.store) c.in-Some.changes.items in
    let t = e.1 d.2 in
    let here = commit_state k.state c.args.tx c.args.number (λ t. StandsFor c.committed.new.self rows t) t in
    let n = kept_committed g.S.Store.rows g.S.Store.room c.args.self.now k _ c.args.tx c.args.number d.0 c.in-Some.changes.items c.requires.number d.1 e.0
    (subst (λ (l : List Stored). StandsFor c.committed.new.self l (happens k.state (committed c.args.tx.0 c.args.number.0))) (sym c.apply_all.ensures.rows)
    (subst (λ (x : SState). StandsFor c.committed.new.self rows x) (sym here) t.at))
    (c.in_ok-append.ensures.end ∙ ap (λ (n : ℕ). c.args.self.now.log.end + n) (spelled_long (item.Commit c.args.tx c.args.number) c.commit_bytes.result c.commit_bytes.ensures))
    c.apply_all.ensures.room in
    (n.0, subst (λ (x : SState). Turns k.state (record { request = request.Commit c.args.tx c.args.number; answer = answer.Done }) x) (sym here ∙ n.1) t.turn)

pub returns-clause-kept : goal.returns-clause-kept
returns-clause-kept g c = ∥∥₁_map c.requires.kept (λ k. (returns-clause-follows g c k).0)

pub append-requires-clause-fits : goal.append-requires-clause-fits
append-requires-clause-fits g c = ∥∥₁_elim c.requires.kept (hlevel props) (λ k.
    let d = c.requires.commits (g.S.Store.rows c.args.self.now.store) k.state k.stands in
    let room = end_room g.S.Store.rows g.S.Store.room c.args.self.now k c.args.tx.0 d.0 d.1 in
    let long = spelled_long (item.Commit c.args.tx c.args.number) c.commit_bytes.result c.commit_bytes.ensures in
    omega (arith, room, long))
