use Rattle.std.proofs.Common.{refl, sym, subst, arith}
use mathlib.Core.Logic.{∥∥₁_elim, ∥∥₁_map}
use Rattle.std.proofs.Props.{props}
use Rattle.std.specs.Prelude.{IfOk, OnErr}
use Rattle.hb_engine.specs.declared.engine.Engine.{Engine}
use Rattle.hb_force.specs.Kept.{Follows}
use Rattle.hb_force.specs.Standing.{Turns, Faults, LeavesBetween}
use Rattle.hb_requests.specs.Forced.{Forces}
use Rattle.hb_force.proofs.Turning.{between_none}
use Rattle.hb_force.proofs.Keeping.{forced_same, kept_store, kept_turn, quiet_turn}
use Rattle.hb_force.proofs.Answering.{answer_once, served_well}
use Rattle.hb_force.proofs.Causing.{quiet_answer}
use Rattle.hb_force.proofs.running.Running.serve.Goals as goal

pub returns-in-Some-clause-turns : goal.returns-in-Some-clause-turns
returns-in-Some-clause-turns g c = λ from read s up.
    quiet_turn g.D.Disk.content g.D.Disk.left g.D.Disk.last g.S.Store.rows from read s c.args.self.now c.args.clock.now up _ c.args.clock.now c.args.request.now c.in-Some.answer (omega arith) c.requires.well_formed c.has_paths.ensures c.in-Some.ensures.records_none refl refl
    (c.in-Some.ensures.turns s up.stands)

pub returns-in-Some-clause-leaves : goal.returns-in-Some-clause-leaves
returns-in-Some-clause-leaves g c = λ from read s up.
    between_none g.D.Disk.content g.D.Disk.left g.D.Disk.last g.S.Store.rows from read s c.args.self.now c.args.clock.now up c.args.request.now (g.met.D.Disk.stands c.args.self.now.log.disk)

pub returns-in-Some-clause-follows : goal.returns-in-Some-clause-follows
returns-in-Some-clause-follows g c = λ k.
    kept_turn g.S.Store.rows g.S.Store.room c.args.self.now k _ c.args.request.now c.in-Some.answer c.requires.well_formed c.has_paths.ensures c.in-Some.ensures.records_none (c.in-Some.ensures.turns k.state k.stands) refl refl

pub returns-in-Some-clause-kept : goal.returns-in-Some-clause-kept
returns-in-Some-clause-kept g c = ∥∥₁_map c.requires.kept (λ k. (returns-in-Some-clause-follows g c k).0)

pub returns-in-Some-clause-quiet : goal.returns-in-Some-clause-quiet
returns-in-Some-clause-quiet g c = ∥∥₁_elim c.requires.kept (hlevel props) (λ k.
    quiet_answer c.args.self.now.engine k.state c.args.request.now c.in-Some.answer k.stands.up c.in-Some.ensures.records_none (c.in-Some.ensures.turns k.state k.stands).turn.right)

pub force-requires-clause-kept : goal.force-requires-clause-kept
force-requires-clause-kept g c =
    ∥∥₁_map c.requires.kept (λ k. (kept_store g.S.Store.rows g.S.Store.room c.args.self.now k _ (forced_same c.args.self.now.engine c.answer.new.engine c.args.request.now c.in-None.ensures.turns) refl refl (λ place. omega arith)).0)

pub force-requires-clause-forces : goal.force-requires-clause-forces
force-requires-clause-forces g c =
    let same = forced_same c.args.self.now.engine c.answer.new.engine c.args.request.now c.in-None.ensures.turns in
    subst (λ (e : Engine). Forces e c.answer.new.engine c.args.request.now) (sym same) c.in-None.ensures.turns

pub returns-in-None-clause-turns : goal.returns-in-None-clause-turns
returns-in-None-clause-turns g c =
    let same = forced_same c.args.self.now.engine c.answer.new.engine c.args.request.now c.in-None.ensures.turns in
    subst
    (λ (e : Engine). IfOk c.force.result (Turns g.D.Disk.content g.D.Disk.left g.D.Disk.last g.S.Store.rows (record { log = c.args.self.now.log; store = c.args.self.now.store; engine = e }) c.args.clock.now c.force.new.self c.force.new.clock c.args.request.now))
    same c.force.ensures.turns

pub returns-in-None-clause-faulted : goal.returns-in-None-clause-faulted
returns-in-None-clause-faulted g c =
    let same = forced_same c.args.self.now.engine c.answer.new.engine c.args.request.now c.in-None.ensures.turns in
    subst
    (λ (e : Engine). OnErr c.force.result (Faults g.D.Disk.content g.D.Disk.left g.D.Disk.last g.S.Store.rows (record { log = c.args.self.now.log; store = c.args.self.now.store; engine = e }) c.args.clock.now c.args.request.now))
    same c.force.ensures.faulted

pub returns-in-None-clause-leaves : goal.returns-in-None-clause-leaves
returns-in-None-clause-leaves g c =
    let same = forced_same c.args.self.now.engine c.answer.new.engine c.args.request.now c.in-None.ensures.turns in
    subst
    (λ (e : Engine). LeavesBetween g.D.Disk.content g.D.Disk.left g.D.Disk.last g.S.Store.rows (record { log = c.args.self.now.log; store = c.args.self.now.store; engine = e }) c.args.clock.now c.force.new.self c.args.request.now)
    same c.force.ensures.leaves

pub returns-in-None-clause-follows : goal.returns-in-None-clause-follows
returns-in-None-clause-follows g c =
    let same = forced_same c.args.self.now.engine c.answer.new.engine c.args.request.now c.in-None.ensures.turns in
    subst
    (λ (e : Engine). IfOk c.force.result (λ a. Follows g.S.Store.rows g.S.Store.room (record { log = c.args.self.now.log; store = c.args.self.now.store; engine = e }) c.force.new.self c.args.request.now a))
    same c.force.ensures.follows

pub returns-in-None-clause-no_calls : goal.returns-in-None-clause-no_calls
returns-in-None-clause-no_calls g c = λ e. absurd (c.force.ensures.no_calls e)

pub returns-in-Some-clause-well_formed : goal.returns-in-Some-clause-well_formed
returns-in-Some-clause-well_formed g c = ∥∥₁_elim c.requires.kept (answer_once c.rows_have_one_form.ensures.one_form c.in-Some.answer) (λ k.
    served_well g.S.Store.rows g.S.Store.room c.args.self.now k _ c.args.request.now c.in-Some.answer c.requires.well_formed c.has_paths.ensures c.in-Some.ensures.records_none (c.in-Some.ensures.turns k.state k.stands))
