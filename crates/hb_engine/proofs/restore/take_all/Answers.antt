use Rattle.std.proofs.Common.{◌≡◌, ◌<◌, subst, length, arith}
use Rattle.hb_engine.specs.Restores.{Taken}
use Rattle.hb_engine.proofs.Refilling.{take_whole}
use Rattle.hb_engine.proofs.Retaking.{step_refused, step_taken, taken_none}
use Rattle.hb_engine.proofs.restore.take_all.Goals as goal

pub loop-held-init : goal.loop-held-init
loop-held-init c = λ nothing compatible. taken_none c.args.locks.now c.args.tx nothing compatible

pub loop-held-preserved : goal.loop-held-preserved
loop-held-preserved c = λ nothing compatible.
    let inside : c.loop-held.held-index < length c.args.asked.now = omega arith in
    step_taken c.args.locks.now c.loop-held.locks c.take_one.new.locks c.args.tx c.args.asked.now c.loop-held.held-index _ c.in_ok-take_one.field-0 c.if-not-branch.false inside c.requires (c.loop-held.invariant nothing compatible) c.in_ok-take_one.ensures

pub returns-then-not-branch : goal.returns-then-not-branch
returns-then-not-branch c = λ nothing compatible.
    let inside : c.loop-held.held-index < length c.args.asked.now = omega arith in
    step_refused c.args.locks.now c.loop-held.locks c.take_one.new.locks c.args.tx c.args.asked.now c.loop-held.held-index _ c.in_ok-take_one.field-0 c.if-not-branch.true inside c.requires (c.loop-held.invariant nothing compatible) c.in_ok-take_one.ensures

pub returns : goal.returns
returns c = λ nothing compatible.
    subst (Taken c.args.locks.now c.loop-held.locks c.args.tx) (take_whole c.args.asked.now c.loop-held.held-index (omega arith)) (c.loop-held.invariant nothing compatible)
