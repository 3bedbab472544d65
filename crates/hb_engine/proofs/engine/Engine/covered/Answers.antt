use Rattle.std.proofs.Common.{◌∙◌, sym}
use Rattle.hb_engine.proofs.Turning.{covered_is, uncovered_is, not_live}
use Rattle.hb_engine.proofs.engine.Engine.covered.Goals as goal

pub returns-in-Some-clause-ok : goal.returns-in-Some-clause-ok
returns-in-Some-clause-ok c =
    let e = c.args.self.now in
    λ rows s st. covered_is e.slots e.locks e.floor rows s c.args.tx c.in-Some.branch.now c.args.mode c.args.path st (sym c.in-Some.ensures) (sym c.is_covering.ensures ∙ c.if-is_covering.true)

pub returns-in-Some-2-clause-err : goal.returns-in-Some-2-clause-err
returns-in-Some-2-clause-err c =
    let e = c.args.self.now in
    λ rows s st. uncovered_is e.slots e.locks e.floor rows s c.args.tx c.in-Some.branch.now c.args.mode c.args.path st (sym c.in-Some.ensures) (sym c.is_covering.ensures ∙ c.if-is_covering.false)

pub returns-in-None-clause-err : goal.returns-in-None-clause-err
returns-in-None-clause-err c =
    let e = c.args.self.now in
    λ rows s st. not_live e.slots e.locks e.floor rows s c.args.tx.0 st (sym c.in-None.ensures)
