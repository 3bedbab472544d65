use Rattle.std.proofs.Common.{◌∙◌, sym}
use Rattle.hb_engine.proofs.Turning.{none_of, some_of, write_done, write_no_branch, write_not_locked}
use Rattle.hb_engine.proofs.engine.Engine.write.Goals as goal

pub returns-then-not-is_live : goal.returns-then-not-is_live
returns-then-not-is_live c =
    let e = c.args.self.now in
    λ rows s st. write_no_branch e.slots e.locks e.floor rows s c.args.tx c.args.change st (none_of _ (sym c.is_live.ensures ∙ c.if-not-is_live.true))

pub returns-then-not-is_covering : goal.returns-then-not-is_covering
returns-then-not-is_covering c =
    let e = c.args.self.now in
    let o = some_of _ (sym c.is_live.ensures ∙ c.if-not-is_live.false) in
    λ rows s st. write_not_locked e.slots e.locks e.floor rows s c.args.tx c.args.change o.0 st o.1 (sym c.is_covering.ensures ∙ c.if-not-is_covering.true)

pub returns-in-Ok : goal.returns-in-Ok
returns-in-Ok c =
    let e = c.args.self.now in
    let o = some_of _ (sym c.is_live.ensures ∙ c.if-not-is_live.false) in
    λ rows s st. write_done e.slots c.put_in.new.slots e.locks e.floor rows s c.args.tx c.args.change o.0 st o.1 (sym c.is_covering.ensures ∙ c.if-not-is_covering.false) c.in-Ok.ensures.ok
