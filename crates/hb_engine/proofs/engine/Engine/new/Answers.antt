use Rattle.std.proofs.Common.{sym, subst}
use Rattle.hb_locks.specs.Locks.{Locks}
use Rattle.hb_engine.specs.Fits.{Stands}
use Rattle.hb_engine.proofs.Turning.{fresh_stands}
use Rattle.hb_engine.proofs.engine.Engine.new.Goals as goal

pub returns : goal.returns
returns c = λ rows s f. subst (λ (l : Locks). Stands c.new.result l c.args.floor rows s) (sym c.new-2.ensures) (fresh_stands c.new.result c.args.floor rows s c.new.ensures.empty f)
