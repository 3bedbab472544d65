use Rattle.std.proofs.Common.{refl}
use Rattle.hb_redo.proofs.Staging.{aborted}
use Rattle.hb_redo.proofs.pending.Pending.end.Goals as goal

pub returns : goal.returns
returns c = λ records base d voted back rows room r.
    let m = c.args.self.now in
    aborted records base d voted back rows room m (record { engine = m.engine; told = m.told; votes = c.settle.new.votes; ends = c.pass.new.ends }) c.args.tx refl refl c.settle.ensures c.pass.ensures r
