use Rattle.std.proofs.Common.{refl}
use Rattle.hb_redo.proofs.Staging.{committed}
use Rattle.hb_redo.proofs.pending.Pending.commit.Goals as goal

pub returns-clause-redoes : goal.returns-clause-redoes
returns-clause-redoes g c = λ base d voted back r.
    let m = c.args.self.now in
    committed c.args.records.now base d voted back (g.S.Store.rows c.args.store.now) (g.S.Store.rows c.apply_all.new.store) (g.S.Store.room c.args.store.now) (g.S.Store.room c.apply_all.new.store) m
    (record { engine = c.raise.new.self; told = m.told; votes = c.settle.new.votes; ends = c.pass.new.ends }) c.args.tx c.args.number c.changes_of.result.now
    c.raise.ensures refl c.settle.ensures c.pass.ensures (c.changes_of.ensures.are voted d.doubts r.votes) c.in_ok-apply_all.ensures.rows c.in_ok-apply_all.ensures.room r
