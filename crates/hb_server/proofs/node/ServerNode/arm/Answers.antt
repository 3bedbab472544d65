use Rattle.std.proofs.Common.{◌-◌}
use mathlib.Core.Logic.{∥∥₁_map}
use Rattle.hb_server.proofs.FuseLaws.{armed_faults, armed_fit, armed_last, armed_leaves, armed_node}
use Rattle.hb_server.proofs.Rooming.{armed_ends}
use Rattle.hb_server.proofs.node.ServerNode.arm.Goals as goal

pub returns-clause-explains : goal.returns-clause-explains
returns-clause-explains g c = λ origin asked is.
    rw c.arm.ensures (armed_node g.D.Disk.content g.D.Disk.left g.D.Disk.last g.S.Store.rows g.S.Store.keeps g.S.Store.staged g.S.Store.point_in (c.args.k - 1) c.args.area c.args.self.now.name.0 c.args.self.now.state origin asked is)

pub returns-clause-leaves : goal.returns-clause-leaves
returns-clause-leaves g c = λ m log area is.
    armed_leaves g.D.Disk.content g.D.Disk.left g.D.Disk.last g.S.Store.rows g.S.Store.keeps g.S.Store.staged g.S.Store.point_in (c.args.k - 1) c.args.area c.args.self.now.state m log area (rw c.arm.ensures at is)

pub returns-clause-last : goal.returns-clause-last
returns-clause-last g c = rw c.arm.ensures (armed_last g.D.Disk.content g.D.Disk.left g.D.Disk.last g.S.Store.rows g.S.Store.keeps g.S.Store.staged g.S.Store.point_in (c.args.k - 1) c.args.area c.args.self.now.state)

pub returns-clause-faults : goal.returns-clause-faults
returns-clause-faults g c = rw c.arm.ensures (armed_faults g.D.Disk.faults (c.args.k - 1) c.args.area c.args.self.now.state)

pub invariant_of-self : goal.invariant_of-self
invariant_of-self g c = record { numbered = c.args.self.now.numbered; fit = rw c.arm.ensures (∥∥₁_map c.args.self.now.fit (armed_fit g.S.Store.rows g.S.Store.room (c.args.k - 1) c.args.area c.args.self.now.state)); ends = rw c.arm.ensures (∥∥₁_map c.args.self.now.ends (λ e. armed_ends g.S.Store.rows g.S.Store.room (c.args.k - 1) c.args.area c.args.self.now.state c.args.self.now.trail.spare e)) }
