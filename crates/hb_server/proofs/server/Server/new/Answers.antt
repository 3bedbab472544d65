use Rattle.hb_server.proofs.Asking.{begins}
use Rattle.hb_server.proofs.server.Server.new.Goals as goal

pub returns-clause-explains : goal.returns-clause-explains
returns-clause-explains g c = λ first p read base log area. (
  c.requires,
  rw c.new.ensures
      (begins g.D.Disk.content g.D.Disk.left g.D.Disk.last g.S.Store.rows g.S.Store.keeps g.S.Store.staged g.S.Store.point_in first p read c.args.log c.args.area c.new-log.result c.new-area.result c.args.store c.new-log.ensures c.new-area.ensures base log area),
)
