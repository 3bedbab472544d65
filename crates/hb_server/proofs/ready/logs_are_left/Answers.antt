use Rattle.hb_server.proofs.Stops.{explained_left}
use Rattle.hb_server.proofs.ready.logs_are_left.Goals as goal

pub returns : goal.returns
returns g c = λ first trail moment m image is le l.
    explained_left g.D.Disk.content g.D.Disk.left g.D.Disk.last g.S.Store.rows g.S.Store.keeps g.S.Store.staged g.S.Store.point_in g.met.D.Disk.stands first trail c.args._state.now moment m image is le l
