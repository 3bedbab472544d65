use Rattle.std.proofs.Common.{inl}
use Rattle.hb_edge.specs.Runs.{weaker}
use Rattle.hb_server.proofs.Rest.{unmoved}
use Rattle.hb_server.proofs.Stops.{stops, up_leaves}
use Rattle.hb_server.proofs.turn.stop.Goals as goal

pub returns-clause-goes : goal.returns-clause-goes
returns-clause-goes g c = λ first trail moment is.
    let stands = g.met.D.Disk.stands c.args.serves.running.log.disk in
    record {
      explains = rw c.into_parts-log.ensures (stops g.D.Disk.content g.D.Disk.left g.D.Disk.last g.S.Store.rows g.S.Store.keeps g.S.Store.staged g.S.Store.point_in g.met.S.Store.holds first trail c.args.serves moment is stands);
      log = rw c.into_parts-log.ensures
          (weaker moment _ _ _ _ (λ m image le l. inl l)
          (up_leaves g.D.Disk.content g.D.Disk.left g.D.Disk.last g.S.Store.rows g.S.Store.keeps g.S.Store.staged g.S.Store.point_in g.met.S.Store.holds first trail c.args.serves moment is stands));
      area = unmoved moment _ _ _ (g.met.D.Disk.stands c.args.serves.area) is.area_in_time (λ m image l. tt);
    }
