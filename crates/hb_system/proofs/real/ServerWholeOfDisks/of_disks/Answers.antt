use Rattle.std.proofs.Common.{List, [], None, subst}
use Rattle.hb_types.specs.declared.trail.TrailEntry.{TrailEntry}
use Rattle.hb_disks.specs.WholeImage.{PointIs}
use Rattle.hb_node.specs.Laws.{asked_of, serving}
use Rattle.hb_server.specs.Law.{ExplainsNode, IsStoppedLog}
use Rattle.hb_whole.specs.Store.{keeps_in, rows_in, staged_in}
use Rattle.hb_system.proofs.FreshServer.{first_base, first_log, first_state, fresh_rests, no_point_yet}
use Rattle.hb_system.proofs.real.ServerWholeOfDisks.of_disks.Goals as goal

pub returns-clause-explained : goal.returns-clause-explained
returns-clause-explained g c = λ log area.
    let is = c.new-2.ensures.explains first_state None [] first_base
    (fresh_rests g.D.Disk.content g.D.Disk.left g.D.Disk.last (IsStoppedLog None [] first_state []) c.args.log first_log log)
    (fresh_rests g.D.Disk.content g.D.Disk.left g.D.Disk.last (λ image. PointIs image None) c.args.area no_point_yet area) in
    subst (λ (entries : List TrailEntry). ExplainsNode g.D.Disk.content g.D.Disk.left g.D.Disk.last rows_in keeps_in staged_in PointIs c.new-2.result.name.0 c.new-2.result.state (serving first_state) (asked_of entries)) c.new-2.ensures.trail is
