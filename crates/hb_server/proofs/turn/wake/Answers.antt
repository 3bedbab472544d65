use Rattle.std.proofs.Common.{inl}
use Rattle.hb_edge.specs.Runs.{weaker}
use Rattle.hb_types.specs.declared.answer.Answer.TheVariants as answer
use Rattle.hb_server.proofs.Rest.{unmoved}
use Rattle.hb_server.proofs.Rooming.{down_entry}
use Rattle.hb_server.proofs.Runs.{down_turn}
use Rattle.hb_server.proofs.Stops.{down_leaves, down_more}
use Rattle.hb_server.proofs.turn.wake.Goals as goal

pub returns-in-Start-clause-goes : goal.returns-in-Start-clause-goes
returns-in-Start-clause-goes g c = λ first trail is. rw c.in-Start.is (c.begin_again.ensures.goes first trail is)

pub returns-in_default-clause-goes : goal.returns-in_default-clause-goes
returns-in_default-clause-goes g c = λ first trail is. record {
  explains = down_more g.D.Disk.content g.D.Disk.left g.D.Disk.last g.S.Store.point_in first trail c.args.request.now answer.Down c.args.rest.log c.args.rest.area c.args.clock.now (λ t down. down_turn t c.args.request.now down c.in_default.not-Start) is;
  log = weaker c.args.clock.now _ _ _ _ (λ m image le l. inl l)
      (down_leaves g.D.Disk.content g.D.Disk.left g.D.Disk.last g.S.Store.point_in first trail c.args.rest.log c.args.rest.area c.args.clock.now (g.met.D.Disk.stands c.args.rest.log) is);
  area = unmoved c.args.clock.now _ _ _ (g.met.D.Disk.stands c.args.rest.area) is.area_rests.in_time (λ m image l. tt);
}

pub returns-in_default-clause-entry : goal.returns-in_default-clause-entry
returns-in_default-clause-entry g c = down_entry c.args.request.now c.args.trail.now.spare c.requires.room

pub returns-in-Start-clause-finds : goal.returns-in-Start-clause-finds
returns-in-Start-clause-finds g c = λ start in_time. c.begin_again.ensures.finds in_time

pub returns-in_default-clause-finds : goal.returns-in_default-clause-finds
returns-in_default-clause-finds g c = λ start. absurd (c.in_default.not-Start start)
