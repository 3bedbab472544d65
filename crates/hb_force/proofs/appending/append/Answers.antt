use Rattle.hb_edge.specs.Runs.{weaker}
use Rattle.hb_force.proofs.Logging.{both, log_more, either_items}
use Rattle.hb_force.proofs.appending.append.Goals as goal

pub returns-in-Ok-clause-done : goal.returns-in-Ok-clause-done
returns-in-Ok-clause-done g c = λ from items item has has_record spelled.
    log_more g.D.Disk.content g.D.Disk.left g.D.Disk.last from items has.placed (record { place = c.args.log.now.end; item = item }) c.append_bytes.new.self c.append_bytes.new.clock has.items_are
    (c.in-Ok.ensures.acknowledged from has.placed item has.settled has.in_time has_record spelled) (c.append_bytes.ensures.in_time has.in_time)

pub returns-in-Ok-clause-leaves : goal.returns-in-Ok-clause-leaves
returns-in-Ok-clause-leaves g c = λ from items item has has_record spelled.
    both c.args.clock.now _ _ _ _
    (weaker c.args.clock.now _ _ _ _ (λ m image le is. either_items from image items has.placed (record { place = c.args.log.now.end; item = item }) has.items_are is)
    (c.append_bytes.ensures.stop from has.placed item has.settled has.in_time has_record spelled))
    (c.append_bytes.ensures.longer from has.placed has.settled has.in_time)

pub returns-in-Err-clause-leaves : goal.returns-in-Err-clause-leaves
returns-in-Err-clause-leaves g c = λ from items item has has_record spelled.
    both c.args.clock.now _ _ _ _
    (weaker c.args.clock.now _ _ _ _ (λ m image le is. either_items from image items has.placed (record { place = c.args.log.now.end; item = item }) has.items_are is)
    (c.append_bytes.ensures.stop from has.placed item has.settled has.in_time has_record spelled))
    (c.append_bytes.ensures.longer from has.placed has.settled has.in_time)
