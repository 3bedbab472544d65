use Rattle.std.proofs.Common.{◌-◌, arith}
use Rattle.std.proofs.lemmas.Result.{err_from_is_err_and}
use Rattle.hb_codec.specs.Readers.{many_in}
use Rattle.hb_codec.specs.ChangeReaders.{change_in, slot_after}
use Rattle.hb_codec.proofs.Lists.{front_none, many_goes, many_ends, many_done}
use Rattle.hb_codec.proofs.changes.changes_at.Goals as goal

pub loop-left-init : goal.loop-left-init
loop-left-init c = record {
  few = omega arith;
  so_far = rw c.in_ok-changes.ensures.items (front_none (many_in change_in slot_after c.args.count (record { least = 0; room = c.args.room }) c.args.bytes.now));
}

pub loop-left-preserved : goal.loop-left-preserved
loop-left-preserved c = record {
  few = omega arith;
  so_far =
      rw (c.in_ok-push.ensures.items, c.slot_after-slot.ensures (c.loop-left.left - 1))
      (many_goes change_in slot_after c.loop-left.changes.items c.loop-left.left (c.loop-left.left - 1) c.loop-left.slot c.loop-left.rest.now c.in_ok-change.change c.in_ok-change.after.now (many_in change_in slot_after c.args.count (record { least = 0; room = c.args.room }) c.args.bytes.now)
      (omega arith) c.in_ok-change.ensures c.loop-left.invariant.so_far);
}

pub returns-in_err-change : goal.returns-in_err-change
returns-in_err-change c =
    let p = err_from_is_err_and c.from_residual-in_err-change.result c.from_residual-in_err-change.ensures.1 in
    rw (p.1, p.2)
    (many_ends change_in slot_after c.in_err-change.field-0.0 c.loop-left.changes.items c.loop-left.left (c.loop-left.left - 1) c.loop-left.slot c.loop-left.rest.now (many_in change_in slot_after c.args.count (record { least = 0; room = c.args.room }) c.args.bytes.now)
    (omega arith) c.in_err-change.ensures c.loop-left.invariant.so_far)

pub returns : goal.returns
returns c =
    rw c.from_vec.ensures
    (many_done change_in slot_after c.loop-left.changes.items c.loop-left.left c.loop-left.slot c.loop-left.rest.now (many_in change_in slot_after c.args.count (record { least = 0; room = c.args.room }) c.args.bytes.now) (omega arith) c.loop-left.invariant.so_far)
