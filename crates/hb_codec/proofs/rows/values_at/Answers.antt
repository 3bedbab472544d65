use Rattle.std.proofs.Common.{◌-◌, arith}
use Rattle.std.proofs.lemmas.Result.{err_from_is_err_and}
use Rattle.hb_codec.specs.Readers.{many_in}
use Rattle.hb_codec.specs.RowReaders.{value_in, room_after}
use Rattle.hb_codec.proofs.Lists.{front_none, many_goes, many_ends, many_done}
use Rattle.hb_codec.proofs.rows.values_at.Goals as goal

pub loop-left-init : goal.loop-left-init
loop-left-init c = record {
  few = omega arith;
  so_far = rw c.in_ok-values.ensures.items (front_none (many_in value_in room_after c.args.count c.args.first c.args.bytes.now));
}

pub loop-left-preserved : goal.loop-left-preserved
loop-left-preserved c = record {
  few = omega arith;
  so_far =
      rw (c.in_ok-push.ensures.items, c.room_after-room.ensures (c.loop-left.left - 1) c.in_ok-value.value c.size_of.ensures)
      (many_goes value_in room_after c.loop-left.values.items c.loop-left.left (c.loop-left.left - 1) c.loop-left.room c.loop-left.rest.now c.in_ok-value.value c.in_ok-value.after.now (many_in value_in room_after c.args.count c.args.first c.args.bytes.now)
      (omega arith) c.in_ok-value.ensures c.loop-left.invariant.so_far);
}

pub returns-in_err-value : goal.returns-in_err-value
returns-in_err-value c =
    let p = err_from_is_err_and c.from_residual-in_err-value.result c.from_residual-in_err-value.ensures.1 in
    rw (p.1, p.2)
    (many_ends value_in room_after c.in_err-value.field-0.0 c.loop-left.values.items c.loop-left.left (c.loop-left.left - 1) c.loop-left.room c.loop-left.rest.now (many_in value_in room_after c.args.count c.args.first c.args.bytes.now)
    (omega arith) c.in_err-value.ensures c.loop-left.invariant.so_far)

pub returns : goal.returns
returns c =
    rw c.from_vec.ensures
    (many_done value_in room_after c.loop-left.values.items c.loop-left.left c.loop-left.room c.loop-left.rest.now (many_in value_in room_after c.args.count c.args.first c.args.bytes.now) (omega arith) c.loop-left.invariant.so_far)
