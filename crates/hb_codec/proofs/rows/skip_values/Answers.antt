use Rattle.std.proofs.Common.{◌-◌, arith}
use Rattle.std.proofs.lemmas.Result.{err_from_is_err_and}
use Rattle.hb_codec.specs.Readers.{behind, many_in}
use Rattle.hb_codec.specs.RowReaders.{value_in, room_after}
use Rattle.hb_codec.proofs.RowLoop.{passed, passes, pass_ends, pass_done}
use Rattle.hb_codec.proofs.rows.skip_values.Goals as goal

pub loop-left-preserved : goal.loop-left-preserved
loop-left-preserved c = record {
  few = omega arith;
  so_far =
      (let n = c.loop-left.left - 1 in
      let p = passed n c.loop-left.room c.loop-left.rest.now c.in_ok-size.size c.in_ok-size.after.now c.in_ok-size.ensures in
      rw (c.room_after-room.ensures n p.value p.long)
      (passes c.loop-left.left n c.loop-left.room c.loop-left.rest.now p.value c.in_ok-size.after.now (behind (many_in value_in room_after c.args.count c.args.first c.args.bytes.now)) (omega arith) p.is c.loop-left.invariant.so_far));
}

pub returns-in_err-size : goal.returns-in_err-size
returns-in_err-size c =
    let p = err_from_is_err_and c.from_residual.result c.from_residual.ensures.1 in
    rw (p.1, p.2)
    (pass_ends c.in_err-size.field-0.0 c.loop-left.left (c.loop-left.left - 1) c.loop-left.room c.loop-left.rest.now (behind (many_in value_in room_after c.args.count c.args.first c.args.bytes.now)) (omega arith) c.in_err-size.ensures c.loop-left.invariant.so_far)

pub returns : goal.returns
returns c = pass_done c.loop-left.left c.loop-left.room c.loop-left.rest.now (behind (many_in value_in room_after c.args.count c.args.first c.args.bytes.now)) (omega arith) c.loop-left.invariant.so_far
