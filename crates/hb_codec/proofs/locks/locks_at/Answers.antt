use Rattle.std.proofs.Common.{◌-◌, arith}
use Rattle.std.proofs.lemmas.Result.{err_from_is_err_and}
use Rattle.hb_codec.specs.Readers.{many_in}
use Rattle.hb_codec.specs.LockReaders.{lock_in, lock_after}
use Rattle.hb_codec.proofs.Lists.{front_none, many_goes, many_ends, many_done}
use Rattle.hb_codec.proofs.locks.locks_at.Goals as goal

pub loop-left-init : goal.loop-left-init
loop-left-init c = record {
  few = omega arith;
  so_far = rw c.in_ok-locks.ensures.items (front_none (many_in lock_in lock_after c.args.count 0 c.args.bytes.now));
}

pub loop-left-preserved : goal.loop-left-preserved
loop-left-preserved c = record {
  few = omega arith;
  so_far =
      rw (c.in_ok-push.ensures.items, c.least_after-least.ensures (c.loop-left.left - 1) c.loop-left.least)
      (many_goes lock_in lock_after c.loop-left.locks.items c.loop-left.left (c.loop-left.left - 1) c.loop-left.least c.loop-left.rest.now c.in_ok-lock.lock c.in_ok-lock.after.now (many_in lock_in lock_after c.args.count 0 c.args.bytes.now)
      (omega arith) c.in_ok-lock.ensures c.loop-left.invariant.so_far);
}

pub returns-in_err-lock : goal.returns-in_err-lock
returns-in_err-lock c =
    let p = err_from_is_err_and c.from_residual-in_err-lock.result c.from_residual-in_err-lock.ensures.1 in
    rw (p.1, p.2)
    (many_ends lock_in lock_after c.in_err-lock.field-0.0 c.loop-left.locks.items c.loop-left.left (c.loop-left.left - 1) c.loop-left.least c.loop-left.rest.now (many_in lock_in lock_after c.args.count 0 c.args.bytes.now)
    (omega arith) c.in_err-lock.ensures c.loop-left.invariant.so_far)

pub returns : goal.returns
returns c =
    rw c.from_vec.ensures
    (many_done lock_in lock_after c.loop-left.locks.items c.loop-left.left c.loop-left.least c.loop-left.rest.now (many_in lock_in lock_after c.args.count 0 c.args.bytes.now) (omega arith) c.loop-left.invariant.so_far)
