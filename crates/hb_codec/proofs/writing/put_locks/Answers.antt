use Rattle.std.proofs.Common.{get_or}
use Rattle.hb_types.specs.declared.lock.Held.{Held}
use Rattle.hb_types.specs.declared.lock.Mode.TheVariants.{IS}
use Rattle.hb_types.specs.declared.places.Path.TheVariants.{Whole}
use Rattle.hb_types.specs.Records.{lock_bytes}
use Rattle.hb_codec.proofs.Joined.{writes_more, get_or_any}
use Rattle.hb_codec.proofs.writing.put_locks.Goals as goal

pub loop-lock-preserved : goal.loop-lock-preserved
loop-lock-preserved c =
    let none : Held = record { path = Whole (record { area = 0; table = 0 }); mode = IS } in
    let lock = get_or c.args.locks.now c.loop-lock.lock-index none in
    writes_more lock_bytes c.args.locks.now c.loop-lock.lock-index lock c.args.out.now.items c.loop-lock.out.items c.put_lock.new.out.items
    c.loop-lock-test.true (get_or_any c.args.locks.now c.loop-lock.lock-index none lock c.loop-lock-test.true) c.in_ok-put_lock.ensures c.loop-lock.invariant
