use Rattle.std.proofs.Common.{◌∷◌, length, map}
use Rattle.hb_types.specs.Lists.{joined}
use Rattle.hb_types.specs.Numbers.{four, eight}
use Rattle.hb_types.specs.Records.{lock_bytes, change_bytes}
use Rattle.hb_codec.proofs.Joined.{six_pieces}
use Rattle.hb_codec.proofs.writing.put_prepare.Goals as goal

pub returns : goal.returns
returns c =
    let ls = c.args.locks.now in
    let cs = c.args.changes.now in
    six_pieces c.args.out.now.items (1 ∷ eight c.args.tx.0) (eight c.args.floor.0) (four (length ls)) (joined (map lock_bytes ls)) (four (length cs)) (joined (map change_bytes cs)) _ _ _ _ _ _
    c.in_ok-put_head.ensures c.in_ok-put_number.ensures c.in_ok-put_count.ensures c.in_ok-put_locks.ensures c.in_ok-put_count-2.ensures c.in_ok-put_changes.ensures
