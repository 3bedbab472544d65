use Rattle.std.proofs.Common.{◌≡◌, ◌-◌, min, length, take, drop, Some, ap, arith, rules, length-append}
use Rattle.std.proofs.lemmas.List.{length-take, length-drop}
use Rattle.hb_memdisk.proofs.Taking.{taken_front, at_end}
use Rattle.hb_memdisk.proofs.source.MemSourceSource.take.Goals as goal

pub returns-clause-bytes : goal.returns-clause-bytes
returns-clause-bytes c =
    let source = c.args.self.now in
    let n = c.min-n.result in
    let count : n ≡ min source.piece (min (length source.bytes - source.given) (length c.args.into.now)) = search rules in
    let piece : c.copy_from_slice.new.self ≡ take n (drop source.given source.bytes) = search rules in (
      ap (λ l. Some l) (taken_front source.given n source.bytes c.copy_from_slice.new.self (drop n c.args.into.now) (omega (arith, count)) piece),
      λ none some. at_end source.given n source.piece (length c.args.into.now) source.bytes count source.gives
          (omega (arith, some, none, length-append c.copy_from_slice.new.self (drop n c.args.into.now), length-drop n c.args.into.now, ap length piece, length-take n (drop source.given source.bytes))) none,
    )
