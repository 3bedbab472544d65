use Rattle.std.proofs.Common.{◌≡◌, ap, ◌∙◌, Some, List}
use Rattle.hb_types.specs.declared.lock.Holder.{Holder}
use Rattle.hb_locks.specs.Locks.{Changes, granted, holders_at}
use Rattle.hb_locks.proofs.Order.{written}
use Rattle.hb_locks.proofs.Sound.{sound-granted}
use Rattle.hb_locks.proofs.table.grant.Goals as goal

pub returns-clause-ok : goal.returns-clause-ok
returns-clause-ok c =
    let old = c.args.table.now.entries in
    let new = c.insert.new.self.entries in
    let holders = granted c.args.tx c.args.wanted (holders_at old c.args.path) in
    let value : c.in_ok-next.next ≡ holders = c.in_ok-next.ensures ∙ ap (granted c.args.tx c.args.wanted) c.holders_of.ensures in
    λ q. written old new c.args.path (λ (hs : List Holder). holders) (Some c.in_ok-next.next) value q (c.in_ok-insert.ensures.updates.0 q)

pub returns-clause-sound : goal.returns-clause-sound
returns-clause-sound c =
    let old = c.args.table.now.entries in
    let new = c.insert.new.self.entries in
    let holders = granted c.args.tx c.args.wanted (holders_at old c.args.path) in
    let value : c.in_ok-next.next ≡ holders = c.in_ok-next.ensures ∙ ap (granted c.args.tx c.args.wanted) c.holders_of.ensures in
    let changes : Changes old new c.args.path holders =
    λ q. written old new c.args.path (λ (hs : List Holder). holders) (Some c.in_ok-next.next) value q (c.in_ok-insert.ensures.updates.0 q) in
    sound-granted old new c.keep.new.paths c.keep.new.paths c.args.tx c.args.path c.args.wanted c.keep.ensures.sound c.requires.free changes (λ t p h. h) c.in_ok-keep.ensures.kept
