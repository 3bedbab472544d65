use Rattle.std.proofs.Common.{◌≡◌, ◌+◌, take, length}
use Rattle.hb_types.specs.declared.places.Place.{Place}
use Rattle.hb_types.specs.Put.{put_all}
use Rattle.hb_store.specs.Meanings.{count_at, Stays}
use Rattle.hb_force.proofs.applying.apply_all.Given as goal

abbrev pub invariant-loop-change : goal.invariant-loop-change
invariant-loop-change g l =
    (g.S.Store.rows l.store ≡ put_all (g.S.Store.rows l.fn.store) (take (length l.yielded) l.fn.changes.items))
    × ((place : Place) → g.S.Store.room l.fn.store place ≡ g.S.Store.room l.store place + count_at place (take (length l.yielded) l.fn.changes.items))
    × Stays g.S.Store.keeps g.S.Store.staged l.fn.store l.store
