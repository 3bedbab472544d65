use Rattle.std.proofs.Common.{◌≡◌, ◌+◌, take, drop}
use Rattle.hb_types.specs.declared.places.Place.{Place}
use Rattle.hb_types.specs.Put.{put_all}
use Rattle.hb_store.specs.Meanings.{Stays, count_at}
use Rattle.hb_redo.proofs.apply.apply_all.Given as goal

-- the changes so far are made, and there is room for those that are left
abbrev pub invariant-loop-change : goal.invariant-loop-change
invariant-loop-change g l = record {
  rows : g.S.Store.rows l.store ≡ put_all (g.S.Store.rows l.fn.store) (take l.change-index l.changes);
  room : (place : Place) → g.S.Store.room l.store place ≡ g.S.Store.room l.fn.store place + count_at place (drop l.change-index l.changes);
  begun : g.S.Store.begun l.store ≡ g.S.Store.begun l.fn.store;
  stays : Stays g.S.Store.keeps g.S.Store.staged l.fn.store l.store;
}
