use Rattle.std.proofs.Common.{◌≡◌}
use Rattle.hb_store.specs.Meanings.{Stays}
use Rattle.hb_redo.specs.Restarts.{point_with}
use Rattle.hb_redo.proofs.Walking.{Walked}
use Rattle.hb_redo.proofs.restart.redo.Given as goal

-- the records so far are redone
abbrev pub invariant-loop-index : goal.invariant-loop-index
invariant-loop-index g l = record {
  walked : Walked l.records (g.S.Store.room l.fn.store) (point_with (g.S.Store.rows l.fn.store) l.fn.floor) l.index (g.S.Store.rows l.store) (g.S.Store.room l.store) l.pending;
  begun : g.S.Store.begun l.store ≡ g.S.Store.begun l.fn.store;
  stays : Stays g.S.Store.keeps g.S.Store.staged l.fn.store l.store;
}
