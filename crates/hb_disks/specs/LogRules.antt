-- When the records of one log stand rightly: locks, votes and ends, and the decisions.
use Rattle.std.specs.Prelude.{◌≡◌, ◌≢◌, ◌<◌, not, ◌&&◌, ◌||◌, IsTrue, List, [], ◌∷◌, ◌++◌, ⊤}
use Rattle.hb_types.specs.declared.change.Change.{Change}
use Rattle.hb_types.specs.declared.change.LogItem.{LogItem}
use Rattle.hb_types.specs.declared.change.LogItem.TheVariants as item
use Rattle.hb_types.specs.declared.lock.Held.{Held}
use Rattle.hb_types.specs.declared.lock.Mode.{Mode}
use Rattle.hb_types.specs.declared.lock.Mode.TheVariants as mode
use Rattle.hb_types.specs.declared.places.Path.{Path}
use Rattle.hb_types.specs.declared.places.Place.{Place}
use Rattle.hb_types.specs.Lists.{Each, Has}
use Rattle.hb_types.specs.Modes.{compatible, covers}
use Rattle.hb_types.specs.Places.{same_path, is_under, ancestors, intention}
use Rattle.hb_disks.specs.Redo.{Prepared, Decided, doubts, floor_of}
use Rattle.hb_disks.specs.Says.{prepares, commits, aborts}

-- ---- locks of branches

-- two locks may stand beside each other
abbrev pub Agree : Held → Held → Type 0
Agree l m = IsTrue (not (same_path l.path m.path) || compatible l.mode m.mode)

abbrev pub LocksAgree : List Held → List Held → Type 0
LocksAgree ls ms = Each (λ l. Each (Agree l) ms) ls

-- a lock of a mode as strong as this one on a path
abbrev pub IsHeld : List Held → Mode → Path → Type 0
IsHeld locks m path = Has (λ l. IsTrue (same_path l.path path && covers l.mode m)) locks

-- the paths above a lock are locked in its intention mode
abbrev pub HasAncestors : List Held → Held → Type 0
HasAncestors locks l = Each (IsHeld locks (intention l.mode)) (ancestors l.path)

-- with each lock those above it
abbrev pub AreClosed : List Held → Type 0
AreClosed locks = Each (HasAncestors locks) locks

-- a lock as strong as this mode lies over a place
abbrev pub Covers : List Held → Mode → Place → Type 0
Covers locks m place = Has (λ l. IsTrue (covers l.mode m && is_under l.path place)) locks

-- each change lies under an X lock
abbrev pub AreCovered : List Held → List Change → Type 0
AreCovered locks changes = Each (λ c. Covers locks mode.X c.place) changes

-- ---- a server's log

-- a branch beside the branches that stand prepared
pub record BranchFits (others : List Prepared) (p : Prepared) : Type 0 where
  pub agree : Each (λ q. LocksAgree q.locks p.locks) others
  pub closed : AreClosed p.locks
  pub covered : AreCovered p.locks p.changes

-- a Prepare of a transaction that this log had none of, with the floor of the log
pub record PrepareFits (done : List LogItem) (p : Prepared) : Type 0 where
  pub first : Each (λ q. q.tx ≢ p.tx) (prepares done)
  pub floor : p.floor ≡ floor_of done
  pub fits : BranchFits (doubts done) p

-- an item stands rightly behind those of a server's log
abbrev pub Fits : List LogItem → LogItem → Type 0
Fits done (item.Prepare tx floor locks changes) = PrepareFits done (record { tx = tx.0; floor = floor.0; locks = locks; changes = changes })
Fits done (item.Commit tx number) = Has (λ p. (p.tx ≡ tx.0) × (p.floor < number.0)) (doubts done)
Fits done (item.Abort tx) = Has (λ p. p.tx ≡ tx.0) (doubts done)
Fits done _ = ⊥

-- the same in two halves, of which this one is of branches and their ends
abbrev pub EndFits : List LogItem → LogItem → Type 0
EndFits done (item.Prepare tx floor locks changes) = Each (λ q. q.tx ≢ tx.0) (prepares done) × (floor.0 ≡ floor_of done)
EndFits done (item.Commit tx number) = Has (λ p. (p.tx ≡ tx.0) × (p.floor < number.0)) (doubts done)
EndFits done (item.Abort tx) = Has (λ p. p.tx ≡ tx.0) (doubts done)
EndFits done _ = ⊤

-- and this one of locks
abbrev pub LocksFit : List LogItem → LogItem → Type 0
LocksFit done (item.Prepare tx floor locks changes) =
    BranchFits (doubts done) (record { tx = tx.0; floor = floor.0; locks = locks; changes = changes })
LocksFit done _ = ⊤

-- a server's log has the records of branches alone
abbrev pub IsBranchItem : LogItem → Type 0
IsBranchItem (item.Decision tx number nodes) = ⊥
IsBranchItem (item.Ids upto) = ⊥
IsBranchItem _ = ⊤

-- the items stand rightly, one behind another
abbrev pub LogOK : List LogItem → List LogItem → Type 0
LogOK done [] = ⊤
LogOK done (i ∷ is) = Fits done i × LogOK (done ++ i ∷ []) is

-- a server's log agrees with the decisions: what it commits is decided so, what it aborts is not, and numbers are above the votes
pub record NumOK (log : List LogItem) (ds : List Decided) : Type 0 where
  pub committed : Each (λ c. Has (λ d. (d.tx ≡ c.0) × (d.number ≡ c.1)) ds) (commits log)
  pub aborted : Each (λ t. Each (λ d. d.tx ≢ t) ds) (aborts log)
  pub above : Each (λ d. Each (λ p. p.tx ≡ d.tx → p.floor < d.number) (prepares log)) ds
