-- What a restart finds in a log, one record after another.
use Rattle.std.specs.Prelude.{ℕ, ◌==◌, max, if◌then◌else◌, List, [], ◌∷◌, ◌++◌, Option, Some, None}
use Rattle.hb_types.specs.declared.change.Change.{Change}
use Rattle.hb_types.specs.declared.change.LogItem.{LogItem}
use Rattle.hb_types.specs.declared.change.LogItem.TheVariants as item
use Rattle.hb_types.specs.declared.change.Stored.{Stored}
use Rattle.hb_types.specs.declared.lock.Held.{Held}
use Rattle.hb_types.specs.declared.names.NodeName.{NodeName}
use Rattle.hb_types.specs.Put.{put_all}

-- ---- one item

-- a branch that voted
pub record Prepared : Type 0 where
  pub tx : ℕ
  pub floor : ℕ
  pub locks : List Held
  pub changes : List Change

-- a decision: its transaction, number and nodes
pub record Decided : Type 0 where
  pub tx : ℕ
  pub number : ℕ
  pub nodes : List NodeName

abbrev pub prepared_in : LogItem → Option Prepared
prepared_in (item.Prepare tx floor locks changes) = Some (record { tx = tx.0; floor = floor.0; locks = locks; changes = changes })
prepared_in _ = None

-- the transaction and number of a Commit
abbrev pub commit_in : LogItem → Option (ℕ × ℕ)
commit_in (item.Commit tx number) = Some (tx.0, number.0)
commit_in _ = None

abbrev pub abort_in : LogItem → Option ℕ
abort_in (item.Abort tx) = Some tx.0
abort_in _ = None

abbrev pub decision_in : LogItem → Option Decided
decision_in (item.Decision tx number nodes) = Some (record { tx = tx.0; number = number.0; nodes = nodes })
decision_in _ = None

abbrev pub upto_in : LogItem → Option ℕ
upto_in (item.Ids upto) = Some upto
upto_in _ = None

-- ---- redo

-- what a restart finds: the rows, the floor, and the branches that voted and have not ended
pub record Redone : Type 0 where
  pub rows : List Stored
  pub floor : ℕ
  pub doubts : List Prepared

abbrev pub nothing : Redone
nothing = record { rows = []; floor = 0; doubts = [] }

-- the branches but those of a transaction
abbrev pub without_tx : ℕ → List Prepared → List Prepared
without_tx tx [] = []
without_tx tx (p ∷ ps) = if p.tx == tx then without_tx tx ps else p ∷ without_tx tx ps

abbrev pub changes_or : List Change → ℕ → List Prepared → List Change
changes_or old tx [] = old
changes_or old tx (p ∷ ps) = changes_or (if p.tx == tx then p.changes else old) tx ps

-- the changes of the last of these branches of a transaction
abbrev pub changes_of : ℕ → List Prepared → List Change
changes_of tx ps = changes_or [] tx ps

-- an item more
abbrev pub after : Redone → LogItem → Redone
after r (item.Prepare tx floor locks changes) =
    record r { doubts = r.doubts ++ record { tx = tx.0; floor = floor.0; locks = locks; changes = changes } ∷ [] }
after r (item.Commit tx number) =
    record { rows = put_all r.rows (changes_of tx.0 r.doubts); floor = max r.floor number.0; doubts = without_tx tx.0 r.doubts }
after r (item.Abort tx) = record r { doubts = without_tx tx.0 r.doubts }
after r _ = r

-- the items of a log, one after another
abbrev pub redo_from : Redone → List LogItem → Redone
redo_from r [] = r
redo_from r (i ∷ is) = redo_from (after r i) is

abbrev pub redo : List LogItem → Redone
redo log = redo_from nothing log

abbrev pub doubts : List LogItem → List Prepared
doubts log = (redo log).doubts

abbrev pub floor_of : List LogItem → ℕ
floor_of log = (redo log).floor
