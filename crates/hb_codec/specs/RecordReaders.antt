-- Reading the bodies of records.
use Rattle.std.specs.Prelude.{ℕ, ◌+◌, ◌-◌, ◌*◌, ◌/◌, ◌==◌, if◌then◌else◌, List, Result, Ok}
use Rattle.hb_types.specs.declared.change.LogItem.{LogItem}
use Rattle.hb_types.specs.declared.change.LogItem.TheVariants.{Prepare, Commit, Abort, Decision, Ids}
use Rattle.hb_types.specs.declared.names.NodeName.{NodeName}
use Rattle.hb_codec.specs.Readers.{◌>>=◌, number_in, many_in}
use Rattle.hb_codec.specs.LockReaders.{lock_in, lock_after}
use Rattle.hb_codec.specs.ChangeReaders.{change_in, slot_after}

abbrev pub greatest : ℕ
greatest = 4611686018427387904

unfoldable pub node_in : ℕ → ℕ → List ℕ → Result (NodeName × List ℕ) ℕ
node_in n least bytes = do
  node ← number_in 0 1 least (9 - n) bytes
  Ok (record { 0 = node.0 }, node.1)

abbrev pub node_after : ℕ → ℕ → NodeName → ℕ
node_after n least node = node.0 + 1

-- how many bytes a body has for changes, behind so many locks
abbrev pub room_behind : ℕ → ℕ
room_behind locks = 8388583 - 16 * locks

unfoldable pub prepare_in : List ℕ → Result (LogItem × List ℕ) ℕ
prepare_in bytes = do
  tx ← number_in 0 8 1 greatest bytes
  floor ← number_in 0 8 0 greatest tx.1
  count ← number_in 0 4 0 524286 floor.1
  locks ← many_in lock_in lock_after count.0 0 count.1
  more ← number_in 0 4 0 (room_behind count.0 / 15) locks.1
  changes ← many_in change_in slot_after more.0 (record { least = 0; room = room_behind count.0 }) more.1
  Ok (Prepare (record { 0 = tx.0 }) (record { 0 = floor.0 }) locks.0 changes.0, changes.1)

unfoldable pub commit_in : List ℕ → Result (LogItem × List ℕ) ℕ
commit_in bytes = do
  tx ← number_in 0 8 1 greatest bytes
  number ← number_in 0 8 1 greatest tx.1
  Ok (Commit (record { 0 = tx.0 }) (record { 0 = number.0 }), number.1)

unfoldable pub abort_in : List ℕ → Result (LogItem × List ℕ) ℕ
abort_in bytes = do
  tx ← number_in 0 8 1 greatest bytes
  Ok (Abort (record { 0 = tx.0 }), tx.1)

unfoldable pub decision_in : List ℕ → Result (LogItem × List ℕ) ℕ
decision_in bytes = do
  tx ← number_in 0 8 1 greatest bytes
  number ← number_in 0 8 1 greatest tx.1
  count ← number_in 0 1 1 9 number.1
  nodes ← many_in node_in node_after count.0 1 count.1
  Ok (Decision (record { 0 = tx.0 }) (record { 0 = number.0 }) nodes.0, nodes.1)

unfoldable pub ids_in : List ℕ → Result (LogItem × List ℕ) ℕ
ids_in bytes = do
  upto ← number_in 0 8 1 greatest bytes
  Ok (Ids upto.0, upto.1)

unfoldable pub tagged_in : ℕ → List ℕ → Result (LogItem × List ℕ) ℕ
tagged_in tag bytes =
    if tag == 1 then prepare_in bytes
    else (if tag == 2 then commit_in bytes
    else (if tag == 3 then abort_in bytes
    else (if tag == 4 then decision_in bytes
    else ids_in bytes)))

-- the body of a record
unfoldable pub body_in : List ℕ → Result (LogItem × List ℕ) ℕ
body_in bytes = do
  tag ← number_in 0 1 1 5 bytes
  tagged_in tag.0 tag.1
