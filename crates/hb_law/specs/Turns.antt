-- Turns of pdrbal: what the calls and lines of a check, a batch and a finish are.
use Rattle.std.specs.Prelude.{◌≡◌, ℕ, ◌≤◌, Bool, true, false, not, IsTrue, List, ◌∷◌, ◌++◌, count_by, filter_map, is_some, map, Some, option_map}
use Rattle.std.specs.List.{list_any}
use Rattle.hb_types.specs.declared.answer.Answer.TheVariants as answer
use Rattle.hb_types.specs.declared.change.Stored.{Stored}
use Rattle.hb_types.specs.declared.entry.Entry.TheVariants.{Moving}
use Rattle.hb_types.specs.declared.names.Tx.{Tx}
use Rattle.hb_types.specs.declared.request.Request.TheVariants as request
use Rattle.hb_types.specs.declared.trail.Call.{Call}
use Rattle.hb_types.specs.Groups.{group_of, is_moving}
use Rattle.hb_types.specs.Lists.{Each, Has}
use Rattle.hb_types.specs.Places.{node_of_area}
use Rattle.hb_types.specs.Rows.{row_bytes}
use Rattle.hb_model.specs.declared.reply.Reply.{Reply}
use Rattle.hb_model.specs.declared.reply.Reply.TheVariants as reply
use Rattle.hb_model.specs.Answers.{call, of_rows, HasAsked, is_decide}
use Rattle.hb_model.specs.Dictionary.{entry_row}
use Rattle.hb_model.specs.Items.{Item, turn}
use Rattle.hb_model.specs.Locking.{LocksAmong}
use Rattle.hb_model.specs.Needs.{check_locks, batch_locks, finish_locks}
use Rattle.hb_model.specs.Shapes.{Hint, Keyed, check_calls, batch_calls, finish_calls}
use Rattle.hb_model.specs.Spots.{space_in}
use Rattle.hb_model.specs.Told.{table_among, entry_of}
use Rattle.hb_law.specs.Callers.{WasDecided, MayBeDecided}

-- the rows of tables tell this number for the table of this name
abbrev pub IsNumberTold : List Stored → List ℕ → ℕ → Type 0
IsNumberTold names table number = option_map (λ f. f.0) (table_among names table) ≡ Some number

-- whether one of these rows is an entry that is Moving
abbrev pub tells_moving : List Stored → Bool
tells_moving entries = list_any is_moving (filter_map (λ r. entry_of (Some r.row)) entries)

-- an item of the same pdrbal line that was a check, was decided, and found this number for the table's name
pub record WasCheck (place : ℕ) (table : List ℕ) (most number : ℕ) (i : Item) : Type 0 where
  pub same_line : i.place ≡ place
  pub doing : i.doing ≡ turn table most
  pub tx : Tx
  pub names : List Stored
  pub entries : List Stored
  pub n : ℕ
  pub rows : of_rows i.calls ≡ check_calls tx number names entries
  pub told : IsNumberTold names table number
  pub decided : WasDecided n i.calls

-- the keys of a batch are those that the old area's node told before a decision was asked for, at most so many having been asked for
abbrev pub AreHintedKeys : Hint → ℕ → List Keyed → List Call → Type 0
AreHintedKeys h most keys calls =
    (front : List Call) × (back : List Call) × (¬ (HasAsked is_decide front))
    × (calls ≡ front ++ call (node_of_area h.old) (request.GroupKeys (space_in h.old h.table) h.group most) (answer.Keys (map (λ k. k.0) keys)) ∷ back)

-- the row of the hinted entry tells that entry, as it does where both areas are numbers of areas
abbrev pub TellsItself : Hint → Type 0
TellsItself h = entry_of (Some (row_bytes (entry_row (Moving h.old h.new)))) ≡ Some (Moving h.old h.new)

-- how many of these keys had a row
abbrev pub found_in : List Keyed → ℕ
found_in keys = count_by (λ k. is_some k.1) keys

-- what a turn did: a check found these entries, a batch moved so many rows of a group, or a finish set an entry
pub data Turned : Type 0 where
  checked : (entries : List Stored) → Turned
  moved : (group : ℕ) → (rows : ℕ) → Turned
  finished : Turned

-- A turn's calls on rows are those of a whole check, batch or finish, and its locks are in the table of locks. A batch and
-- a finish are on a number that an earlier check of their line found, and on an entry that its row tells.
pub data IsTurn (before : List Item) (place : ℕ) (table : List ℕ) (most : ℕ) (calls : List Call) : Turned → Type 0 where
  check : (tx : Tx) (number : ℕ) (names entries : List Stored) → of_rows calls ≡ check_calls tx number names entries → IsNumberTold names table number
      → LocksAmong (check_locks number) calls → IsTurn before place table most calls (checked entries)
  batch : (tx : Tx) (h : Hint) (keys : List Keyed) → TellsItself h → of_rows calls ≡ batch_calls tx h keys → AreHintedKeys h most keys calls
      → Each (λ k. group_of k.0 ≡ h.group) keys → Has (WasCheck place table most h.table) before → LocksAmong (batch_locks h.table h.group h.old h.new (map (λ k. k.0) keys)) calls
      → IsTurn before place table most calls (moved h.group (found_in keys))
  finish : (tx : Tx) (h : Hint) → TellsItself h → of_rows calls ≡ finish_calls tx h → Has (WasCheck place table most h.table) before
      → LocksAmong (finish_locks h.table h.group h.old) calls → IsTurn before place table most calls finished

-- a line of a turn that asked for a decision is so, by what the turn did and by the answer of its Decide
abbrev pub TurnTells : List Call → Turned → Reply → Type 0
TurnTells calls (checked entries) (reply.Complete n) = WasDecided n.0 calls × IsTrue (not (tells_moving entries))
TurnTells calls (checked entries) (reply.Suspended turns n) = WasDecided n.0 calls × IsTrue (tells_moving entries)
TurnTells calls (moved g found) (reply.Moved rows group n) = WasDecided n.0 calls × (group ≡ g) × (rows ≡ found) × (1 ≤ found)
TurnTells calls t (reply.Complete n) = ⊥
TurnTells calls t (reply.Suspended turns n) = ⊥
TurnTells calls t (reply.Moved rows group n) = ⊥
TurnTells calls t (reply.OutcomeUnknown o) = MayBeDecided calls
TurnTells calls t r = ¬ (MayBeDecided calls)

-- a line of pdrbal that tells of a decision
abbrev pub tells_decision : Reply → Bool
tells_decision (reply.Moved rows group n) = true
tells_decision (reply.Complete n) = true
tells_decision (reply.Suspended turns n) = true
tells_decision (reply.OutcomeUnknown o) = true
tells_decision _ = false

-- an item of pdrbal: where it asks for a decision it is a whole turn, and its lines are so; else it tells of none
pub record IsRightTurn (before : List Item) (place : ℕ) (table : List ℕ) (most : ℕ) (calls : List Call) (lines : List Reply) : Type 0 where
  pub decides : HasAsked is_decide calls → (t : Turned) × IsTurn before place table most calls t × Each (TurnTells calls t) lines
  pub else_none : ¬ (HasAsked is_decide calls) → Each (λ r. IsTrue (not (tells_decision r))) lines
