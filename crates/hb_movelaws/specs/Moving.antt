-- What the calls of a check, a batch and a finish of pdrbal do to the rows of a system.
use Rattle.std.specs.Prelude.{◌≡◌, ℕ, ℤ, ◌≤◌, ◌==◌, if◌then◌else◌, List, Some, filter, is_some, length, map, slice_set}
use Rattle.std.specs.List.{list_any}
use Rattle.hb_types.specs.declared.change.Stored.{Stored}
use Rattle.hb_types.specs.declared.entry.Entry.TheVariants.{At}
use Rattle.hb_types.specs.declared.names.Tx.{Tx}
use Rattle.hb_types.specs.declared.trail.Call.{Call}
use Rattle.hb_types.specs.Groups.{group_of, is_moving}
use Rattle.hb_types.specs.Lists.{Each}
use Rattle.hb_model.specs.declared.reply.Reply.{Reply}
use Rattle.hb_model.specs.Answers.{AnswersOf, afters, of_rows}
use Rattle.hb_model.specs.Families.{Family}
use Rattle.hb_model.specs.Shapes.{Hint, Keyed, batch_calls, check_calls, finish_calls}
use Rattle.hb_model.specs.State.{State, Spread, spread_named}
use Rattle.hb_model.specs.System.{Sys}
use Rattle.hb_law.specs.RunAlone.{MovesOnly, MovesRows, SettlesOne}
use Rattle.hb_law.specs.Turns.{IsNumberTold, TellsItself, TurnTells, checked, finished, found_in, moved, tells_moving}
use Rattle.hb_planlaws.specs.Planned.{most_back_ends}

-- the table of this name has this number, and an entry of it is Moving just where these rows tell one
pub record AreEntriesOf (s : State) (table : List ℕ) (number : ℕ) (entries : List Stored) : Type 0 where
  pub spread : Spread
  pub named : spread_named s table ≡ Some spread
  pub numbered : spread.number ≡ number
  pub moving : tells_moving entries ≡ list_any is_moving spread.entries

-- A check changes no row, and its line tells whether an entry is Moving.
abbrev pub CheckTells : Type 0
CheckTells =
    (back_ends : ℕ) (family : Family) (s : State) (tx : Tx) (table : List ℕ) (most number : ℕ) (names entries : List Stored) (calls : List Call) (lines : List Reply)
    → back_ends ≤ most_back_ends → Sys back_ends family s → AnswersOf family calls → of_rows calls ≡ check_calls tx number names entries
    → IsNumberTold names table number → Each (TurnTells calls (checked entries)) lines
    → (afters family calls ≡ family) × AreEntriesOf s table number entries × MovesOnly table most lines s s family (afters family calls)

-- a spread, with a group at its new area if it is the spread of this number
abbrev pub with_entry : ℕ → ℕ → ℕ → Spread → Spread
with_entry number group new q = if q.number == number then record q { entries = slice_set q.entries group (At new) } else q

-- the state with the hinted group at its new area
abbrev pub settled : State → Hint → State
settled s h = record s { layout = record s.layout { spreads = map (with_entry h.table h.group h.new) s.layout.spreads } }

-- A finish turns one entry of the table from Moving to its new area, and leaves the tables.
abbrev pub FinishSettles : Type 0
FinishSettles =
    (back_ends : ℕ) (family : Family) (s : State) (tx : Tx) (table : List ℕ) (most : ℕ) (h : Hint) (p : Spread) (calls : List Call) (lines : List Reply)
    → back_ends ≤ most_back_ends → Sys back_ends family s → AnswersOf family calls → spread_named s table ≡ Some p → p.number ≡ h.table → TellsItself h
    → of_rows calls ≡ finish_calls tx h → Each (TurnTells calls finished) lines
    → Sys back_ends (afters family calls) (settled s h) × SettlesOne table s (settled s h) × MovesOnly table most lines s (settled s h) family (afters family calls)

-- the keys of a batch that had a row
abbrev pub keys_found : List Keyed → List ℤ
keys_found keys = map (λ k. k.0) (filter (λ k. is_some k.1) keys)

-- A batch leaves the tables and the layout, moves the rows of its keys that had one, and changes nothing else.
abbrev pub BatchMoves : Type 0
BatchMoves =
    (back_ends : ℕ) (family : Family) (s : State) (tx : Tx) (table : List ℕ) (most : ℕ) (h : Hint) (p : Spread) (keys : List Keyed) (calls : List Call) (lines : List Reply)
    → back_ends ≤ most_back_ends → Sys back_ends family s → AnswersOf family calls → spread_named s table ≡ Some p → p.number ≡ h.table → TellsItself h
    → Each (λ k. group_of k.0 ≡ h.group) keys → length keys ≤ most → of_rows calls ≡ batch_calls tx h keys
    → Each (TurnTells calls (moved h.group (found_in keys))) lines
    → Sys back_ends (afters family calls) s × MovesRows h.table h.group h.old h.new family (afters family calls) (keys_found keys)
    × MovesOnly table most lines s s family (afters family calls)
