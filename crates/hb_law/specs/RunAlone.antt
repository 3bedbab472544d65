-- Run alone: each decision is a step of its transaction from the state before it.
use Rattle.std.specs.Prelude.{◌≡◌, ℕ, ℤ, ◌≤◌, Bool, not, ◌⊎◌, IsTrue, List, [], ◌∷◌, ◌++◌, length, filter_map, Option, Some, None, MatchOption, slice_get, slice_set, ⊤}
use Rattle.std.specs.List.{list_any, zip}
use Rattle.std.specs.Ordering.{int_eq}
use Rattle.hb_types.specs.declared.entry.Entry.TheVariants.{At, Moving}
use Rattle.hb_types.specs.declared.places.Place.{Place}
use Rattle.hb_types.specs.Groups.{group_of, is_moving}
use Rattle.hb_types.specs.Lists.{Each, Has, IsIn, EachBehind}
use Rattle.hb_types.specs.Places.{node_of_area}
use Rattle.hb_types.specs.Put.{lookup}
use Rattle.hb_model.specs.declared.reply.Reply.{Reply}
use Rattle.hb_model.specs.declared.reply.Reply.TheVariants as reply
use Rattle.hb_model.specs.declared.statement.Statement.{Statement}
use Rattle.hb_model.specs.declared.statement.Statement.TheVariants as statement
use Rattle.hb_model.specs.Alone.{alone}
use Rattle.hb_model.specs.Answers.{rows_of}
use Rattle.hb_model.specs.Items.{Item, Doing, sql, turn}
use Rattle.hb_model.specs.Needs.{MayBeFull}
use Rattle.hb_model.specs.Spots.{place_in}
use Rattle.hb_model.specs.State.{State, Spread, spread_named}
use Rattle.hb_model.specs.Families.{Family}
use Rattle.hb_model.specs.Valid.{AllApart}
use Rattle.hb_disks.specs.Images.{Logs, family}
use Rattle.hb_disks.specs.Redo.{Decided}
use Rattle.hb_disks.specs.StandsFor.{back_ends, StateAfter}
use Rattle.hb_law.specs.Transactions.{Txn, IsOfStatements}

-- ---- run alone by number; complete and moved: what pdrbal tells

abbrev pub statement_in : Doing → Option Statement
statement_in (sql st) = Some st
statement_in _ = None

abbrev pub statements_of : List Item → List Statement
statements_of items = filter_map (λ i. statement_in i.doing) items

abbrev pub replies_to : Doing → List Reply → List Reply
replies_to (sql statement.Commit) lines = []
replies_to (sql st) lines = lines
replies_to _ lines = []

abbrev pub replies_of : List Item → List Reply
replies_of [] = []
replies_of (i ∷ is) = replies_to i.doing i.lines ++ replies_of is

-- alone, the statements give what was shown and the state after
pub record RunsAlone (count : ℕ) (items : List Item) (before after : State) : Type 0 where
  pub full : List Bool
  pub one_each : length full ≡ length (statements_of items)
  pub full_rightly : MayBeFull count before 0 0 0 (zip (statements_of items) full)
  pub replies : (alone count before (zip (statements_of items) full)).replies ≡ replies_of items
  pub state : (alone count before (zip (statements_of items) full)).state ≡ after

-- one entry of a table turns from Moving(a, b) to At(b)
pub record SettlesOne (table : List ℕ) (s t : State) : Type 0 where
  pub front : List Spread
  pub spread : Spread
  pub back : List Spread
  pub group : ℕ
  pub old : ℕ
  pub new : ℕ
  pub named : spread.name ≡ table
  pub before : s.layout.spreads ≡ front ++ spread ∷ back
  pub was_moving : slice_get spread.entries group ≡ Some (Moving old new)
  pub after : t.layout.spreads ≡ front ++ (record spread { entries = slice_set spread.entries group (At new) }) ∷ back
  pub same_areas : t.layout.areas ≡ s.layout.areas

-- a key's row left its place in the old area for that in the new one
pub record MovesKey (table old new : ℕ) (f g : Family) (key : ℤ) : Type 0 where
  pub row : List ℕ
  pub stood : lookup (place_in old table key) (rows_of (node_of_area old) f) ≡ Some row
  pub gone : lookup (place_in old table key) (rows_of (node_of_area old) g) ≡ None
  pub free : lookup (place_in new table key) (rows_of (node_of_area new) f) ≡ None
  pub come : lookup (place_in new table key) (rows_of (node_of_area new) g) ≡ Some row

-- these keys of a group, no two alike, moved, and nothing else changed at any node
pub record MovesRows (table group old new : ℕ) (f g : Family) (keys : List ℤ) : Type 0 where
  pub apart : AllApart int_eq keys
  pub moved : Each (MovesKey table old new f g) keys
  pub of_group : Each (λ k. group_of k ≡ group) keys
  pub same : (node : ℕ) (p : Place) → ¬ (Has (λ k. (p ≡ place_in old table k) ⊎ (p ≡ place_in new table k)) keys)
      → lookup p (rows_of node f) ≡ lookup p (rows_of node g)

-- what a line of pdrbal tells is so at its number; f and g are the rows before and after
abbrev pub TellsRightly : List ℕ → ℕ → State → State → Family → Family → Reply → Type 0
TellsRightly table most before after f g (reply.Complete number) =
    MatchOption (spread_named after table) ⊥ (λ t. IsTrue (not (list_any is_moving t.entries)))
TellsRightly table most before after f g (reply.Suspended turns number) =
    MatchOption (spread_named after table) ⊥ (λ t. IsTrue (list_any is_moving t.entries))
TellsRightly table most before after f g (reply.Moved rows group number) =
    (spread : Spread) × (old : ℕ) × (new : ℕ) × (keys : List ℤ) × (spread_named before table ≡ Some spread)
    × (slice_get spread.entries group ≡ Some (Moving old new)) × (length keys ≡ rows) × (1 ≤ rows) × (rows ≤ most)
    × MovesRows spread.number group old new f g keys
TellsRightly table most before after f g _ = ⊤

-- a turn leaves the tables, and the layout but for one entry, and tells rightly
pub record MovesOnly (table : List ℕ) (most : ℕ) (lines : List Reply) (before after : State) (f g : Family) : Type 0 where
  pub same_tables : after.tables ≡ before.tables
  pub layout : (after.layout ≡ before.layout) ⊎ SettlesOne table before after
  pub tells : Each (TellsRightly table most before after f g) lines

abbrev pub StepsAs : ℕ → List Item → State → State → Family → Family → Type 0
StepsAs count items before after f g = (Each (λ i. IsOfStatements i.doing) items × RunsAlone count items before after) ⊎ IsTurnOf items
  where
    IsTurnOf : List Item → Type 0
    IsTurnOf items = (table : List ℕ) × (most : ℕ) × (i : Item) × (items ≡ i ∷ []) × (i.doing ≡ turn table most) × MovesOnly table most i.lines before after f g

-- a decision behind others is a step of the transaction that it is of
pub record IsStep (logs : Logs) (txns : List Txn) (ds : List Decided) (d : Decided) : Type 0 where
  pub txn : Txn
  pub known : IsIn txn txns
  pub of_tx : txn.tx ≡ d.tx
  pub before : State
  pub after : State
  pub at_before : StateAfter logs ds before
  pub at_after : StateAfter logs (ds ++ d ∷ []) after
  pub steps : StepsAs (back_ends logs) txn.items before after (family logs ds) (family logs (ds ++ d ∷ []))

-- each decision behind those of the base is a step
abbrev pub EachStep : Logs → List Txn → List Decided → List Decided → Type 0
EachStep logs txns ds0 further = EachBehind (λ front d. IsStep logs txns (ds0 ++ front) d) [] further
