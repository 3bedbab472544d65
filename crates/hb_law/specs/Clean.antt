-- Clean: no row is shown that another transaction has not committed.
use Rattle.std.specs.Prelude.{◌≡◌, ℕ, IsTrue, List, [], ◌++◌, Option, ⊤}
use Rattle.hb_types.specs.declared.value.Value.{Value}
use Rattle.hb_types.specs.Lists.{Each, IsIn, EachBehind}
use Rattle.hb_model.specs.declared.table.Table.{Table}
use Rattle.hb_model.specs.declared.reply.Reply.{Reply}
use Rattle.hb_model.specs.declared.reply.Reply.TheVariants as reply
use Rattle.hb_model.specs.declared.condition.Pred.{Pred}
use Rattle.hb_model.specs.declared.statement.Set.{Set}
use Rattle.hb_model.specs.declared.statement.Statement.TheVariants as statement
use Rattle.hb_model.specs.Items.{Item, Doing, sql}
use Rattle.hb_model.specs.Sources.{IsSelection, shows_rows}
use Rattle.hb_model.specs.Rows.{assigned}
use Rattle.hb_model.specs.State.{State}
use Rattle.hb_disks.specs.Images.{Logs, decided}
use Rattle.hb_disks.specs.Redo.{Decided}
use Rattle.hb_disks.specs.StandsFor.{StateAfter}
use Rattle.hb_law.specs.Transactions.{Txn}

-- ---- clean: nothing uncommitted of another

-- a front of the decisions that has those of the base
abbrev pub IsMoment : Logs → Logs → List Decided → Type 0
IsMoment base logs ds = (more : List Decided) × (rest : List Decided) × (ds ≡ decided base ++ more) × (decided logs ≡ ds ++ rest)

-- a row that stood in some table at a moment, or that the transaction's own statements made of such a row, or inserted
pub data IsClean (base logs : Logs) (own : List Item) : List Value → Type 0 where
  stood : (ds : List Decided) (s : State) (t : Table) (row : List Value) → IsMoment base logs ds → StateAfter logs ds s → IsIn t s.tables → IsIn row t.rows
      → IsClean base logs own row
  inserted : (i : Item) (table : List ℕ) (row : List Value) → IsIn i own → i.doing ≡ sql (statement.Insert table row) → IsClean base logs own row
  made : (i : Item) (table : List ℕ) (sets : List Set) (pred : Option Pred) (t : Table) (row : List Value) → IsClean base logs own row → IsIn i own
      → i.doing ≡ sql (statement.Update table sets pred) → IsClean base logs own (assigned t sets row)

-- a row that is shown is a selection, by positions, of a clean row
abbrev pub IsCleanly : Logs → Logs → List Item → List Value → Type 0
IsCleanly base logs own shown = (row : List Value) × (positions : List ℕ) × IsClean base logs own row × IsSelection row positions shown

-- a SELECT alone shows rows
abbrev pub RowsClean : Logs → Logs → List Item → Doing → Reply → Type 0
RowsClean base logs own (sql (statement.Select w table pred)) (reply.Rows rows) = IsTrue (shows_rows w) → Each (IsCleanly base logs own) rows
RowsClean base logs own _ (reply.Rows rows) = ⊥
RowsClean base logs own _ _ = ⊤

-- each row that a transaction showed is clean, behind its own statements
abbrev pub ShowsClean : Logs → Logs → Txn → Type 0
ShowsClean base logs t = EachBehind (λ own i. Each (RowsClean base logs own i.doing) i.lines) [] t.items
