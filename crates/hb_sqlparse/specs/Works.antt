-- The statements, and PDRBAL. `IsWork work s r` says that the tokens s are those of the work, and then r.
use Rattle.std.specs.Prelude.{ℕ, ◌≤◌, true, false, List, ◌∷◌, Option}
use Rattle.hb_types.specs.declared.value.Column.{Column}
use Rattle.hb_types.specs.declared.value.Value.{Value}
use Rattle.hb_model.specs.declared.condition.Pred.{Pred}
use Rattle.hb_model.specs.declared.statement.Set.{Set}
use Rattle.hb_model.specs.declared.statement.What.{What}
use Rattle.hb_model.specs.declared.statement.Statement.{Statement}
use Rattle.hb_model.specs.declared.statement.Statement.TheVariants as statement
use Rattle.hb_model.specs.declared.line.Work.{Work}
use Rattle.hb_model.specs.declared.line.Work.TheVariants as work
use Rattle.hb_sqltoken.specs.declared.token.Token.{Token}
use Rattle.hb_sqltoken.specs.declared.token.Token.TheVariants as token
use Rattle.hb_sqlparse.specs.Keywords.{ADD, ALTER, BY, COMMIT, CREATE, DELETE, EXCLUSIVE, FROM, HASH, HASHA, IN, INSERT, INTO, LOCK, MODE, ON, PDRBAL, RDAREA, ROLLBACK, SELECT, SET, SHARE, TABLE, UPDATE, VALUES, LETTER_K, LETTER_T, LETTER_C, LETTER_N}
use Rattle.hb_sqlparse.specs.Listed.{Listed, IsOneName}
use Rattle.hb_sqlparse.specs.Columns.{IsColumn}
use Rattle.hb_sqlparse.specs.Rows.{IsLiteral, IsWhat, IsSet, IsFilter}

-- CREATE RDAREA name ON name
-- | CREATE TABLE name '(' col {',' col} ')' HASH HASHA BY name IN '(' name {',' name} ')'
-- | ALTER TABLE name ADD RDAREA name
-- | LOCK TABLE name IN (SHARE | EXCLUSIVE) MODE
pub data IsDefinition : Statement → List Token → List Token → Type 0 where
  create_area : {name node : List ℕ} {r : List Token} → IsDefinition (statement.CreateArea name node) (CREATE ∷ RDAREA ∷ token.Name name ∷ ON ∷ token.Name node ∷ r) r
  create_table : {name key : List ℕ} {columns : List Column} {areas : List (List ℕ)} {s m r : List Token}
      → Listed IsColumn columns s (token.Close ∷ HASH ∷ HASHA ∷ BY ∷ token.Name key ∷ IN ∷ token.Open ∷ m)
      → Listed IsOneName areas m (token.Close ∷ r)
      → IsDefinition (statement.CreateTable name columns key areas) (CREATE ∷ TABLE ∷ token.Name name ∷ token.Open ∷ s) r
  add_area : {table area : List ℕ} {r : List Token} → IsDefinition (statement.AddArea table area) (ALTER ∷ TABLE ∷ token.Name table ∷ ADD ∷ RDAREA ∷ token.Name area ∷ r) r
  lock_share : {table : List ℕ} {r : List Token} → IsDefinition (statement.LockTable table false) (LOCK ∷ TABLE ∷ token.Name table ∷ IN ∷ SHARE ∷ MODE ∷ r) r
  lock_exclusive : {table : List ℕ} {r : List Token} → IsDefinition (statement.LockTable table true) (LOCK ∷ TABLE ∷ token.Name table ∷ IN ∷ EXCLUSIVE ∷ MODE ∷ r) r

-- INSERT INTO name VALUES '(' lit {',' lit} ')'
-- | SELECT what FROM name [WHERE pred]
-- | UPDATE name SET name '=' expr {',' name '=' expr} [WHERE pred]
-- | DELETE FROM name [WHERE pred]
-- | COMMIT | ROLLBACK
pub data IsRowStatement : Statement → List Token → List Token → Type 0 where
  insert : {table : List ℕ} {values : List Value} {s r : List Token} → Listed IsLiteral values s (token.Close ∷ r)
      → IsRowStatement (statement.Insert table values) (INSERT ∷ INTO ∷ token.Name table ∷ VALUES ∷ token.Open ∷ s) r
  select : {shown : What} {table : List ℕ} {pred : Option Pred} {s m r : List Token} → IsWhat shown s (FROM ∷ token.Name table ∷ m) → IsFilter pred m r
      → IsRowStatement (statement.Select shown table pred) (SELECT ∷ s) r
  update : {table : List ℕ} {sets : List Set} {pred : Option Pred} {s m r : List Token} → Listed IsSet sets s m → IsFilter pred m r
      → IsRowStatement (statement.Update table sets pred) (UPDATE ∷ token.Name table ∷ SET ∷ s) r
  delete : {table : List ℕ} {pred : Option Pred} {s r : List Token} → IsFilter pred s r → IsRowStatement (statement.Delete table pred) (DELETE ∷ FROM ∷ token.Name table ∷ s) r
  commit : {r : List Token} → IsRowStatement statement.Commit (COMMIT ∷ r) r
  rollback : {r : List Token} → IsRowStatement statement.Rollback (ROLLBACK ∷ r) r

-- a definition, a statement on rows, or PDRBAL '-' k SHARE '-' t name '-' c int '-' n int
pub data IsWork : Work → List Token → List Token → Type 0 where
  definition : {st : Statement} {s r : List Token} → IsDefinition st s r → IsWork (work.Sql st) s r
  row_statement : {st : Statement} {s r : List Token} → IsRowStatement st s r → IsWork (work.Sql st) s r
  rebalance : {table : List ℕ} {rows turns : ℕ} {r : List Token} → 1 ≤ rows → rows ≤ 10000 → 1 ≤ turns → turns ≤ 1000000
      → IsWork (work.Rebalance table rows turns) (PDRBAL ∷ token.Minus ∷ LETTER_K ∷ SHARE ∷ token.Minus ∷ LETTER_T ∷ token.Name table ∷ token.Minus ∷ LETTER_C ∷ token.Number rows ∷ token.Minus ∷ LETTER_N ∷ token.Number turns ∷ r) r
