-- What has to come behind each place in a statement.
use Rattle.std.proofs.Common.{◌≡◌, ℕ, ◌≤◌, Bool, true, false, List, ◌∷◌, Option, Some, subst}
use Rattle.hb_types.specs.declared.value.Column.{Column}
use Rattle.hb_types.specs.declared.value.Value.{Value}
use Rattle.hb_model.specs.declared.condition.Pred.{Pred}
use Rattle.hb_model.specs.declared.statement.Set.{Set}
use Rattle.hb_model.specs.declared.statement.What.{What}
use Rattle.hb_model.specs.declared.statement.What.TheVariants as what
use Rattle.hb_model.specs.declared.statement.Statement.TheVariants as statement
use Rattle.hb_model.specs.declared.line.Work.{Work}
use Rattle.hb_model.specs.declared.line.Work.TheVariants as work
use Rattle.hb_sqltoken.specs.declared.token.Token.{Token}
use Rattle.hb_sqltoken.specs.declared.token.Token.TheVariants as token
use Rattle.hb_sqlcond.specs.declared.pred_parser.PredParser.{PredParser}
use Rattle.hb_sqlcond.specs.PredSteps.{step_pred, whole_pred}
use Rattle.hb_sqlcond.specs.Runs.{Finds}
use Rattle.hb_sqlsteps.specs.declared.lists.Names.{Names}
use Rattle.hb_sqlsteps.specs.declared.columns.Columns.{Columns}
use Rattle.hb_sqlsteps.specs.declared.sets.Sets.{Sets}
use Rattle.hb_sqlsteps.specs.declared.definitions.CreateArea.{CreateArea}
use Rattle.hb_sqlsteps.specs.declared.definitions.CreateArea.TheVariants as create_area_at
use Rattle.hb_sqlsteps.specs.declared.definitions.AddArea.{AddArea}
use Rattle.hb_sqlsteps.specs.declared.definitions.AddArea.TheVariants as add_area_at
use Rattle.hb_sqlsteps.specs.declared.definitions.LockTable.{LockTable}
use Rattle.hb_sqlsteps.specs.declared.definitions.LockTable.TheVariants as lock_table_at
use Rattle.hb_sqlsteps.specs.declared.create_table.CreateTable.{CreateTable}
use Rattle.hb_sqlsteps.specs.declared.create_table.CreateTable.TheVariants as create_table_at
use Rattle.hb_sqlsteps.specs.declared.select.Select.{Select}
use Rattle.hb_sqlsteps.specs.declared.select.Select.TheVariants as select_at
use Rattle.hb_sqlsteps.specs.declared.rows.Insert.{Insert}
use Rattle.hb_sqlsteps.specs.declared.rows.Insert.TheVariants as insert_at
use Rattle.hb_sqlsteps.specs.declared.rows.Update.{Update}
use Rattle.hb_sqlsteps.specs.declared.rows.Update.TheVariants as update_at
use Rattle.hb_sqlsteps.specs.declared.rows.Delete.{Delete}
use Rattle.hb_sqlsteps.specs.declared.rows.Delete.TheVariants as delete_at
use Rattle.hb_sqlsteps.specs.declared.rebalance.Options.{Options}
use Rattle.hb_sqlsteps.specs.declared.rebalance.Options.TheVariants as options_at
use Rattle.hb_sqlsteps.specs.declared.rebalance.Limits.{Limits}
use Rattle.hb_sqlsteps.specs.declared.rebalance.Limits.TheVariants as limits_at
use Rattle.hb_sqlsteps.specs.declared.rebalance.Rebalance.{Rebalance}
use Rattle.hb_sqlsteps.specs.declared.rebalance.Rebalance.TheVariants as rebalance_at
use Rattle.hb_sqlsteps.specs.declared.position.Filtered.{Filtered}
use Rattle.hb_sqlsteps.specs.declared.position.Filtered.TheVariants as filtered
use Rattle.hb_sqlsteps.specs.declared.position.Position.{Position}
use Rattle.hb_sqlsteps.specs.declared.position.Position.TheVariants as position
use Rattle.hb_sqlparse.specs.Keywords.{ADD, ALTER, BY, COUNT, CREATE, DELETE, EXCLUSIVE, FROM, HASH, HASHA, IN, INSERT, INTO, LOCK, ON, PDRBAL, RDAREA, SELECT, SHARE, SUM, TABLE, UPDATE, VALUES, LETTER_K, LETTER_T, LETTER_C, LETTER_N}
use Rattle.hb_sqlparse.specs.Listed.{Listed, IsOneName}
use Rattle.hb_sqlparse.specs.Rows.{IsFilter}
use Rattle.hb_sqlparse.specs.Works.{IsWork}
use Rattle.hb_sqlsteps.specs.ListSteps.{step_names, whole_names, step_values, whole_values, step_columns, whole_columns}
use Rattle.hb_sqlsteps.specs.SetSteps.{step_sets, whole_sets}
use Rattle.hb_sqlsteps.specs.DefinitionSteps.{with_areas, new_table}
use Rattle.hb_sqlsteps.specs.Positions.{with_pred}

-- behind a statement that may take a condition
pub record FilterRest (f : Filtered) (w : Work) (s r : List Token) : Type 0 where
  pub pred : Option Pred
  pub filter : IsFilter pred s r
  pub is : with_pred f pred ≡ w

-- behind what a SELECT shows
pub record SelectRest (shown : What) (w : Work) (s r : List Token) : Type 0 where
  pub table : List ℕ
  pub behind : List Token
  pub from : s ≡ FROM ∷ token.Name table ∷ behind
  pub rest : FilterRest (filtered.Select shown table) w behind r

pub record ShownRest (c : Names) (w : Work) (s r : List Token) : Type 0 where
  pub names : List (List ℕ)
  pub behind : List Token
  pub finds : Finds step_names whole_names c names s behind
  pub rest : SelectRest (what.Names names) w behind r

-- in a list that a parenthesis closes at the statement's end
pub record ListRest {S A : Type 0} (step : S → Token → Option S) (whole : S → Option A) (of : A → Work) (c : S) (w : Work) (s r : List Token) : Type 0 where
  pub list : A
  pub finds : Finds step whole c list s (token.Close ∷ r)
  pub is : of list ≡ w

-- behind the columns of a table
pub record TableRest (name : List ℕ) (xs : List Column) (w : Work) (s r : List Token) : Type 0 where
  pub key : List ℕ
  pub areas : List (List ℕ)
  pub behind : List Token
  pub front : s ≡ HASH ∷ HASHA ∷ BY ∷ token.Name key ∷ IN ∷ token.Open ∷ behind
  pub listed : Listed IsOneName areas behind (token.Close ∷ r)
  pub is : with_areas (new_table name xs key) areas ≡ w

pub record ColumnsRest (name : List ℕ) (c : Columns) (w : Work) (s r : List Token) : Type 0 where
  pub columns : List Column
  pub behind : List Token
  pub finds : Finds step_columns whole_columns c columns s (token.Close ∷ behind)
  pub rest : TableRest name columns w behind r

-- in the assignments
pub record SetsRest (table : List ℕ) (c : Sets) (w : Work) (s r : List Token) : Type 0 where
  pub sets : List Set
  pub behind : List Token
  pub finds : Finds step_sets whole_sets c sets s behind
  pub rest : FilterRest (filtered.Update table sets) w behind r

pub record WhereRest (f : Filtered) (c : PredParser) (w : Work) (s r : List Token) : Type 0 where
  pub pred : Pred
  pub finds : Finds step_pred whole_pred c pred s r
  pub is : with_pred f (Some pred) ≡ w

abbrev pub inserted : List ℕ → List Value → Work
inserted table xs = work.Sql (statement.Insert table xs)

abbrev pub create_area_rest : CreateArea → Work → List Token → List Token → Type 0
create_area_rest create_area_at.Start w s r = IsWork w (CREATE ∷ RDAREA ∷ s) r
create_area_rest (create_area_at.Named name) w s r = IsWork w (CREATE ∷ RDAREA ∷ token.Name name ∷ s) r
create_area_rest (create_area_at.On name) w s r = IsWork w (CREATE ∷ RDAREA ∷ token.Name name ∷ ON ∷ s) r

abbrev pub add_area_rest : AddArea → Work → List Token → List Token → Type 0
add_area_rest add_area_at.Start w s r = IsWork w (ALTER ∷ s) r
add_area_rest add_area_at.Table w s r = IsWork w (ALTER ∷ TABLE ∷ s) r
add_area_rest (add_area_at.Named table) w s r = IsWork w (ALTER ∷ TABLE ∷ token.Name table ∷ s) r
add_area_rest (add_area_at.Add table) w s r = IsWork w (ALTER ∷ TABLE ∷ token.Name table ∷ ADD ∷ s) r
add_area_rest (add_area_at.Area table) w s r = IsWork w (ALTER ∷ TABLE ∷ token.Name table ∷ ADD ∷ RDAREA ∷ s) r

abbrev pub mode_word : Bool → Token
mode_word false = SHARE
mode_word true = EXCLUSIVE

abbrev pub lock_table_rest : LockTable → Work → List Token → List Token → Type 0
lock_table_rest lock_table_at.Start w s r = IsWork w (LOCK ∷ s) r
lock_table_rest lock_table_at.Table w s r = IsWork w (LOCK ∷ TABLE ∷ s) r
lock_table_rest (lock_table_at.Named table) w s r = IsWork w (LOCK ∷ TABLE ∷ token.Name table ∷ s) r
lock_table_rest (lock_table_at.In table) w s r = IsWork w (LOCK ∷ TABLE ∷ token.Name table ∷ IN ∷ s) r
lock_table_rest (lock_table_at.Mode table exclusive) w s r = IsWork w (LOCK ∷ TABLE ∷ token.Name table ∷ IN ∷ mode_word exclusive ∷ s) r

abbrev pub create_table_rest : CreateTable → Work → List Token → List Token → Type 0
create_table_rest create_table_at.Start w s r = IsWork w (CREATE ∷ TABLE ∷ s) r
create_table_rest (create_table_at.Named name) w s r = IsWork w (CREATE ∷ TABLE ∷ token.Name name ∷ s) r
create_table_rest (create_table_at.Columns name c) w s r = ColumnsRest name c w s r
create_table_rest (create_table_at.Closed name xs) w s r = TableRest name xs w s r
create_table_rest (create_table_at.Hash name xs) w s r = TableRest name xs w (HASH ∷ s) r
create_table_rest (create_table_at.Hasha name xs) w s r = TableRest name xs w (HASH ∷ HASHA ∷ s) r
create_table_rest (create_table_at.By name xs) w s r = TableRest name xs w (HASH ∷ HASHA ∷ BY ∷ s) r
create_table_rest (create_table_at.Keyed t) w s r = TableRest t.name t.columns w (HASH ∷ HASHA ∷ BY ∷ token.Name t.key ∷ s) r
create_table_rest (create_table_at.In t) w s r = TableRest t.name t.columns w (HASH ∷ HASHA ∷ BY ∷ token.Name t.key ∷ IN ∷ s) r
create_table_rest (create_table_at.Areas t c) w s r = ListRest step_names whole_names (with_areas t) c w s r

abbrev pub select_rest : Select → Work → List Token → List Token → Type 0
select_rest select_at.Start w s r = IsWork w (SELECT ∷ s) r
select_rest (select_at.Names c) w s r = ShownRest c w s r
select_rest select_at.Count w s r = IsWork w (SELECT ∷ COUNT ∷ s) r
select_rest select_at.CountOpen w s r = IsWork w (SELECT ∷ COUNT ∷ token.Open ∷ s) r
select_rest select_at.CountStar w s r = IsWork w (SELECT ∷ COUNT ∷ token.Open ∷ token.Star ∷ s) r
select_rest select_at.Sum w s r = IsWork w (SELECT ∷ SUM ∷ s) r
select_rest select_at.SumOpen w s r = IsWork w (SELECT ∷ SUM ∷ token.Open ∷ s) r
select_rest (select_at.SumNamed name) w s r = IsWork w (SELECT ∷ SUM ∷ token.Open ∷ token.Name name ∷ s) r
select_rest (select_at.Shown shown) w s r = SelectRest shown w s r
select_rest (select_at.From shown) w s r = SelectRest shown w (FROM ∷ s) r

abbrev pub insert_rest : Insert → Work → List Token → List Token → Type 0
insert_rest insert_at.Start w s r = IsWork w (INSERT ∷ s) r
insert_rest insert_at.Into w s r = IsWork w (INSERT ∷ INTO ∷ s) r
insert_rest (insert_at.Named table) w s r = IsWork w (INSERT ∷ INTO ∷ token.Name table ∷ s) r
insert_rest (insert_at.Values table) w s r = IsWork w (INSERT ∷ INTO ∷ token.Name table ∷ VALUES ∷ s) r
insert_rest (insert_at.Row table c) w s r = ListRest step_values whole_values (inserted table) c w s r

abbrev pub update_rest : Update → Work → List Token → List Token → Type 0
update_rest update_at.Start w s r = IsWork w (UPDATE ∷ s) r
update_rest (update_at.Named table) w s r = IsWork w (UPDATE ∷ token.Name table ∷ s) r
update_rest (update_at.Sets table c) w s r = SetsRest table c w s r

abbrev pub delete_rest : Delete → Work → List Token → List Token → Type 0
delete_rest delete_at.Start w s r = IsWork w (DELETE ∷ s) r
delete_rest delete_at.From w s r = IsWork w (DELETE ∷ FROM ∷ s) r

abbrev pub options_rest : Options → Work → List Token → List Token → Type 0
options_rest options_at.Start w s r = IsWork w (PDRBAL ∷ s) r
options_rest options_at.KeepMinus w s r = IsWork w (PDRBAL ∷ token.Minus ∷ s) r
options_rest options_at.Keep w s r = IsWork w (PDRBAL ∷ token.Minus ∷ LETTER_K ∷ s) r
options_rest options_at.Share w s r = IsWork w (PDRBAL ∷ token.Minus ∷ LETTER_K ∷ SHARE ∷ s) r
options_rest options_at.TableMinus w s r = IsWork w (PDRBAL ∷ token.Minus ∷ LETTER_K ∷ SHARE ∷ token.Minus ∷ s) r
options_rest options_at.Table w s r = IsWork w (PDRBAL ∷ token.Minus ∷ LETTER_K ∷ SHARE ∷ token.Minus ∷ LETTER_T ∷ s) r

-- the options up to the table's name
abbrev pub Of : List ℕ → Work → List Token → List Token → Type 0
Of table w s r = IsWork w (PDRBAL ∷ token.Minus ∷ LETTER_K ∷ SHARE ∷ token.Minus ∷ LETTER_T ∷ token.Name table ∷ s) r

abbrev pub limits_rest : List ℕ → Limits → Work → List Token → List Token → Type 0
limits_rest table limits_at.Named w s r = Of table w s r
limits_rest table limits_at.RowsMinus w s r = Of table w (token.Minus ∷ s) r
limits_rest table limits_at.Rows w s r = Of table w (token.Minus ∷ LETTER_C ∷ s) r
limits_rest table (limits_at.Counted n) w s r = 1 ≤ n → n ≤ 10000 → Of table w (token.Minus ∷ LETTER_C ∷ token.Number n ∷ s) r
limits_rest table (limits_at.TurnsMinus n) w s r = 1 ≤ n → n ≤ 10000 → Of table w (token.Minus ∷ LETTER_C ∷ token.Number n ∷ token.Minus ∷ s) r
limits_rest table (limits_at.Turns n) w s r = 1 ≤ n → n ≤ 10000 → Of table w (token.Minus ∷ LETTER_C ∷ token.Number n ∷ token.Minus ∷ LETTER_N ∷ s) r

abbrev pub rebalance_rest : Rebalance → Work → List Token → List Token → Type 0
rebalance_rest (rebalance_at.Options o) w s r = options_rest o w s r
rebalance_rest (rebalance_at.Limits table l) w s r = limits_rest table l w s r

-- what the tokens s have to be, up to r, so that the statement is w
abbrev pub Rest : Position → Work → List Token → List Token → Type 0
Rest position.Start w s r = IsWork w s r
Rest position.Create w s r = IsWork w (CREATE ∷ s) r
Rest (position.CreateArea p) w s r = create_area_rest p w s r
Rest (position.CreateTable p) w s r = create_table_rest p w s r
Rest (position.AddArea p) w s r = add_area_rest p w s r
Rest (position.LockTable p) w s r = lock_table_rest p w s r
Rest (position.Insert p) w s r = insert_rest p w s r
Rest (position.Select p) w s r = select_rest p w s r
Rest (position.Update p) w s r = update_rest p w s r
Rest (position.Delete p) w s r = delete_rest p w s r
Rest (position.Rebalance p) w s r = rebalance_rest p w s r
Rest (position.Unfiltered f) w s r = FilterRest f w s r
Rest (position.Where f c) w s r = WhereRest f c w s r
Rest (position.Whole v) w s r = (v ≡ w) × (s ≡ r)

-- a token carries what has to come back
abbrev pub Back : Position → Token → Position → Type 0
Back p t q = (w : Work) (s r : List Token) → Rest q w s r → Rest p w (t ∷ s) r

-- behind a statement's last token
pub whole_rest : (front : List Token → List Token) (v : Work) → ((s : List Token) → IsWork v (front s) s) → (w : Work) (s r : List Token) → (v ≡ w) × (s ≡ r) → IsWork w (front s) r
whole_rest front v f w s r x = subst (λ w. IsWork w (front s) r) x.0 (subst (IsWork v (front s)) x.1 (f s))
