-- What has to come is carried back along definitions.
use Rattle.std.proofs.Common.{◌≡◌, ℕ, Bool, true, false, List, [], ◌∷◌, Some, option_map, refl, subst}
use Rattle.hb_model.specs.declared.statement.Statement.TheVariants as statement
use Rattle.hb_model.specs.declared.line.Work.{Work}
use Rattle.hb_model.specs.declared.line.Work.TheVariants as work
use Rattle.hb_sqltoken.specs.declared.token.Token.{Token}
use Rattle.hb_sqltoken.specs.declared.token.Token.TheVariants as token
use Rattle.hb_sqltoken.specs.declared.token.Word.TheVariants as word
use Rattle.hb_sqlcond.specs.Runs.{Finds}
use Rattle.hb_sqlsteps.specs.declared.marks.Mark.TheVariants as mark
use Rattle.hb_sqlsteps.specs.declared.lists.Names.{Names}
use Rattle.hb_sqlsteps.specs.declared.lists.Names.TheVariants as names
use Rattle.hb_sqlsteps.specs.declared.columns.Columns.{Columns}
use Rattle.hb_sqlsteps.specs.declared.columns.Columns.TheVariants as columns
use Rattle.hb_sqlsteps.specs.declared.definitions.CreateArea.{CreateArea}
use Rattle.hb_sqlsteps.specs.declared.definitions.CreateArea.TheVariants as create_area_at
use Rattle.hb_sqlsteps.specs.declared.definitions.AddArea.{AddArea}
use Rattle.hb_sqlsteps.specs.declared.definitions.AddArea.TheVariants as add_area_at
use Rattle.hb_sqlsteps.specs.declared.definitions.LockTable.{LockTable}
use Rattle.hb_sqlsteps.specs.declared.definitions.LockTable.TheVariants as lock_table_at
use Rattle.hb_sqlsteps.specs.declared.create_table.NewTable.{NewTable}
use Rattle.hb_sqlsteps.specs.declared.create_table.CreateTable.{CreateTable}
use Rattle.hb_sqlsteps.specs.declared.create_table.CreateTable.TheVariants as create_table_at
use Rattle.hb_sqlsteps.specs.declared.position.Position.{Position}
use Rattle.hb_sqlsteps.specs.declared.position.Position.TheVariants as position
use Rattle.hb_sqlparse.specs.Keywords.{ALTER, BY, CREATE, HASH, HASHA, IN, LOCK, MODE, ON, RDAREA, ADD, TABLE}
use Rattle.hb_sqlparse.specs.Listed.{Listed}
use Rattle.hb_sqlparse.specs.Columns.{IsColumn}
use Rattle.hb_sqlparse.specs.Works.{IsWork, definition, create_area, create_table, add_area, lock_share, lock_exclusive}
use Rattle.hb_sqlsteps.specs.ListSteps.{step_names, whole_names, step_columns}
use Rattle.hb_sqlsteps.specs.DefinitionSteps.{with_areas, go_columns, in_columns, go_areas, step_create_area, step_add_area, step_lock_table, step_create_table}
use Rattle.hb_sqlparse.proofs.Takes.{some_is, mapped, word_split, word_back, mark_split, mark_back, name_back}
use Rattle.hb_sqlparse.proofs.Going.{find_here, find_next}
use Rattle.hb_sqlparse.proofs.NameLists.{reads_names}
use Rattle.hb_sqlparse.proofs.ColumnLists.{reads_columns}
use Rattle.hb_sqlparse.proofs.Rests.{ListRest, TableRest, ColumnsRest, mode_word, Back, whole_rest}

pub create_area_back : (p : CreateArea) (t : Token) (q : Position) → step_create_area p t ≡ Some q → Back (position.CreateArea p) t q
create_area_back create_area_at.Start t q h = name_back (Back (position.CreateArea create_area_at.Start)) t _ q h (λ n w s r x. x)
create_area_back (create_area_at.Named name) t q h = word_back (Back (position.CreateArea (create_area_at.Named name))) word.On t _ q h (λ w s r x. x)
create_area_back (create_area_at.On name) t q h =
    name_back (Back (position.CreateArea (create_area_at.On name))) t _ q h
    (λ n. whole_rest (λ (s : List Token). CREATE ∷ RDAREA ∷ token.Name name ∷ ON ∷ token.Name n ∷ s) (work.Sql (statement.CreateArea name n)) (λ s. definition create_area))

pub add_area_back : (p : AddArea) (t : Token) (q : Position) → step_add_area p t ≡ Some q → Back (position.AddArea p) t q
add_area_back add_area_at.Start t q h = word_back (Back (position.AddArea add_area_at.Start)) word.Table t _ q h (λ w s r x. x)
add_area_back add_area_at.Table t q h = name_back (Back (position.AddArea add_area_at.Table)) t _ q h (λ n w s r x. x)
add_area_back (add_area_at.Named table) t q h = word_back (Back (position.AddArea (add_area_at.Named table))) word.Add t _ q h (λ w s r x. x)
add_area_back (add_area_at.Add table) t q h = word_back (Back (position.AddArea (add_area_at.Add table))) word.Rdarea t _ q h (λ w s r x. x)
add_area_back (add_area_at.Area table) t q h =
    name_back (Back (position.AddArea (add_area_at.Area table))) t _ q h
    (λ n. whole_rest (λ (s : List Token). ALTER ∷ TABLE ∷ token.Name table ∷ ADD ∷ RDAREA ∷ token.Name n ∷ s) (work.Sql (statement.AddArea table n)) (λ s. definition add_area))

locked : (table : List ℕ) (exclusive : Bool) (s : List Token) → IsWork (work.Sql (statement.LockTable table exclusive)) (LOCK ∷ TABLE ∷ token.Name table ∷ IN ∷ mode_word exclusive ∷ MODE ∷ s) s
locked table true s = definition lock_exclusive
locked table false s = definition lock_share

pub lock_table_back : (p : LockTable) (t : Token) (q : Position) → step_lock_table p t ≡ Some q → Back (position.LockTable p) t q
lock_table_back lock_table_at.Start t q h = word_back (Back (position.LockTable lock_table_at.Start)) word.Table t _ q h (λ w s r x. x)
lock_table_back lock_table_at.Table t q h = name_back (Back (position.LockTable lock_table_at.Table)) t _ q h (λ n w s r x. x)
lock_table_back (lock_table_at.Named table) t q h = word_back (Back (position.LockTable (lock_table_at.Named table))) word.In t _ q h (λ w s r x. x)
lock_table_back (lock_table_at.In table) t q h =
    let P = position.LockTable (lock_table_at.In table) in
    word_split (λ t. Back P t q) word.Share t _ _ q h
    (λ e. subst (Back P (token.Word word.Share)) (some_is e) (λ w s r x. x))
    (λ e. word_back (Back P) word.Exclusive t _ q e (λ w s r x. x))
lock_table_back (lock_table_at.Mode table exclusive) t q h =
    word_back (Back (position.LockTable (lock_table_at.Mode table exclusive))) word.Mode t _ q h
    (whole_rest (λ (s : List Token). LOCK ∷ TABLE ∷ token.Name table ∷ IN ∷ mode_word exclusive ∷ MODE ∷ s) (work.Sql (statement.LockTable table exclusive)) (locked table exclusive))

-- ---- CREATE TABLE

created : (name : List ℕ) (w : Work) (s r : List Token) → ColumnsRest name (columns.Want []) w s r → IsWork w (CREATE ∷ TABLE ∷ token.Name name ∷ token.Open ∷ s) r
created name w s r x =
    let l = reads_columns.sound x.columns s (token.Close ∷ x.behind) x.finds in
    let m : Listed IsColumn x.columns s (token.Close ∷ HASH ∷ HASHA ∷ BY ∷ token.Name x.rest.key ∷ IN ∷ token.Open ∷ x.rest.behind) = subst (λ (k : List Token). Listed IsColumn x.columns s (token.Close ∷ k)) x.rest.front l in
    subst (λ w. IsWork w (CREATE ∷ TABLE ∷ token.Name name ∷ token.Open ∷ s) r) x.rest.is (definition (create_table m x.rest.listed))

columns_next : (name : List ℕ) (c : Columns) (t : Token) (q : Position) → option_map (go_columns name) (step_columns c t) ≡ Some q → Back (go_columns name c) t q
columns_next name c t q h = mapped (Back (go_columns name c) t) (go_columns name) (step_columns c t) q h
    (λ m e w s r x. record { columns = x.columns; behind = x.behind; finds = find_next e x.finds; rest = x.rest })

columns_back : (name : List ℕ) (c : Columns) (t : Token) (q : Position) → in_columns name c t ≡ Some q → Back (go_columns name c) t q
columns_back name (columns.Have xs) t q h =
    let P = go_columns name (columns.Have xs) in
    mark_split (λ t. Back P t q) mark.Close t _ _ q h
    (λ e. subst (Back P token.Close) (some_is e) (λ w s r x. record { columns = xs; behind = s; finds = find_here (columns.Have xs) xs (token.Close ∷ s) refl; rest = x }))
    (columns_next name (columns.Have xs) t q)
columns_back name (columns.Want xs) t q h = columns_next name (columns.Want xs) t q h
columns_back name (columns.Named xs n) t q h = columns_next name (columns.Named xs n) t q h
columns_back name (columns.Varchar xs n) t q h = columns_next name (columns.Varchar xs n) t q h
columns_back name (columns.Open xs n) t q h = columns_next name (columns.Open xs n) t q h
columns_back name (columns.Size xs n) t q h = columns_next name (columns.Size xs n) t q h

areas_rest : (table : NewTable) (w : Work) (s r : List Token) → ListRest step_names whole_names (with_areas table) (names.Want []) w s r
    → TableRest table.name table.columns w (HASH ∷ HASHA ∷ BY ∷ token.Name table.key ∷ IN ∷ token.Open ∷ s) r
areas_rest table w s r x = record { key = table.key; areas = x.list; behind = s; front = refl; listed = reads_names.sound x.list s (token.Close ∷ r) x.finds; is = x.is }

areas_back : (table : NewTable) (c : Names) (t : Token) (q : Position) → step_create_table (create_table_at.Areas table c) t ≡ Some q → Back (go_areas table c) t q
areas_back table c t q h =
    mark_split (λ t. Back (go_areas table c) t q) mark.Close t _ _ q h
    (λ e. mapped (Back (go_areas table c) token.Close) (λ xs. position.Whole (with_areas table xs)) (whole_names c) q e
    (λ xs f w s r x. record { list = xs; finds = subst (λ (k : List Token). Finds step_names whole_names c xs (token.Close ∷ s) (token.Close ∷ k)) x.1 (find_here c xs (token.Close ∷ s) f); is = x.0 }))
    (λ e. mapped (Back (go_areas table c) t) (go_areas table) (step_names c t) q e (λ m f w s r x. record { list = x.list; finds = find_next f x.finds; is = x.is }))

pub create_table_back : (p : CreateTable) (t : Token) (q : Position) → step_create_table p t ≡ Some q → Back (position.CreateTable p) t q
create_table_back create_table_at.Start t q h = name_back (Back (position.CreateTable create_table_at.Start)) t _ q h (λ n w s r x. x)
create_table_back (create_table_at.Named name) t q h = mark_back (Back (position.CreateTable (create_table_at.Named name))) mark.Open t _ q h (λ w s r x. created name w s r x)
create_table_back (create_table_at.Columns name c) t q h = columns_back name c t q h
create_table_back (create_table_at.Closed name xs) t q h = word_back (Back (position.CreateTable (create_table_at.Closed name xs))) word.Hash t _ q h (λ w s r x. x)
create_table_back (create_table_at.Hash name xs) t q h = word_back (Back (position.CreateTable (create_table_at.Hash name xs))) word.Hasha t _ q h (λ w s r x. x)
create_table_back (create_table_at.Hasha name xs) t q h = word_back (Back (position.CreateTable (create_table_at.Hasha name xs))) word.By t _ q h (λ w s r x. x)
create_table_back (create_table_at.By name xs) t q h = name_back (Back (position.CreateTable (create_table_at.By name xs))) t _ q h (λ n w s r x. x)
create_table_back (create_table_at.Keyed table) t q h = word_back (Back (position.CreateTable (create_table_at.Keyed table))) word.In t _ q h (λ w s r x. x)
create_table_back (create_table_at.In table) t q h = mark_back (Back (position.CreateTable (create_table_at.In table))) mark.Open t _ q h (λ w s r x. areas_rest table w s r x)
create_table_back (create_table_at.Areas table c) t q h = areas_back table c t q h
