-- No statement goes on with a semicolon.
use Rattle.std.proofs.Common.{◌≡◌, ℕ, false, List, Option, Some, None, option_map, refl, sym, ap, ◌∙◌}
use Rattle.hb_sqltoken.specs.declared.token.Token.{Token}
use Rattle.hb_sqltoken.specs.declared.token.Token.TheVariants as token
use Rattle.hb_sqlcond.specs.declared.pred_parser.PredParser.{PredParser}
use Rattle.hb_sqlcond.specs.declared.expr_parser.ExprParser.{ExprParser}
use Rattle.hb_sqlcond.specs.Grammar.{IsExpr, IsPred}
use Rattle.hb_sqlcond.specs.ExprSteps.{start_expr, step_expr, whole_expr}
use Rattle.hb_sqlcond.specs.PredSteps.{start_pred, step_pred, whole_pred}
use Rattle.hb_sqlcond.specs.Runs.{Reads, in_expr, in_pred}
use Rattle.hb_sqlsteps.specs.declared.marks.Mark.TheVariants as mark
use Rattle.hb_sqlsteps.specs.declared.lists.Names.{Names}
use Rattle.hb_sqlsteps.specs.declared.lists.Names.TheVariants as names
use Rattle.hb_sqlsteps.specs.declared.lists.Values.{Values}
use Rattle.hb_sqlsteps.specs.declared.lists.Values.TheVariants as values
use Rattle.hb_sqlsteps.specs.declared.columns.Columns.{Columns}
use Rattle.hb_sqlsteps.specs.declared.columns.Columns.TheVariants as columns
use Rattle.hb_sqlsteps.specs.declared.sets.Sets.{Sets}
use Rattle.hb_sqlsteps.specs.declared.sets.Sets.TheVariants as sets
use Rattle.hb_sqlsteps.specs.declared.definitions.CreateArea.{CreateArea}
use Rattle.hb_sqlsteps.specs.declared.definitions.CreateArea.TheVariants as create_area_at
use Rattle.hb_sqlsteps.specs.declared.definitions.AddArea.{AddArea}
use Rattle.hb_sqlsteps.specs.declared.definitions.AddArea.TheVariants as add_area_at
use Rattle.hb_sqlsteps.specs.declared.definitions.LockTable.{LockTable}
use Rattle.hb_sqlsteps.specs.declared.definitions.LockTable.TheVariants as lock_table_at
use Rattle.hb_sqlsteps.specs.declared.create_table.CreateTable.{CreateTable}
use Rattle.hb_sqlsteps.specs.declared.create_table.CreateTable.TheVariants as create_table_at
use Rattle.hb_sqlsteps.specs.declared.select.Select.{Select}
use Rattle.hb_sqlsteps.specs.declared.select.Select.TheVariants as select_at
use Rattle.hb_sqlsteps.specs.declared.rows.Insert.{Insert}
use Rattle.hb_sqlsteps.specs.declared.rows.Insert.TheVariants as insert_at
use Rattle.hb_sqlsteps.specs.declared.rows.Update.{Update}
use Rattle.hb_sqlsteps.specs.declared.rows.Update.TheVariants as update_at
use Rattle.hb_sqlsteps.specs.declared.rows.Delete.{Delete}
use Rattle.hb_sqlsteps.specs.declared.rows.Delete.TheVariants as delete_at
use Rattle.hb_sqlsteps.specs.declared.rebalance.Options.{Options}
use Rattle.hb_sqlsteps.specs.declared.rebalance.Options.TheVariants as options_at
use Rattle.hb_sqlsteps.specs.declared.rebalance.Limits.{Limits}
use Rattle.hb_sqlsteps.specs.declared.rebalance.Limits.TheVariants as limits_at
use Rattle.hb_sqlsteps.specs.declared.rebalance.Rebalance.{Rebalance}
use Rattle.hb_sqlsteps.specs.declared.rebalance.Rebalance.TheVariants as rebalance_at
use Rattle.hb_sqlsteps.specs.declared.position.Position.{Position}
use Rattle.hb_sqlsteps.specs.declared.position.Position.TheVariants as position
use Rattle.hb_sqlsteps.specs.Marks.{is_mark}
use Rattle.hb_sqlsteps.specs.ListSteps.{step_names, step_values}
use Rattle.hb_sqlsteps.specs.SetSteps.{step_sets}
use Rattle.hb_sqlsteps.specs.DefinitionSteps.{in_columns, go_areas, step_create_area, step_add_area, step_lock_table, step_create_table}
use Rattle.hb_sqlsteps.specs.RowSteps.{go_shown, go_values, go_sets, step_select, step_insert, step_update, step_delete}
use Rattle.hb_sqlsteps.specs.RebalanceSteps.{step_options, step_limits, step_rebalance}
use Rattle.hb_sqlsteps.specs.Positions.{step_position}
use Rattle.hb_sqlparse.proofs.Takes.{none_is}

abbrev END : Token
END = token.Semicolon

create_area_no : (p : CreateArea) → step_create_area p END ≡ None
create_area_no create_area_at.Start = refl
create_area_no _ = refl

add_area_no : (p : AddArea) → step_add_area p END ≡ None
add_area_no add_area_at.Start = refl
add_area_no _ = refl

lock_table_no : (p : LockTable) → step_lock_table p END ≡ None
lock_table_no lock_table_at.Start = refl
lock_table_no _ = refl

names_no : (c : Names) → step_names c END ≡ None
names_no (names.Want xs) = refl
names_no (names.Have xs) = refl

values_no : (c : Values) → step_values c END ≡ None
values_no (values.Want xs) = refl
values_no _ = refl

columns_no : (name : List ℕ) (c : Columns) → in_columns name c END ≡ None
columns_no name (columns.Want xs) = refl
columns_no name _ = refl

create_table_no : (p : CreateTable) → step_create_table p END ≡ None
create_table_no (create_table_at.Columns name c) = columns_no name c
create_table_no (create_table_at.Areas table c) = ap (option_map (go_areas table)) (names_no c)
create_table_no _ = refl

select_no : (p : Select) → step_select p END ≡ None
select_no (select_at.Names c) = ap (option_map go_shown) (names_no c)
select_no _ = refl

insert_no : (p : Insert) → step_insert p END ≡ None
insert_no (insert_at.Row table c) = ap (option_map (go_values table)) (values_no c)
insert_no _ = refl

delete_no : (p : Delete) → step_delete p END ≡ None
delete_no delete_at.Start = refl
delete_no delete_at.From = refl

options_no : (o : Options) → step_options o END ≡ None
options_no options_at.Start = refl
options_no _ = refl

limits_no : (table : List ℕ) (l : Limits) → step_limits table l END ≡ None
limits_no table limits_at.Named = refl
limits_no table _ = refl

rebalance_no : (p : Rebalance) → step_rebalance p END ≡ None
rebalance_no (rebalance_at.Options o) = ap (option_map position.Rebalance) (options_no o)
rebalance_no (rebalance_at.Limits table l) = limits_no table l

-- what is never found isn't there
never : {A : Type 0} (o : Option A) → ((x : A) → o ≡ Some x → ⊥) → o ≡ None
never None f = refl
never (Some x) f = absurd (f x refl)

module _ (ex : Reads start_expr step_expr whole_expr in_expr IsExpr) (pr : Reads start_pred step_pred whole_pred in_pred IsPred) where
  value_no : (f : ExprParser) → step_expr f END ≡ None
  value_no f = never (step_expr f END) (λ m h. (let b = ex.belongs f m END h in cc))

  condition_no : (c : PredParser) → step_pred c END ≡ None
  condition_no c = never (step_pred c END) (λ m h. (let b = pr.belongs c m END h in cc))

  sets_no : (c : Sets) → step_sets c END ≡ None
  sets_no (sets.Want xs) = refl
  sets_no (sets.Named xs name) = refl
  sets_no (sets.Value xs name f) = ap (option_map (sets.Value xs name)) (value_no f)

  update_no : (p : Update) → step_update p END ≡ None
  update_no (update_at.Sets table c) = ap (option_map (go_sets table)) (sets_no c)
  update_no update_at.Start = refl
  update_no (update_at.Named table) = refl

  position_no : (p : Position) → step_position p END ≡ None
  position_no position.Start = refl
  position_no position.Create = refl
  position_no (position.CreateArea p) = create_area_no p
  position_no (position.CreateTable p) = create_table_no p
  position_no (position.AddArea p) = add_area_no p
  position_no (position.LockTable p) = lock_table_no p
  position_no (position.Insert p) = insert_no p
  position_no (position.Select p) = select_no p
  position_no (position.Update p) = update_no p
  position_no (position.Delete p) = delete_no p
  position_no (position.Rebalance p) = rebalance_no p
  position_no (position.Unfiltered f) = refl
  position_no (position.Where f c) = ap (option_map (position.Where f)) (condition_no c)
  position_no (position.Whole w) = refl

  pub not_semicolon : (p : Position) (t : Token) (q : Position) → step_position p t ≡ Some q → is_mark mark.Semicolon t ≡ false
  not_semicolon p token.Semicolon q h = absurd (none_is (sym (position_no p) ∙ h))
  not_semicolon p _ q h = refl
