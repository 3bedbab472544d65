-- The lists and conditions inside of a statement.
use Rattle.std.proofs.Common.{◌≡◌, ℕ, Bool, true, false, if◌then◌else◌, List, Option, Some, option_map, ap}
use Rattle.hb_types.specs.declared.value.Column.{Column}
use Rattle.hb_model.specs.declared.statement.What.TheVariants as what
use Rattle.hb_sqltoken.specs.declared.token.Token.{Token}
use Rattle.hb_sqltoken.specs.declared.token.Token.TheVariants as token
use Rattle.hb_sqlcond.specs.declared.pred_parser.PredParser.{PredParser}
use Rattle.hb_sqlcond.specs.Grammar.{IsExpr}
use Rattle.hb_sqlcond.specs.ExprSteps.{start_expr, step_expr, whole_expr}
use Rattle.hb_sqlcond.specs.PredSteps.{step_pred}
use Rattle.hb_sqlcond.specs.Runs.{Leads, Reads, in_expr}
use Rattle.hb_sqlsteps.specs.declared.lists.Names.{Names}
use Rattle.hb_sqlsteps.specs.declared.lists.Values.{Values}
use Rattle.hb_sqlsteps.specs.declared.columns.Columns.{Columns}
use Rattle.hb_sqlsteps.specs.declared.columns.Columns.TheVariants as columns
use Rattle.hb_sqlsteps.specs.declared.sets.Sets.{Sets}
use Rattle.hb_sqlsteps.specs.declared.create_table.NewTable.{NewTable}
use Rattle.hb_sqlsteps.specs.declared.create_table.CreateTable.TheVariants as create_table
use Rattle.hb_sqlsteps.specs.declared.select.Select.TheVariants as select
use Rattle.hb_sqlsteps.specs.declared.position.Filtered.{Filtered}
use Rattle.hb_sqlsteps.specs.declared.position.Position.{Position}
use Rattle.hb_sqlsteps.specs.declared.position.Position.TheVariants as position
use Rattle.hb_sqlparse.specs.Keywords.{FROM}
use Rattle.hb_sqlsteps.specs.ListSteps.{step_names, whole_names, step_values, step_columns, whole_columns}
use Rattle.hb_sqlsteps.specs.SetSteps.{step_sets}
use Rattle.hb_sqlsteps.specs.DefinitionSteps.{with_areas, go_columns, go_areas}
use Rattle.hb_sqlsteps.specs.RowSteps.{go_shown, go_values, go_sets}
use Rattle.hb_sqlsteps.specs.Positions.{step_position}
use Rattle.hb_sqlparse.proofs.Takes.{some_is, none_is}
use Rattle.hb_sqlparse.proofs.Going.{inside}
use Rattle.hb_sqlparse.proofs.NameLists.{names_not_close, names_not_from, values_not_close}
use Rattle.hb_sqlparse.proofs.ColumnLists.{have_not_close}
use Rattle.hb_sqlparse.proofs.SetLists.{sets_not_where}

-- from one place in a statement to another
abbrev pub Goes : Position → List Token → Position → List Token → Type 0
Goes = Leads step_position

-- a test that fails leaves the other branch
otherwise : {A : Type 0} (b : Bool) (p q : Option A) (y : A) → b ≡ false → q ≡ Some y → (if b then p else q) ≡ Some y
otherwise true p q y h e = absurd (cc)
otherwise false p q y h e = e

areas_step : (table : NewTable) (c : Names) (t : Token) (m : Names) → step_names c t ≡ Some m → step_position (go_areas table c) t ≡ Some (go_areas table m)
areas_step table c t m h = otherwise _ _ _ (go_areas table m) (names_not_close c t m h) (ap (option_map (go_areas table)) h)

pub in_the_areas : (table : NewTable) {c d : Names} {s r : List Token} → Leads step_names c s d r → Goes (go_areas table c) s (go_areas table d) r
in_the_areas table x = inside (go_areas table) (areas_step table) x

pub areas_close : (table : NewTable) (c : Names) (xs : List (List ℕ)) → whole_names c ≡ Some xs → step_position (go_areas table c) token.Close ≡ Some (position.Whole (with_areas table xs))
areas_close table c xs h = ap (option_map (λ xs. position.Whole (with_areas table xs))) h

shown_step : (c : Names) (t : Token) (m : Names) → step_names c t ≡ Some m → step_position (go_shown c) t ≡ Some (go_shown m)
shown_step c t m h = otherwise _ _ _ (go_shown m) (names_not_from c t m h) (ap (option_map go_shown) h)

pub in_the_shown : {c d : Names} {s r : List Token} → Leads step_names c s d r → Goes (go_shown c) s (go_shown d) r
in_the_shown x = inside go_shown shown_step x

pub shown_from : (c : Names) (xs : List (List ℕ)) → whole_names c ≡ Some xs → step_position (go_shown c) FROM ≡ Some (position.Select (select.From (what.Names xs)))
shown_from c xs h = ap (option_map (λ xs. position.Select (select.From (what.Names xs)))) h

values_step : (table : List ℕ) (c : Values) (t : Token) (m : Values) → step_values c t ≡ Some m → step_position (go_values table c) t ≡ Some (go_values table m)
values_step table c t m h = otherwise _ _ _ (go_values table m) (values_not_close c t m h) (ap (option_map (go_values table)) h)

pub in_the_values : (table : List ℕ) {c d : Values} {s r : List Token} → Leads step_values c s d r → Goes (go_values table c) s (go_values table d) r
in_the_values table x = inside (go_values table) (values_step table) x

columns_step : (name : List ℕ) (c : Columns) (t : Token) (m : Columns) → step_columns c t ≡ Some m → step_position (go_columns name c) t ≡ Some (go_columns name m)
columns_step name (columns.Have xs) t m h = otherwise _ _ _ (go_columns name m) (have_not_close xs t m h) (ap (option_map (go_columns name)) h)
columns_step name _ t m h = ap (option_map (go_columns name)) h

pub in_the_columns : (name : List ℕ) {c d : Columns} {s r : List Token} → Leads step_columns c s d r → Goes (go_columns name c) s (go_columns name d) r
in_the_columns name x = inside (go_columns name) (columns_step name) x

pub columns_close : (name : List ℕ) (c : Columns) (xs : List Column) → whole_columns c ≡ Some xs → step_position (go_columns name c) token.Close ≡ Some (position.CreateTable (create_table.Closed name xs))
columns_close name (columns.Have ys) xs h = ap (λ (l : List Column). Some (position.CreateTable (create_table.Closed name l))) (some_is h)
columns_close name _ xs h = absurd (none_is h)

pub in_the_condition : (f : Filtered) {c d : PredParser} {s r : List Token} → Leads step_pred c s d r → Goes (position.Where f c) s (position.Where f d) r
in_the_condition f x = inside (position.Where f) (λ c t m h. ap (option_map (position.Where f)) h) x

module _ (ex : Reads start_expr step_expr whole_expr in_expr IsExpr) where
  sets_step : (table : List ℕ) (c : Sets) (t : Token) (m : Sets) → step_sets c t ≡ Some m → step_position (go_sets table c) t ≡ Some (go_sets table m)
  sets_step table c t m h = otherwise _ _ _ (go_sets table m) (sets_not_where ex c t m h) (ap (option_map (go_sets table)) h)

  pub in_the_sets : (table : List ℕ) {c d : Sets} {s r : List Token} → Leads step_sets c s d r → Goes (go_sets table c) s (go_sets table d) r
  in_the_sets table x = inside (go_sets table) (sets_step table) x
