-- What the grammar derives as a statement is found.
use Rattle.std.proofs.Common.{◌≡◌, ℕ, ◌≤◌, List, [], ◌∷◌, Option, Some, None, option_map, refl, ap}
use Rattle.hb_model.specs.declared.condition.Pred.{Pred}
use Rattle.hb_model.specs.declared.statement.Set.{Set}
use Rattle.hb_model.specs.declared.statement.What.{What}
use Rattle.hb_model.specs.declared.statement.Statement.{Statement}
use Rattle.hb_model.specs.declared.statement.Statement.TheVariants as statement
use Rattle.hb_model.specs.declared.line.Work.{Work}
use Rattle.hb_model.specs.declared.line.Work.TheVariants as work
use Rattle.hb_sqltoken.specs.declared.token.Token.{Token}
use Rattle.hb_sqltoken.specs.declared.token.Token.TheVariants as token
use Rattle.hb_sqlcond.specs.Grammar.{IsExpr, IsPred}
use Rattle.hb_sqlcond.specs.ExprSteps.{start_expr, step_expr, whole_expr}
use Rattle.hb_sqlcond.specs.PredSteps.{start_pred, step_pred, whole_pred}
use Rattle.hb_sqlcond.specs.Runs.{Leads, here, next, Finds, Reads, in_expr, in_pred}
use Rattle.hb_sqlsteps.specs.declared.lists.Names.{Names}
use Rattle.hb_sqlsteps.specs.declared.lists.Names.TheVariants as names
use Rattle.hb_sqlsteps.specs.declared.sets.Sets.{Sets}
use Rattle.hb_sqlsteps.specs.declared.select.Select.TheVariants as select
use Rattle.hb_sqlsteps.specs.declared.rebalance.Limits.TheVariants as limits
use Rattle.hb_sqlsteps.specs.declared.position.Filtered.{Filtered}
use Rattle.hb_sqlsteps.specs.declared.position.Filtered.TheVariants as filtered
use Rattle.hb_sqlsteps.specs.declared.position.Position.{Position}
use Rattle.hb_sqlsteps.specs.declared.position.Position.TheVariants as position
use Rattle.hb_sqlparse.specs.Keywords.{FROM}
use Rattle.hb_sqlparse.specs.Rows.{IsWhat, all, some, count, sum, IsFilter, each, where_pred}
use Rattle.hb_sqlparse.specs.Works.{IsDefinition, create_area, create_table, add_area, lock_share, lock_exclusive, IsRowStatement, insert, select as select_of, update, delete, commit, rollback, IsWork, definition, row_statement, rebalance}
use Rattle.hb_sqlsteps.specs.ListSteps.{step_names, whole_names}
use Rattle.hb_sqlsteps.specs.DefinitionSteps.{with_areas, new_table}
use Rattle.hb_sqlsteps.specs.SetSteps.{whole_sets}
use Rattle.hb_sqlsteps.specs.RowSteps.{go_shown, go_sets}
use Rattle.hb_sqlsteps.specs.RebalanceSteps.{go_limits}
use Rattle.hb_sqlsteps.specs.Positions.{with_pred, step_position, whole_position}
use Rattle.hb_sqlparse.proofs.Takes.{none_is, name_back, number_takes}
use Rattle.hb_sqlparse.proofs.Going.{and_then, find_then, find_next, find_here}
use Rattle.hb_sqlparse.proofs.NameLists.{reads_names, reads_values}
use Rattle.hb_sqlparse.proofs.ColumnLists.{reads_columns}
use Rattle.hb_sqlparse.proofs.SetLists.{reads_sets}
use Rattle.hb_sqlparse.proofs.Nesting.{Goes, in_the_areas, areas_close, in_the_shown, shown_from, in_the_values, in_the_columns, columns_close, in_the_condition, in_the_sets}

-- a statement is found from a place on
abbrev pub Found : Position → Work → List Token → List Token → Type 0
Found = Finds step_position whole_position

found_whole : (w : Work) (r : List Token) → Found (position.Whole w) w r r
found_whole w r = find_here (position.Whole w) w r refl

definition_found : {st : Statement} {s r : List Token} → IsDefinition st s r → Found position.Start (work.Sql st) s r
definition_found (create_area {r = r}) = record { last = position.Whole _; leads = next refl (next refl (next refl (next refl (next refl here)))); is = refl }
definition_found (create_table {name = name} {key = key} {columns = cs} {areas = ns} {s = s} {m = m} {r = r} l a) =
    let x = reads_columns.complete cs s (token.Close ∷ _) l in
    let y = reads_names.complete ns m (token.Close ∷ r) a in
    let table = new_table name cs key in
    let areas = and_then (in_the_areas table y.leads) (next (areas_close table y.last ns y.is) here) in
    let behind = next refl (next refl (next refl (next refl (next refl (next refl areas))))) in
    let columns = and_then (in_the_columns name x.leads) (next (columns_close name x.last cs x.is) behind) in
    record { last = position.Whole (with_areas table ns); leads = next refl (next refl (next refl (next refl columns))); is = refl }
definition_found add_area = record { last = position.Whole _; leads = next refl (next refl (next refl (next refl (next refl (next refl here))))); is = refl }
definition_found lock_share = record { last = position.Whole _; leads = next refl (next refl (next refl (next refl (next refl (next refl here))))); is = refl }
definition_found lock_exclusive = record { last = position.Whole _; leads = next refl (next refl (next refl (next refl (next refl (next refl here))))); is = refl }

-- the first name of those that are shown
first_shown : (t : Token) (c : Names) → step_names (names.Want []) t ≡ Some c → step_position (position.Select select.Start) t ≡ Some (go_shown c)
first_shown t c h = name_back (λ t c. step_position (position.Select select.Start) t ≡ Some (go_shown c)) t _ c h (λ n. refl)

names_shown : {d : Names} {s r : List Token} → Leads step_names (names.Want []) s d r → (xs : List (List ℕ)) → whole_names d ≡ Some xs → Goes (position.Select select.Start) s (go_shown d) r
names_shown here xs h = absurd (none_is h)
names_shown (next {m = c} {t = t} e x) xs h = next (first_shown t c e) (in_the_shown x)

shown_found : {shown : What} {s m : List Token} {table : List ℕ} → IsWhat shown s (FROM ∷ token.Name table ∷ m) → Goes (position.Select select.Start) s (position.Unfiltered (filtered.Select shown table)) m
shown_found all = next refl (next refl (next refl here))
shown_found count = next refl (next refl (next refl (next refl (next refl (next refl here)))))
shown_found sum = next refl (next refl (next refl (next refl (next refl (next refl here)))))
shown_found {s = s} {m = m} {table = table} (some {names = ns} l) =
    let x = reads_names.complete ns s (FROM ∷ token.Name table ∷ m) l in
    and_then (names_shown x.leads ns x.is) (next (shown_from x.last ns x.is) (next refl here))

rows_found : {table : List ℕ} {rows turns : ℕ} {r : List Token} → 1 ≤ rows → rows ≤ 10000 → 1 ≤ turns → turns ≤ 1000000
    → Found (go_limits table limits.Rows) (work.Rebalance table rows turns) (token.Number rows ∷ token.Minus ∷ token.Name (110 ∷ []) ∷ token.Number turns ∷ r) r
rows_found {table} {rows} {turns} a b c d = record {
  last = position.Whole (work.Rebalance table rows turns);
  leads = next (ap (option_map (λ n. go_limits table (limits.Counted n))) (number_takes 10000 rows a b))
      (next refl (next refl (next (ap (option_map (λ n. position.Whole (work.Rebalance table rows n))) (number_takes 1000000 turns c d)) here)));
  is = refl;
}

module _ (ex : Reads start_expr step_expr whole_expr in_expr IsExpr) (pr : Reads start_pred step_pred whole_pred in_pred IsPred) where
  condition_found : (f : Filtered) (p : Pred) (s r : List Token) → IsPred p s r → Found (position.Where f start_pred) (with_pred f (Some p)) s r
  condition_found f p s r i =
      let x = pr.complete p s r i in
      record { last = position.Where f x.last; leads = in_the_condition f x.leads; is = ap (option_map (λ p. with_pred f (Some p))) x.is }

  filter_found : (f : Filtered) {p : Option Pred} {s r : List Token} → IsFilter p s r → Found (position.Unfiltered f) (with_pred f p) s r
  filter_found f {r = r} each = find_here (position.Unfiltered f) (with_pred f None) r refl
  filter_found f (where_pred {p = p} {s = s} {r = r} i) = find_next refl (condition_found f p s r i)

  updated : (table : List ℕ) {xs : List Set} {p : Option Pred} (c : Sets) {s r : List Token} → whole_sets c ≡ Some xs → IsFilter p s r → Found (go_sets table c) (with_pred (filtered.Update table xs) p) s r
  updated table c {r = r} h each = find_here (go_sets table c) _ r (ap (option_map (λ xs. with_pred (filtered.Update table xs) None)) h)
  updated table {xs = xs} c h (where_pred {p = p} {s = s} {r = r} i) =
      find_next (ap (option_map (λ xs. position.Where (filtered.Update table xs) start_pred)) h) (condition_found (filtered.Update table xs) p s r i)

  row_statement_found : {st : Statement} {s r : List Token} → IsRowStatement st s r → Found position.Start (work.Sql st) s r
  row_statement_found (insert {table = table} {values = xs} {s = s} {r = r} l) =
      let x = reads_values.complete xs s (token.Close ∷ r) l in
      let row = and_then (in_the_values table x.leads) (next (ap (option_map (λ xs. position.Whole (work.Sql (statement.Insert table xs)))) x.is) here) in
      record { last = position.Whole (work.Sql (statement.Insert table xs)); leads = next refl (next refl (next refl (next refl (next refl row)))); is = refl }
  row_statement_found (select_of {shown = shown} {table = table} w f) = find_next refl (find_then (shown_found w) (filter_found (filtered.Select shown table) f))
  row_statement_found (update {table = table} {sets = xs} {s = s} {m = m} l f) =
      let x = (reads_sets ex).complete xs s m l in
      find_next refl (find_next refl (find_next refl (find_then (in_the_sets ex table x.leads) (updated table x.last x.is f))))
  row_statement_found (delete {table = table} f) = find_next refl (find_next refl (find_next refl (filter_found (filtered.Delete table) f)))
  row_statement_found (commit {r = r}) = find_next refl (found_whole (work.Sql statement.Commit) r)
  row_statement_found (rollback {r = r}) = find_next refl (found_whole (work.Sql statement.Rollback) r)

  pub work_found : {w : Work} {s r : List Token} → IsWork w s r → Found position.Start w s r
  work_found (definition i) = definition_found i
  work_found (row_statement i) = row_statement_found i
  work_found (rebalance a b c d) =
      find_next refl (find_next refl (find_next refl (find_next refl (find_next refl (find_next refl (find_next refl (find_next refl (find_next refl (rows_found a b c d)))))))))
