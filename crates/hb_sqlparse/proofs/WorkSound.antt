-- What is found is derived by the grammar: what each place leaves to come, carried back token by token.
use Rattle.std.proofs.Common.{◌≡◌, ℕ, List, [], ◌∷◌, Some, None, refl, subst}
use Rattle.hb_model.specs.declared.statement.What.{What}
use Rattle.hb_model.specs.declared.statement.What.TheVariants as what
use Rattle.hb_model.specs.declared.statement.Statement.TheVariants as statement
use Rattle.hb_model.specs.declared.line.Work.{Work}
use Rattle.hb_model.specs.declared.line.Work.TheVariants as work
use Rattle.hb_sqltoken.specs.declared.token.Token.{Token}
use Rattle.hb_sqltoken.specs.declared.token.Token.TheVariants as token
use Rattle.hb_sqltoken.specs.declared.token.Word.{Word}
use Rattle.hb_sqltoken.specs.declared.token.Word.TheVariants as word
use Rattle.hb_sqlcond.specs.Grammar.{IsExpr, IsPred}
use Rattle.hb_sqlcond.specs.ExprSteps.{start_expr, step_expr, whole_expr}
use Rattle.hb_sqlcond.specs.PredSteps.{start_pred, step_pred, whole_pred}
use Rattle.hb_sqlcond.specs.Runs.{Finds, Reads, in_expr, in_pred}
use Rattle.hb_sqlsteps.specs.declared.marks.Mark.TheVariants as mark
use Rattle.hb_sqlsteps.specs.declared.lists.Names.{Names}
use Rattle.hb_sqlsteps.specs.declared.lists.Names.TheVariants as names
use Rattle.hb_sqlsteps.specs.declared.lists.Values.{Values}
use Rattle.hb_sqlsteps.specs.declared.lists.Values.TheVariants as values
use Rattle.hb_sqlsteps.specs.declared.sets.Sets.{Sets}
use Rattle.hb_sqlsteps.specs.declared.sets.Sets.TheVariants as sets
use Rattle.hb_sqlsteps.specs.declared.select.Select.{Select}
use Rattle.hb_sqlsteps.specs.declared.select.Select.TheVariants as select_at
use Rattle.hb_sqlsteps.specs.declared.rows.Insert.{Insert}
use Rattle.hb_sqlsteps.specs.declared.rows.Insert.TheVariants as insert_at
use Rattle.hb_sqlsteps.specs.declared.rows.Update.{Update}
use Rattle.hb_sqlsteps.specs.declared.rows.Update.TheVariants as update_at
use Rattle.hb_sqlsteps.specs.declared.rows.Delete.{Delete}
use Rattle.hb_sqlsteps.specs.declared.rows.Delete.TheVariants as delete_at
use Rattle.hb_sqlsteps.specs.declared.rebalance.Options.{Options}
use Rattle.hb_sqlsteps.specs.declared.rebalance.Options.TheVariants as options_at
use Rattle.hb_sqlsteps.specs.declared.rebalance.Limits.{Limits}
use Rattle.hb_sqlsteps.specs.declared.rebalance.Limits.TheVariants as limits_at
use Rattle.hb_sqlsteps.specs.declared.rebalance.Rebalance.{Rebalance}
use Rattle.hb_sqlsteps.specs.declared.rebalance.Rebalance.TheVariants as rebalance_at
use Rattle.hb_sqlsteps.specs.declared.position.Filtered.{Filtered}
use Rattle.hb_sqlsteps.specs.declared.position.Filtered.TheVariants as filtered
use Rattle.hb_sqlsteps.specs.declared.position.Position.{Position}
use Rattle.hb_sqlsteps.specs.declared.position.Position.TheVariants as position
use Rattle.hb_sqlparse.specs.Keywords.{COMMIT, COUNT, DELETE, FROM, INSERT, INTO, PDRBAL, RDAREA, ROLLBACK, SELECT, SET, SHARE, SUM, UPDATE, VALUES, WHERE, LETTER_K, LETTER_T, LETTER_C, LETTER_N}
use Rattle.hb_sqlparse.specs.Rows.{IsWhat, all, some, count, sum, each, where_pred}
use Rattle.hb_sqlparse.specs.Works.{IsWork, row_statement, rebalance, insert, select, update, delete, commit, rollback}
use Rattle.hb_sqlsteps.specs.ListSteps.{step_names, whole_names, step_values, whole_values}
use Rattle.hb_sqlsteps.specs.SetSteps.{step_sets, whole_sets}
use Rattle.hb_sqlsteps.specs.RowSteps.{go_shown, go_values, go_sets, start_select, step_select, step_insert, step_update, step_delete}
use Rattle.hb_sqlsteps.specs.RebalanceSteps.{go_limits, step_options, step_limits, step_rebalance}
use Rattle.hb_sqlsteps.specs.Positions.{with_pred, first_word, start_work, step_create, step_position, whole_updating, whole_position}
use Rattle.hb_sqlparse.proofs.Takes.{some_is, none_is, mapped, word_split, word_back, mark_split, mark_back, letter_back, name_back, number_back}
use Rattle.hb_sqlparse.proofs.Going.{find_here, find_next, back_along}
use Rattle.hb_sqlparse.proofs.NameLists.{reads_names, reads_values}
use Rattle.hb_sqlparse.proofs.SetLists.{reads_sets}
use Rattle.hb_sqlparse.proofs.Rests.{FilterRest, SelectRest, ShownRest, ListRest, SetsRest, WhereRest, inserted, Rest, Back, whole_rest}
use Rattle.hb_sqlparse.proofs.DefinitionSound.{create_area_back, add_area_back, lock_table_back, create_table_back}

-- ---- SELECT

selected : (front : List Token → List Token) (shown : What) → ((s : List Token) → IsWhat shown (front s) s) → (w : Work) (s r : List Token) → SelectRest shown w s r → IsWork w (SELECT ∷ front s) r
selected front shown f w s r x =
    let i : IsWhat shown (front s) (FROM ∷ token.Name x.table ∷ x.behind) = subst (λ (k : List Token). IsWhat shown (front s) k) x.from (f s) in
    subst (λ w. IsWork w (SELECT ∷ front s) r) x.rest.is (row_statement (select i x.rest.filter))

names_selected : (w : Work) (s r : List Token) → ShownRest (names.Want []) w s r → IsWork w (SELECT ∷ s) r
names_selected w s r x =
    let l = reads_names.sound x.names s x.behind x.finds in
    let i : IsWhat (what.Names x.names) s (FROM ∷ token.Name x.rest.table ∷ x.rest.behind) = subst (λ (k : List Token). IsWhat (what.Names x.names) s k) x.rest.from (some l) in
    subst (λ w. IsWork w (SELECT ∷ s) r) x.rest.rest.is (row_statement (select i x.rest.rest.filter))

start_select_back : (t : Token) (q : Position) → start_select t ≡ Some q → Back (position.Select select_at.Start) t q
start_select_back t q h =
    let P = position.Select select_at.Start in
    mark_split (λ t. Back P t q) mark.Star t _ _ q h
    (λ e. subst (Back P token.Star) (some_is e) (selected (λ (s : List Token). token.Star ∷ s) what.All (λ s. all)))
    (λ e. word_split (λ t. Back P t q) word.Count t _ _ q e
    (λ f. subst (Back P COUNT) (some_is f) (λ w s r x. x))
    (λ f. word_split (λ t. Back P t q) word.Sum t _ _ q f
    (λ g. subst (Back P SUM) (some_is g) (λ w s r x. x))
    (λ g. mapped (Back P t) go_shown (step_names (names.Want []) t) q g
    (λ m k w s r x. names_selected w (t ∷ s) r (record { names = x.names; behind = x.behind; finds = find_next k x.finds; rest = x.rest })))))

shown_back : (c : Names) (t : Token) (q : Position) → step_select (select_at.Names c) t ≡ Some q → Back (go_shown c) t q
shown_back c t q h =
    word_split (λ t. Back (go_shown c) t q) word.From t _ _ q h
    (λ e. mapped (Back (go_shown c) FROM) (λ xs. position.Select (select_at.From (what.Names xs))) (whole_names c) q e
    (λ xs f w s r x. record { names = xs; behind = FROM ∷ s; finds = find_here c xs (FROM ∷ s) f; rest = x }))
    (λ e. mapped (Back (go_shown c) t) go_shown (step_names c t) q e (λ m f w s r x. record { names = x.names; behind = x.behind; finds = find_next f x.finds; rest = x.rest }))

select_back : (p : Select) (t : Token) (q : Position) → step_select p t ≡ Some q → Back (position.Select p) t q
select_back select_at.Start t q h = start_select_back t q h
select_back (select_at.Names c) t q h = shown_back c t q h
select_back select_at.Count t q h = mark_back (Back (position.Select select_at.Count)) mark.Open t _ q h (λ w s r x. x)
select_back select_at.CountOpen t q h = mark_back (Back (position.Select select_at.CountOpen)) mark.Star t _ q h (λ w s r x. x)
select_back select_at.CountStar t q h =
    mark_back (Back (position.Select select_at.CountStar)) mark.Close t _ q h (selected (λ (s : List Token). COUNT ∷ token.Open ∷ token.Star ∷ token.Close ∷ s) what.Count (λ s. count))
select_back select_at.Sum t q h = mark_back (Back (position.Select select_at.Sum)) mark.Open t _ q h (λ w s r x. x)
select_back select_at.SumOpen t q h = name_back (Back (position.Select select_at.SumOpen)) t _ q h (λ n w s r x. x)
select_back (select_at.SumNamed name) t q h =
    mark_back (Back (position.Select (select_at.SumNamed name))) mark.Close t _ q h
    (selected (λ (s : List Token). SUM ∷ token.Open ∷ token.Name name ∷ token.Close ∷ s) (what.Sum name) (λ s. sum))
select_back (select_at.Shown shown) t q h = word_back (Back (position.Select (select_at.Shown shown))) word.From t _ q h (λ w s r x. x)
select_back (select_at.From shown) t q h =
    name_back (Back (position.Select (select_at.From shown))) t _ q h (λ n w s r x. record { table = n; behind = s; from = refl; rest = x })

-- ---- INSERT

inserted_is : (table : List ℕ) (w : Work) (s r : List Token) → ListRest step_values whole_values (inserted table) (values.Want []) w s r
    → IsWork w (INSERT ∷ INTO ∷ token.Name table ∷ VALUES ∷ token.Open ∷ s) r
inserted_is table w s r x =
    subst (λ w. IsWork w (INSERT ∷ INTO ∷ token.Name table ∷ VALUES ∷ token.Open ∷ s) r) x.is (row_statement (insert (reads_values.sound x.list s (token.Close ∷ r) x.finds)))

values_back : (table : List ℕ) (c : Values) (t : Token) (q : Position) → step_insert (insert_at.Row table c) t ≡ Some q → Back (go_values table c) t q
values_back table c t q h =
    mark_split (λ t. Back (go_values table c) t q) mark.Close t _ _ q h
    (λ e. mapped (Back (go_values table c) token.Close) (λ xs. position.Whole (inserted table xs)) (whole_values c) q e
    (λ xs f w s r x. record { list = xs; finds = subst (λ (k : List Token). Finds step_values whole_values c xs (token.Close ∷ s) (token.Close ∷ k)) x.1 (find_here c xs (token.Close ∷ s) f); is = x.0 }))
    (λ e. mapped (Back (go_values table c) t) (go_values table) (step_values c t) q e (λ m f w s r x. record { list = x.list; finds = find_next f x.finds; is = x.is }))

insert_back : (p : Insert) (t : Token) (q : Position) → step_insert p t ≡ Some q → Back (position.Insert p) t q
insert_back insert_at.Start t q h = word_back (Back (position.Insert insert_at.Start)) word.Into t _ q h (λ w s r x. x)
insert_back insert_at.Into t q h = name_back (Back (position.Insert insert_at.Into)) t _ q h (λ n w s r x. x)
insert_back (insert_at.Named table) t q h = word_back (Back (position.Insert (insert_at.Named table))) word.Values t _ q h (λ w s r x. x)
insert_back (insert_at.Values table) t q h = mark_back (Back (position.Insert (insert_at.Values table))) mark.Open t _ q h (λ w s r x. inserted_is table w s r x)
insert_back (insert_at.Row table c) t q h = values_back table c t q h

-- ---- DELETE and PDRBAL

deleted : (table : List ℕ) (w : Work) (s r : List Token) → FilterRest (filtered.Delete table) w s r → IsWork w (DELETE ∷ FROM ∷ token.Name table ∷ s) r
deleted table w s r x = subst (λ w. IsWork w (DELETE ∷ FROM ∷ token.Name table ∷ s) r) x.is (row_statement (delete x.filter))

delete_back : (p : Delete) (t : Token) (q : Position) → step_delete p t ≡ Some q → Back (position.Delete p) t q
delete_back delete_at.Start t q h = word_back (Back (position.Delete delete_at.Start)) word.From t _ q h (λ w s r x. x)
delete_back delete_at.From t q h = name_back (Back (position.Delete delete_at.From)) t _ q h (λ n w s r x. deleted n w s r x)

options_back : (p : Options) (t : Token) (q : Rebalance) → step_options p t ≡ Some q → Back (position.Rebalance (rebalance_at.Options p)) t (position.Rebalance q)
options_back options_at.Start t q h = mark_back (λ t q. Back (position.Rebalance (rebalance_at.Options options_at.Start)) t (position.Rebalance q)) mark.Minus t _ q h (λ w s r x. x)
options_back options_at.KeepMinus t q h = letter_back (λ t q. Back (position.Rebalance (rebalance_at.Options options_at.KeepMinus)) t (position.Rebalance q)) 107 t _ q h (λ w s r x. x)
options_back options_at.Keep t q h = word_back (λ t q. Back (position.Rebalance (rebalance_at.Options options_at.Keep)) t (position.Rebalance q)) word.Share t _ q h (λ w s r x. x)
options_back options_at.Share t q h = mark_back (λ t q. Back (position.Rebalance (rebalance_at.Options options_at.Share)) t (position.Rebalance q)) mark.Minus t _ q h (λ w s r x. x)
options_back options_at.TableMinus t q h = letter_back (λ t q. Back (position.Rebalance (rebalance_at.Options options_at.TableMinus)) t (position.Rebalance q)) 116 t _ q h (λ w s r x. x)
options_back options_at.Table t q h = name_back (λ t q. Back (position.Rebalance (rebalance_at.Options options_at.Table)) t (position.Rebalance q)) t _ q h (λ n w s r x. x)

limits_back : (table : List ℕ) (l : Limits) (t : Token) (q : Position) → step_limits table l t ≡ Some q → Back (go_limits table l) t q
limits_back table limits_at.Named t q h = mark_back (Back (go_limits table limits_at.Named)) mark.Minus t _ q h (λ w s r x. x)
limits_back table limits_at.RowsMinus t q h = letter_back (Back (go_limits table limits_at.RowsMinus)) 99 t _ q h (λ w s r x. x)
limits_back table limits_at.Rows t q h = number_back (Back (go_limits table limits_at.Rows)) 10000 t _ q h (λ n low high w s r x. x low high)
limits_back table (limits_at.Counted n) t q h = mark_back (Back (go_limits table (limits_at.Counted n))) mark.Minus t _ q h (λ w s r x. x)
limits_back table (limits_at.TurnsMinus n) t q h = letter_back (Back (go_limits table (limits_at.TurnsMinus n))) 110 t _ q h (λ w s r x. x)
limits_back table (limits_at.Turns n) t q h =
    number_back (Back (go_limits table (limits_at.Turns n))) 1000000 t _ q h
    (λ k c d w s r x a b. whole_rest
    (λ (s : List Token). PDRBAL ∷ token.Minus ∷ LETTER_K ∷ SHARE ∷ token.Minus ∷ LETTER_T ∷ token.Name table ∷ token.Minus ∷ LETTER_C ∷ token.Number n ∷ token.Minus ∷ LETTER_N ∷ token.Number k ∷ s)
    (work.Rebalance table n k) (λ s. rebalance a b c d) w s r x)

rebalance_back : (p : Rebalance) (t : Token) (q : Position) → step_rebalance p t ≡ Some q → Back (position.Rebalance p) t q
rebalance_back (rebalance_at.Options o) t q h = mapped (Back (position.Rebalance (rebalance_at.Options o)) t) position.Rebalance (step_options o t) q h (λ m e. options_back o t m e)
rebalance_back (rebalance_at.Limits table l) t q h = limits_back table l t q h

-- ---- the first words

first_back : (v : Word) (q : Position) → first_word v ≡ Some q → Back position.Start (token.Word v) q
first_back word.Create q h = subst (Back position.Start (token.Word word.Create)) (some_is h) (λ w s r x. x)
first_back word.Alter q h = subst (Back position.Start (token.Word word.Alter)) (some_is h) (λ w s r x. x)
first_back word.Lock q h = subst (Back position.Start (token.Word word.Lock)) (some_is h) (λ w s r x. x)
first_back word.Insert q h = subst (Back position.Start (token.Word word.Insert)) (some_is h) (λ w s r x. x)
first_back word.Select q h = subst (Back position.Start (token.Word word.Select)) (some_is h) (λ w s r x. x)
first_back word.Update q h = subst (Back position.Start (token.Word word.Update)) (some_is h) (λ w s r x. x)
first_back word.Delete q h = subst (Back position.Start (token.Word word.Delete)) (some_is h) (λ w s r x. x)
first_back word.Pdrbal q h = subst (Back position.Start (token.Word word.Pdrbal)) (some_is h) (λ w s r x. x)
first_back word.Commit q h =
    subst (Back position.Start (token.Word word.Commit)) (some_is h) (whole_rest (λ (s : List Token). COMMIT ∷ s) (work.Sql statement.Commit) (λ s. row_statement commit))
first_back word.Rollback q h =
    subst (Back position.Start (token.Word word.Rollback)) (some_is h) (whole_rest (λ (s : List Token). ROLLBACK ∷ s) (work.Sql statement.Rollback) (λ s. row_statement rollback))
first_back _ q h = absurd (none_is h)

start_back : (t : Token) (q : Position) → start_work t ≡ Some q → Back position.Start t q
start_back (token.Word v) q h = first_back v q h
start_back token.Bad q h = absurd (none_is h)
start_back _ q h = absurd (none_is h)

create_back : (t : Token) (q : Position) → step_create t ≡ Some q → Back position.Create t q
create_back t q h =
    word_split (λ t. Back position.Create t q) word.Rdarea t _ _ q h
    (λ e. subst (Back position.Create RDAREA) (some_is e) (λ w s r x. x))
    (λ e. word_back (Back position.Create) word.Table t _ q e (λ w s r x. x))

filter_each : (f : Filtered) (w : Work) (r : List Token) → with_pred f None ≡ w → FilterRest f w r r
filter_each f w r h = record { pred = None; filter = each; is = h }

module _ (ex : Reads start_expr step_expr whole_expr in_expr IsExpr) (pr : Reads start_pred step_pred whole_pred in_pred IsPred) where
  filter_where : (f : Filtered) (w : Work) (s r : List Token) → WhereRest f start_pred w s r → FilterRest f w (WHERE ∷ s) r
  filter_where f w s r x = record { pred = Some x.pred; filter = where_pred (pr.sound x.pred s r x.finds); is = x.is }

  updated_is : (table : List ℕ) (w : Work) (s r : List Token) → SetsRest table (sets.Want []) w s r → IsWork w (UPDATE ∷ token.Name table ∷ SET ∷ s) r
  updated_is table w s r x =
      subst (λ w. IsWork w (UPDATE ∷ token.Name table ∷ SET ∷ s) r) x.rest.is (row_statement (update ((reads_sets ex).sound x.sets s x.behind x.finds) x.rest.filter))

  sets_back : (table : List ℕ) (c : Sets) (t : Token) (q : Position) → step_update (update_at.Sets table c) t ≡ Some q → Back (go_sets table c) t q
  sets_back table c t q h =
      word_split (λ t. Back (go_sets table c) t q) word.Where t _ _ q h
      (λ e. mapped (Back (go_sets table c) WHERE) (λ xs. position.Where (filtered.Update table xs) start_pred) (whole_sets c) q e
      (λ xs f w s r x. record { sets = xs; behind = WHERE ∷ s; finds = find_here c xs (WHERE ∷ s) f; rest = filter_where (filtered.Update table xs) w s r x }))
      (λ e. mapped (Back (go_sets table c) t) (go_sets table) (step_sets c t) q e (λ m f w s r x. record { sets = x.sets; behind = x.behind; finds = find_next f x.finds; rest = x.rest }))

  update_back : (p : Update) (t : Token) (q : Position) → step_update p t ≡ Some q → Back (position.Update p) t q
  update_back update_at.Start t q h = name_back (Back (position.Update update_at.Start)) t _ q h (λ n w s r x. x)
  update_back (update_at.Named table) t q h = word_back (Back (position.Update (update_at.Named table))) word.Set t _ q h (λ w s r x. updated_is table w s r x)
  update_back (update_at.Sets table c) t q h = sets_back table c t q h

  back : (p : Position) (t : Token) (q : Position) → step_position p t ≡ Some q → Back p t q
  back position.Start t q h = start_back t q h
  back position.Create t q h = create_back t q h
  back (position.CreateArea p) t q h = create_area_back p t q h
  back (position.CreateTable p) t q h = create_table_back p t q h
  back (position.AddArea p) t q h = add_area_back p t q h
  back (position.LockTable p) t q h = lock_table_back p t q h
  back (position.Insert p) t q h = insert_back p t q h
  back (position.Select p) t q h = select_back p t q h
  back (position.Update p) t q h = update_back p t q h
  back (position.Delete p) t q h = delete_back p t q h
  back (position.Rebalance p) t q h = rebalance_back p t q h
  back (position.Unfiltered f) t q h = word_back (Back (position.Unfiltered f)) word.Where t _ q h (λ w s r x. filter_where f w s r x)
  back (position.Where f c) t q h =
      mapped (Back (position.Where f c) t) (position.Where f) (step_pred c t) q h (λ m e w s r x. record { pred = x.pred; finds = find_next e x.finds; is = x.is })
  back (position.Whole w) t q h = absurd (none_is h)

  updating_base : (p : Update) (w : Work) (r : List Token) → whole_updating p ≡ Some w → Rest (position.Update p) w r r
  updating_base (update_at.Sets table c) w r h =
      mapped (λ w. SetsRest table c w r r) (λ xs. with_pred (filtered.Update table xs) None) (whole_sets c) w h
      (λ xs e. record { sets = xs; behind = r; finds = find_here c xs r e; rest = filter_each (filtered.Update table xs) (with_pred (filtered.Update table xs) None) r refl })
  updating_base _ w r h = absurd (none_is h)

  base : (p : Position) (w : Work) (r : List Token) → whole_position p ≡ Some w → Rest p w r r
  base (position.Whole v) w r h = (some_is h, refl)
  base (position.Unfiltered f) w r h = filter_each f w r (some_is h)
  base (position.Where f c) w r h =
      mapped (λ w. WhereRest f c w r r) (λ pred. with_pred f (Some pred)) (whole_pred c) w h (λ p e. record { pred = p; finds = find_here c p r e; is = refl })
  base (position.Update p) w r h = updating_base p w r h
  base _ w r h = absurd (none_is h)

  -- what is found from a place on is what has to come
  pub rest_found : (p : Position) (w : Work) (s r : List Token) → Finds step_position whole_position p w s r → Rest p w s r
  rest_found p w s r f = back_along (λ p s. Rest p w s r) (λ p t q s h x. back p t q h w s r x) f.leads (base f.last w r f.is)

  pub work_sound : (w : Work) (s r : List Token) → Finds step_position whole_position position.Start w s r → IsWork w s r
  work_sound w s r f = rest_found position.Start w s r f
