-- The rows of each plan come from its answers.
use Rattle.std.proofs.Common.{◌≡◌, ℕ, ℤ, List, [], ◌∷◌, length, map, filter, Option, Some, None, Bool, true, false, not, refl, subst}
use Rattle.std.specs.Prelude.{if◌then◌else◌}
use Rattle.std.specs.List.{list_any, zip}
use Rattle.std.specs.Ordering.{int_eq}
use Rattle.std.specs.Option.{option_or}
use Rattle.hb_types.specs.declared.change.Stored.{Stored}
use Rattle.hb_types.specs.declared.entry.Entry.{Entry}
use Rattle.hb_types.specs.declared.lock.Mode.{Mode}
use Rattle.hb_types.specs.declared.lock.Mode.TheVariants as mode
use Rattle.hb_types.specs.declared.places.Path.TheVariants as path
use Rattle.hb_types.specs.declared.trail.Call.{Call}
use Rattle.hb_types.specs.declared.value.Value.{Value}
use Rattle.hb_types.specs.Groups.{group_of, route, target}
use Rattle.hb_types.specs.Lists.{Each, EachBehind}
use Rattle.hb_types.specs.Places.{node_of_area}
use Rattle.hb_types.specs.Rows.{row_bytes, values_in}
use Rattle.hb_types.proofs.Ascending.{Each-in, Each-of, Has-of}
use Rattle.hb_model.specs.declared.condition.Pred.{Pred}
use Rattle.hb_model.specs.declared.reply.Reply.{Reply}
use Rattle.hb_model.specs.declared.reply.Reply.TheVariants as reply
use Rattle.hb_model.specs.declared.statement.Set.{Set}
use Rattle.hb_model.specs.declared.statement.Statement.{Statement}
use Rattle.hb_model.specs.declared.statement.Statement.TheVariants as statement
use Rattle.hb_model.specs.declared.statement.What.{What}
use Rattle.hb_model.specs.declared.statement.What.TheVariants as what
use Rattle.hb_model.specs.declared.table.Table.{Table}
use Rattle.hb_model.specs.Answers.{given}
use Rattle.hb_model.specs.Asked.{AreWhereAsked}
use Rattle.hb_model.specs.Refusals.{first_refusal, insert_refusals, is_outside, select_refusals, update_refusals, values_typed}
use Rattle.hb_model.specs.Rows.{assigned, assigning_refusal, chosen, chooses, first_some, is_long, key_of, point, shown}
use Rattle.hb_model.specs.Sources.{IsUsers, WriteMade}
use Rattle.hb_model.specs.Spots.{ds, dictionary_space, entries_space, place_in, space_in}
use Rattle.hb_model.specs.Told.{Found}
use Rattle.hb_model.proofs.ValuesBack.{values_back, values_inside}
use Rattle.hb_talk.specs.Plans.{Lying, areas_of_routes, delete_plan, entry_under, insert_plan, lock_plan, locking, lying_rows, putting, removing, select_plan, some_or, table_of, update_plan, walking, with_lying, writes}
use Rattle.hb_talk.specs.PlansDefine.{plan}
use Rattle.hb_talk.specs.Talk.{Begins, Use, Planning, ◌>>=◌, ◌>>◌, lock, pure, refuse, scan_group}
use Rattle.hb_planlocks.proofs.Course.{Bearing, MayWrite, bearing_bind, bears_lock, bears_some_or}
use Rattle.hb_plansources.specs.Sourcing.{PlanIsSourced}
use Rattle.hb_plansources.proofs.Defines.{add_area_bears, create_area_bears, create_table_bears, ends_bear, refuses_freely, then_bears, unrefused_bears}
use Rattle.hb_plansources.proofs.Gathers.{Gathered, entries_bear, entry_bears, rows_bear, table_bears, walking_bears}
use Rattle.hb_plansources.proofs.Inside.{assigned_inside}
use Rattle.hb_plansources.proofs.Lying.{Lies, each_filtered, each_mapped, rows_lie}
use Rattle.hb_plansources.proofs.Rules.{Refusing, Shows, by_course, by_front, is_rows, sources}
use Rattle.hb_plansources.proofs.Shows.{IsAnswered, shows_answered}

-- ---- SELECT

-- its refusals show no rows
refusal_bare : (a b c : Bool) (r : Reply) → first_refusal ((a, reply.NoColumn) ∷ (b, reply.WrongType) ∷ (c, reply.Overflow) ∷ []) ≡ Some r → is_rows r ≡ false
refusal_bare true b c r e = let same : reply.NoColumn ≡ r = cc in subst (λ x. is_rows x ≡ false) same refl
refusal_bare false true c r e = let same : reply.WrongType ≡ r = cc in subst (λ x. is_rows x ≡ false) same refl
refusal_bare false false true r e = let same : reply.Overflow ≡ r = cc in subst (λ x. is_rows x ≡ false) same refl
refusal_bare false false false r e = cc

-- the values of the rows that are considered
answered_rows : (g rows : List Stored) → Gathered g rows → Each (IsAnswered g) (map (λ (l : Lying). l.1) (lying_rows rows))
answered_rows g rows e =
    each_mapped (IsAnswered g) (λ (l : Lying). l.1) (lying_rows rows)
    (Each-of (Lies g) (λ l. IsAnswered g l.1) (lying_rows rows)
    (λ l h. Has-of (λ r. IsUsers r × (r.place ≡ l.0) × (values_in r.row ≡ Some l.1)) (λ r. IsUsers r × (values_in r.row ≡ Some l.1)) g (λ r k. (k.0, k.2)) h) (rows_lie g rows e))

select_bears : (w : What) (name : List ℕ) (pred : Option Pred) (u : Use) → let st = statement.Select w name pred in Bearing (sources st) (select_plan name w pred) u [] (Shows st)
select_bears w name pred u =
    let st = statement.Select w name pred in
    let static : Table → Option Reply = λ t. first_refusal (select_refusals t w pred) in
    let read : Table → List Stored → Table = λ t rows. with_lying t (lying_rows rows) in
    let answer : Table → Reply = λ t. reply.Rows (shown t w (chosen t pred)) in
    rows_bear st mode.S (λ t. point t pred) static (λ t rows. refuse (static (read t rows)) >> pure (answer (read t rows))) name u (Shows st) (bare st)
    (λ t rows v h gathered. then_bears st (static (read t rows)) (pure (answer (read t rows))) v h (Shows st) (bare st (read t rows))
    (λ x. shows_answered h (read t rows) w (chosen (read t rows) pred) (each_filtered (IsAnswered h) (chooses (read t rows) pred) (read t rows).rows (answered_rows h rows gathered))))
  where
    bare : (st : Statement) (t : Table) (r : Reply) → first_refusal (select_refusals t w pred) ≡ Some r → Refusing st r
    bare st t r e s = refusal_bare _ _ _ r e

-- ---- UPDATE

update_writes : (name : List ℕ) (sets : List Set) (pred : Option Pred) (t : Table) (g : List Stored) (ls : List Lying) → Each (Lies g) ls
    → Each (MayWrite (sources (statement.Update name sets pred)) g) (map (λ (l : Lying). putting l.0 (assigned t sets l.1)) ls)
update_writes name sets pred t g ls e =
    each_mapped (MayWrite (sources (statement.Update name sets pred)) g) (λ (l : Lying). putting l.0 (assigned t sets l.1)) ls
    (Each-of (Lies g) (λ l. MayWrite (sources (statement.Update name sets pred)) g (putting l.0 (assigned t sets l.1))) ls
    (λ l h tx users. Has-of (λ r. IsUsers r × (r.place ≡ l.0) × (values_in r.row ≡ Some l.1))
    (λ r. (x : Table) × (old : List Value) × (r.place ≡ l.0) × (values_in r.row ≡ Some old) × (values_in (row_bytes (assigned t sets l.1)) ≡ Some (assigned x sets old))) g
    (λ r k. (t, l.1, k.1, k.2, values_back (assigned t sets l.1) (assigned_inside t sets l.1 (values_inside r.row l.1 k.2)))) h) e)

update_bears : (name : List ℕ) (sets : List Set) (pred : Option Pred) (u : Use) → let st = statement.Update name sets pred in Bearing (sources st) (update_plan name sets pred) u [] (Shows st)
update_bears name sets pred u =
    let st = statement.Update name sets pred in
    let static : Table → Option Reply = λ t. first_refusal (update_refusals t sets pred) in
    let late : Table → Option Reply = λ t. option_or (static t) (first_some (assigning_refusal t sets) (chosen t pred)) in
    let read : Table → List Stored → Table = λ t rows. with_lying t (lying_rows rows) in
    let picked : Table → List Stored → List Lying = λ t rows. filter (λ l. chooses (read t rows) pred l.1) (lying_rows rows) in
    let ending : Table → List Stored → Planning Reply = λ t rows. writes (map (λ l. putting l.0 (assigned (read t rows) sets l.1)) (picked t rows)) >> pure (reply.Updated (length (chosen (read t rows) pred))) in
    rows_bear st mode.X (λ t. point t pred) static (λ t rows. refuse (late (read t rows)) >> ending t rows) name u (Shows st) (λ t. refuses_freely st refl (static t))
    (λ t rows v h gathered. then_bears st (late (read t rows)) (ending t rows) v h (Shows st) (refuses_freely st refl (late (read t rows)))
    (λ x. ends_bear st (map (λ l. putting l.0 (assigned (read t rows) sets l.1)) (picked t rows)) (reply.Updated (length (chosen (read t rows) pred))) x h
    (update_writes name sets pred (read t rows) h (picked t rows) (each_filtered (Lies h) (λ l. chooses (read t rows) pred l.1) (lying_rows rows) (rows_lie h rows gathered))) tt))

-- ---- DELETE

removals : (st : Statement) (g : List Stored) (ls : List Lying) → Each (MayWrite (sources st) g) (map (λ (l : Lying). removing l.0) ls)
removals st g ls = each_mapped (MayWrite (sources st) g) (λ (l : Lying). removing l.0) ls (Each-in (λ (l : Lying). MayWrite (sources st) g (removing l.0)) ls (λ l i tx. tt))

delete_bears : (name : List ℕ) (pred : Option Pred) (u : Use) → let st = statement.Delete name pred in Bearing (sources st) (delete_plan name pred) u [] (Shows st)
delete_bears name pred u =
    let st = statement.Delete name pred in
    let static : Table → Option Reply = λ t. first_refusal (select_refusals t what.All pred) in
    let read : Table → List Stored → Table = λ t rows. with_lying t (lying_rows rows) in
    let picked : Table → List Stored → List Lying = λ t rows. filter (λ l. chooses (read t rows) pred l.1) (lying_rows rows) in
    let ending : Table → List Stored → Planning Reply = λ t rows. writes (map (λ l. removing l.0) (picked t rows)) >> pure (reply.Deleted (length (chosen (read t rows) pred))) in
    rows_bear st mode.X (λ t. point t pred) static (λ t rows. refuse (static (read t rows)) >> ending t rows) name u (Shows st) (λ t. refuses_freely st refl (static t))
    (λ t rows v h gathered. then_bears st (static (read t rows)) (ending t rows) v h (Shows st) (refuses_freely st refl (static (read t rows)))
    (λ x. ends_bear st (map (λ l. removing l.0) (picked t rows)) (reply.Deleted (length (chosen (read t rows) pred))) x h (removals st h (picked t rows)) tt))

-- ---- INSERT

second_passed : (a b : Bool) (p q : Reply) (more : List (Bool × Reply)) → first_refusal ((a, p) ∷ (b, q) ∷ more) ≡ None → b ≡ false
second_passed true b p q more e = absurd cc
second_passed false true p q more e = absurd cc
second_passed false false p q more e = refl

accepted_inside : (t : Table) (values : List Value) → first_refusal (insert_refusals t values) ≡ None → list_any is_outside values ≡ false
accepted_inside t values e =
    second_passed (not (values_typed t values)) (list_any is_outside values) reply.WrongType reply.Overflow
    ((list_any (λ p. is_long p.0.size p.1) (zip t.columns values), reply.TooLong) ∷ (list_any (λ row. int_eq (key_of t row) (key_of t values)) t.rows, reply.KeyTaken) ∷ []) e

insert_bears : (name : List ℕ) (values : List Value) (u : Use) → let st = statement.Insert name values in Bearing (sources st) (insert_plan name values) u [] (Shows st)
insert_bears name values u =
    let st = statement.Insert name values in
    let static : Table → Option Reply = λ t. first_refusal (insert_refusals t values) in
    let key : Found → ℤ = λ f. key_of f.1 values in
    let late : Found → List Stored → Option Reply = λ f rows. static (with_lying f.1 (lying_rows rows)) in
    let ending : Found → Entry → Planning Reply = λ f e. writes (putting (place_in (target e) f.0 (key f)) values ∷ []) >> pure reply.Inserted in
    let answering : Found → Entry → List Stored → Planning Reply = λ f e rows. refuse (late f rows) >> ending f e in
    let routed : Found → Entry → Planning Reply = λ f e. walking mode.X f.0 (key f) (route e) [] >>= answering f e in
    let entered : Found → Option Entry → Planning Reply = λ f o. some_or reply.NoArea o >>= routed f in
    let named : Found → Planning Reply = λ f. refuse (static f.1) >> (entry_under mode.S f.0 (group_of (key f)) >>= entered f) in
    bearing_bind (sources st) (table_of name) named u [] (Shows st)
    (table_bears st name u (λ h f. (v : Use) → Bearing (sources st) (named f) v h (Shows st))
    (λ g f v. then_bears st (static f.1) (entry_under mode.S f.0 (group_of (key f)) >>= entered f) v g (Shows st) (refuses_freely st refl (static f.1))
    (λ w. bearing_bind (sources st) (entry_under mode.S f.0 (group_of (key f))) (entered f) w g (Shows st)
    (entry_bears st f.0 (group_of (key f)) w g (λ h o. (x : Use) → Bearing (sources st) (entered f o) x h (Shows st))
    (λ h o told x. bearing_bind (sources st) (some_or reply.NoArea o) (routed f) x h (Shows st)
    (bears_some_or (sources st) reply.NoArea o x h (λ k e. (y : Use) → Bearing (sources st) (routed f e) y k (Shows st)) (λ s. refl)
    (λ e there y. bearing_bind (sources st) (walking mode.X f.0 (key f) (route e) []) (answering f e) y h (Shows st)
    (walking_bears st mode.X f.0 (key f) (route e) [] y h (λ k rows. (z : Use) → Bearing (sources st) (answering f e rows) z k (Shows st)) (told e there) tt
    (λ k rows gathered z. unrefused_bears st (late f rows) (ending f e) z k (Shows st) (refuses_freely st refl (late f rows))
    (λ free o. ends_bear st (putting (place_in (target e) f.0 (key f)) values ∷ []) reply.Inserted o k
    ((λ tx users. values_back values (accepted_inside (with_lying f.1 (lying_rows rows)) values free)), tt) tt))))))))))

-- ---- LOCK TABLE

locking_bears : (st : Statement) (m : Mode) (table : ℕ) (areas : List ℕ) (u : Use) (g : List Stored) (Q : List Stored → Unit {0} → Type 0) → Q g tt → Bearing (sources st) (locking m table areas) u g Q
locking_bears st m table [] u g Q q = q
locking_bears st m table (a ∷ more) u g Q q =
    bearing_bind (sources st) (lock (node_of_area a) (path.Whole (space_in a table)) m) (λ _. locking m table more) u g Q
    (bears_lock (sources st) (node_of_area a) (path.Whole (space_in a table)) m u g (λ h x. (v : Use) → Bearing (sources st) (locking m table more) v h Q) (λ tx. tt)
    (λ v. locking_bears st m table more v g Q q))

lock_bears : (name : List ℕ) (exclusive : Bool) (u : Use) → let st = statement.LockTable name exclusive in Bearing (sources st) (lock_plan name exclusive) u [] (Shows st)
lock_bears name exclusive u =
    let st = statement.LockTable name exclusive in
    let m : Mode = if exclusive then mode.X else mode.S in
    let sp = dictionary_space entries_space in
    let locked : Found → List Stored → Planning Reply = λ f entries. locking m f.0 (areas_of_routes entries) >> pure reply.Locked in
    let named : Found → Planning Reply = λ f. lock ds (path.Group sp f.0) mode.S >> (scan_group ds sp f.0 >>= locked f) in
    bearing_bind (sources st) (table_of name) named u [] (Shows st)
    (table_bears st name u (λ h f. (v : Use) → Bearing (sources st) (named f) v h (Shows st))
    (λ g f v. entries_bear st f.0 (locked f) v g (Shows st)
    (λ h rows all w. bearing_bind (sources st) (locking m f.0 (areas_of_routes rows)) (λ _. pure reply.Locked) w h (Shows st)
    (locking_bears st m f.0 (areas_of_routes rows) w h (λ k a. (z : Use) → Bearing (sources st) (pure reply.Locked) z k (Shows st)) (λ z. tt)))))

-- ---- all

plan_bears : (back_ends : ℕ) (st : Statement) (u : Use) → Bearing (sources st) (plan back_ends st) u [] (Shows st)
unfolding plan
plan_bears back_ends (statement.CreateArea name node) u = create_area_bears back_ends name node u
plan_bears back_ends (statement.CreateTable name columns key areas) u = create_table_bears name columns key areas u
plan_bears back_ends (statement.AddArea table area) u = add_area_bears table area u
plan_bears back_ends (statement.Insert table values) u = insert_bears table values u
plan_bears back_ends (statement.Select w table pred) u = select_bears w table pred u
plan_bears back_ends (statement.Update table sets pred) u = update_bears table sets pred u
plan_bears back_ends (statement.Delete table pred) u = delete_bears table pred u
plan_bears back_ends (statement.LockTable table exclusive) u = lock_bears table exclusive u
plan_bears back_ends statement.Commit u = tt
plan_bears back_ends statement.Rollback u = tt

pub plan_is_sourced : (st : Statement) → PlanIsSourced st
plan_is_sourced st back_ends u v calls r follows asked = by_course st (plan back_ends st) u v calls r follows asked (plan_bears back_ends st u)

pub plan_written_begun : (back_ends : ℕ) (st : Statement) (u : Use) (calls : List Call) → Begins (plan back_ends st u) calls → AreWhereAsked calls
    → EachBehind (λ before c. WriteMade st (given before) c.request) [] calls
plan_written_begun back_ends st u calls begins asked = by_front st (plan back_ends st) u calls begins asked (plan_bears back_ends st u)
