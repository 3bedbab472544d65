-- The plan of a statement, part by part.
use Rattle.std.proofs.Common.{◌≡◌, ℕ, ℤ, List, [], ◌∷◌, Option, Some, None, refl, ap, sym, ◌∙◌}
use Rattle.std.specs.Prelude.{MatchOption, Bool, ⊤, ◌++◌, length, map, filter, if◌then◌else◌}
use Rattle.std.specs.Option.{option_or}
use Rattle.hb_types.specs.declared.change.Stored.{Stored}
use Rattle.hb_types.specs.declared.entry.Entry.{Entry}
use Rattle.hb_types.specs.declared.lock.Mode.{Mode}
use Rattle.hb_types.specs.declared.lock.Mode.TheVariants as mode
use Rattle.hb_types.specs.declared.places.Path.TheVariants as path
use Rattle.hb_types.specs.declared.value.Value.{Value}
use Rattle.hb_types.specs.Groups.{group_of, route, target}
use Rattle.hb_model.specs.declared.reply.Reply.{Reply}
use Rattle.hb_model.specs.declared.reply.Reply.TheVariants as reply
use Rattle.hb_model.specs.declared.condition.Pred.{Pred}
use Rattle.hb_model.specs.declared.statement.Set.{Set}
use Rattle.hb_model.specs.declared.statement.What.{What}
use Rattle.hb_model.specs.declared.statement.What.TheVariants as what
use Rattle.hb_model.specs.declared.table.Table.{Table}
use Rattle.hb_model.specs.Refusals.{first_refusal, insert_refusals, select_refusals, update_refusals}
use Rattle.hb_model.specs.Rows.{key_of, point, chosen, chooses, shown, assigned, assigning_refusal, first_some}
use Rattle.hb_model.specs.Spots.{ds, tables_space, entries_space, dictionary_space, place_in}
use Rattle.hb_model.specs.Told.{Found, table_among}
use Rattle.hb_talk.specs.Talk.{Use, Planning, ◌>>=◌, ◌>>◌, pure, refused, refuse, lock, scan, scan_group}
use Rattle.hb_talk.specs.Plans.{with_lying, lying_rows, removing, putting, writes, table_of, considered, point_rows, all_rows, entry_under, some_or, walking, locking, areas_of_routes, names}
use Rattle.hb_access.specs.declared.goal.Got.{Got}
use Rattle.hb_access.specs.declared.goal.Got.TheVariants as got
use Rattle.hb_access.specs.Accesses.{locked}
use Rattle.hb_access.proofs.Bridges.{reads_space}
use Rattle.hb_access.proofs.Sequences.{plans_assoc, then_same}
use Rattle.hb_round.specs.Onward.{onward}
use Rattle.hb_round.proofs.Onwards.{plan_on}
use Rattle.hb_reading.specs.declared.aim.Aim.TheVariants as aim
use Rattle.hb_reading.specs.declared.reading.Brought.{Brought}
use Rattle.hb_reading.specs.Aims.{reading, without_entry, with_entry}
use Rattle.hb_endings.specs.Endings.{End, answer, changing, ending_talk, unless, select_end, delete_end, update_end, insert_end}
use Rattle.hb_planquery.specs.declared.query.Query.{Query}
use Rattle.hb_planquery.specs.declared.query.Query.TheVariants as query
use Rattle.hb_planquery.specs.Queries.{plan_of, early, aim_at, considered_aim, lock_aim, end_at, ending_at, read_and_end, on_found, behind_names, names_goal}
use Rattle.hb_planquery.proofs.Bare.{bare_among, bare_is}

-- a refusal, or the rest
refusing : (q : Query) (f : Found) (o : Option Reply) (R : Planning Reply) (v : Use)
    → R v ≡ (reading f.0 (aim_at q f.1) >>= ending_at q f) v → (refuse o >> R) v ≡ read_and_end q f o v
unfolding read_and_end
refusing q f None R v h = h
refusing q f (Some r) R v h = refl

ends_refused : (o : Option Reply) (e : End) (R : Planning Reply) (v : Use) → R v ≡ ending_talk e v → (refuse o >> R) v ≡ ending_talk (unless o e) v
ends_refused None e R v h = h
ends_refused (Some r) e R v h = refl

-- what is read, and what follows it
goes_in : {A : Type 0} (P : Planning A) (T : A → Planning Reply) (B : A → Planning Brought) (E : Brought → Planning Reply)
    → ((a : A) (v : Use) → T a v ≡ (B a >>= E) v) → (u : Use) → (P >>= T) u ≡ ((P >>= B) >>= E) u
goes_in P T B E h u = then_same P T (λ a. B a >>= E) h u ∙ sym (plans_assoc P B E u)

considers : (m : Mode) (f : Found) (p : Option ℤ) (T : List Stored → Planning Reply) (E : Brought → Planning Reply)
    → ((rows : List Stored) (v : Use) → T rows v ≡ (without_entry rows >>= E) v) → (u : Use)
    → (considered m f p >>= T) u ≡ (reading f.0 (considered_aim m p) >>= E) u
considers m f (Some key) T E h u = goes_in (point_rows m f.0 key) T without_entry E h u
considers m f None T E h u = goes_in (all_rows m f.0) T without_entry E h u

by_entry : (n : ℕ) (key : ℤ) (T : Entry → List Stored → Planning Reply) (E : Brought → Planning Reply)
    → ((e : Entry) (rows : List Stored) (v : Use) → T e rows v ≡ (with_entry e rows >>= E) v) → (o : Option Entry) (u : Use)
    → (some_or reply.NoArea o >>= (λ e. walking mode.X n key (route e) [] >>= T e)) u
    ≡ ((some_or reply.NoArea o >>= (λ e. walking mode.X n key (route e) [] >>= with_entry e)) >>= E) u
by_entry n key T E h None u = refl
by_entry n key T E h (Some e) u = goes_in (walking mode.X n key (route e) []) (T e) (with_entry e) E (h e) u

-- ---- what follows the rows

abbrev select_rest : What → Option Pred → Found → List Stored → Planning Reply
select_rest w pred f rows =
    let t = with_lying f.1 (lying_rows rows) in
    refuse (first_refusal (select_refusals t w pred)) >> pure (reply.Rows (shown t w (chosen t pred)))

abbrev delete_rest : Option Pred → Found → List Stored → Planning Reply
delete_rest pred f rows =
    let t = with_lying f.1 (lying_rows rows) in
    refuse (first_refusal (select_refusals t what.All pred))
    >> (writes (map (λ l. removing l.0) (filter (λ l. chooses t pred l.1) (lying_rows rows))) >> pure (reply.Deleted (length (chosen t pred))))

abbrev update_rest : List Set → Option Pred → Found → List Stored → Planning Reply
update_rest sets pred f rows =
    let t = with_lying f.1 (lying_rows rows) in
    refuse (option_or (first_refusal (update_refusals t sets pred)) (first_some (assigning_refusal t sets) (chosen t pred)))
    >> (writes (map (λ l. putting l.0 (assigned t sets l.1)) (filter (λ l. chooses t pred l.1) (lying_rows rows))) >> pure (reply.Updated (length (chosen t pred))))

abbrev insert_rest : List Value → Found → Entry → List Stored → Planning Reply
insert_rest values f e rows =
    refuse (first_refusal (insert_refusals (with_lying f.1 (lying_rows rows)) values))
    >> (writes (putting (place_in (target e) f.0 (key_of f.1 values)) values ∷ []) >> pure reply.Inserted)

select_ends : (w : What) (pred : Option Pred) (f : Found) (rows : List Stored) (v : Use)
    → select_rest w pred f rows v ≡ ending_talk (select_end f.1 w pred rows) v
select_ends w pred f rows v =
    let t : Table = with_lying f.1 (lying_rows rows) in
    ends_refused (first_refusal (select_refusals t w pred)) (answer (reply.Rows (shown t w (chosen t pred)))) (pure (reply.Rows (shown t w (chosen t pred)))) v refl

delete_ends : (pred : Option Pred) (f : Found) (rows : List Stored) (v : Use) → delete_rest pred f rows v ≡ ending_talk (delete_end f.1 pred rows) v
delete_ends pred f rows v =
    let t : Table = with_lying f.1 (lying_rows rows) in
    let e : End = changing (map (λ l. removing l.0) (filter (λ l. chooses t pred l.1) (lying_rows rows))) (reply.Deleted (length (chosen t pred))) in
    ends_refused (first_refusal (select_refusals t what.All pred)) e (ending_talk e) v refl

update_ends : (sets : List Set) (pred : Option Pred) (f : Found) (rows : List Stored) (v : Use)
    → update_rest sets pred f rows v ≡ ending_talk (update_end f.1 sets pred rows) v
update_ends sets pred f rows v =
    let t : Table = with_lying f.1 (lying_rows rows) in
    let e : End = changing (map (λ l. putting l.0 (assigned t sets l.1)) (filter (λ l. chooses t pred l.1) (lying_rows rows))) (reply.Updated (length (chosen t pred))) in
    ends_refused (option_or (first_refusal (update_refusals t sets pred)) (first_some (assigning_refusal t sets) (chosen t pred))) e (ending_talk e) v refl

insert_ends : (values : List Value) (f : Found) (e : Entry) (rows : List Stored) (v : Use) → insert_rest values f e rows v ≡ ending_talk (insert_end f values e rows) v
insert_ends values f e rows v =
    let x : End = changing (putting (place_in (target e) f.0 (key_of f.1 values)) values ∷ []) reply.Inserted in
    ends_refused (first_refusal (insert_refusals (with_lying f.1 (lying_rows rows)) values)) x (ending_talk x) v refl

-- ---- what follows the table

abbrev rest : Query → Found → Planning Reply
rest (query.Insert values) f =
    refuse (first_refusal (insert_refusals f.1 values))
    >> (entry_under mode.S f.0 (group_of (key_of f.1 values)) >>= (λ entry. some_or reply.NoArea entry
    >>= (λ e. walking mode.X f.0 (key_of f.1 values) (route e) [] >>= insert_rest values f e)))
rest (query.Select w pred) f = refuse (first_refusal (select_refusals f.1 w pred)) >> (considered mode.S f (point f.1 pred) >>= select_rest w pred f)
rest (query.Update sets pred) f = refuse (first_refusal (update_refusals f.1 sets pred)) >> (considered mode.X f (point f.1 pred) >>= update_rest sets pred f)
rest (query.Delete pred) f = refuse (first_refusal (select_refusals f.1 what.All pred)) >> (considered mode.X f (point f.1 pred) >>= delete_rest pred f)
rest (query.Lock exclusive) f =
    lock ds (path.Group (dictionary_space entries_space) f.0) mode.S
    >> (scan_group ds (dictionary_space entries_space) f.0 >>= (λ entries.
    locking (if exclusive then mode.X else mode.S) f.0 (areas_of_routes entries) >> pure reply.Locked))

in_words : (name : List ℕ) (q : Query) (u : Use) → plan_of name q u ≡ (table_of name >>= rest q) u
in_words name (query.Insert values) u = refl
in_words name (query.Select w pred) u = refl
in_words name (query.Update sets pred) u = refl
in_words name (query.Delete pred) u = refl
in_words name (query.Lock exclusive) u = refl

locks_follow : (f : Found) (m : Mode) (v : Use) (E : Brought → Planning Reply) → ((w : Use) → pure reply.Locked w ≡ (without_entry [] >>= E) w)
    → (lock ds (path.Group (dictionary_space entries_space) f.0) mode.S >> (scan_group ds (dictionary_space entries_space) f.0 >>= (λ entries.
    locking m f.0 (areas_of_routes entries) >> pure reply.Locked))) v
    ≡ (reading f.0 (aim.Locks m) >>= E) v
locks_follow f m v E h =
    let p : Planning (Unit {0}) = lock ds (path.Group (dictionary_space entries_space) f.0) mode.S in
    let q : Planning (List Stored) = scan_group ds (dictionary_space entries_space) f.0 in
    let S : List Stored → Planning Brought = λ es. locking m f.0 (areas_of_routes es) >> without_entry [] in
    goes_in p (λ _. q >>= (λ es. locking m f.0 (areas_of_routes es) >> pure reply.Locked)) (λ _. q >>= S) E
    (λ _ w. goes_in q (λ es. locking m f.0 (areas_of_routes es) >> pure reply.Locked) S E
    (λ es x. goes_in (locking m f.0 (areas_of_routes es)) (λ _. pure reply.Locked) (λ _. without_entry []) E (λ _ y. h y) x) w) v

-- with no rows in the table, its early refusals are those of its columns
rest_is : (q : Query) (f : Found) → f.1 ≡ with_lying f.1 [] → (v : Use) → rest q f v ≡ on_found q (Some f) v
unfolding on_found read_and_end ending_at
rest_is (query.Insert values) f bare v =
    refusing (query.Insert values) f (first_refusal (insert_refusals f.1 values)) (entry_under mode.S f.0 (group_of (key_of f.1 values)) >>= (λ entry. some_or reply.NoArea entry
    >>= (λ e. walking mode.X f.0 (key_of f.1 values) (route e) [] >>= insert_rest values f e))) v
    (goes_in (entry_under mode.S f.0 (group_of (key_of f.1 values)))
    (λ entry. some_or reply.NoArea entry >>= (λ e. walking mode.X f.0 (key_of f.1 values) (route e) [] >>= insert_rest values f e))
    (λ entry. some_or reply.NoArea entry >>= (λ e. walking mode.X f.0 (key_of f.1 values) (route e) [] >>= with_entry e)) (ending_at (query.Insert values) f)
    (λ o w. by_entry f.0 (key_of f.1 values) (insert_rest values f) (ending_at (query.Insert values) f) (λ e rows x. insert_ends values f e rows x) o w) v)
rest_is (query.Select w pred) f bare v =
    ap (λ t. (refuse (first_refusal (select_refusals t w pred)) >> (considered mode.S f (point f.1 pred) >>= select_rest w pred f)) v) bare
    ∙ refusing (query.Select w pred) f (early (query.Select w pred) f.1) (considered mode.S f (point f.1 pred) >>= select_rest w pred f) v
    (considers mode.S f (point f.1 pred) (select_rest w pred f) (ending_at (query.Select w pred) f) (λ rows x. select_ends w pred f rows x) v)
rest_is (query.Update sets pred) f bare v =
    ap (λ t. (refuse (first_refusal (update_refusals t sets pred)) >> (considered mode.X f (point f.1 pred) >>= update_rest sets pred f)) v) bare
    ∙ refusing (query.Update sets pred) f (early (query.Update sets pred) f.1) (considered mode.X f (point f.1 pred) >>= update_rest sets pred f) v
    (considers mode.X f (point f.1 pred) (update_rest sets pred f) (ending_at (query.Update sets pred) f) (λ rows x. update_ends sets pred f rows x) v)
rest_is (query.Delete pred) f bare v =
    ap (λ t. (refuse (first_refusal (select_refusals t what.All pred)) >> (considered mode.X f (point f.1 pred) >>= delete_rest pred f)) v) bare
    ∙ refusing (query.Delete pred) f (early (query.Delete pred) f.1) (considered mode.X f (point f.1 pred) >>= delete_rest pred f) v
    (considers mode.X f (point f.1 pred) (delete_rest pred f) (ending_at (query.Delete pred) f) (λ rows x. delete_ends pred f rows x) v)
rest_is (query.Lock exclusive) f bare v =
    locks_follow f (if exclusive then mode.X else mode.S) v (ending_at (query.Lock exclusive) f) (λ w. refl)

by_found : (q : Query) (o : Option Found) (v : Use) → MatchOption o ⊤ (λ f. f.1.rows ≡ []) → (some_or reply.NoTable o >>= rest q) v ≡ on_found q o v
unfolding on_found
by_found q None v bare = refl
by_found q (Some f) v bare = rest_is q f (bare_is f.1 bare) v

pub plans : (name : List ℕ) (q : Query) (u : Use) → plan_of name q u ≡ onward (behind_names name q) (locked names_goal u)
unfolding behind_names
plans name q u =
    let s = λ (rows : List Stored). some_or reply.NoTable (table_among rows name) in
    in_words name q u
    ∙ plans_assoc names s (rest q) u
    ∙ plans_assoc (lock ds (path.Whole (dictionary_space tables_space)) mode.S) (λ _. scan ds (dictionary_space tables_space)) (λ rows. s rows >>= rest q) u
    ∙ reads_space (record { 0 = ds }) (dictionary_space tables_space) mode.S (λ rows. s rows >>= rest q) (behind_names name q)
    (λ rows v. by_found q (table_among rows name) v (bare_among rows name)) u
    ∙ plan_on (locked names_goal) (behind_names name q) u
