-- The plans of CREATE RDAREA, CREATE TABLE and ADD RDAREA ask for locks of the table of locks.
use Rattle.std.proofs.Common.{◌≡◌, inl, inr, ℕ, suc, ◌+◌, List, [], ◌∷◌, ◌++◌, length, map, filter, Option, Some, Bool, true, false, refl, subst, sym, ap, ◌∙◌}
use Rattle.std.specs.Prelude.{⊤, MatchOption, take, filter_map}
use Rattle.hb_types.specs.declared.change.Change.{Change}
use Rattle.hb_types.specs.declared.change.Stored.{Stored}
use Rattle.hb_types.specs.declared.lock.Mode.{Mode}
use Rattle.hb_types.specs.declared.lock.Mode.TheVariants as mode
use Rattle.hb_types.specs.declared.places.Path.TheVariants as path
use Rattle.hb_types.specs.declared.places.Space.{Space}
use Rattle.hb_types.specs.declared.trail.Call.{Call}
use Rattle.hb_types.specs.declared.value.Column.{Column}
use Rattle.hb_types.specs.Groups.{reassign}
use Rattle.hb_types.specs.Lists.{Each}
use Rattle.hb_types.specs.Places.{same_space}
use Rattle.hb_types.proofs.SamePlace.{same_space-eq}
use Rattle.hb_model.specs.declared.reply.Reply.{Reply}
use Rattle.hb_model.specs.declared.reply.Reply.TheVariants as reply
use Rattle.hb_model.specs.declared.statement.Statement.{Statement}
use Rattle.hb_model.specs.declared.statement.Statement.TheVariants as statement
use Rattle.hb_model.specs.Answers.{given}
use Rattle.hb_model.specs.Define.{add_area_refusals, create_area_refusals, create_table_refusals, new_area, new_spread, new_table}
use Rattle.hb_model.specs.Dictionary.{area_row, at_place, member_row}
use Rattle.hb_model.specs.Locking.{MayLock, SpreadLock, next_told, rows_of_space, table_told}
use Rattle.hb_model.specs.Names.{back_end_named}
use Rattle.hb_model.specs.Needs.{Need, on_group, on_space}
use Rattle.hb_model.specs.Refusals.{first_refusal}
use Rattle.hb_model.specs.Spots.{ds, areas_space, dictionary_space, entries_space, members_space, tables_space}
use Rattle.hb_model.specs.State.{Area, State, Spread, area_named, nothing}
use Rattle.hb_model.specs.Told.{Found, found_in, table_among}
use Rattle.hb_talk.specs.Plans.{names, some_or, table_of, writes}
use Rattle.hb_talk.specs.PlansDefine.{add_area_plan, areas, changed_rows, create_area_plan, create_table_plan, lock_group, named_only, new_rows, number_of, put_row, spread_of, spreading, with_areas, with_tables}
use Rattle.hb_talk.specs.Talk.{Use, Planning, ◌>>=◌, ◌>>◌, lock, pure, refuse, scan, scan_group}
use Rattle.std.specs.Prelude.{unwrap_or}
use Rattle.hb_model.specs.Asked.{AreUnder}
use Rattle.hb_planlocks.proofs.Bears.{Bearing, bearing_bind, bears_lock, bears_refuse, bears_scan, bears_scan_group, bears_some_or, bears_writes}
use Rattle.hb_planlocks.proofs.RowLocks.{all_kept, filter-more, named_by, named_first, named_more}

none_kept : {A : Type 0} (p : A → Bool) (xs : List A) → Each (λ x. p x ≡ false) xs → filter p xs ≡ []
none_kept p [] e = refl
none_kept p (x ∷ xs) e = rw e.0 (none_kept p xs e.1)

not_true : (b : Bool) → (b ≡ true → ⊥) → b ≡ false
not_true true f = absurd (f refl)
not_true false f = refl

-- rows of the areas are no tables'
no_tables : (rows : List Stored) → AreUnder (path.Whole (dictionary_space areas_space)) rows → Each (λ (r : Stored). same_space (dictionary_space tables_space) r.place.space ≡ false) rows
no_tables [] e = tt
no_tables (r ∷ rows) e = (
  not_true (same_space (dictionary_space tables_space) r.place.space)
      (λ y. let one : dictionary_space tables_space ≡ r.place.space = same_space-eq (dictionary_space tables_space) r.place.space y in
      let other : dictionary_space areas_space ≡ r.place.space = same_space-eq (dictionary_space areas_space) r.place.space e.0 in
      let n : 2 ≡ 1 = ap (λ (x : Space). x.table) (one ∙ sym other) in cc),
  no_tables rows e.1,
)

length-map : {A B : Type 0} (f : A → B) (xs : List A) → length (map f xs) ≡ length xs
length-map f [] = refl
length-map f (x ∷ xs) = ap (λ n. suc n) (length-map f xs)

module _ (st : Statement) where
  abbrev May : List Stored → Need → Type 0
  May g n = (before : List Call) → given before ≡ g → MayLock st before n

  abbrev Any : List Stored → Reply → Type 0
  Any g r = ⊤

  areas_bear : (m : Mode) (u : Use) (g : List Stored) (Q : List Stored → List Stored → Type 0) → May g (on_space areas_space m)
      → ((rows : List Stored) → AreUnder (path.Whole (dictionary_space areas_space)) rows → Q (g ++ rows) rows) → Bearing May (areas m) u g Q
  areas_bear m u g Q may q =
      let sp = dictionary_space areas_space in
      bearing_bind May (lock ds (path.Whole sp) m) (λ _. scan ds sp) u g Q
      (bears_lock May ds (path.Whole sp) m u g (λ h a. (v : Use) → Bearing May (scan ds sp) v h Q) may (λ v. bears_scan May ds sp v g Q q))

  ends_bear : (cs : List Change) (r : Reply) (u : Use) (g : List Stored) → Bearing May (writes cs >> pure r) u g Any
  ends_bear cs r u g = bearing_bind May (writes cs) (λ _. pure r) u g Any (bears_writes May cs u g (λ h a. (v : Use) → Bearing May (pure r) v h Any) (λ v. tt))

  then_bear : {A : Type 0} (o : Option Reply) (p : Planning A) (u : Use) (g : List Stored) (Q : List Stored → A → Type 0) → ((v : Use) → Bearing May p v g Q) → Bearing May (refuse o >> p) u g Q
  then_bear o p u g Q q = bearing_bind May (refuse o) (λ _. p) u g Q (bears_refuse May o u g (λ h a. (v : Use) → Bearing May p v h Q) q)

  group_bears : {A : Type 0} (space table : ℕ) (p : Planning A) (u : Use) (g : List Stored) (Q : List Stored → A → Type 0) → May g (on_group space table mode.X) → ((v : Use) → Bearing May p v g Q)
      → Bearing May (lock_group space table >> p) u g Q
  group_bears space table p u g Q may q =
      bearing_bind May (lock_group space table) (λ _. p) u g Q
      (bears_lock May ds (path.Group (dictionary_space space) table) mode.X u g (λ h a. (v : Use) → Bearing May p v h Q) may q)

-- ---- CREATE RDAREA

pub create_area_bears : (back_ends : ℕ) (name node : List ℕ) (u : Use) → Bearing (May (statement.CreateArea name node)) (create_area_plan back_ends name node) u [] (λ g r. ⊤)
create_area_bears back_ends name node u =
    let st = statement.CreateArea name node in
    let new : List Stored → Area = λ rows. new_area (with_areas nothing rows) name (unwrap_or (back_end_named back_ends node) 0) in
    let rest : List Stored → Planning Reply = λ rows.
    refuse (first_refusal (create_area_refusals back_ends (with_areas nothing rows) name node)) >> (writes (put_row (at_place areas_space 0 (new rows).number (area_row (new rows))) ∷ []) >> pure reply.Created) in
    bearing_bind (May st) (areas mode.X) rest u [] (Any st)
    (areas_bear st mode.X u [] (λ h rows. (v : Use) → Bearing (May st) (rest rows) v h (Any st)) (λ before e. refl)
    (λ rows under v. then_bear st _ (writes (put_row (at_place areas_space 0 (new rows).number (area_row (new rows))) ∷ []) >> pure reply.Created) v rows (Any st)
    (λ w. ends_bear st (put_row (at_place areas_space 0 (new rows).number (area_row (new rows))) ∷ []) reply.Created w rows)))

-- ---- CREATE TABLE

pub create_table_bears : (name : List ℕ) (columns : List Column) (key : List ℕ) (area_names : List (List ℕ)) (u : Use)
    → Bearing (May (statement.CreateTable name columns key area_names)) (create_table_plan name columns key area_names) u [] (λ g r. ⊤)
create_table_bears name columns key area_names u =
    let st = statement.CreateTable name columns key area_names in
    let sp = dictionary_space tables_space in
    let told : List Stored → State = λ tables. with_tables nothing tables in
    let new : List Stored → List Stored → Spread = λ tables rows. new_spread (with_areas (told tables) rows) name area_names in
    let ending : List Stored → List Stored → Planning Reply = λ tables rows. writes (map put_row (new_rows (new_table name columns key) (new tables rows))) >> pure reply.Created in
    let spread : List Stored → List Stored → Planning Reply = λ tables rows.
    refuse (first_refusal (create_table_refusals (with_areas (told tables) rows) name columns key area_names))
    >> (lock_group members_space (new tables rows).number >> (lock_group entries_space (new tables rows).number >> ending tables rows)) in
    let behind : List Stored → Planning Reply = λ tables. refuse (first_refusal (take 5 (create_table_refusals (told tables) name columns key area_names))) >> (areas mode.S >>= spread tables) in
    bearing_bind (May st) (lock ds (path.Whole sp) mode.X) (λ _. scan ds sp >>= behind) u [] (Any st)
    (bears_lock (May st) ds (path.Whole sp) mode.X u [] (λ h a. (v : Use) → Bearing (May st) (scan ds sp >>= behind) v h (Any st)) (λ before e. inl refl)
    (λ v. bearing_bind (May st) (scan ds sp) behind v [] (Any st)
    (bears_scan (May st) ds sp v [] (λ h tables. (w : Use) → Bearing (May st) (behind tables) w h (Any st))
    (λ tables under w. then_bear st _ (areas mode.S >>= spread tables) w tables (Any st)
    (λ x. bearing_bind (May st) (areas mode.S) (spread tables) x tables (Any st)
    (areas_bear st mode.S x tables (λ h rows. (y : Use) → Bearing (May st) (spread tables rows) y h (Any st)) (λ before e. inr (inl refl))
    (λ rows others y. let same : (before : List Call) → given before ≡ tables ++ rows → next_told before ≡ (new tables rows).number = λ before e. number tables rows under others (given before) e in
    then_bear st _ _ y (tables ++ rows) (Any st)
    (λ z. group_bears st members_space (new tables rows).number _ z (tables ++ rows) (Any st)
    (λ before e. inr (inr (inl (ap (λ n. on_group members_space n mode.X) (sym (same before e))))))
    (λ k. group_bears st entries_space (new tables rows).number _ k (tables ++ rows) (Any st)
    (λ before e. inr (inr (inr (ap (λ n. on_group entries_space n mode.X) (sym (same before e))))))
    (λ l. ends_bear st (map put_row (new_rows (new_table name columns key) (new tables rows))) reply.Created l (tables ++ rows)))))))))))
  where
    append_nothing : (xs : List Stored) → xs ++ [] ≡ xs
    append_nothing [] = refl
    append_nothing (x ∷ xs) = ap (λ ys. x ∷ ys) (append_nothing xs)

    number : (tables rows : List Stored) → AreUnder (path.Whole (dictionary_space tables_space)) tables → AreUnder (path.Whole (dictionary_space areas_space)) rows → (g : List Stored) → g ≡ tables ++ rows
        → length (filter_map found_in (rows_of_space tables_space g)) + 1 ≡ length (map named_only (filter_map found_in tables)) + 1
    number tables rows under others g e =
        let test : Stored → Bool = λ r. same_space (dictionary_space tables_space) r.place.space in
        let seen : rows_of_space tables_space g ≡ tables =
        ap (rows_of_space tables_space) e ∙ filter-more test tables rows ∙ ap (λ xs. xs ++ filter test rows) (all_kept test tables under)
        ∙ ap (λ xs. tables ++ xs) (none_kept test rows (no_tables rows others)) ∙ append_nothing tables in
        ap (λ xs. length (filter_map found_in xs) + 1) seen ∙ ap (λ n. n + 1) (sym (length-map named_only (filter_map found_in tables)))

-- ---- ADD RDAREA

pub add_area_bears : (table area_name : List ℕ) (u : Use) → Bearing (May (statement.AddArea table area_name)) (add_area_plan table area_name) u [] (λ g r. ⊤)
add_area_bears table area_name u =
    let st = statement.AddArea table area_name in
    let sp = dictionary_space tables_space in
    let area : List Stored → Option Area = λ rows. area_named (with_areas nothing rows) area_name in
    let changes : Found → Option Area → List Stored → List Stored → List Change = λ f a members entries.
    let t = spread_of f members entries in
    put_row (at_place members_space f.0 (length t.members + 1) (member_row (number_of a))) ∷ map put_row (changed_rows t (reassign t.entries t.members (number_of a))) in
    let ending : Found → Option Area → List Stored → List Stored → Planning Reply = λ f a members entries. writes (changes f a members entries) >> pure reply.Added in
    let entered : Found → Option Area → List Stored → List Stored → Planning Reply = λ f a members entries. refuse (first_refusal (add_area_refusals (spread_of f members entries) a)) >> ending f a members entries in
    let locked : Found → List Stored → Planning Reply = λ f rows. lock_group members_space f.0 >> (scan_group ds (dictionary_space members_space) f.0 >>= spreading f (area rows)) in
    let behind : Found → List Stored → Planning Reply = λ f rows. some_or reply.NoArea (area rows) >> locked f rows in
    let next : List Stored → List Stored → Type 0 = λ h rows. (v : Use) → Bearing (May st) (some_or reply.NoTable (table_among rows table)) v h (λ k f. (w : Use) → Bearing (May st) (areas mode.S >>= behind f) w k (Any st)) in
    bearing_bind (May st) (table_of table) (λ f. areas mode.S >>= behind f) u [] (Any st)
    (bearing_bind (May st) names (λ rows. some_or reply.NoTable (table_among rows table)) u [] (λ k f. (w : Use) → Bearing (May st) (areas mode.S >>= behind f) w k (Any st))
    (bearing_bind (May st) (lock ds (path.Whole sp) mode.S) (λ _. scan ds sp) u [] next
    (bears_lock (May st) ds (path.Whole sp) mode.S u [] (λ h a. (v : Use) → Bearing (May st) (scan ds sp) v h next) (λ before e. inl refl)
    (λ v. bears_scan (May st) ds sp v [] next
    (λ tables under w. bears_some_or (May st) reply.NoTable (table_among tables table) w tables (λ k f. (x : Use) → Bearing (May st) (areas mode.S >>= behind f) x k (Any st))
    (λ f there x. let known : named_by tables table ≡ Some f = named_first tables table under ∙ there in
    bearing_bind (May st) (areas mode.S) (behind f) x tables (Any st)
    (areas_bear st mode.S x tables (λ h rows. (y : Use) → Bearing (May st) (behind f rows) y h (Any st)) (λ before e. inr (inl refl))
    (λ rows others y. let g : List Stored = tables ++ rows in let knows : named_by g table ≡ Some f = named_more tables rows table f known in
    bearing_bind (May st) (some_or reply.NoArea (area rows)) (λ _. locked f rows) y g (Any st)
    (bears_some_or (May st) reply.NoArea (area rows) y g (λ h a. (z : Use) → Bearing (May st) (locked f rows) z h (Any st))
    (λ a e z. group_bears st members_space f.0 (scan_group ds (dictionary_space members_space) f.0 >>= spreading f (area rows)) z g (Any st) (told_may g f (on_group members_space f.0 mode.X) knows (inl refl))
    (λ k. bearing_bind (May st) (scan_group ds (dictionary_space members_space) f.0) (spreading f (area rows)) k g (Any st)
    (bears_scan_group (May st) ds (dictionary_space members_space) f.0 k g (λ h members. (l : Use) → Bearing (May st) (spreading f (area rows) members) l h (Any st))
    (λ members _ l. let h : List Stored = g ++ members in let still : named_by h table ≡ Some f = named_more g members table f knows in
    then_bear st (first_refusal (take 2 (add_area_refusals (spread_of f members []) (area rows)))) (lock_group entries_space f.0 >> (scan_group ds (dictionary_space entries_space) f.0 >>= entered f (area rows) members)) l h (Any st)
    (λ o. group_bears st entries_space f.0 (scan_group ds (dictionary_space entries_space) f.0 >>= entered f (area rows) members) o h (Any st) (told_may h f (on_group entries_space f.0 mode.X) still (inr refl))
    (λ q. bearing_bind (May st) (scan_group ds (dictionary_space entries_space) f.0) (entered f (area rows) members) q h (Any st)
    (bears_scan_group (May st) ds (dictionary_space entries_space) f.0 q h (λ j entries. (s : Use) → Bearing (May st) (entered f (area rows) members entries) s j (Any st))
    (λ entries _ s. then_bear st (first_refusal (add_area_refusals (spread_of f members entries) (area rows))) (ending f (area rows) members entries) s (h ++ entries) (Any st)
    (λ i. ends_bear st (changes f (area rows) members entries) reply.Added i (h ++ entries)))))))))))))))))))
  where
    told_may : (g : List Stored) (f : Found) (n : Need) → named_by g table ≡ Some f → SpreadLock f.0 n → May (statement.AddArea table area_name) g n
    told_may g f n known h before e =
        let told : table_told before table ≡ Some f = ap (λ x. named_by x table) e ∙ known in
        inr (inr (subst (λ o. MatchOption o ⊥ (λ (x : Found). SpreadLock x.0 n)) (sym told) h))
