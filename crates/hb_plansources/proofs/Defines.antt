-- How plans end; and the plans of CREATE RDAREA, CREATE TABLE and ADD RDAREA, which write rows of the dictionary alone.
use Rattle.std.proofs.Common.{◌≡◌, ℕ, ◌+◌, List, [], ◌∷◌, ◌++◌, length, map, Option, Some, None, false, refl, sym, ◌∙◌, arith}
use Rattle.std.specs.Prelude.{take, unwrap_or}
use Rattle.std.proofs.lemmas.Bool.{false≢true}
use Rattle.hb_types.specs.declared.change.Change.{Change}
use Rattle.hb_types.specs.declared.change.Stored.{Stored}
use Rattle.hb_types.specs.declared.entry.Entry.{Entry}
use Rattle.hb_types.specs.declared.lock.Mode.{Mode}
use Rattle.hb_types.specs.declared.lock.Mode.TheVariants as mode
use Rattle.hb_types.specs.declared.places.Path.TheVariants as path
use Rattle.hb_types.specs.declared.value.Column.{Column}
use Rattle.hb_types.specs.Groups.{is_moving, map_from, reassign}
use Rattle.hb_types.specs.Lists.{Each}
use Rattle.hb_types.proofs.Ascending.{Each-append}
use Rattle.hb_model.specs.declared.reply.Reply.{Reply}
use Rattle.hb_model.specs.declared.reply.Reply.TheVariants as reply
use Rattle.hb_model.specs.declared.statement.Statement.{Statement}
use Rattle.hb_model.specs.declared.statement.Statement.TheVariants as statement
use Rattle.hb_model.specs.declared.table.Table.{Table}
use Rattle.hb_model.specs.Define.{add_area_refusals, create_area_refusals, create_table_refusals, new_area, new_spread, new_table}
use Rattle.hb_model.specs.Dictionary.{area_row, at_place, entry_row, entry_rows, member_row, member_rows}
use Rattle.hb_model.specs.Names.{back_end_named}
use Rattle.hb_model.specs.Refusals.{first_refusal}
use Rattle.hb_model.specs.Spots.{ds, areas_space, dictionary_space, entries_space, members_space, tables_space}
use Rattle.hb_model.specs.State.{Area, State, Spread, area_named, nothing}
use Rattle.hb_model.specs.Told.{Found, entry_of}
use Rattle.hb_talk.specs.Plans.{some_or, table_of, writes}
use Rattle.hb_talk.specs.PlansDefine.{add_area_plan, areas, changed_rows, create_area_plan, create_table_plan, lock_group, new_rows, number_of, put_row, spread_of, spreading, with_areas, with_tables}
use Rattle.hb_talk.specs.Talk.{Use, Planning, ◌>>=◌, ◌>>◌, lock, pure, refuse, scan, scan_group}
use Rattle.std.specs.Prelude.{option_map}
use Rattle.hb_planlocks.proofs.Course.{Bearing, MayWrite, bearing_bind, bears_lock, bears_refuse, bears_scan, bears_scan_group, bears_some_or, bears_writes}
use Rattle.hb_plansources.proofs.Gathers.{table_bears}
use Rattle.hb_plansources.proofs.Lying.{each_filtered}
use Rattle.hb_plansources.proofs.Rules.{Refusing, Shows, is_select, sources}

-- ---- rows of the dictionary

abbrev IsOfDictionary : Stored → Type 0
IsOfDictionary r = r.place.space.area ≡ 0

pub dictionary_writes : (st : Statement) (g rows : List Stored) → Each IsOfDictionary rows → Each (MayWrite (sources st) g) (map put_row rows)
dictionary_writes st g [] e = tt
dictionary_writes st g (r ∷ rows) e = (λ tx users. let never : ⊥ = omega (arith, users, e.0) in absurd never, dictionary_writes st g rows e.1)

each_numbered : {A : Type 0} (f : ℕ → A → Stored) → ((i : ℕ) (x : A) → IsOfDictionary (f i x)) → (n : ℕ) (xs : List A) → Each IsOfDictionary (map_from f n xs)
each_numbered f h n [] = tt
each_numbered f h n (x ∷ xs) = (h n x, each_numbered f h (n + 1) xs)

entries_are : (t : Spread) → Each IsOfDictionary (entry_rows t)
entries_are t = each_numbered (λ group (e : Entry). at_place entries_space t.number group (entry_row e)) (λ i x. refl) 0 t.entries

new_rows_are : (t : Table) (p : Spread) → Each IsOfDictionary (new_rows t p)
new_rows_are t p =
    (refl, Each-append IsOfDictionary (member_rows p) (entry_rows p) (each_numbered (λ i (area : ℕ). at_place members_space p.number i (member_row area)) (λ i x. refl) 1 p.members) (entries_are p))

changed_rows_are : (t : Spread) (after : List Entry) → Each IsOfDictionary (changed_rows t after)
changed_rows_are t after =
    each_filtered IsOfDictionary (λ r. unwrap_or (option_map is_moving (entry_of (Some r.row))) false) (entry_rows (record t { entries = after })) (entries_are (record t { entries = after }))

-- ---- steps

module _ (st : Statement) where
  abbrev Plan : {A : Type 0} → Planning A → Use → List Stored → (List Stored → A → Type 0) → Type 0
  Plan p u g Q = Bearing (sources st) p u g Q

  pub then_bears : {A : Type 0} (o : Option Reply) (p : Planning A) (u : Use) (g : List Stored) (Q : List Stored → A → Type 0) → ((r : Reply) → o ≡ Some r → Refusing st r) → ((v : Use) → Plan p v g Q)
      → Plan (refuse o >> p) u g Q
  then_bears o p u g Q refuses q = bearing_bind (sources st) (refuse o) (λ _. p) u g Q (bears_refuse (sources st) o u g (λ h a. (v : Use) → Plan p v h Q) refuses q)

  -- what follows may rest on its not being refused
  pub unrefused_bears : {A : Type 0} (o : Option Reply) (p : Planning A) (u : Use) (g : List Stored) (Q : List Stored → A → Type 0) → ((r : Reply) → o ≡ Some r → Refusing st r)
      → (o ≡ None → (v : Use) → Plan p v g Q) → Plan (refuse o >> p) u g Q
  unrefused_bears None p u g Q refuses q = then_bears None p u g Q refuses (q refl)
  unrefused_bears (Some r) p u g Q refuses q = refuses r refl

  pub ends_bear : (cs : List Change) (r : Reply) (u : Use) (g : List Stored) → Each (MayWrite (sources st) g) cs → Shows st g r → Plan (writes cs >> pure r) u g (Shows st)
  ends_bear cs r u g may s =
      bearing_bind (sources st) (writes cs) (λ _. pure r) u g (Shows st) (bears_writes (sources st) cs u g (λ h a. (v : Use) → Plan (pure r) v h (Shows st)) may (λ v. s))

  pub areas_bear : (m : Mode) (u : Use) (g : List Stored) (Q : List Stored → List Stored → Type 0) → ((rows : List Stored) → Q (g ++ rows) rows) → Plan (areas m) u g Q
  areas_bear m u g Q q =
      let sp = dictionary_space areas_space in
      bearing_bind (sources st) (lock ds (path.Whole sp) m) (λ _. scan ds sp) u g Q
      (bears_lock (sources st) ds (path.Whole sp) m u g (λ h a. (v : Use) → Plan (scan ds sp) v h Q) (λ tx. tt) (λ v. bears_scan (sources st) ds sp v g Q (λ rows under. q rows)))

  pub group_bears : {A : Type 0} (space table : ℕ) (p : Planning A) (u : Use) (g : List Stored) (Q : List Stored → A → Type 0) → ((v : Use) → Plan p v g Q) → Plan (lock_group space table >> p) u g Q
  group_bears space table p u g Q q =
      bearing_bind (sources st) (lock_group space table) (λ _. p) u g Q
      (bears_lock (sources st) ds (path.Group (dictionary_space space) table) mode.X u g (λ h a. (v : Use) → Plan p v h Q) (λ tx. tt) q)

-- what is no SELECT refuses as it likes
pub refuses_freely : (st : Statement) → is_select st ≡ false → (o : Option Reply) (r : Reply) → o ≡ Some r → Refusing st r
refuses_freely st other o r e s = absurd (false≢true (sym other ∙ s))

-- ---- CREATE RDAREA

pub create_area_bears : (back_ends : ℕ) (name node : List ℕ) (u : Use) → let st = statement.CreateArea name node in Bearing (sources st) (create_area_plan back_ends name node) u [] (Shows st)
create_area_bears back_ends name node u =
    let st = statement.CreateArea name node in
    let new : List Stored → Area = λ rows. new_area (with_areas nothing rows) name (unwrap_or (back_end_named back_ends node) 0) in
    let row : List Stored → Stored = λ rows. at_place areas_space 0 (new rows).number (area_row (new rows)) in
    let refusal : List Stored → Option Reply = λ rows. first_refusal (create_area_refusals back_ends (with_areas nothing rows) name node) in
    let ending : List Stored → Planning Reply = λ rows. writes (put_row (row rows) ∷ []) >> pure reply.Created in
    bearing_bind (sources st) (areas mode.X) (λ rows. refuse (refusal rows) >> ending rows) u [] (Shows st)
    (areas_bear st mode.X u [] (λ h rows. (v : Use) → Bearing (sources st) (refuse (refusal rows) >> ending rows) v h (Shows st))
    (λ rows v. then_bears st (refusal rows) (ending rows) v rows (Shows st) (refuses_freely st refl (refusal rows))
    (λ w. ends_bear st (put_row (row rows) ∷ []) reply.Created w rows (dictionary_writes st rows (row rows ∷ []) (refl, tt)) tt)))

-- ---- CREATE TABLE

pub create_table_bears : (name : List ℕ) (columns : List Column) (key : List ℕ) (area_names : List (List ℕ)) (u : Use)
    → let st = statement.CreateTable name columns key area_names in Bearing (sources st) (create_table_plan name columns key area_names) u [] (Shows st)
create_table_bears name columns key area_names u =
    let st = statement.CreateTable name columns key area_names in
    let sp = dictionary_space tables_space in
    let told : List Stored → State = λ tables. with_tables nothing tables in
    let new : List Stored → List Stored → Spread = λ tables rows. new_spread (with_areas (told tables) rows) name area_names in
    let ending : List Stored → List Stored → Planning Reply = λ tables rows. writes (map put_row (new_rows (new_table name columns key) (new tables rows))) >> pure reply.Created in
    let early : List Stored → Option Reply = λ tables. first_refusal (take 5 (create_table_refusals (told tables) name columns key area_names)) in
    let late : List Stored → List Stored → Option Reply = λ tables rows. first_refusal (create_table_refusals (with_areas (told tables) rows) name columns key area_names) in
    let entered : List Stored → List Stored → Planning Reply = λ tables rows. lock_group entries_space (new tables rows).number >> ending tables rows in
    let spread : List Stored → List Stored → Planning Reply = λ tables rows. refuse (late tables rows) >> (lock_group members_space (new tables rows).number >> entered tables rows) in
    let behind : List Stored → Planning Reply = λ tables. refuse (early tables) >> (areas mode.S >>= spread tables) in
    bearing_bind (sources st) (lock ds (path.Whole sp) mode.X) (λ _. scan ds sp >>= behind) u [] (Shows st)
    (bears_lock (sources st) ds (path.Whole sp) mode.X u [] (λ h a. (v : Use) → Bearing (sources st) (scan ds sp >>= behind) v h (Shows st)) (λ tx. tt)
    (λ v. bearing_bind (sources st) (scan ds sp) behind v [] (Shows st)
    (bears_scan (sources st) ds sp v [] (λ h tables. (w : Use) → Bearing (sources st) (behind tables) w h (Shows st))
    (λ tables under w. then_bears st (early tables) (areas mode.S >>= spread tables) w tables (Shows st) (refuses_freely st refl (early tables))
    (λ x. bearing_bind (sources st) (areas mode.S) (spread tables) x tables (Shows st)
    (areas_bear st mode.S x tables (λ h rows. (y : Use) → Bearing (sources st) (spread tables rows) y h (Shows st))
    (λ rows y. then_bears st (late tables rows) (lock_group members_space (new tables rows).number >> entered tables rows) y (tables ++ rows) (Shows st) (refuses_freely st refl (late tables rows))
    (λ z. group_bears st members_space (new tables rows).number (entered tables rows) z (tables ++ rows) (Shows st)
    (λ k. group_bears st entries_space (new tables rows).number (ending tables rows) k (tables ++ rows) (Shows st)
    (λ l. ends_bear st (map put_row (new_rows (new_table name columns key) (new tables rows))) reply.Created l (tables ++ rows)
    (dictionary_writes st (tables ++ rows) (new_rows (new_table name columns key) (new tables rows)) (new_rows_are (new_table name columns key) (new tables rows))) tt))))))))))

-- ---- ADD RDAREA

pub add_area_bears : (table area_name : List ℕ) (u : Use) → let st = statement.AddArea table area_name in Bearing (sources st) (add_area_plan table area_name) u [] (Shows st)
add_area_bears table area_name u =
    let st = statement.AddArea table area_name in
    let area : List Stored → Option Area = λ rows. area_named (with_areas nothing rows) area_name in
    let changed : Found → Option Area → List Stored → List Stored → List Stored = λ f a members entries.
    let t = spread_of f members entries in at_place members_space f.0 (length t.members + 1) (member_row (number_of a)) ∷ changed_rows t (reassign t.entries t.members (number_of a)) in
    let ending : Found → Option Area → List Stored → List Stored → Planning Reply = λ f a members entries. writes (map put_row (changed f a members entries)) >> pure reply.Added in
    let early : Found → Option Area → List Stored → Option Reply = λ f a members. first_refusal (take 2 (add_area_refusals (spread_of f members []) a)) in
    let late : Found → Option Area → List Stored → List Stored → Option Reply = λ f a members entries. first_refusal (add_area_refusals (spread_of f members entries) a) in
    let entered : Found → Option Area → List Stored → List Stored → Planning Reply = λ f a members entries. refuse (late f a members entries) >> ending f a members entries in
    let entering : Found → Option Area → List Stored → Planning Reply = λ f a members. scan_group ds (dictionary_space entries_space) f.0 >>= entered f a members in
    let joining : Found → Option Area → Planning Reply = λ f a. scan_group ds (dictionary_space members_space) f.0 >>= spreading f a in
    let locked : Found → List Stored → Planning Reply = λ f rows. lock_group members_space f.0 >> joining f (area rows) in
    let behind : Found → List Stored → Planning Reply = λ f rows. some_or reply.NoArea (area rows) >> locked f rows in
    bearing_bind (sources st) (table_of table) (λ f. areas mode.S >>= behind f) u [] (Shows st)
    (table_bears st table u (λ h f. (v : Use) → Bearing (sources st) (areas mode.S >>= behind f) v h (Shows st))
    (λ g f v. bearing_bind (sources st) (areas mode.S) (behind f) v g (Shows st)
    (areas_bear st mode.S v g (λ h rows. (w : Use) → Bearing (sources st) (behind f rows) w h (Shows st))
    (λ rows w. let h : List Stored = g ++ rows in
    bearing_bind (sources st) (some_or reply.NoArea (area rows)) (λ _. locked f rows) w h (Shows st)
    (bears_some_or (sources st) reply.NoArea (area rows) w h (λ k a. (x : Use) → Bearing (sources st) (locked f rows) x k (Shows st)) (λ s. refl)
    (λ a e x. group_bears st members_space f.0 (joining f (area rows)) x h (Shows st)
    (λ y. bearing_bind (sources st) (scan_group ds (dictionary_space members_space) f.0) (spreading f (area rows)) y h (Shows st)
    (bears_scan_group (sources st) ds (dictionary_space members_space) f.0 y h (λ k members. (z : Use) → Bearing (sources st) (spreading f (area rows) members) z k (Shows st))
    (λ members under z. let k : List Stored = h ++ members in
    then_bears st (early f (area rows) members) (lock_group entries_space f.0 >> entering f (area rows) members) z k (Shows st) (refuses_freely st refl (early f (area rows) members))
    (λ o. group_bears st entries_space f.0 (entering f (area rows) members) o k (Shows st)
    (λ p. bearing_bind (sources st) (scan_group ds (dictionary_space entries_space) f.0) (entered f (area rows) members) p k (Shows st)
    (bears_scan_group (sources st) ds (dictionary_space entries_space) f.0 p k (λ l entries. (q : Use) → Bearing (sources st) (entered f (area rows) members entries) q l (Shows st))
    (λ entries under q. then_bears st (late f (area rows) members entries) (ending f (area rows) members entries) q (k ++ entries) (Shows st) (refuses_freely st refl (late f (area rows) members entries))
    (λ i. let t = spread_of f members entries in
    ends_bear st (map put_row (changed f (area rows) members entries)) reply.Added i (k ++ entries)
    (dictionary_writes st (k ++ entries) (changed f (area rows) members entries) (refl, changed_rows_are t (reassign t.entries t.members (number_of (area rows))))) tt))))))))))))))
