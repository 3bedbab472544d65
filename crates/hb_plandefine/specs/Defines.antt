-- CREATE RDAREA, CREATE TABLE and ADD RDAREA as parts of a plan: what is still to be said at each stage, and what follows an answer.
use Rattle.std.specs.Prelude.{◌≡◌, ◌⊎◌, ℕ, ◌+◌, ◌≤◌, Bool, true, false, List, [], ◌∷◌, map, filter_map, take, length, None, Ok, Err, ⊤, unwrap_or}
use Rattle.hb_types.specs.declared.answer.Answer.{Answer}
use Rattle.hb_types.specs.declared.answer.Answer.TheVariants as answer
use Rattle.hb_types.specs.declared.change.Change.{Change}
use Rattle.hb_types.specs.declared.change.Stored.{Stored}
use Rattle.hb_types.specs.declared.entry.Entry.{Entry}
use Rattle.hb_types.specs.declared.lock.Mode.TheVariants as mode
use Rattle.hb_types.specs.Groups.{reassign}
use Rattle.hb_types.specs.Lists.{Each}
use Rattle.hb_model.specs.declared.reply.Reply.{Reply}
use Rattle.hb_model.specs.declared.reply.Reply.TheVariants as reply
use Rattle.hb_model.specs.Define.{new_area, create_area_refusals, new_spread, create_table_refusals}
use Rattle.hb_model.specs.Dictionary.{area_row, member_row, at_place}
use Rattle.hb_model.specs.Names.{back_end_named}
use Rattle.hb_model.specs.Refusals.{first_refusal}
use Rattle.hb_model.specs.Spots.{ds, dictionary_space, areas_space, members_space, entries_space}
use Rattle.hb_model.specs.State.{Area, nothing, area_named}
use Rattle.hb_model.specs.Told.{Found, found_in, table_among}
use Rattle.hb_talk.specs.Sessions.{rolls_back}
use Rattle.hb_talk.specs.Talk.{Talk, says, asks, going_on, Use, Planning, ◌>>=◌, ◌>>◌, pure, and_then, refused, refuse, scan_group}
use Rattle.hb_talk.specs.Plans.{writes, some_or}
use Rattle.hb_talk.specs.PlansDefine.{areas, area_of, with_areas, put_row, lock_group, new_rows, changed_rows, spreading, member_of, entries_of}
use Rattle.hb_access.specs.declared.access.Next.{Next}
use Rattle.hb_access.specs.declared.access.Next.TheVariants as next
use Rattle.hb_access.specs.declared.goal.Got.{Got}
use Rattle.hb_access.specs.declared.goal.Got.TheVariants as got
use Rattle.hb_access.specs.declared.usage.Usage.{Usage}
use Rattle.hb_access.specs.Accesses.{use_of, keeps_nodes}
use Rattle.hb_access.specs.Accesses as access
use Rattle.hb_planrows.specs.PlanRows.{TellTables, TellEntries, IsSited}
use Rattle.hb_definerows.specs.DefineRows.{TellAreas, TellMembers, added_refusals, can_spread, spread_told, state_told}
use Rattle.hb_definerows.specs.Drafts.{IsNamed, table_of_draft}
use Rattle.hb_definerows.specs.declared.create_table.Draft.{Draft}
use Rattle.hb_writes.specs.Writings.{Replied}
use Rattle.hb_writes.specs.Underway.{IsWrite}
use Rattle.hb_writes.specs.Writings as out
use Rattle.hb_plandefine.specs.declared.stage.Stage.{Stage}
use Rattle.hb_plandefine.specs.declared.stage.Stage.TheVariants as stage
use Rattle.hb_plandefine.specs.declared.stage.Then.{Then}
use Rattle.hb_plandefine.specs.declared.stage.Then.TheVariants as then
use Rattle.hb_plandefine.specs.declared.stage.Went.{Went}
use Rattle.hb_plandefine.specs.declared.stage.Went.TheVariants as went
use Rattle.hb_plandefine.specs.declared.defining.Taken.{Taken}
use Rattle.hb_plandefine.specs.declared.defining.Taken.TheVariants as taken

-- writes, if they are not too much, and a reply
abbrev pub out_of : List Change → Reply → Planning Reply
out_of changes r = writes changes >> pure r

-- the lock of a table's entries, and the writes behind it
abbrev pub entries_locked : ℕ → List Change → Planning Reply
entries_locked number changes = lock_group entries_space number >> out_of changes reply.Created

-- the lock of its members, and that of its entries behind it
abbrev pub members_locked : ℕ → List Change → Planning Reply
members_locked number changes = lock_group members_space number >> entries_locked number changes

-- ---- what follows the rows that came

-- a new area beside others
abbrev pub area_beside : ℕ → List ℕ → List ℕ → List Area → Planning Reply
area_beside back_ends name node others =
    let s = state_told [] others in
    let area = new_area s name (unwrap_or (back_end_named back_ends node) 0) in
    refuse (first_refusal (create_area_refusals back_ends s name node))
    >> out_of (put_row (at_place areas_space 0 area.number (area_row area)) ∷ []) reply.Created

abbrev pub area_created : ℕ → List ℕ → List ℕ → List Stored → Planning Reply
area_created back_ends name node rows = area_beside back_ends name node (filter_map area_of rows)

-- a new table in these areas, beside others
abbrev pub table_in_areas : Draft → List Found → List Area → Planning Reply
table_in_areas d tables there =
    let u = state_told tables there in
    let spread = new_spread u d.name d.areas in
    refuse (first_refusal (create_table_refusals u d.name d.columns d.key d.areas))
    >> members_locked spread.number (map put_row (new_rows (table_of_draft d) spread))

abbrev pub table_created : Draft → List Found → List Stored → Planning Reply
table_created d tables rows = table_in_areas d tables (filter_map area_of rows)

-- a new table beside others
abbrev pub table_beside : Draft → List Found → Planning Reply
table_beside d tables =
    refuse (first_refusal (take 5 (create_table_refusals (state_told tables []) d.name d.columns d.key d.areas))) >> (areas mode.S >>= table_created d tables)

abbrev pub table_checked : Draft → List Stored → Planning Reply
table_checked d rows = table_beside d (filter_map found_in rows)

-- a table by its number
abbrev pub numbered : ℕ → Found
numbered number = (number, record { name = []; columns = []; key = 0; rows = [] })

-- the areas, for an area more
abbrev pub area_found : Found → List ℕ → List Stored → Planning Reply
area_found f name rows =
    let area = area_named (with_areas nothing rows) name in
    some_or reply.NoArea area >> (lock_group members_space f.0 >> (scan_group ds (dictionary_space members_space) f.0 >>= spreading f area))

-- the areas are asked for, for an area more of a table
abbrev pub areas_asked : ℕ → List ℕ → Planning Reply
areas_asked number name = areas mode.S >>= area_found (numbered number) name

-- the tables, for an area more
abbrev pub table_found : List ℕ → List ℕ → List Stored → Planning Reply
table_found table area rows = some_or reply.NoTable (table_among rows table) >>= (λ f. areas mode.S >>= area_found f area)

-- an area more beside these members and entries
abbrev pub spread_over : ℕ → ℕ → List ℕ → List Entry → Planning Reply
spread_over table area members entries =
    refuse (first_refusal (added_refusals members entries area))
    >> out_of (put_row (at_place members_space table (length members + 1) (member_row area))
    ∷ map put_row (changed_rows (spread_told table members entries) (reassign entries members area))) reply.Added

abbrev pub spread_out : ℕ → ℕ → List ℕ → List Stored → Planning Reply
spread_out table area members rows = spread_over table area members (entries_of rows)

-- the members, for an area more
abbrev pub member_beside : ℕ → ℕ → List ℕ → Planning Reply
member_beside table area members =
    refuse (first_refusal (take 2 (added_refusals members [] area)))
    >> (lock_group entries_space table >> (scan_group ds (dictionary_space entries_space) table >>= spread_out table area members))

-- ---- stages

-- what follows rows; nothing else comes where rows are read
abbrev pub on_rows : (List Stored → Planning Reply) → Got → Planning Reply
on_rows f (got.Rows rows) = f rows
on_rows f _ = refused reply.NoMemory

-- what follows what is asked for
abbrev pub follows : Then → Got → Planning Reply
follows (then.NewArea back_ends name node) = on_rows (area_created back_ends name node)
follows (then.NewTable d) = on_rows (table_checked d)
follows (then.TableAreas tables d) = on_rows (table_created d tables.items)
follows (then.LockEntries number changes) = λ _. entries_locked number changes.items
follows (then.WriteTable changes) = λ _. out_of changes.items reply.Created
follows (then.Names table area) = on_rows (table_found table area)
follows (then.AreaOf number area) = on_rows (area_found (numbered number) area)
follows (then.Members number area) = on_rows (λ rows. member_beside number area (filter_map member_of rows))
follows (then.Entries number area members) = on_rows (spread_out number area members.items)

-- what is still to be said, where no answer is awaited
abbrev pub now_talks : Stage → Talk Replied
now_talks (stage.Asking a t) = going_on (λ r. and_then (follows t) r.1 r.0) (access.now_talks a)
now_talks (stage.Writing w) = out.now_talks w
now_talks (stage.Ended u) = says (Err reply.NoMemory, use_of u)

-- what follows the answer that is awaited
abbrev pub now_hears : Stage → Answer → Talk Replied
now_hears (stage.Asking a t) x = going_on (λ r. and_then (follows t) r.1 r.0) (access.now_hears a x)
now_hears (stage.Writing w) x = out.now_hears w x
now_hears (stage.Ended u) x = says (Err reply.NoMemory, use_of u)

abbrev pub is_asking : Stage → Bool
is_asking (stage.Asking a t) = access.is_asking a.stage
is_asking (stage.Writing w) = out.is_asking w
is_asking (stage.Ended u) = false

abbrev pub is_waiting : Stage → Bool
is_waiting (stage.Asking a t) = access.is_waiting a.stage
is_waiting (stage.Writing w) = out.is_waiting w
is_waiting (stage.Ended u) = false

-- what the transaction has used
abbrev pub usage_at : Stage → Usage
usage_at (stage.Asking a t) = a.usage
usage_at (stage.Writing w) = w.access.usage
usage_at (stage.Ended u) = u

-- back ends of this run, names of 30 bytes, areas of back ends, and changes that can be written
abbrev pub IsWithin : Then → Type 0
IsWithin (then.NewArea back_ends name node) = (back_ends ≤ 8) × (length name ≤ 30)
IsWithin (then.NewTable d) = IsNamed d
IsWithin (then.TableAreas tables d) = IsNamed d
IsWithin (then.LockEntries number changes) = Each IsWrite changes.items
IsWithin (then.WriteTable changes) = Each IsWrite changes.items
IsWithin (then.Members number area) = IsSited area
IsWithin (then.Entries number area members) = IsSited area
IsWithin _ = ⊤

abbrev pub StageIsWithin : Stage → Type 0
StageIsWithin (stage.Asking a t) = IsWithin t
StageIsWithin _ = ⊤

-- ---- what rows tell

-- entries of a table without one that moves tell a spread that can give groups to one area more, if there is room for it
abbrev pub CanSpread : List ℕ → ℕ → List Stored → Type 0
CanSpread members area rows =
    TellEntries rows × (first_refusal (added_refusals members (entries_of rows) area) ≡ None → can_spread members (entries_of rows) ≡ true)

-- rows that tell what is asked for
abbrev pub TellsRows : Then → List Stored → Type 0
TellsRows (then.NewArea back_ends name node) rows = TellAreas rows
TellsRows (then.NewTable d) rows = TellTables rows
TellsRows (then.TableAreas tables d) rows = TellAreas rows
TellsRows (then.Names table area) rows = TellTables rows
TellsRows (then.AreaOf number area) rows = TellAreas rows
TellsRows (then.Members number area) rows = TellMembers rows
TellsRows (then.Entries number area members) rows = CanSpread members.items area rows
TellsRows _ rows = ⊤

abbrev pub TellsGot : Then → Got → Type 0
TellsGot t (got.Rows rows) = TellsRows t rows
TellsGot _ _ = ⊤

abbrev pub HasNoRows : Got → Type 0
HasNoRows (got.Rows rows) = ⊥
HasNoRows _ = ⊤

abbrev pub Tells : Stage → Answer → Type 0
Tells (stage.Asking a t) (answer.Rows rows) = TellsRows t rows
Tells _ _ = ⊤

-- ---- steps

-- a refusal that a talk says, or there was no memory
abbrev pub IsRefused : Talk Replied → Reply → Use → Type 0
IsRefused talk r u = (talk ≡ says (Err r, u)) ⊎ (r ≡ reply.NoMemory)

-- where a talk went on to
abbrev pub Goes : Talk Replied → Went → Type 0
Goes talk (went.On s) = talk ≡ now_talks s
Goes talk (went.Replied r u) = talk ≡ says (Ok r, use_of u)
Goes talk (went.Refused r u) = IsRefused talk r (use_of u)

-- what holds whatever the rows tell: something is asked, for the same transaction, which uses the same nodes
abbrev pub IsReady : Usage → Went → Type 0
IsReady u (went.On s) = (is_asking s ≡ true) × ((usage_at s).tx.0 ≡ u.tx.0) × StageIsWithin s × ((usage_at s).used.0 ≡ u.used.0)
IsReady u (went.Replied r v) = (v.tx.0 ≡ u.tx.0) × (v.used.0 ≡ u.used.0)
IsReady u (went.Refused r v) = (v.tx.0 ≡ u.tx.0) × (v.used.0 ≡ u.used.0)

-- the same behind an answer: the nodes stay unless the transaction is rolled back for it
abbrev pub IsHeard : Usage → Went → Type 0
IsHeard u (went.On s) = (is_asking s ≡ true) × ((usage_at s).tx.0 ≡ u.tx.0) × StageIsWithin s × (keeps_nodes u.used.0 (usage_at s).used.0 false ≡ true)
IsHeard u (went.Replied r v) = (v.tx.0 ≡ u.tx.0) × (keeps_nodes u.used.0 v.used.0 false ≡ true)
IsHeard u (went.Refused r v) = (v.tx.0 ≡ u.tx.0) × (keeps_nodes u.used.0 v.used.0 (rolls_back r) ≡ true)

-- what is asked next is what is to be said, and its answer is awaited, or it is refused
abbrev pub NextIs : Stage → Stage → Next → Type 0
NextIs old new (next.Ask node q) = (is_waiting new ≡ true) × (now_talks old ≡ asks node.0 q (now_hears new))
NextIs old new (next.Refused r) = now_talks old ≡ says (Err r, use_of (usage_at new))

-- after an answer the stage is where the talk is
abbrev pub Hears : Stage → Stage → Answer → Taken → Type 0
Hears old new a taken.More = now_hears old a ≡ now_talks new
Hears old new a (taken.Replied r) = now_hears old a ≡ says (Ok r, use_of (usage_at new))
Hears old new a (taken.Refused r) = IsRefused (now_hears old a) r (use_of (usage_at new))

-- whether an answer was one that rolls the transaction back
abbrev pub rolls : Taken → Bool
rolls taken.More = false
rolls (taken.Replied r) = false
rolls (taken.Refused r) = rolls_back r

abbrev pub AsksMore : Stage → Taken → Type 0
AsksMore new taken.More = is_asking new ≡ true
AsksMore new _ = ⊤

-- where a step led
abbrev pub WentTo : Went → Stage → Taken → Type 0
WentTo (went.On s) new t = (new ≡ s) × (t ≡ taken.More)
WentTo (went.Replied r u) new t = (new ≡ stage.Ended u) × (t ≡ taken.Replied r)
WentTo (went.Refused r u) new t = (new ≡ stage.Ended u) × (t ≡ taken.Refused r)
