-- The locks that a statement needs, and how many Lock requests its plan makes.
use Rattle.std.specs.Prelude.{◌≡◌, ℕ, ◌+◌, ◌-◌, ◌<◌, ℤ, Bool, true, if◌then◌else◌, List, [], ◌∷◌, length, map, flat_map, take, Option, Some, None, is_some, option_map, unwrap_or, ⊤, slice_index_or}
use Rattle.hb_types.specs.declared.entry.Entry.TheVariants.{At}
use Rattle.hb_types.specs.declared.lock.Mode.{Mode}
use Rattle.hb_types.specs.declared.lock.Mode.TheVariants as mode
use Rattle.hb_types.specs.declared.places.Path.{Path}
use Rattle.hb_types.specs.declared.places.Path.TheVariants as path
use Rattle.hb_types.specs.Groups.{group_of, route}
use Rattle.hb_types.specs.Lists.{joined}
use Rattle.hb_types.specs.Places.{node_of_area}
use Rattle.hb_model.specs.declared.table.Table.{Table}
use Rattle.hb_model.specs.declared.reply.Reply.{Reply}
use Rattle.hb_model.specs.declared.statement.Statement.{Statement}
use Rattle.hb_model.specs.declared.statement.Statement.TheVariants as statement
use Rattle.hb_model.specs.declared.statement.What.TheVariants as what
use Rattle.hb_model.specs.Define.{create_table_refusals, add_area_refusals}
use Rattle.hb_model.specs.Does.{does, effect, is_accepted}
use Rattle.hb_model.specs.Refusals.{first_refusal, insert_refusals, select_refusals, update_refusals}
use Rattle.hb_model.specs.Spots.{ds, areas_space, tables_space, members_space, entries_space, dictionary_space, entry_place, space_in, place_in, ascending}
use Rattle.hb_model.specs.Rows.{key_of, point}
use Rattle.hb_types.specs.Ladders.{ladder}
use Rattle.hb_model.specs.State.{State, Spread, table_named, spread_named, area_named}

-- a lock that is needed at a node
pub record Need : Type 0 where
  pub node : ℕ
  pub path : Path
  pub mode : Mode

abbrev pub at_ds : Path → Mode → Need
at_ds p m = record { node = ds; path = p; mode = m }

abbrev pub in_area : ℕ → Path → Mode → Need
in_area area p m = record { node = node_of_area area; path = p; mode = m }

abbrev pub on_space : ℕ → Mode → Need
on_space space m = at_ds (path.Whole (dictionary_space space)) m

abbrev pub on_group : ℕ → ℕ → Mode → Need
on_group space table m = at_ds (path.Group (dictionary_space space) table) m

-- ---- the areas that a statement looks into

abbrev pub route_of : Spread → ℤ → List ℕ
route_of t key = route (slice_index_or t.entries (group_of key) (At 0))

abbrev pub areas_of_routes : Spread → List ℕ
areas_of_routes t = ascending (flat_map route t.entries)

-- the locks on the entries and in the areas, for a key or for all rows
abbrev pub row_locks : Mode → Spread → Option ℤ → List Need
row_locks m t (Some key) =
    at_ds (path.Key (entry_place t.number (group_of key))) mode.S
    ∷ map (λ a. in_area a (path.Key (place_in a t.number key)) m) (route_of t key)
row_locks m t None = on_group entries_space t.number mode.S ∷ map (λ a. in_area a (path.Whole (space_in a t.number)) m) (areas_of_routes t)

-- the granted Lock requests of one transaction
abbrev pub most_locks : ℕ
most_locks = 65536

-- ---- the locks of a plan, in stages: a refusal comes between two of them

abbrev pub on_rows : State → List ℕ → Mode → (Table → Option ℤ) → List (List Need)
on_rows s name m key =
    (on_space tables_space mode.S ∷ [])
    ∷ unwrap_or (option_map (λ t. unwrap_or (option_map (λ spread. row_locks m spread (key t)) (spread_named s name)) []) (table_named s name)) [] ∷ []

abbrev pub next_number : State → ℕ
next_number s = length s.layout.spreads + 1

abbrev pub number_named : State → List ℕ → ℕ
number_named s name = unwrap_or (option_map (λ t. t.number) (spread_named s name)) 0

abbrev pub stages : State → Statement → List (List Need)
stages s (statement.CreateArea name node) = (on_space areas_space mode.X ∷ []) ∷ []
stages s (statement.CreateTable name columns key areas) =
    (on_space tables_space mode.X ∷ []) ∷ (on_space areas_space mode.S ∷ [])
    ∷ (on_group members_space (next_number s) mode.X ∷ on_group entries_space (next_number s) mode.X ∷ []) ∷ []
stages s (statement.AddArea table area) =
    (on_space tables_space mode.S ∷ []) ∷ (on_space areas_space mode.S ∷ []) ∷ (on_group members_space (number_named s table) mode.X ∷ [])
    ∷ (on_group entries_space (number_named s table) mode.X ∷ []) ∷ []
stages s (statement.Insert table values) = on_rows s table mode.X (λ t. Some (key_of t values))
stages s (statement.Select w table pred) = on_rows s table mode.S (λ t. point t pred)
stages s (statement.Update table sets pred) = on_rows s table mode.X (λ t. point t pred)
stages s (statement.Delete table pred) = on_rows s table mode.X (λ t. point t pred)
stages s (statement.LockTable table exclusive) = on_rows s table (if exclusive then mode.X else mode.S) (λ t. None)
stages s _ = []

-- ---- how far a plan goes

abbrev pub refused_by : List (Bool × Reply) → Bool
refused_by rs = is_some (first_refusal rs)

abbrev pub no_rows : Table → Table
no_rows t = record t { rows = [] }

-- a statement on a table goes on once the table is found and nothing in the statement itself is refused
abbrev pub on_rows_reached : State → List ℕ → (Table → List (Bool × Reply)) → ℕ
on_rows_reached s name refusals = unwrap_or (option_map (λ t. if refused_by (refusals (no_rows t)) then 1 else 2) (table_named s name)) 1

abbrev pub reached : State → Statement → ℕ
reached s (statement.CreateArea name node) = 1
reached s (statement.CreateTable name columns key areas) =
    if refused_by (take 5 (create_table_refusals s name columns key areas)) then 1
    else (if refused_by (create_table_refusals s name columns key areas) then 2 else 3)
reached s (statement.AddArea table area) =
    unwrap_or (option_map (λ t.
    if refused_by (take 1 (add_area_refusals t (area_named s area))) then 2
    else (if refused_by (take 2 (add_area_refusals t (area_named s area))) then 3 else 4)) (spread_named s table)) 1
reached s (statement.Insert table values) = on_rows_reached s table (λ t. insert_refusals t values)
reached s (statement.Select w table pred) = on_rows_reached s table (λ t. select_refusals t w pred)
reached s (statement.Update table sets pred) = on_rows_reached s table (λ t. update_refusals t sets pred)
reached s (statement.Delete table pred) = on_rows_reached s table (λ t. select_refusals t what.All pred)
reached s (statement.LockTable table exclusive) = on_rows_reached s table (λ t. [])
reached s _ = 0

abbrev pub with_ancestors : Need → List Need
with_ancestors n = map (λ l. record { node = n.node; path = l.path; mode = l.mode }) (ladder n.path n.mode)

-- the Lock requests of a statement's plan, up to the place of its refusal, once so many were granted before
abbrev pub locks_asked : State → ℕ → Statement → List Need
locks_asked s granted st = take (most_locks - granted) (joined (take (reached s st) (stages s st)))

-- the locks that a statement needs, with the ancestors in their intention modes
unfoldable pub needs : State → ℕ → Statement → List Need
needs s granted st = flat_map with_ancestors (locks_asked s granted st)

-- ---- the count of Lock requests

-- how many Lock requests the whole plan of a statement makes, where nothing refuses it
abbrev pub locks_of : State → Statement → ℕ
locks_of s st = length (joined (stages s st))

-- For each statement, given whether its Lock requests are said to be too many: the plans of the accepted statements
-- must, and those of all statements may, pass the limit.
abbrev pub MayBeFull : ℕ → State → ℕ → ℕ → ℕ → List (Statement × Bool) → Type 0
MayBeFull back_ends s spent accepted all [] = ⊤
MayBeFull back_ends s spent accepted all (st ∷ sts) =
    let e = does back_ends s spent st.1 st.0 in
    let count = locks_of s st.0 in
    let accepted_now : ℕ = accepted + (if is_accepted spent (effect back_ends s st.0) then count else 0) in
    (most_locks < accepted_now → st.1 ≡ true) × (st.1 ≡ true → most_locks < all + count)
    × MayBeFull back_ends e.state (spent + e.bytes) (if st.1 then accepted else accepted_now) (all + count) sts

-- ---- what pdrbal locks

-- a check reads the names and all entries
abbrev pub check_locks : ℕ → List Need
check_locks table = on_space tables_space mode.S ∷ on_group entries_space table mode.S ∷ []

-- a batch of these keys of a group from one area to another
abbrev pub batch_locks : ℕ → ℕ → ℕ → ℕ → List ℤ → List Need
batch_locks table group old new keys =
    at_ds (path.Key (entry_place table group)) mode.S
    ∷ flat_map (λ k. in_area old (path.Key (place_in old table k)) mode.X ∷ in_area new (path.Key (place_in new table k)) mode.X ∷ []) keys

-- a finish of a group in its old area
abbrev pub finish_locks : ℕ → ℕ → ℕ → List Need
finish_locks table group old =
    at_ds (path.Key (entry_place table group)) mode.X ∷ in_area old (path.Group (space_in old table) group) mode.S ∷ []

-- the same with the ancestors
abbrev pub check_needs : ℕ → List Need
check_needs table = flat_map with_ancestors (check_locks table)

abbrev pub batch_needs : ℕ → ℕ → ℕ → ℕ → List ℤ → List Need
batch_needs table group old new keys = flat_map with_ancestors (batch_locks table group old new keys)

abbrev pub finish_needs : ℕ → ℕ → ℕ → List Need
finish_needs table group old = flat_map with_ancestors (finish_locks table group old)
