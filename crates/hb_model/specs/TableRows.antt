-- When the rows of a family are those of a table, said by what stands at each key along the route of its group.
use Rattle.std.specs.Prelude.{◌≡◌, ◌⊎◌, ℕ, ◌≤◌, ℤ, Bool, List, [], ◌∷◌, Option, Some, None, option_map, find, slice_get, Contains}
use Rattle.std.specs.Option.{option_or}
use Rattle.std.specs.Ordering.{int_eq}
use Rattle.hb_types.specs.declared.entry.Entry.{Entry}
use Rattle.hb_types.specs.declared.entry.Entry.TheVariants.{Moving}
use Rattle.hb_types.specs.declared.places.Place.{Place}
use Rattle.hb_types.specs.declared.value.Value.{Value}
use Rattle.hb_types.specs.Groups.{group_of, route}
use Rattle.hb_types.specs.Places.{node_of_area}
use Rattle.hb_types.specs.Put.{lookup}
use Rattle.hb_types.specs.Rows.{row_bytes}
use Rattle.hb_model.specs.declared.table.Table.{Table}
use Rattle.hb_model.specs.Answers.{rows_of}
use Rattle.hb_model.specs.Families.{Family}
use Rattle.hb_model.specs.Rows.{key_of}
use Rattle.hb_model.specs.Spots.{place_in}
use Rattle.hb_model.specs.State.{Spread}

-- what stands at a key of a table in an area
abbrev pub standing : Family → ℕ → ℤ → ℕ → Option (List ℕ)
standing family table key area = lookup (place_in area table key) (rows_of (node_of_area area) family)

-- what stands at a key, in the first of these areas that has it
abbrev pub along : Family → ℕ → ℤ → List ℕ → Option (List ℕ)
along family table key [] = None
along family table key (a ∷ more) = option_or (standing family table key a) (along family table key more)

abbrev pub has_key : Table → ℤ → List Value → Bool
has_key t key row = int_eq (key_of t row) key

-- the row of a key
abbrev pub row_of : Table → ℤ → Option (List Value)
row_of t key = find (has_key t key) t.rows

-- a place is that of its key's group, in an area of the group's route, on the area's node
pub record IsPlaced (spread : Spread) (node : ℕ) (p : Place) : Type 0 where
  pub group : p.group ≡ group_of p.key
  pub on_node : node_of_area p.space.area ≡ node
  pub area : (e : Entry) × (slice_get spread.entries p.group ≡ Some e) × Contains (route e) p.space.area

-- The table's rows on the back ends, which are the nodes from 2 on, lie where they may; of a Moving group's two areas
-- at most one has a key; and what stands along a key's route is the table's row of that key.
pub record TableRows (family : Family) (t : Table) (spread : Spread) : Type 0 where
  pub placed : (node : ℕ) (p : Place) (row : List ℕ) → 2 ≤ node → p.space.table ≡ spread.number → lookup p (rows_of node family) ≡ Some row
      → IsPlaced spread node p
  pub once : (key : ℤ) (a b : ℕ) → slice_get spread.entries (group_of key) ≡ Some (Moving a b)
      → (standing family spread.number key a ≡ None) ⊎ (standing family spread.number key b ≡ None)
  pub same : (key : ℤ) (e : Entry) → slice_get spread.entries (group_of key) ≡ Some e
      → along family spread.number key (route e) ≡ option_map row_bytes (row_of t key)
