-- How many groups an area has, and what becomes of an entry where an area is added.
use Rattle.std.specs.Prelude.{◌≡◌, ◌<◌, ◌+◌, ◌*◌, ℕ, List, count_by, Contains, ◌⊎◌}
use Rattle.hb_types.specs.declared.entry.Entry.{Entry}
use Rattle.hb_types.specs.declared.entry.Entry.TheVariants.{At, Moving}
use Rattle.hb_types.specs.Groups.{groups, is_at, target}

-- the group lies in an area of the list
abbrev pub IsPlaced : List ℕ → Entry → Type 0
IsPlaced areas (At a) = Contains areas a
IsPlaced areas (Moving a b) = ⊥

-- how many groups lie in the area
abbrev pub count_at : List Entry → ℕ → ℕ
count_at entries area = count_by (is_at area) entries

-- the group stays where it is, or moves to the added area
abbrev pub StaysOrMoves : ℕ → Entry → Entry → Type 0
StaysOrMoves added old new = (new ≡ old) ⊎ (new ≡ Moving (target old) added)

-- the count differs by less than 1 from all groups over the number of areas
abbrev pub IsEvenShare : ℕ → ℕ → Type 0
IsEvenShare count areas = (groups < count * areas + areas) × (count * areas < groups + areas)
