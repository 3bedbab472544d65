-- Where things lie: the spaces of the dictionary, the places of rows, and the nodes of both.
use Rattle.std.specs.Prelude.{ℕ, ℤ, pos, nat_lt, ◌==◌, if◌then◌else◌, List, [], ◌∷◌, fold}
use Rattle.hb_types.specs.declared.places.Place.{Place}
use Rattle.hb_types.specs.declared.places.Space.{Space}
use Rattle.hb_types.specs.Groups.{group_of}

-- the node of the dictionary
abbrev pub ds : ℕ
ds = 1

abbrev pub areas_space : ℕ
areas_space = 1

abbrev pub tables_space : ℕ
tables_space = 2

abbrev pub members_space : ℕ
members_space = 3

abbrev pub entries_space : ℕ
entries_space = 4

abbrev pub dictionary_space : ℕ → Space
dictionary_space table = record { area = 0; table = table }

-- the place of the row of a group's entry
abbrev pub entry_place : ℕ → ℕ → Place
entry_place table group = record { space = dictionary_space entries_space; group = table; key = pos group }

-- a table's rows in an area
abbrev pub space_in : ℕ → ℕ → Space
space_in area table = record { area = area; table = table }

-- the place of a key's row in an area
abbrev pub place_in : ℕ → ℕ → ℤ → Place
place_in area table key = record { space = space_in area table; group = group_of key; key = key }

-- ---- numbers in order

abbrev pub with_number : ℕ → List ℕ → List ℕ
with_number n [] = n ∷ []
with_number n (m ∷ ms) = if nat_lt n m then n ∷ m ∷ ms else (if n == m then m ∷ ms else m ∷ with_number n ms)

-- the numbers of a list, ascending, each once
abbrev pub ascending : List ℕ → List ℕ
ascending xs = fold (λ ns n. with_number n ns) [] xs
