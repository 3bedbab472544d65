-- Rows of the dictionary as CREATE and ALTER read them, and the changes that they make.
use Rattle.std.specs.Prelude.{◌≡◌, ℕ, ◌+◌, ◌≤◌, ◌==◌, nat_le, nat_lt, pos, Bool, false, not, ◌&&◌, ◌||◌, List, [], ◌∷◌, ◌++◌, length, map, All, Some, slice_index_or}
use Rattle.std.specs.Str.{bytes_eq}
use Rattle.std.specs.List.{list_all, list_any, range_with_len}
use Rattle.hb_types.specs.declared.change.Change.{Change}
use Rattle.hb_types.specs.declared.change.Stored.{Stored}
use Rattle.hb_types.specs.declared.entry.Entry.{Entry}
use Rattle.hb_types.specs.declared.entry.Entry.TheVariants.{At, Moving}
use Rattle.hb_types.specs.declared.value.Column.{Column}
use Rattle.hb_types.specs.Groups.{quota}
use Rattle.hb_types.specs.Lists.{Each, has_twins}
use Rattle.hb_types.specs.Records.{IsChange}
use Rattle.hb_model.specs.declared.reply.Reply.{Reply}
use Rattle.hb_model.specs.declared.reply.Reply.TheVariants as reply
use Rattle.hb_model.specs.Define.{add_area_refusals, is_key_number}
use Rattle.hb_model.specs.State.{State, Area, Spread}
use Rattle.hb_model.specs.Told.{Found}
use Rattle.hb_talk.specs.PlansDefine.{named_only, put_row}
use Rattle.hb_dict.specs.declared.area.AreaDef.{AreaDef}
use Rattle.hb_dict.specs.DictionaryRows.{IsAreaRow, IsMemberRow}
use Rattle.hb_groups.specs.Counts.{count_at}
use Rattle.hb_planrows.specs.PlanRows.{IsSited}

-- ---- what is read

-- a row of the dictionary's areas: an area of one of eight back ends, at its number
pub record TellsArea (r : Stored) : Type 0 where
  pub definition : (d : AreaDef) × IsAreaRow r.row d
  pub number : (n : ℕ) × IsSited n × (r.place.key ≡ pos n)

abbrev pub TellAreas : List Stored → Type 0
TellAreas rows = All TellsArea rows

-- a row of a table's members
abbrev pub TellsMember : Stored → Type 0
TellsMember r = (area : ℕ) × IsMemberRow r.row area

abbrev pub TellMembers : List Stored → Type 0
TellMembers rows = All TellsMember rows

-- the state that has these tables and these areas, as far as rows tell it
abbrev pub state_told : List Found → List Area → State
state_told tables areas = record { tables = map (λ f. f.1) tables; layout = record { areas = areas; spreads = map named_only tables } }

-- the refusals of the columns and the key of a new table
abbrev pub columns_refusals : List Column → List ℕ → List (Bool × Reply)
columns_refusals columns key =
    (has_twins (λ a b. bytes_eq a.name b.name) columns, reply.ColumnTwice)
    ∷ (not (list_any (λ c. bytes_eq c.name key) columns), reply.NoColumn)
    ∷ (not (is_key_number columns key) || list_any (λ c. nat_lt 255 c.size) columns, reply.WrongType)
    ∷ []

-- ---- what is written

-- a change of the dictionary
abbrev pub IsDefined : Change → Type 0
IsDefined c = IsChange c × (c.place.space.area ≡ 0)

-- the changes that put rows, behind others
pub record Puts (old new : List Change) (rows : List Stored) : Type 0 where
  pub changes : new ≡ old ++ map put_row rows
  pub sound : Each IsDefined old → Each IsDefined new

-- ---- an area added to a table

-- the spread of a table of this number, as far as CREATE TABLE and ADD RDAREA ask
abbrev pub spread_told : ℕ → List ℕ → List Entry → Spread
spread_told number members entries = record { number = number; name = []; members = members; entries = entries }

abbrev pub added_refusals : List ℕ → List Entry → ℕ → List (Bool × Reply)
added_refusals members entries area = add_area_refusals (spread_told 0 members entries) (Some (record { number = area; name = [] }))

-- an entry that reads back as it is written: it names no area of ds
abbrev pub IsMarked : Entry → Type 0
IsMarked (At a) = 1 ≤ a
IsMarked (Moving a b) = (1 ≤ a) × (1 ≤ b)

abbrev pub is_placed : List ℕ → Entry → Bool
is_placed members (At a) = nat_le 1 a && list_any (λ m. a == m) members
is_placed members (Moving a b) = false

-- whether an area has as many groups as it keeps where one more area is added
abbrev pub has_enough : List ℕ → List Entry → ℕ → Bool
has_enough members entries i = nat_le (quota i (length members + 1)) (count_at entries (slice_index_or members i 0))

-- whether each group lies in one of 1 to 15 distinct areas, none of ds, and each area has as many groups as it keeps
abbrev pub can_spread : List ℕ → List Entry → Bool
can_spread members entries =
    (length entries == 1024) && (nat_le 1 (length members) && (nat_le (length members) 15 && (not (has_twins (λ a b. a == b) members)
    && (list_all (is_placed members) entries && list_all (has_enough members entries) (range_with_len 0 (length members))))))

-- an entry with areas of two bytes
abbrev pub AreSmall : Entry → Type 0
AreSmall (At a) = a ≤ 65535
AreSmall (Moving a b) = (a ≤ 65535) × (b ≤ 65535)
