-- A point that is made piece by piece, and one that is read.
use Rattle.std.specs.Prelude.{◌≡◌, ℕ, ◌+◌, ◌<◌, ◌≤◌, ◌^◌, nat_le, nat_lt, Bool, true, false, ◌||◌, List, length, take, drop, Option, Some, None, is_some, IfSome, unwrap_or}
use Rattle.hb_edge.specs.Images.{Image}
use Rattle.hb_edge.specs.Stops.{Leaves}
use Rattle.hb_types.specs.declared.change.Stored.{Stored}
use Rattle.hb_types.specs.Lists.{Ascends, Each, IsAt}
use Rattle.hb_types.specs.Numbers.{greatest}
use Rattle.hb_types.specs.Places.{place_cmp}
use Rattle.hb_store.specs.declared.point.Point.{Point as Mark}
use Rattle.hb_store.specs.Meanings.{mark_of, IsStored}
use Rattle.hb_disks.specs.Points.{Point, no_point}
use Rattle.hb_disks.specs.WholeImage.{PointIs, image_bytes, valid_header}
use Rattle.hb_whole.specs.declared.header.Header.{Header}
use Rattle.hb_whole.specs.declared.valid.Valid.{Valid}
use Rattle.hb_whole.specs.Headers.{IsHeader, text_of}
use Rattle.hb_whole.specs.Kept.{Keeps, header_at}
use Rattle.hb_whole.specs.Next.{next_place, next_second, next_sequence}

-- ---- a point that is made

-- how many flushes a begun point still needs: its one image is written, or it isn't
abbrev pub due_of : Option Mark → Option Valid → ℕ
due_of None written = 0
due_of (Some m) None = 1
due_of (Some m) (Some next) = 0

-- no place is left for these rows: the sequence would pass 2^62, they are too many, or their image would end past 2^62
abbrev pub has_no_place : Option Valid → List Stored → Bool
has_no_place valid rows =
    (nat_lt (2 ^ 62) (next_sequence valid) || nat_le (2 ^ 32) (length rows))
    || nat_lt (2 ^ 62) (next_place valid (length (image_bytes rows)) + length (image_bytes rows))

-- a point whose image is written has its place
abbrev pub is_spent : Option Valid → List Stored → Option Valid → Bool
is_spent valid rows None = has_no_place valid rows
is_spent valid rows (Some next) = false

-- where the next point of these rows is to stand
pub record IsNext (valid : Option Valid) (rows : List Stored) (next : Valid) : Type 0 where
  pub other : next.second ≡ next_second valid
  pub sequence : next.sequence ≡ next_sequence valid
  pub sequence_small : next_sequence valid ≤ 2 ^ 62
  pub few : length rows < 2 ^ 32
  pub long : next.length ≡ length (image_bytes rows)
  pub free : next.place ≡ next_place valid next.length
  pub inside : next.place + next.length ≤ 2 ^ 62

-- rows as a store holds them
pub record AreRows (rows : List Stored) : Type 0 where
  pub ascend : Ascends (λ a b. place_cmp a.place b.place) rows
  pub fit : Each IsStored rows

-- an image of these rows that has its place
pub record IsMade (valid : Option Valid) (rows : List Stored) (next : Valid) (bytes : List ℕ) : Type 0 where
  pub plan : IsNext valid rows next
  pub sound : AreRows rows
  pub free : has_no_place valid rows ≡ false
  pub text : bytes ≡ image_bytes rows

-- the image of these rows is written for the next point, behind the headers
pub record IsWritten (valid : Option Valid) (rows : List Stored) (next : Valid) (image : Image) : Type 0 where
  pub plan : IsNext valid rows next
  pub sound : AreRows rows
  pub behind_headers : 128 ≤ next.place
  pub imaged : IsAt image next.place (image_bytes rows)

-- from and floor are in the format
abbrev pub IsMark : Mark → Type 0
IsMark m = (m.from ≤ greatest) × (m.floor.0 ≤ greatest)

-- what was written of a begun point stands in the image
pub record IsStaged (begun : Option Mark) (valid : Option Valid) (spare_open : Bool) (rows : List Stored) (written : Option Valid) (image : Image) : Type 0 where
  pub mark : IfSome begun IsMark
  pub closed : is_some written ≡ true → spare_open ≡ false
  pub stands : IfSome written (λ next. IsWritten valid rows next image)

-- ---- a point that is read

-- a header's numbers are in the format, and its image lies behind the headers in a file of this size
pub record IsWithin (h : Header) (size : ℕ) : Type 0 where
  pub from_small : h.from ≤ greatest
  pub floor_small : h.floor ≤ greatest
  pub behind_headers : 128 ≤ h.place
  pub inside : h.place + h.length ≤ size

-- the header behind an opened gate of the first 128 bytes of a file of this size
pub record HasHeader (headers : List ℕ) (second : Bool) (size : ℕ) (h : Header) : Type 0 where
  pub text : take 63 (drop (header_at second + 1) headers) ≡ text_of h
  pub numbers : IsHeader h
  pub within : IsWithin h size

-- the file has a valid point with these rows, and keeps it as the store is to know it; or it has none
pub record IsFound (read : Image) (valid : Option Valid) (spare_open : Bool) (mark : Mark) (rows : List Stored) : Type 0 where
  pub point : Option Point
  pub keeps : Keeps valid spare_open point read
  pub marked : mark ≡ mark_of (unwrap_or point no_point)
  pub rowed : rows ≡ (unwrap_or point no_point).rows

-- the file's valid header is at this place, and its point isn't in the format
abbrev pub IsDamaged : Image → ℕ → Type 0
IsDamaged read place = (valid_header read ≡ Some place) × ((p : Option Point) → PointIs read p → ⊥)

-- Nothing is changed from one moment to another: what a stop leaves since, and now, is what it left before.
pub record IsQuiet (from to : ℕ) (old new : ℕ → Image → Type 0) (last now : ℕ) : Type 0 where
  pub later : from ≤ to
  pub in_time : last ≤ from → now ≤ to
  pub leaves : last ≤ from → Leaves from old new (λ m image. old last image)
  pub here : (image : Image) → new now image → old last image
