-- What a store knows of each image that its disk may leave.
use Rattle.std.specs.Prelude.{◌≡◌, ◌⊎◌, ℕ, ◌+◌, ◌<◌, ◌≤◌, ◌^◌, All, nat_lt, Bool, true, false, not, if◌then◌else◌, length, Option, Some, None, IfSome}
use Rattle.hb_edge.specs.Images.{Image}
use Rattle.hb_types.specs.Lists.{Ascends, IsAt}
use Rattle.hb_types.specs.Numbers.{greatest}
use Rattle.hb_types.specs.Places.{place_cmp, IsPlace}
use Rattle.hb_types.specs.Rows.{IsRow}
use Rattle.hb_disks.specs.Points.{Point}
use Rattle.hb_disks.specs.WholeImage.{IsPointAt, image_bytes, is_open, sequence_at}
use Rattle.hb_whole.specs.declared.valid.Valid.{Valid}

-- the place of the second header, or of the first
abbrev pub header_at : Bool → ℕ
header_at second = if second then 64 else 0

-- the header on which the next point is made
abbrev pub spare_at : Option Valid → ℕ
spare_at None = 0
spare_at (Some v) = header_at (not v.second)

-- the point stands in the image where the store knows it; where it knows none, no header is opened
abbrev pub Stands : Option Valid → Option Point → Image → Type 0
Stands None p image = (p ≡ None) × (is_open image 0 ≡ false) × (is_open image 64 ≡ false)
Stands (Some v) p image =
    (q : Point) × (p ≡ Some q) × IsPointAt image q (header_at v.second) v.place × (q.sequence ≡ v.sequence) × (length (image_bytes q.rows) ≡ v.length)

-- the image keeps the valid point; whether the other header is opened, and then it is the older one
pub record Keeps (valid : Option Valid) (spare_open : Bool) (p : Option Point) (image : Image) : Type 0 where
  pub long : 128 ≤ length image
  pub stands : Stands valid p image
  pub gate : is_open image (spare_at valid) ≡ spare_open
  pub older : spare_open ≡ true → IfSome valid (λ v. nat_lt (sequence_at image 0) (sequence_at image 64) ≡ v.second)

-- these bytes are no bytes of the valid point
abbrev pub Avoids : Option Valid → ℕ → ℕ → Type 0
Avoids None at n = (1 ≤ at) × ((at + n ≤ 64) ⊎ (65 ≤ at))
Avoids (Some v) at n = ((header_at v.second + 64 ≤ at) ⊎ (at + n ≤ header_at v.second)) × ((v.place + v.length ≤ at) ⊎ (at + n ≤ v.place))

-- an image that is to become the new point's, but for its header
pub record IsReady (valid : Option Valid) (read : Image) (q : Point) (next : Valid) : Type 0 where
  pub other : header_at next.second ≡ spare_at valid
  pub sequence : q.sequence ≡ next.sequence
  pub newer : IfSome valid (λ v. (next.second ≡ not v.second) × (v.sequence + 1 ≤ next.sequence))
  pub behind_headers : 128 ≤ next.place
  pub length : length (image_bytes q.rows) ≡ next.length
  pub imaged : IsAt read next.place (image_bytes q.rows)

-- a point that has bytes
pub record Fits (q : Point) (next : Valid) : Type 0 where
  pub place_small : next.place < 2 ^ 64
  pub sequence_small : q.sequence < 2 ^ 64
  pub length_small : length (image_bytes q.rows) < 2 ^ 64
  pub few : length q.rows < 2 ^ 32
  pub from_small : q.from ≤ greatest
  pub floor_small : q.floor ≤ greatest
  pub rows_ascend : Ascends (λ a b. place_cmp a.place b.place) q.rows
  pub rows_are_rows : All (λ r. IsPlace r.place × IsRow r.row) q.rows

-- each of these images keeps the valid point
abbrev pub AreKept : (Image → Type 0) → Option Valid → Bool → Option Point → Type 0
AreKept left valid spare_open p = (image : Image) → left image → Keeps valid spare_open p image
