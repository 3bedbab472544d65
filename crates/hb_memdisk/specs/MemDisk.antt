-- What a disk in memory means.
use Rattle.std.specs.Prelude.{◌≡◌, ◌⊎◌, ℕ, ◌+◌, ◌-◌, ◌≤◌, Bool, true, false, ◌==◌, ◌&&◌, nat_lt, if◌then◌else◌, List, reverse, Option, Some, Result, OnOk, OnErr, unwrap_or, slice_index_or}
use Rattle.std.proofs.Common.{sym, subst, arith}
use Rattle.hb_edge.specs.Causes.{risen, Rose}
use Rattle.hb_edge.specs.Images.{Image}
use Rattle.hb_memdisk.specs.declared.call.Noted.{Noted}
use Rattle.hb_memdisk.specs.declared.memdisk.MemDisk.{MemDisk}
use Rattle.hb_memdisk.specs.Calls.{settled, filled, images, leaves}
use Rattle.hb_memdisk.specs.Listed.{is_listed}
use Rattle.hb_memdisk.specs.CallLaws.{reads_may, settled_may, filled_may, images_leaves, leaves_images}

-- the calls that are kept, the newest first
abbrev pub calls_of : MemDisk → List Noted
calls_of disk = reverse disk.calls.items

-- what a read gives
abbrev pub content_of : MemDisk → Image
content_of disk = unwrap_or disk.changed disk.first

-- a memory disk tells its content
abbrev pub told_of : MemDisk → Option Image
told_of disk = Some (content_of disk)

-- what a stop at a moment may leave
abbrev pub left_of : MemDisk → ℕ → Image → Type 0
left_of disk = leaves disk.first (calls_of disk)

-- the listed failures, and the calls that found no memory for their notes
abbrev pub faults_of : MemDisk → ℕ
faults_of disk = disk.failed + disk.short

-- a change of the disk's bytes leaves its script and its counts
pub record SameCounts (old new : MemDisk) : Type 0 where
  pub first : new.first ≡ old.first
  pub last : new.last ≡ old.last
  pub asked : new.asked ≡ old.asked
  pub restarts : new.restarts ≡ old.restarts
  pub failing : new.failing ≡ old.failing
  pub picks : new.picks ≡ old.picks
  pub failed : new.failed ≡ old.failed
  pub short : new.short ≡ old.short

-- One call: it is counted, and it fails exactly where its number is listed or it found no memory for its notes.
pub record Asks {T E : Type 0} (old new : MemDisk) (result : Result T E) : Type 0 where
  pub number : new.asked ≡ risen old.asked
  pub failing : new.failing ≡ old.failing
  pub picks : new.picks ≡ old.picks
  pub failed : new.failed ≡ (if is_listed new.asked old.failing.items then risen old.failed else old.failed)
  pub answered : OnOk result ((is_listed new.asked old.failing.items ≡ false) × (new.short ≡ old.short))
  pub refused : OnErr result ((is_listed new.asked old.failing.items ≡ true) ⊎ Rose old.short new.short)

-- the pick of the next restart: 0 when the list is spent
abbrev pub next_pick : MemDisk → ℕ
next_pick disk = slice_index_or disk.picks.items disk.restarts 0

-- the image that a restart with a pick leaves
abbrev pub picked : ℕ → MemDisk → Image
picked pick disk =
    if pick == 1 then content_of disk
    else (if nat_lt 1 pick && nat_lt pick 258 then filled (pick - 2) disk.first (calls_of disk) else settled disk.first (calls_of disk))

-- as it reads it is one of its images
pub disk_as_read : (disk : MemDisk) → left_of disk disk.last (content_of disk)
disk_as_read disk =
    images_leaves disk.first (calls_of disk) disk.last (content_of disk) disk.in_time
    (subst (images disk.first (calls_of disk)) (sym disk.as_read) (reads_may disk.first (calls_of disk)))

-- from its last call on nothing changes
pub disk_stands : (disk : MemDisk) (m : ℕ) (image : List ℕ) → disk.last ≤ m → left_of disk m image → left_of disk disk.last image
disk_stands disk m image le left =
    images_leaves disk.first (calls_of disk) disk.last image disk.in_time
    (leaves_images disk.first (calls_of disk) m image (omega (arith, le, disk.in_time)) left)

pub disk_stands_on : (disk : MemDisk) (m : ℕ) (image : List ℕ) → disk.last ≤ m → left_of disk disk.last image → left_of disk m image
disk_stands_on disk m image le left =
    images_leaves disk.first (calls_of disk) m image (omega (arith, le, disk.in_time))
    (leaves_images disk.first (calls_of disk) disk.last image disk.in_time left)

-- what a restart with a pick leaves is one of the images
pub picked_may : (disk : MemDisk) (pick : ℕ) → images disk.first (calls_of disk) (picked pick disk)
picked_may disk pick = by_bool (images disk.first (calls_of disk)) (pick == 1) read
    (by_bool (images disk.first (calls_of disk)) (nat_lt 1 pick && nat_lt pick 258) (filled_may (pick - 2) disk.first (calls_of disk)) (settled_may disk.first (calls_of disk)))
  where
    by_bool : (P : Image → Type 0) (b : Bool) {x y : Image} → P x → P y → P (if b then x else y)
    by_bool P true px py = px
    by_bool P false px py = py

    read : images disk.first (calls_of disk) (content_of disk)
    read = subst (images disk.first (calls_of disk)) (sym disk.as_read) (reads_may disk.first (calls_of disk))
