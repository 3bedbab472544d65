-- What the whole-image store means.
use Rattle.std.specs.Prelude.{◌≡◌, ℕ, ◌+◌, ◌*◌, ◌≤◌, Bool, List, length, Option, Some, None}
use Rattle.std.proofs.Common.{arith, ap}
use Rattle.hb_edge.specs.Images.{Image}
use Rattle.hb_types.specs.declared.change.Stored.{Stored}
use Rattle.hb_types.specs.declared.places.Place.{Place}
use Rattle.hb_store.specs.declared.point.Point.{Point as Mark}
use Rattle.hb_disks.specs.Points.{Point}
use Rattle.hb_disks.specs.WholeImage.{PointIs}
use Rattle.hb_whole.specs.declared.valid.Valid.{Valid}
use Rattle.hb_whole.specs.declared.whole.Whole.{Whole}
use Rattle.hb_whole.specs.Kept.{Keeps}
use Rattle.hb_whole.specs.KeptLaws.{keeps_valid}
use Rattle.hb_whole.specs.Points.{due_of, is_spent, IsStaged}
use Rattle.hb_whole.specs.Slots.{rows_of, room_at}

abbrev pub rows_in : Whole → List Stored
rows_in s = rows_of s.slots

abbrev pub room_in : Whole → Place → ℕ
room_in s place = room_at s.slots place

abbrev pub begun_in : Whole → Option Mark
begun_in s = s.begun

abbrev pub due_in : Whole → ℕ
due_in s = due_of s.begun s.written

abbrev pub spent_in : Whole → Bool
spent_in s = is_spent s.valid (rows_of s.slots) s.written

abbrev pub keeps_in : Whole → Option Point → Image → Type 0
keeps_in s p image = Keeps s.valid s.spare_open p image

abbrev pub staged_in : Whole → Image → Type 0
staged_in s image = IsStaged s.begun s.valid s.spare_open (rows_of s.slots) s.written image

pub holds_in : (s : Whole) (p : Option Point) (image : List ℕ) → keeps_in s p image → PointIs image p
holds_in s p image k = keeps_valid s.valid s.spare_open p image k

none_due : (begun : Option Mark) (written : Option Valid) → begun ≡ None → due_of begun written ≡ 0
none_due begun written e = ap (λ (b : Option Mark). due_of b written) e

pub none_due_in : (s : Whole) → begun_in s ≡ None → due_in s ≡ 0
none_due_in s e = none_due s.begun s.written e

few_due : (begun : Option Mark) (written : Option Valid) (n : ℕ) → due_of begun written ≤ 2 * n + 1
few_due None written n = omega arith
few_due (Some m) None n = omega arith
few_due (Some m) (Some next) n = omega arith

pub few_due_in : (s : Whole) → due_in s ≤ 2 * length (rows_in s) + 1
few_due_in s = few_due s.begun s.written (length (rows_of s.slots))
