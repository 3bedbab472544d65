-- What is read from bytes.
use Rattle.std.specs.Prelude.{◌≡◌, ℕ, Bool, true, ◌+◌, ◌<◌, ◌≤◌, ◌^◌, List, [], ◌∷◌, ◌++◌, length, map, take, drop}
use Rattle.std.specs.Ordering.{is_lt}
use Rattle.hb_types.specs.declared.change.Stored.{Stored}
use Rattle.hb_types.specs.declared.places.Place.{Place}
use Rattle.hb_types.specs.Lists.{Ascends, Each, joined}
use Rattle.hb_types.specs.Places.{place_cmp}
use Rattle.hb_types.specs.Records.{change_bytes}
use Rattle.hb_store.specs.Meanings.{IsStored}
use Rattle.hb_disks.specs.WholeImage.{as_change, image_bytes}

-- the bytes are the image of these rows
pub record IsImage (bytes : List ℕ) (rows : List Stored) : Type 0 where
  pub few : length rows < 2 ^ 32
  pub spelled : bytes ≡ image_bytes rows
  pub ascend : Ascends (λ a b. place_cmp a.place b.place) rows
  pub fit : Each IsStored rows

-- a row is a front of the bytes
pub record IsFront (bytes : List ℕ) (row : Stored) (used : ℕ) : Type 0 where
  pub within : used ≤ length bytes
  pub spelled : take used bytes ≡ change_bytes (as_change row)
  pub fits : IsStored row

-- no row is a front of the bytes
abbrev pub HasNoRow : List ℕ → Type 0
HasNoRow bytes = (row : Stored) (more : List ℕ) → IsStored row → bytes ≡ change_bytes (as_change row) ++ more → ⊥

-- so many rows behind others, by ascending place, are all of the bytes
pub record Follow (left : ℕ) (done : List Stored) (rest : List ℕ) (rows : List Stored) : Type 0 where
  pub count : length rows ≡ left
  pub spelled : rest ≡ joined (map (λ r. change_bytes (as_change r)) rows)
  pub ascend : Ascends (λ a b. place_cmp a.place b.place) (done ++ rows)
  pub fit : Each IsStored rows

-- whether a place is above the last row
abbrev pub is_above : Place → List Stored → Bool
is_above place [] = true
is_above place (r ∷ []) = is_lt (place_cmp r.place place)
is_above place (r ∷ s ∷ rs) = is_above place (s ∷ rs)

-- no rows go on with these
abbrev pub GoesOnNever : List Stored → List ℕ → Type 0
GoesOnNever done rest = (left : ℕ) (rows : List Stored) → Follow (left + 1) done rest rows → ⊥

-- a loop that reads so many rows
pub record Reading (count : ℕ) (body : List ℕ) (rows : List Stored) (at left : ℕ) : Type 0 where
  pub within : at ≤ length body
  pub counted : length rows + left ≡ count
  pub spelled : take at body ≡ joined (map (λ r. change_bytes (as_change r)) rows)
  pub ascend : Ascends (λ a b. place_cmp a.place b.place) rows
  pub fit : Each IsStored rows
  pub exact : ((tail : List Stored) → Follow left rows (drop at body) tail → ⊥) → (all : List Stored) → Follow count [] body all → ⊥
