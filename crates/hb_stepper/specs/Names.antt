-- The names of sessions, at their places by first appearance.
use Rattle.std.specs.Prelude.{◌≡◌, ◌≢◌, ◌⊎◌, ℕ, ◌<◌, ◌≤◌, false, List, [], ◌∷◌, ◌++◌, length, Some, None, slice_get}
use Rattle.hb_caller.specs.Calling.{in_transaction, busy}
use Rattle.hb_stepper.specs.declared.seat.Seat.{Seat}
use Rattle.hb_stepper.specs.Running.{Running}

-- the first place of a name
pub record IsPlaceOf (names : List (List ℕ)) (name : List ℕ) (place : ℕ) : Type 0 where
  pub at : slice_get names place ≡ Some name
  pub first : (k : ℕ) → k < place → slice_get names k ≢ Some name

abbrev pub IsNew : List (List ℕ) → List ℕ → Type 0
IsNew names name = (k : ℕ) → slice_get names k ≢ Some name

-- a session that was given nothing yet
pub record IsFresh (place : ℕ) (seat : Seat) : Type 0 where
  pub index : seat.caller.session.index ≡ place
  pub idle : busy seat.caller ≡ false
  pub none : in_transaction seat.caller ≡ false
  pub work : seat.work ≡ None
  pub held : seat.held ≡ false

-- one session more, while there are fewer than 16
pub record Seated (old new : List Seat) : Type 0 where
  pub more : length old < 16 → (seat : Seat) × IsFresh (length old) seat × (new ≡ old ++ seat ∷ [])
  pub full : 16 ≤ length old → new ≡ old

-- a new name stands behind the others, and has a session if it is one of the first 16
pub record IsAdded (old : Running) (name : List ℕ) (place : ℕ) (new : Running) : Type 0 where
  pub unknown : IsNew old.names name
  pub last : place ≡ length old.names
  pub names : new.names ≡ old.names ++ name ∷ []
  pub seats : Seated old.seats new.seats
  pub waiters : new.waiters ≡ old.waiters
  pub lines : new.lines ≡ old.lines
  pub lists : new.lists ≡ old.lists

-- the name has this place, and has got it where it was new
abbrev pub Named : Running → List ℕ → ℕ → Running → Type 0
Named old name place new = (IsPlaceOf old.names name place × (new ≡ old)) ⊎ IsAdded old name place new
