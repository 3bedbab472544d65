-- Families of rows: those of ds and of each back end, in order.
use Rattle.std.specs.Prelude.{◌≡◌, ℕ, ◌+◌, List, Some, slice_get}
use Rattle.hb_types.specs.declared.change.Stored.{Stored}

-- the rows of ds and of each back end, in order
abbrev pub Family : Type 0
Family = List (List Stored)

-- something holds of each server with its name: ds is 1, and the back ends follow
abbrev pub EachServer : {A : Type 0} → List A → (ℕ → A → Type 0) → Type 0
EachServer {A} servers P = (i : ℕ) (s : A) → slice_get servers i ≡ Some s → P (i + 1) s
