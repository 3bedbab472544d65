-- A server that comes up: what it stands for, and a branch in doubt that is put back.
use Rattle.std.specs.Prelude.{◌≡◌, ◌≢◌, ◌⊎◌, ℕ, Bool, true, false, List, [], ◌∷◌, ◌++◌, None}
use Rattle.std.specs.List.{list_all}
use Rattle.hb_types.specs.declared.change.Change.{Change}
use Rattle.hb_types.specs.declared.lock.Held.{Held}
use Rattle.hb_types.specs.declared.names.Number.{Number}
use Rattle.hb_types.specs.declared.names.Tx.{Tx}
use Rattle.hb_types.specs.declared.places.Path.{Path}
use Rattle.hb_types.specs.Lists.{Each, Has}
use Rattle.hb_types.specs.Places.{ancestors, intention}
use Rattle.hb_disks.specs.LogRules.{AreClosed, BranchFits}
use Rattle.hb_disks.specs.Redo.{Prepared, Redone}
use Rattle.hb_locks.specs.Locks.{Locks, IsCompatible, blockers, held_at, holders_at, mode_at}
use Rattle.hb_locks.specs.Takes.{wanted_at}
use Rattle.hb_runs.specs.Server.{SState, now}
use Rattle.hb_engine.specs.declared.engine.Engine.{Engine}
use Rattle.hb_engine.specs.Climbs.{Grants}
use Rattle.hb_engine.specs.Covers.{is_covered_at}
use Rattle.hb_engine.specs.Turned.{StandsFor}

-- an up server without live branches, with what redo found
pub record IsUpWith (r : Redone) (s : SState) : Type 0 where
  pub up : s.up ≡ true
  pub no_live : s.live ≡ []
  pub now_is : now s ≡ r

-- the engine, beside the rows, stands for a server that came up with this
abbrev pub Remembers : Engine → Redone → Type 0
Remembers e r = (s : SState) → IsUpWith r s → StandsFor e r.rows s

-- ---- a branch in doubt

abbrev pub prepared_as : Tx → Number → List Held → List Change → Prepared
prepared_as tx floor locks changes = record { tx = tx.0; floor = floor.0; locks = locks; changes = changes }

abbrev pub with_doubt : Redone → Prepared → Redone
with_doubt r p = record { rows = r.rows; floor = r.floor; doubts = r.doubts ++ p ∷ [] }

-- the branch fits beside those in doubt, and is one of them; or it does not fit
abbrev pub Restores : Engine → Redone → Prepared → Bool → Type 0
Restores e r p true = BranchFits r.doubts p × Remembers e (with_doubt r p)
Restores e r p false = ¬ (BranchFits r.doubts p)

-- ---- its locks

-- the paths above a lock are held in its intention mode or stronger
abbrev pub holds_above : Locks → Tx → Held → Bool
holds_above locks tx h = list_all (is_covered_at locks tx (intention h.mode)) (ancestors h.path)

-- a lock is granted, or those above it aren't held, or others stand in its way
abbrev pub TakesOne : Locks → Locks → Tx → Held → Bool → Type 0
TakesOne old new tx h true = Grants tx h old new
TakesOne old new tx h false = (holds_above old tx h ≡ false) ⊎ (blockers tx (wanted_at old tx h.path h.mode) (holders_at old h.path) ≢ [])

-- a transaction that held nothing was granted these locks, and nothing else
pub record Taken (old new : Locks) (tx : Tx) (hs : List Held) : Type 0 where
  pub own : (q : Path) → held_at new tx q ≡ mode_at hs q
  pub others : (t : Tx) (q : Path) → t.0 ≢ tx.0 → held_at new t q ≡ held_at old t q
  pub elsewhere : (q : Path) → mode_at hs q ≡ None → holders_at new q ≡ holders_at old q
  pub compatible : IsCompatible new
  pub free : Each (λ h. blockers tx h.mode (holders_at old h.path) ≡ []) hs
  pub closed : AreClosed hs

-- all are granted; or a lock lacks one above it, or others stand in the way of one
abbrev pub TakesAll : Locks → Locks → Tx → List Held → Bool → Type 0
TakesAll old new tx hs true = Taken old new tx hs
TakesAll old new tx hs false = (¬ (AreClosed hs)) ⊎ Has (λ h. blockers tx h.mode (holders_at old h.path) ≢ []) hs
