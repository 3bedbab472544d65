-- What a server that is up keeps, whatever its disks tell: a state that its branches stand for, which is sound, and room for the ends
-- of the branches that voted.
use Rattle.std.specs.Prelude.{◌≡◌, ℕ, ◌+◌, ◌*◌, ◌≤◌, List, length}
use Rattle.hb_types.specs.declared.answer.Answer.{Answer}
use Rattle.hb_types.specs.declared.change.Stored.{Stored}
use Rattle.hb_types.specs.declared.places.Place.{Place}
use Rattle.hb_types.specs.declared.request.Request.{Request}
use Rattle.hb_types.specs.Lists.{Each}
use Rattle.hb_types.specs.Numbers.{greatest, IsNumber}
use Rattle.hb_types.specs.Places.{IsPath}
use Rattle.hb_types.specs.Records.{IsChange}
use Rattle.hb_types.specs.Rows.{IsRow}
use Rattle.hb_disks.specs.LogPlaces.{end_behind}
use Rattle.hb_disks.specs.Redo.{Prepared}
use Rattle.hb_store.specs.Meanings.{room_for}
use Rattle.hb_runs.specs.Server.{Branch, SState, now}
use Rattle.hb_runs.specs.ServerRuns.{Turns}
use Rattle.hb_engine.specs.Turned.{StandsFor}
use Rattle.hb_force.specs.declared.running.Running.{Running}

-- numbers, paths and changes that a record can have
abbrev pub IsSoundBranch : Branch → Type 0
IsSoundBranch b = IsNumber b.tx × Each (λ l. IsPath l.path) b.locks × Each IsChange b.own

abbrev pub IsSoundDoubt : Prepared → Type 0
IsSoundDoubt p = IsNumber p.tx × (p.floor ≤ greatest) × Each IsChange p.changes

-- its rows are rows, too
pub record IsSound (s : SState) : Type 0 where
  pub live : Each IsSoundBranch s.live
  pub doubts : Each IsSoundDoubt (now s).doubts
  pub floor : (now s).floor ≤ greatest
  pub rows : Each (λ r. IsRow r.row) (now s).rows

pub record Kept {D S : Type 0} (rows : S → List Stored) (room : S → Place → ℕ) (r : Running D S) : Type 0 where
  pub state : SState
  pub stands : StandsFor r.engine (rows r.store) state
  pub sound : IsSound state
  pub end_is : r.log.end ≡ end_behind state.place state.log
  pub has_room : r.log.end + 32 * length (now state).doubts ≤ greatest
  pub rooms : (place : Place) → room_for place (now state).doubts ≤ room r.store place

-- there is such a state
abbrev pub Keeps : {D S : Type 0} → (S → List Stored) → (S → Place → ℕ) → Running D S → Type 0
Keeps rows room r = ∥ Kept rows room r ∥₁

-- the request, so answered, leads each state that was kept to one that is kept now
abbrev pub Follows : {D S : Type 0} → (S → List Stored) → (S → Place → ℕ) → Running D S → Running D S → Request → Answer → Type 0
Follows rows room old new q a = (k : Kept rows room old) → (n : Kept rows room new) × Turns k.state (record { request = q; answer = a }) n.state
