-- One request of a server: its answer is right, and leads to a state that the server stands for.
use Rattle.std.specs.Prelude.{◌≡◌, ℕ, true, List, []}
use Rattle.hb_types.specs.declared.answer.Answer.{Answer}
use Rattle.hb_types.specs.declared.request.Request.{Request}
use Rattle.hb_types.specs.declared.change.Stored.{Stored}
use Rattle.hb_types.specs.declared.lock.Mode.{Mode}
use Rattle.hb_types.specs.declared.places.Path.{Path}
use Rattle.hb_types.specs.Ladders.{upward}
use Rattle.hb_types.specs.Put.{normal}
use Rattle.hb_branch.specs.Overlays.{Overlay}
use Rattle.hb_types.specs.declared.names.Number.{Number}
use Rattle.hb_laws.specs.RowOrder.{AreAscending}
use Rattle.hb_runs.specs.Server.{Branch, SState, now, IsAlive, IsLive, HoldsOne}
use Rattle.hb_runs.specs.ServerAnswers.{Lacks}
use Rattle.hb_runs.specs.ServerRuns.{Turns}
use Rattle.hb_engine.specs.declared.engine.Engine.{Engine}
use Rattle.hb_engine.specs.declared.refusal.Refusal.{Refusal}
use Rattle.hb_engine.specs.declared.refusal.Refusal.TheVariants.{NoBranch, NotLocked}
use Rattle.hb_engine.specs.Fits.{Stands}

-- the engine, beside these rows, stands for a state
abbrev pub StandsFor : Engine → List Stored → SState → Type 0
StandsFor e rows s = Stands e.slots e.locks e.floor rows s

-- an up server without branches, with these rows and this floor
pub record IsFresh (rows : List Stored) (floor : Number) (s : SState) : Type 0 where
  pub up : s.up ≡ true
  pub no_live : s.live ≡ []
  pub no_doubts : (now s).doubts ≡ []
  pub rows_are : rows ≡ (now s).rows
  pub ascending : AreAscending rows
  pub floor_is : floor.0 ≡ (now s).floor

pub record Turned (s : SState) (q : Request) (a : Answer) (At : SState → Type 0) : Type 0 where
  pub state : SState
  pub turn : Turns s (record { request = q; answer = a }) state
  pub at : At state

-- every state that the engine stood for is led by this request, so answered, to one that it stands for now
abbrev pub Leads : Engine → Engine → Request → Answer → Type 0
Leads old new q a = (rows : List Stored) (s : SState) → StandsFor old rows s → Turned s q a (λ t. StandsFor new rows t)

-- a live branch with these changes, which holds what it needs
pub record IsCovered (s : SState) (tx : ℕ) (m : Mode) (p : Path) (o : Overlay) : Type 0 where
  pub branch : Branch
  pub live : IsLive s tx branch
  pub covered : HoldsOne branch m (upward p)
  pub changes : o.changes ≡ normal branch.own

-- why a branch is refused
abbrev pub IsRefused : SState → ℕ → Mode → Path → Refusal → Type 0
IsRefused s tx m p NoBranch = ¬ (IsAlive s tx)
IsRefused s tx m p NotLocked = Lacks s tx m p
