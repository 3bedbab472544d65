-- The effects that a request to a server has, by its answer.
use Rattle.std.specs.Prelude.{◌≡◌, ◌≢◌, ℕ, not, ◌&&◌, ◌⊎◌, IsTrue, List, [], ◌∷◌, ◌++◌, map}
use Rattle.hb_types.specs.declared.lock.Held.{Held}
use Rattle.hb_types.specs.declared.lock.Holder.{Holder}
use Rattle.hb_types.specs.declared.lock.Mode.{Mode}
use Rattle.hb_types.specs.declared.places.Path.{Path}
use Rattle.hb_types.specs.declared.answer.Answer.{Answer}
use Rattle.hb_types.specs.declared.answer.Answer.TheVariants as answer
use Rattle.hb_types.specs.declared.request.Request.{Request}
use Rattle.hb_types.specs.declared.request.Request.TheVariants as request
use Rattle.hb_types.specs.Ladders.{ladder}
use Rattle.hb_types.specs.Lists.{Each, Has}
use Rattle.hb_types.specs.Modes.{compatible}
use Rattle.hb_types.specs.Places.{same_path}
use Rattle.hb_runs.specs.Server.{Branch, SState, unended, IsLive, IsUnended, wanted}
use Rattle.hb_runs.specs.ServerEffects.{Effect, enlisted, granted, written, prepared, committed, aborted, dropped, lost, came_up, after_all}

-- ---- what a request causes

-- the grants of these rungs of a ladder
abbrev pub grants : ℕ → List Held → List Effect
grants tx rungs = map (λ l. granted tx l.path l.mode) rungs

-- those in the way: each other branch that holds the path in a mode that does not go with this one
pub record AreHolders (s : SState) (tx : ℕ) (h : Held) (holders : List Holder) : Type 0 where
  pub some : holders ≢ []
  pub each : Each (λ o. Has (λ b. (b.tx ≡ o.tx.0) × (b.tx ≢ tx) × Has (λ l. IsTrue (same_path l.path h.path) × (l.mode ≡ o.mode)) b.locks) (unended s)) holders
  pub all : Each (λ b. (b.tx ≢ tx) → Each (λ l. IsTrue (same_path l.path h.path && not (compatible h.mode l.mode)) → Has (λ o. (o.tx.0 ≡ b.tx) × (o.mode ≡ l.mode)) holders) b.locks) (unended s)

-- the front of the ladder that is granted, the rung that is not, and what is in its way
pub record IsBlocked (s : SState) (tx : ℕ) (rungs : List Held) (p : Path) (m : Mode) (holders : List Holder) (es : List Effect) : Type 0 where
  pub front : List Held
  pub rung : Held
  pub back : List Held
  pub branch : Branch
  pub parts : rungs ≡ front ++ rung ∷ back
  pub effects : es ≡ grants tx front
  pub live : IsLive (after_all s es) tx branch
  pub told : wanted rung.path rung.mode branch.locks ≡ record { path = p; mode = m }
  pub in_the_way : AreHolders (after_all s es) tx (record { path = p; mode = m }) holders

-- what a Lock causes: all grants of its ladder, or a front of them
abbrev pub LockCauses : SState → ℕ → List Held → Answer → List Effect → Type 0
LockCauses s tx rungs answer.Done es = es ≡ grants tx rungs
LockCauses s tx rungs (answer.Blocked p m holders) es = IsBlocked s tx rungs p m holders es
LockCauses s tx rungs answer.NoMemory es = (front : List Held) × (back : List Held) × (rungs ≡ front ++ back) × (es ≡ grants tx front)
LockCauses s tx rungs _ es = es ≡ []

-- the effects that a request with this answer has
abbrev pub Causes : SState → Request → Answer → List Effect → Type 0
Causes s (request.Enlist tx) answer.Done es = ((¬ (IsUnended s tx.0)) × (es ≡ enlisted tx.0 ∷ [])) ⊎ (IsUnended s tx.0 × (es ≡ []))
Causes s (request.Lock tx p m) a es = LockCauses s tx.0 (ladder p m) a es
Causes s (request.Write tx c) answer.Done es = es ≡ written tx.0 c ∷ []
Causes s (request.Prepare tx) (answer.Vote floor) es = es ≡ prepared tx.0 ∷ []
-- of a record that faulted it is open whether it stands
Causes s (request.Prepare tx) (answer.Fault area) es = (es ≡ lost ∷ []) ⊎ (es ≡ prepared tx.0 ∷ lost ∷ [])
Causes s (request.Commit tx n) answer.Done es = es ≡ committed tx.0 n.0 ∷ []
Causes s (request.Commit tx n) (answer.Fault area) es = (es ≡ lost ∷ []) ⊎ (es ≡ committed tx.0 n.0 ∷ lost ∷ [])
Causes s (request.Rollback tx) answer.Done es = (es ≡ dropped tx.0 ∷ []) ⊎ (es ≡ aborted tx.0 ∷ [])
Causes s (request.Rollback tx) (answer.Fault area) es = (es ≡ lost ∷ []) ⊎ (es ≡ aborted tx.0 ∷ lost ∷ [])
Causes s request.SyncBegin (answer.Fault area) es = es ≡ lost ∷ []
Causes s request.SyncFlush (answer.Fault area) es = es ≡ lost ∷ []
Causes s request.SyncFinish (answer.Fault area) es = es ≡ lost ∷ []
Causes s request.Stop answer.Done es = es ≡ lost ∷ []
Causes s request.Start (answer.Started doubts) es = es ≡ came_up ∷ []
Causes s request.Start answer.NoMemory es = (es ≡ []) ⊎ (es ≡ came_up ∷ [])
Causes s _ _ es = es ≡ []
