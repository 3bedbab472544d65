-- The locks of a ladder, taken one after another.
use Rattle.std.specs.Prelude.{◌≡◌, ◌≢◌, ◌⊎◌, true, List, [], ◌∷◌, IsSomeAnd}
use Rattle.hb_types.specs.declared.answer.Answer.{Answer}
use Rattle.hb_types.specs.declared.answer.Answer.TheVariants as answer
use Rattle.hb_types.specs.declared.lock.Held.{Held}
use Rattle.hb_types.specs.declared.lock.Mode.{Mode}
use Rattle.hb_types.specs.declared.names.Tx.{Tx}
use Rattle.hb_types.specs.declared.places.Path.{Path}
use Rattle.hb_types.specs.Modes.{covers}
use Rattle.hb_locks.specs.Locks.{Locks, HoldsAncestors, IsCompatible, Changes, blockers, granted, held_at, holders_at}
use Rattle.hb_locks.specs.Takes.{wanted_at}

-- a lock is granted that nobody stands in the way of
pub record Grants (tx : Tx) (h : Held) (old new : Locks) : Type 0 where
  pub ancestors : HoldsAncestors old tx h.path h.mode
  pub free : blockers tx (wanted_at old tx h.path h.mode) (holders_at old h.path) ≡ []
  pub changes : Changes old new h.path (granted tx (wanted_at old tx h.path h.mode) (holders_at old h.path))
  pub compatible : IsCompatible new

-- what asking for one lock is answered, and what the table is then
abbrev pub Rung : Tx → Held → Locks → Locks → Answer → Type 0
Rung tx h old new answer.Done = Grants tx h old new
Rung tx h old new (answer.Blocked p wanted holders) =
    (p ≡ h.path) × (wanted ≡ wanted_at old tx h.path h.mode) × (holders ≡ blockers tx wanted (holders_at old h.path)) × (holders ≢ []) × (new ≡ old)
Rung tx h old new answer.NoMemory = new ≡ old
Rung tx h old new _ = ⊥

-- these locks are granted in turn; or the first that is not gives the answer
abbrev pub Climbs : Tx → Locks → Locks → List Held → Answer → Type 0
Climbs tx old new [] a = (a ≡ answer.Done) × (new ≡ old)
Climbs tx old new (h ∷ hs) a = ((mid : Locks) × Rung tx h old mid answer.Done × Climbs tx mid new hs a) ⊎ ((a ≢ answer.Done) × Rung tx h old new a)

-- the path is held as strongly as this, and those above it so
abbrev pub HasLadder : Locks → Tx → Path → Mode → Type 0
HasLadder locks tx p m = HoldsAncestors locks tx p m × IsSomeAnd (held_at locks tx p) (λ held. covers held m ≡ true)
