-- A server: its state is a base, the log since, the live branches and whether it is up; what requests cause, and its runs.
use Rattle.std.specs.Prelude.{◌≡◌, ◌≢◌, ℕ, Bool, if◌then◌else◌, List, [], ◌∷◌, ◌++◌, map}
use Rattle.std.specs.Ordering.{is_lt}
use Rattle.hb_types.specs.declared.change.Change.{Change}
use Rattle.hb_types.specs.declared.change.LogItem.{LogItem}
use Rattle.hb_types.specs.declared.lock.Held.{Held}
use Rattle.hb_types.specs.declared.lock.Mode.{Mode}
use Rattle.hb_types.specs.declared.places.Path.{Path}
use Rattle.hb_types.specs.Lists.{Each, Has}
use Rattle.hb_types.specs.Modes.{join}
use Rattle.hb_types.specs.Places.{path_cmp, same_path}
use Rattle.hb_disks.specs.Redo.{Redone, Prepared, redo_from}
use Rattle.hb_disks.specs.LogRules.{LocksAgree, IsHeld}

-- ---- the state

-- a branch: its locks by ascending path, and its writes in their order
pub record Branch : Type 0 where
  pub tx : ℕ
  pub locks : List Held
  pub own : List Change

-- the base that redo gave, the place where the log ended then, the log since, the live branches, and whether the server is up
pub record SState : Type 0 where
  pub base : Redone
  pub place : ℕ
  pub log : List LogItem
  pub live : List Branch
  pub up : Bool

-- the rows, the floor and the doubts: those of the base with the log since
abbrev pub now : SState → Redone
now s = redo_from s.base s.log

abbrev pub as_branch : Prepared → Branch
as_branch p = record { tx = p.tx; locks = p.locks; own = p.changes }

-- the branches that have not ended: live ones, and those that voted
abbrev pub unended : SState → List Branch
unended s = s.live ++ map as_branch (now s).doubts

abbrev pub IsLive : SState → ℕ → Branch → Type 0
IsLive s tx b = Has (λ c. c ≡ b) s.live × (b.tx ≡ tx)

abbrev pub IsAlive : SState → ℕ → Type 0
IsAlive s tx = Has (λ b. b.tx ≡ tx) s.live

-- the transaction has a branch that voted and has not ended, of this floor
abbrev pub IsInDoubt : SState → ℕ → ℕ → Type 0
IsInDoubt s tx floor = Has (λ p. (p.tx ≡ tx) × (p.floor ≡ floor)) (now s).doubts

abbrev pub IsUnended : SState → ℕ → Type 0
IsUnended s tx = Has (λ b. b.tx ≡ tx) (unended s)

-- ---- locks

-- the mode that a lock asks for, joined with what is held on its path
abbrev pub joined_mode : Path → Mode → List Held → Mode
joined_mode p m [] = m
joined_mode p m (l ∷ ls) = if same_path l.path p then join l.mode (joined_mode p m ls) else joined_mode p m ls

abbrev pub without_path : Path → List Held → List Held
without_path p [] = []
without_path p (l ∷ ls) = if same_path l.path p then without_path p ls else l ∷ without_path p ls

abbrev pub with_lock : Held → List Held → List Held
with_lock h [] = h ∷ []
with_lock h (l ∷ ls) = if is_lt (path_cmp l.path h.path) then l ∷ with_lock h ls else h ∷ l ∷ ls

-- the lock that is wanted, and the locks once it is granted
abbrev pub wanted : Path → Mode → List Held → Held
wanted p m locks = record { path = p; mode = joined_mode p m locks }

abbrev pub granting : Path → Mode → List Held → List Held
granting p m locks = with_lock (wanted p m locks) (without_path p locks)

-- each branch of another transaction agrees with this lock
abbrev pub AllowsLock : SState → ℕ → Held → Type 0
AllowsLock s tx h = Each (λ b. (b.tx ≢ tx) → LocksAgree b.locks (h ∷ [])) (unended s)

-- the branch holds one of these paths in a mode that covers this one
abbrev pub HoldsOne : Branch → Mode → List Path → Type 0
HoldsOne b m paths = Has (λ p. IsHeld b.locks m p) paths
