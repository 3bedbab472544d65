-- What a server holds of its branches stands for a state.
use Rattle.std.specs.Prelude.{◌≡◌, ℕ, ◌==◌, true, if◌then◌else◌, List, [], ◌∷◌, Option, Some, None}
use Rattle.std.specs.BTreeMap.{BTreeMap, get}
use Rattle.std.specs.Ordering.{nat_cmp}
use Rattle.hb_types.specs.declared.change.Stored.{Stored}
use Rattle.hb_types.specs.declared.lock.Held.{Held}
use Rattle.hb_types.specs.declared.lock.Mode.{Mode}
use Rattle.hb_types.specs.declared.names.Number.{Number}
use Rattle.hb_types.specs.declared.names.Tx.{Tx}
use Rattle.hb_types.specs.declared.places.Path.{Path}
use Rattle.hb_types.specs.Lists.{Ascends}
use Rattle.hb_types.specs.Put.{normal}
use Rattle.hb_laws.specs.RowOrder.{AreAscending}
use Rattle.hb_branch.specs.Overlays.{Overlay}
use Rattle.hb_disks.specs.Redo.{Prepared}
use Rattle.hb_locks.specs.Locks.{Locks, IsCompatible, held_at, lock_cmp, mode_at}
use Rattle.hb_runs.specs.Server.{Branch, SState, now}
use Rattle.hb_engine.specs.declared.slot.Slot.{Slot}

-- the live branches of a transaction, and its branches in doubt
abbrev pub live_of : ℕ → List Branch → List Branch
live_of tx [] = []
live_of tx (b ∷ bs) = if b.tx == tx then b ∷ live_of tx bs else live_of tx bs

abbrev pub doubts_of : ℕ → List Prepared → List Prepared
doubts_of tx [] = []
doubts_of tx (p ∷ ps) = if p.tx == tx then p ∷ doubts_of tx ps else doubts_of tx ps

-- the locks of the first of these branches
abbrev pub first_locks : List Branch → List Prepared → List Held
first_locks (b ∷ bs) ps = b.locks
first_locks [] (p ∷ ps) = p.locks
first_locks [] [] = []

-- a branch with these changes: one that lives, or one that voted with a floor
abbrev pub VoteFits : Option Number → Slot → List Branch → List Prepared → Type 0
VoteFits None slot live doubts = (b : Branch) × (live ≡ b ∷ []) × (doubts ≡ []) × (slot.branch.changes ≡ normal b.own)
VoteFits (Some floor) slot live doubts = (p : Prepared) × (live ≡ []) × (doubts ≡ p ∷ []) × (p.floor ≡ floor.0) × (p.changes ≡ slot.branch.changes)

abbrev pub SlotFits : Option Slot → List Branch → List Prepared → Type 0
SlotFits None live doubts = (live ≡ []) × (doubts ≡ [])
SlotFits (Some slot) live doubts = VoteFits slot.vote slot live doubts

-- what is held of one transaction is its one branch, with the locks of that
pub record TxFits (slot : Option Slot) (live : List Branch) (doubts : List Prepared) (held : Path → Option Mode) : Type 0 where
  pub slot_fits : SlotFits slot live doubts
  pub locks : (q : Path) → held q ≡ mode_at (first_locks live doubts) q
  pub ordered : Ascends lock_cmp (first_locks live doubts)

abbrev pub Slots : Type 0
Slots = BTreeMap ℕ Slot

abbrev pub slot_at : Slots → ℕ → Option Slot
slot_at slots tx = get nat_cmp slots tx

-- the changes of a branch that lives
abbrev pub live_in_slot : Option Slot → Option Overlay
live_in_slot None = None
live_in_slot (Some slot) = unless_voted slot.vote slot.branch
  where
    unless_voted : Option Number → Overlay → Option Overlay
    unless_voted None o = Some o
    unless_voted (Some floor) o = None

abbrev pub tx_of : ℕ → Tx
tx_of tx = record { 0 = tx }

-- the branches, the lock table and the floor, beside these rows, stand for an up server's state
pub record Stands (slots : Slots) (locks : Locks) (floor : Number) (rows : List Stored) (s : SState) : Type 0 where
  pub up : s.up ≡ true
  pub rows_are : rows ≡ (now s).rows
  pub ascending : AreAscending rows
  pub floor_is : floor.0 ≡ (now s).floor
  pub each : (tx : ℕ) → TxFits (slot_at slots tx) (live_of tx s.live) (doubts_of tx (now s).doubts) (held_at locks (tx_of tx))
  pub compatible : IsCompatible locks
