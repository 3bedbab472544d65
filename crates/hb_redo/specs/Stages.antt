-- What is known behind some of the records.
use Rattle.std.specs.Prelude.{◌≡◌, ℕ, ◌+◌, ◌==◌, Bool, true, false, List, [], ◌∷◌, ◌++◌, map, Option, Some, None, unwrap_or, slice_get}
use Rattle.std.specs.Option.{option_map}
use Rattle.std.specs.BTreeMap.{BTreeMap, get}
use Rattle.std.specs.Ordering.{nat_cmp}
use Rattle.hb_types.specs.declared.change.Change.{Change}
use Rattle.hb_types.specs.declared.change.LogItem.{LogItem}
use Rattle.hb_types.specs.declared.change.Placed.{Placed}
use Rattle.hb_types.specs.declared.change.Stored.{Stored}
use Rattle.hb_types.specs.declared.names.Tx.{Tx}
use Rattle.hb_types.specs.declared.places.Place.{Place}
use Rattle.hb_types.specs.Lists.{Has}
use Rattle.hb_disks.specs.Redo.{Prepared, Redone, after}
use Rattle.hb_disks.specs.Says.{prepares}
use Rattle.hb_store.specs.Meanings.{changes_in, room_for}
use Rattle.hb_engine.specs.Fits.{doubts_of}
use Rattle.hb_engine.specs.Restores.{Remembers}
use Rattle.hb_redo.specs.declared.pending.Pending.{Pending}
use Rattle.hb_redo.specs.Damage.{IsBad, count_ends, ends, left_by}

-- ---- ends to come

abbrev pub Counts : Type 0
Counts = BTreeMap ℕ ℕ

abbrev pub count_of : Counts → ℕ → ℕ
count_of counts tx = unwrap_or (get nat_cmp counts tx) 0

-- how many ends of each transaction stand in these items
abbrev pub CountsEnds : Counts → List LogItem → Type 0
CountsEnds counts items = (tx : ℕ) → count_of counts tx ≡ count_ends tx items

-- whose branch an item ends
abbrev pub EndIs : LogItem → Option Tx → Type 0
EndIs i None = (t : ℕ) → ends t i ≡ false
EndIs i (Some tx) = (t : ℕ) → ends t i ≡ (tx.0 == t)

-- ---- votes so far

-- the changes of the nth record
abbrev pub changes_at : List Placed → ℕ → List Change
changes_at records n = unwrap_or (option_map (λ (p : Placed). changes_in p.item) (slice_get records n)) []

-- of a transaction: it has not voted; its branch has ended; or it is in doubt so far, with the changes of a record
abbrev pub VoteIs : List Placed → Option (Option ℕ) → Type 0 → List Prepared → Type 0
VoteIs records None Voted doubts = (¬ Voted) × (doubts ≡ [])
VoteIs records (Some None) Voted doubts = Voted × (doubts ≡ [])
VoteIs records (Some (Some n)) Voted doubts = Voted × (p : Prepared) × (doubts ≡ p ∷ []) × (changes_at records n ≡ p.changes)

abbrev pub Votes : Type 0
Votes = BTreeMap ℕ (Option ℕ)

-- the record by which a transaction is in doubt so far
abbrev pub flat : Option (Option ℕ) → Option ℕ
flat None = None
flat (Some vote) = vote

abbrev pub HasVotes : List Placed → Votes → List Prepared → List Prepared → Type 0
HasVotes records votes voted doubts = (tx : ℕ) → VoteIs records (get nat_cmp votes tx) (Has (λ q. q.tx ≡ tx) voted) (doubts_of tx doubts)

-- ---- the whole

-- Behind items that give this, with these votes, and before these items: the rows are as redone, and of the branches in doubt
-- those that stay so are put back, with room for their changes.
pub record Redoes (records : List Placed) (base : Place → ℕ) (d : Redone) (voted : List Prepared) (back : List LogItem) (rows : List Stored) (room : Place → ℕ) (m : Pending) : Type 0 where
  pub rows_are : rows ≡ d.rows
  pub room_is : (place : Place) → room place ≡ base place + room_for place (left_by back d.doubts)
  pub remembers : Remembers m.engine (record { rows = d.rows; floor = d.floor; doubts = left_by back d.doubts })
  pub votes : HasVotes records m.votes voted d.doubts
  pub ends : CountsEnds m.ends back
  pub told : map (λ t. t.0) m.told ≡ map (λ p. p.tx) (left_by back d.doubts)

-- one item more, unless it is bad
abbrev pub Takes : List Placed → (Place → ℕ) → Redone → List Prepared → LogItem → List LogItem → List Stored → (Place → ℕ) → Pending → Bool → Type 0
Takes records base d voted i back rows room m true = (¬ (IsBad voted d.doubts i back)) × Redoes records base (after d i) (voted ++ prepares (i ∷ [])) back rows room m
Takes records base d voted i back rows room m false = IsBad voted d.doubts i back
