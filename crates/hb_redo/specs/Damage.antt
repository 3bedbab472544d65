-- The bad records of a server's log at a start.
use Rattle.std.specs.Prelude.{◌≡◌, ◌⊎◌, ℕ, ◌+◌, ◌*◌, ◌<◌, ◌==◌, Bool, false, if◌then◌else◌, List, [], ◌∷◌, map, length, take, drop, filter, slice_get, Some, IsSomeAnd}
use Rattle.std.specs.Option.{option_map}
use Rattle.hb_types.specs.declared.change.LogItem.{LogItem}
use Rattle.hb_types.specs.declared.change.LogItem.TheVariants as item
use Rattle.hb_types.specs.declared.change.Placed.{Placed}
use Rattle.hb_types.specs.Lists.{Has}
use Rattle.hb_types.specs.Numbers.{greatest}
use Rattle.hb_disks.specs.LogRules.{BranchFits}
use Rattle.hb_disks.specs.Redo.{Prepared, doubts}
use Rattle.hb_disks.specs.Says.{prepares}
use Rattle.hb_engine.specs.Restores.{prepared_as}

abbrev pub items_of : List Placed → List LogItem
items_of records = map (λ p. p.item) records

-- ---- ends of branches

abbrev pub ends : ℕ → LogItem → Bool
ends tx (item.Commit t number) = t.0 == tx
ends tx (item.Abort t) = t.0 == tx
ends tx (item.Prepare t floor locks changes) = false
ends tx (item.Decision t number nodes) = false
ends tx (item.Ids upto) = false

-- how many of the items end a branch of a transaction
abbrev pub count_ends : ℕ → List LogItem → ℕ
count_ends tx [] = 0
count_ends tx (i ∷ is) = if ends tx i then count_ends tx is + 1 else count_ends tx is

-- the branches that none of the items ends
abbrev pub left_by : List LogItem → List Prepared → List Prepared
left_by back ps = filter (λ p. count_ends p.tx back == 0) ps

-- ---- bad records

-- Behind branches that voted, of which some are in doubt, an item with these behind it is bad: it is a second Prepare of its
-- transaction, or the Prepare of a branch that stays in doubt and does not fit beside those in front that do.
abbrev pub IsBad : List Prepared → List Prepared → LogItem → List LogItem → Type 0
IsBad voted doubts (item.Prepare tx floor locks changes) back =
    Has (λ q. q.tx ≡ tx.0) voted ⊎ ((count_ends tx.0 back ≡ 0) × (¬ (BranchFits (left_by back doubts) (prepared_as tx floor locks changes))))
IsBad voted doubts _ back = ⊥

-- the nth of the records is bad
abbrev pub IsBadAt : List Placed → ℕ → Type 0
IsBadAt records n =
    IsSomeAnd (slice_get records n) (λ p. IsBad (prepares (items_of (take n records))) (doubts (items_of (take n records))) p.item (items_of (drop (n + 1) records)))

abbrev pub NoneBad : List Placed → Type 0
NoneBad records = (n : ℕ) → ¬ (IsBadAt records n)

-- the first bad record stands at this place
pub record FirstBad (records : List Placed) (place : ℕ) : Type 0 where
  pub nth : ℕ
  pub bad : IsBadAt records nth
  pub earlier : (n : ℕ) → n < nth → ¬ (IsBadAt records n)
  pub place_is : option_map (λ (p : Placed). p.place) (slice_get records nth) ≡ Some place

-- what a start is damaged by: the first bad record, or, where none is, the end of a log without room for the ends of its doubts
abbrev pub IsDamaged : List Placed → ℕ → ℕ → Type 0
IsDamaged records end place =
    FirstBad records place ⊎ (NoneBad records × (place ≡ end) × (greatest < end + 32 * length (doubts (items_of records))))
