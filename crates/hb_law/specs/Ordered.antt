-- Ordered: what begins behind a line that shows a number has a greater one.
use Rattle.std.specs.Prelude.{◌≡◌, ℕ, ◌<◌, ◌⊎◌, List, ◌∷◌, ◌++◌, Some}
use Rattle.hb_types.specs.Lists.{Each, IsIn}
use Rattle.hb_model.specs.declared.reply.Reply.TheVariants as reply
use Rattle.hb_model.specs.Items.{Item, Doing, turn}
use Rattle.hb_disks.specs.Images.{Logs}
use Rattle.hb_law.specs.Histories.{Event, gives, shows}
use Rattle.hb_law.specs.Transactions.{Txn, caller_of}
use Rattle.hb_law.specs.ShownEnds.{IsDecidedAs, moving_number, number_shown}

-- ---- ordered: in one history

abbrev pub IsLineOf : ℕ → ℕ → Event → Type 0
IsLineOf caller place (shows c p r) = (c ≡ caller) × (p ≡ place)
IsLineOf caller place _ = ⊥

abbrev pub IsMovedOf : ℕ → ℕ → Event → Type 0
IsMovedOf caller place (shows c p (reply.Moved rows group number)) = (c ≡ caller) × (p ≡ place)
IsMovedOf caller place _ = ⊥

abbrev pub IsGivingOf : ℕ → ℕ → Event → Type 0
IsGivingOf caller place (gives c p) = (c ≡ caller) × (p ≡ place)
IsGivingOf caller place _ = ⊥

abbrev pub Shows : ℕ → Event → Type 0
Shows n (shows c p r) = number_shown r ≡ Some n
Shows n _ = ⊥

-- a line of pdrbal that shows this number
abbrev pub ShowsTurn : ℕ → Event → Type 0
ShowsTurn n (shows c p r) = moving_number r ≡ Some n
ShowsTurn n _ = ⊥

-- where a transaction counts as begun: for statements at its first line; for a turn with a line of its own
-- at the MOVED of the turn before it, the last of its work before that line, else at the giving of the work
abbrev pub BeginsAt : List Event → Event → List Event → ℕ → ℕ → ℕ → Doing → Type 0
BeginsAt front e back caller place n (turn table most) =
    (mid : List Event) × (own : Event) × (rest : List Event) × (back ≡ mid ++ own ∷ rest) × IsLineOf caller place own × ShowsTurn n own
    × Each (λ x. ¬ (IsMovedOf caller place x)) mid
    × ((IsMovedOf caller place e × (¬ (ShowsTurn n e))) ⊎ (IsGivingOf caller place e × Each (λ x. ¬ (IsMovedOf caller place x)) front))
BeginsAt front e back caller place n _ = IsLineOf caller place e × Each (λ x. ¬ (IsLineOf caller place x)) front

-- a transaction that counts as begun behind a line that shows a number has a greater one
abbrev pub InOrder : Logs → List Txn → List Event → Type 0
InOrder logs txns h =
    (a b c : List Event) (shown e : Event) (m n : ℕ) (t : Txn) (i : Item) (more : List Item)
    → h ≡ a ++ shown ∷ b ++ e ∷ c → Shows m shown → IsIn t txns → t.items ≡ i ∷ more → IsDecidedAs logs t.tx n
    → BeginsAt (a ++ shown ∷ b) e c (caller_of t.owner) i.place n i.doing → m < n
