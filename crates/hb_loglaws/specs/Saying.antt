-- What a right log says.
use Rattle.std.specs.Prelude.{◌≡◌, ◌≢◌, ℕ, ◌≤◌, ◌<◌, true, max, fold, List, [], ◌∷◌, map, filter_map, Option, Some, None, ⊤, ◌⊎◌}
use Rattle.std.specs.Ordering.{nat_cmp}
use Rattle.hb_types.specs.declared.change.LogItem.{LogItem}
use Rattle.hb_types.specs.declared.change.LogItem.TheVariants as item
use Rattle.hb_types.specs.declared.places.Place.{Place}
use Rattle.hb_types.specs.Lists.{Ascends, Each, EachBehind, Has, IsIn}
use Rattle.hb_types.specs.Put.{touches}
use Rattle.hb_disks.specs.LogRules.{LogOK, EndFits, LocksFit, IsBranchItem}
use Rattle.hb_disks.specs.Redo.{Prepared, doubts, floor_of}
use Rattle.hb_disks.specs.Says.{prepares, commits, writers}

-- the transaction that a record ends
abbrev pub end_in : LogItem → Option ℕ
end_in (item.Commit tx number) = Some tx.0
end_in (item.Abort tx) = Some tx.0
end_in _ = None

abbrev pub ends : List LogItem → List ℕ
ends log = filter_map end_in log

-- no number comes twice
abbrev pub AreApart : List ℕ → Type 0
AreApart [] = ⊤
AreApart (x ∷ xs) = Each (λ y. y ≢ x) xs × AreApart xs

pub record SaysRightly (log : List LogItem) : Type 0 where
  -- one vote of a transaction, and one end of it
  pub voted_once : AreApart (map (λ p. p.tx) (prepares log))
  pub ended_once : AreApart (ends log)
  -- what ends has voted, and what has voted is in doubt until it ends
  pub ended : Each (λ t. Has (λ p. p.tx ≡ t) (prepares log)) (ends log)
  pub unended : Each (λ p. Each (λ t. t ≢ p.tx) (ends log)) (doubts log)
  pub in_doubt : Each (λ p. IsIn p (doubts log) ⊎ Has (λ t. t ≡ p.tx) (ends log)) (prepares log)
  -- the floor is the greatest number, and each number is above its vote's floor
  pub floor : floor_of log ≡ fold max 0 (map (λ c. c.1) (commits log))
  pub above : Each (λ c. Each (λ p. p.tx ≡ c.0 → p.floor < c.1) (prepares log)) (commits log)
  -- those that wrote at a place ascend in number, none above the floor of one in doubt that writes there
  pub ascend : (x : Place) → Ascends (λ a b. nat_cmp a.1 b.1) (writers log x)
  pub floors : (x : Place) (p : Prepared) → IsIn p (doubts log) → touches x p.changes ≡ true → Each (λ c. c.1 ≤ p.floor) (writers log x)

-- a right log says rightly who voted, who ended and who wrote
abbrev pub RightLogsSay : Type 0
RightLogsSay = (log : List LogItem) → LogOK [] log → SaysRightly log

-- a right log has a branch's records alone, each of which is right behind those before it: its ends, and its locks
abbrev pub RightLogsAreHalves : Type 0
RightLogsAreHalves = (log : List LogItem) → LogOK [] log → Each IsBranchItem log × EachBehind EndFits [] log × EachBehind LocksFit [] log
