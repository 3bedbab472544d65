-- Rows of a log whose doubts are all settled, and redo from a point of a log that grows.
use Rattle.std.specs.Prelude.{◌≡◌, ℕ, List, [], ◌∷◌, ◌++◌, Option}
use Rattle.hb_types.specs.declared.change.LogItem.{LogItem}
use Rattle.hb_disks.specs.LogRules.{LogOK, NumOK}
use Rattle.hb_types.specs.declared.change.Stored.{Stored}
use Rattle.hb_types.specs.Put.{put_all}
use Rattle.hb_disks.specs.Disks.{written}
use Rattle.hb_disks.specs.Points.{Point, HasBase}
use Rattle.hb_disks.specs.Redo.{Decided, redo, doubts}
use Rattle.hb_disks.specs.Says.{commits, ch, held}
use Rattle.hb_disks.specs.StandsFor.{AreDecisions}

-- the rows with the changes of these commits, one after another
abbrev pub put_commits : List Stored → List LogItem → List (ℕ × ℕ) → List Stored
put_commits rows log [] = rows
put_commits rows log (c ∷ cs) = put_commits (put_all rows (ch log c.0)) log cs

-- redo gives what the commits of the log put
abbrev pub RedoIsOfCommits : Type 0
RedoIsOfCommits = (log : List LogItem) → LogOK [] log → (redo log).rows ≡ put_commits [] log (commits log)

-- where no branch is in doubt, redo of the log gives what the decisions leave
abbrev pub SettledIsHeld : Type 0
SettledIsHeld =
    (log : List LogItem) (ds : List Decided) → LogOK [] log → NumOK log ds → AreDecisions ds → doubts log ≡ [] → (redo log).rows ≡ held log ds

-- a point whose redo is that of the whole log stays one while the log grows
abbrev pub PointsStay : Type 0
PointsStay =
    (area : List ℕ) (log more : List LogItem) (point : Option Point) → HasBase written area log point → HasBase written area (log ++ more) point
