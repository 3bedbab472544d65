-- What a read answers: the rows after the changes of all smaller numbers, and its own.
use Rattle.std.specs.Prelude.{◌≡◌, ◌≢◌, ℕ, false, true, List, ◌∷◌, ◌++◌, ◌⊎◌, Option, Some, None, []}
use Rattle.hb_types.specs.declared.answer.Answer.TheVariants as answer
use Rattle.hb_types.specs.declared.change.Change.{Change}
use Rattle.hb_types.specs.declared.change.LogItem.{LogItem}
use Rattle.hb_types.specs.declared.change.Stored.{Stored}
use Rattle.hb_types.specs.declared.places.Path.{Path}
use Rattle.hb_types.specs.declared.places.Path.TheVariants as path
use Rattle.hb_types.specs.declared.places.Place.{Place}
use Rattle.hb_types.specs.declared.places.Space.{Space}
use Rattle.hb_types.specs.declared.request.Request.TheVariants as request
use Rattle.hb_types.specs.Lists.{Each, Has}
use Rattle.hb_types.specs.Places.{is_under}
use Rattle.hb_types.specs.Put.{put_all, last_at, lookup, rows_under, touches}
use Rattle.hb_disks.specs.LogRules.{NumOK}
use Rattle.hb_disks.specs.Redo.{Decided}
use Rattle.hb_disks.specs.Says.{prepares, ch, writers, held, below}
use Rattle.hb_disks.specs.StandsFor.{AreDecisions}
use Rattle.hb_runs.specs.Server.{SState, now}
use Rattle.hb_runs.specs.ServerRuns.{Asked, Turns}
use Rattle.hb_serverlaws.specs.Trails.{Ran, whole, writes_of}

-- ---- reads

abbrev pub row_read : ℕ → Place → Option (List ℕ) → Asked
row_read tx x row = record { request = request.Read (record { 0 = tx }) x; answer = answer.Row row }

abbrev pub space_read : ℕ → Space → List Stored → Asked
space_read tx space rows = record { request = request.Scan (record { 0 = tx }) space; answer = answer.Rows rows }

abbrev pub group_read : ℕ → Space → ℕ → List Stored → Asked
group_read tx space group rows = record { request = request.ScanGroup (record { 0 = tx }) space group; answer = answer.Rows rows }

-- ---- clean

-- of those that wrote at a place and committed, the last one put this row there
pub record IsOfLastWriter (log : List LogItem) (x : Place) (row : List ℕ) : Type 0 where
  pub front : List (ℕ × ℕ)
  pub writer : ℕ × ℕ
  pub last : writers log x ≡ front ++ writer ∷ []
  pub puts : last_at x (ch log writer.0) None ≡ Some row

-- the reader's own last write at the place put this row there, or the last writer did
abbrev pub WasPut : List LogItem → List Change → Place → List ℕ → Type 0
WasPut log own x row = (last_at x own None ≡ Some row) ⊎ IsOfLastWriter log x row

-- a row that is read was put by the reader or by the last who has committed there, and nobody else in doubt has a change there
abbrev pub ReadsAreClean : Type 0
ReadsAreClean =
    (log : List LogItem) (place : ℕ) (trail : List Asked) (s t : SState) (tx : ℕ) (x : Place) (row : List ℕ) → Ran log place trail s
    → Turns s (row_read tx x (Some row)) t
    → WasPut (whole log s) (writes_of tx trail) x row × Each (λ p. p.tx ≢ tx → touches x p.changes ≡ false) (now s).doubts

-- so are all rows of a space, and of a group
abbrev pub SpacesAreClean : Type 0
SpacesAreClean =
    (log : List LogItem) (place : ℕ) (trail : List Asked) (s t : SState) (tx : ℕ) (space : Space) (rows : List Stored) → Ran log place trail s
    → Turns s (space_read tx space rows) t → Each (λ r. WasPut (whole log s) (writes_of tx trail) r.place r.row) rows

abbrev pub GroupsAreClean : Type 0
GroupsAreClean =
    (log : List LogItem) (place : ℕ) (trail : List Asked) (s t : SState) (tx : ℕ) (space : Space) (group : ℕ) (rows : List Stored) → Ran log place trail s
    → Turns s (group_read tx space group rows) t → Each (λ r. WasPut (whole log s) (writes_of tx trail) r.place r.row) rows

-- nobody else in doubt has a change at a place under this path
abbrev pub IsFree : SState → ℕ → Path → Type 0
IsFree s tx p = (x : Place) → is_under p x ≡ true → Each (λ q. q.tx ≢ tx → touches x q.changes ≡ false) (now s).doubts

-- so it is of a space whose rows were read, and of a group: also where there was no row
abbrev pub SpacesAreFree : Type 0
SpacesAreFree =
    (log : List LogItem) (place : ℕ) (trail : List Asked) (s t : SState) (tx : ℕ) (space : Space) (rows : List Stored) → Ran log place trail s
    → Turns s (space_read tx space rows) t → IsFree s tx (path.Whole space)

abbrev pub GroupsAreFree : Type 0
GroupsAreFree =
    (log : List LogItem) (place : ℕ) (trail : List Asked) (s t : SState) (tx : ℕ) (space : Space) (group : ℕ) (rows : List Stored) → Ran log place trail s
    → Turns s (group_read tx space group rows) t → IsFree s tx (path.Group space group)

-- ---- in the order of numbers

-- what a transaction of this number sees: the rows after all smaller numbers, with what it wrote
abbrev pub seen_by : List LogItem → List Decided → ℕ → List Change → List Stored
seen_by log ds n own = put_all (held log (below n ds)) own

-- a read, with all that was asked before it and behind it, of a transaction that voted here and is decided with this number
pub record IsDecidedRead (log : List LogItem) (place : ℕ) (front : List Asked) (read : Asked) (back : List Asked) (s : SState) (ds : List Decided)
    (tx n : ℕ) : Type 0 where
  pub ran : Ran log place (front ++ read ∷ back) s
  pub numbers : NumOK (whole log s) ds
  pub decisions : AreDecisions ds
  pub is_decided : Has (λ d. (d.tx ≡ tx) × (d.number ≡ n)) ds
  pub voted : Has (λ p. p.tx ≡ tx) (prepares (whole log s))

-- a row that was read is that of all smaller numbers and the reader's writes before it, whenever the reader voted and was decided
abbrev pub RowsAreOrdered : Type 0
RowsAreOrdered =
    (log : List LogItem) (place : ℕ) (front back : List Asked) (s : SState) (ds : List Decided) (tx n : ℕ) (x : Place) (row : Option (List ℕ))
    → IsDecidedRead log place front (row_read tx x row) back s ds tx n → row ≡ lookup x (seen_by (whole log s) ds n (writes_of tx front))

-- so are all rows of a space, and of a group
abbrev pub SpacesAreOrdered : Type 0
SpacesAreOrdered =
    (log : List LogItem) (place : ℕ) (front back : List Asked) (s : SState) (ds : List Decided) (tx n : ℕ) (space : Space) (rows : List Stored)
    → IsDecidedRead log place front (space_read tx space rows) back s ds tx n
    → rows ≡ rows_under (path.Whole space) (seen_by (whole log s) ds n (writes_of tx front))

abbrev pub GroupsAreOrdered : Type 0
GroupsAreOrdered =
    (log : List LogItem) (place : ℕ) (front back : List Asked) (s : SState) (ds : List Decided) (tx n : ℕ) (space : Space) (group : ℕ) (rows : List Stored)
    → IsDecidedRead log place front (group_read tx space group rows) back s ds tx n
    → rows ≡ rows_under (path.Group space group) (seen_by (whole log s) ds n (writes_of tx front))
