-- What a read that was answered tells of the state: who reads, under which locks, and that nothing else happened.
use Rattle.std.proofs.Common.{◌≡◌, true, false, List, [], subst, ℕ}
use Rattle.std.specs.Prelude.{Bool, Option}
use Rattle.hb_types.specs.declared.answer.Answer.TheVariants as answer
use Rattle.hb_types.specs.declared.change.Stored.{Stored}
use Rattle.hb_types.specs.declared.places.Path.TheVariants as path
use Rattle.hb_types.specs.declared.places.Place.{Place}
use Rattle.hb_types.specs.declared.places.Space.{Space}
use Rattle.hb_types.specs.declared.request.Request.TheVariants as request
use Rattle.hb_types.specs.Put.{lookup, rows_under}
use Rattle.hb_runs.specs.Server.{SState}
use Rattle.hb_runs.specs.ServerAnswers.{Reads, RightIn}
use Rattle.hb_runs.specs.ServerEffects.{Effect, Steps}
use Rattle.hb_runs.specs.ServerRuns.{Turns}
use Rattle.hb_readlaws.specs.Ordering.{group_read, row_read, space_read}

pub reads_row : (up : Bool) (s : SState) (tx : ℕ) (x : Place) (row : Option (List ℕ)) → RightIn up s (request.Read (record { 0 = tx }) x) (answer.Row row)
    → Reads s tx (path.Key x) (λ rows. row ≡ lookup x rows)
reads_row true s tx x row r = r
reads_row false s tx x row r = absurd r

pub reads_space : (up : Bool) (s : SState) (tx : ℕ) (space : Space) (rows : List Stored) → RightIn up s (request.Scan (record { 0 = tx }) space) (answer.Rows rows)
    → Reads s tx (path.Whole space) (λ all. rows ≡ rows_under (path.Whole space) all)
reads_space true s tx space rows r = r
reads_space false s tx space rows r = absurd r

pub reads_group : (up : Bool) (s : SState) (tx : ℕ) (space : Space) (group : ℕ) (rows : List Stored)
    → RightIn up s (request.ScanGroup (record { 0 = tx }) space group) (answer.Rows rows)
    → Reads s tx (path.Group space group) (λ all. rows ≡ rows_under (path.Group space group) all)
reads_group true s tx space group rows r = r
reads_group false s tx space group rows r = absurd r

nothing_happens : (s : SState) (es : List Effect) (t : SState) → es ≡ [] → Steps s es t → s ≡ t
nothing_happens s es t is st = subst (λ l. Steps s l t) is st

pub row_same : (s : SState) (tx : ℕ) (x : Place) (row : Option (List ℕ)) (t : SState) → Turns s (row_read tx x row) t → s ≡ t
row_same s tx x row t turn = nothing_happens s turn.effects t turn.causes turn.steps

pub space_same : (s : SState) (tx : ℕ) (space : Space) (rows : List Stored) (t : SState) → Turns s (space_read tx space rows) t → s ≡ t
space_same s tx space rows t turn = nothing_happens s turn.effects t turn.causes turn.steps

pub group_same : (s : SState) (tx : ℕ) (space : Space) (group : ℕ) (rows : List Stored) (t : SState) → Turns s (group_read tx space group rows) t → s ≡ t
group_same s tx space group rows t turn = nothing_happens s turn.effects t turn.causes turn.steps
