-- What explains a server is a run.
use Rattle.std.specs.Prelude.{◌≡◌, ℕ, ◌≤◌, true, List, Option, Some, None, is_some, IfSome}
use Rattle.hb_edge.specs.Fuses.{last_of}
use Rattle.hb_edge.specs.Images.{Image}
use Rattle.hb_edge.specs.Wrapping.{read_later}
use Rattle.hb_edge.specs.declared.fused.Fused.{Fused}
use Rattle.hb_types.specs.declared.change.Stored.{Stored}
use Rattle.hb_disks.specs.Points.{Point}
use Rattle.hb_runs.specs.Server.{SState}
use Rattle.hb_runs.specs.ServerRuns.{Asked, Run}
use Rattle.hb_node.specs.Laws.{serving, deciding, managing, IsOfName, Runs, State as NodeState}
use Rattle.hb_server.specs.declared.state.State.{State}
use Rattle.hb_server.specs.declared.state.State.TheVariants.{Down, Up, Away}
use Rattle.hb_server.specs.Law.{Explains, ExplainsNode, content_of, left_of}

some_image : (content : Option Image) (P : Image → Type 0) → is_some content ≡ true → IfSome content P → (image : Image) × P image
some_image None P told has = cc
some_image (Some c) P told has = (c, has)

module _ {D S : Type 0} (content : D → Option Image) (left : D → ℕ → Image → Type 0) (last : D → ℕ)
    (stands_on : (disk : D) (m : ℕ) (image : Image) → last disk ≤ m → left disk (last disk) image → left disk m image) (as_read : (disk : D) → IfSome (content disk) (left disk (last disk)))
    (rows : S → List Stored) (keeps : S → Option Point → Image → Type 0) (staged : S → Image → Type 0) (point_in : Image → Option Point → Type 0) where
  run_of : (state : State (Fused D) S) (first : SState) (asked : List Asked) (moment : ℕ) → Explains (content_of content) (left_of left) (last_of last) rows keeps staged point_in first asked state moment → (t : SState) × Run first asked t
  run_of (Down rest) first asked moment is =
      let log = rest.log in
      let read = some_image (content log.inner) (left log.inner (last_of last log)) is.log_rests.told (read_later (content log.inner) (left log.inner) (last log.inner) log.failed_at (stands_on log.inner) (as_read log.inner)) in
      let found = is.log_rests.each read.0 read.1 in
      (found.state, found.run)
  run_of (Up serves) first asked moment is = (is.state, is.run)
  run_of Away first asked moment is = absurd is

  pub explained : (name : ℕ) (state : State (Fused D) S) (origin : NodeState) (asked : List Asked) → ExplainsNode content left last rows keeps staged point_in name state origin asked → IsOfName name origin × ((t : NodeState) × Runs origin asked t)
  explained name state (serving first) asked is = let t = run_of state first asked _ is.1 in (is.0, (serving t.0, t.1))
  explained name state (deciding k) asked is = absurd is
  explained name state (managing b) asked is = absurd is
