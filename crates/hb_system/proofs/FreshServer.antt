-- A server over two empty disks.
use Rattle.std.proofs.Common.{ℕ, [], Option, None, inl, refl, arith}
use Rattle.hb_edge.specs.Images.{Image}
use Rattle.hb_disks.specs.Redo.{nothing}
use Rattle.hb_disks.specs.WholeImage.{PointIs}
use Rattle.hb_runs.specs.Server.{SState}
use Rattle.hb_runs.specs.ServerRuns.{stopped_at}
use Rattle.hb_server.specs.Law.{IsBase, IsStoppedLog, Rests}
use Rattle.hb_system.specs.Making.{IsFresh}
use Rattle.hb_system.proofs.FreshFront.{fresh_each, fresh_told, no_records}

abbrev pub first_state : SState
first_state = stopped_at nothing 0

pub first_base : IsBase None [] first_state
first_base = record { gives = refl; ends = refl }

pub first_log : IsStoppedLog None [] first_state [] []
first_log = record { state = first_state; run = refl; stopped = refl; no_live = refl; has = ([], no_records, refl); inside = inl refl }

pub no_point_yet : PointIs [] None
no_point_yet = refl

pub fresh_rests : {D : Type 0} (content : D → Option Image) (left : D → ℕ → Image → Type 0) (last : D → ℕ) (P : Image → Type 0) (d : D) → P [] → IsFresh content left last d → Rests content left last P d (last d)
fresh_rests content left last P d p fresh = record { told = fresh_told content left last d fresh; in_time = omega arith; each = fresh_each content left last d fresh P p }
