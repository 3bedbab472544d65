use Rattle.std.proofs.Common.{subst}
use Rattle.std.proofs.Props.{props}
use mathlib.Core.Logic.{∥∥₁_elim}
use Rattle.hb_types.specs.declared.answer.Answer.TheVariants as answer
use Rattle.hb_server.specs.declared.state.State.{State}
use Rattle.hb_server.specs.Rooms.{HasRoomFor}
use Rattle.hb_server.proofs.Rooming.{up_entry}
use Rattle.hb_server.proofs.turn.turn.Goals as goal

pub wake-requires : goal.wake-requires
wake-requires g c = record {
  room = ∥∥₁_elim (subst (λ (s : State g.row.D.Denot g.row.S.Denot). ∥ HasRoomFor g.S.Store.rows g.S.Store.room s c.args.request.now c.args.trail.now.spare ∥₁) c.in-Down.is c.requires.room) (hlevel props) (λ h. h);
}

pub returns-in-Stop-clause-entry : goal.returns-in-Stop-clause-entry
returns-in-Stop-clause-entry g c =
    ∥∥₁_elim (subst (λ (s : State g.row.D.Denot g.row.S.Denot). ∥ HasRoomFor g.S.Store.rows g.S.Store.room s c.args.request.now c.args.trail.now.spare ∥₁) c.in-Up.is c.requires.room) (hlevel props)
    (λ h. up_entry g.S.Store.rows g.S.Store.room c.in-Up.serves c.args.request.now answer.Done c.args.trail.now.spare h)
