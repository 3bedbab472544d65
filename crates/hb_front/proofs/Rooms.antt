-- Requests that find their room.
use Rattle.std.proofs.Common.{◌≡◌, refl, sym, ◌∙◌, subst, true, false}
use Rattle.std.specs.Prelude.{Bool}
use Rattle.std.proofs.lemmas.Bool.{false≢true}
use Rattle.hb_types.specs.declared.names.Tx.{Tx}
use Rattle.hb_types.specs.declared.request.Request.{Request}
use Rattle.hb_types.specs.declared.request.Request.TheVariants as request
use Rattle.hb_runs.specs.Coordinator.{takes_none}
use Rattle.hb_coord.specs.Law.{is_up_in}
use Rattle.hb_coord.specs.declared.state.State.{State as CoordinatorState}
use Rattle.hb_coord.specs.declared.state.State.TheVariants.{Down, Up, Away}
use Rattle.hb_front.specs.Fronting.{ends_nothing}

up_where_active : {D : Type 0} (state : CoordinatorState D) (tx : Tx) → ends_nothing state (request.Abort tx) ≡ false → is_up_in state ≡ true
up_where_active (Up running) tx active = refl
up_where_active (Down disk) tx active = absurd (false≢true (sym active))
up_where_active Away tx active = absurd (false≢true (sym active))

pub abort_has_room : {D : Type 0} (state : CoordinatorState D) (q : Request) (tx : Tx) (found : Bool) → q ≡ request.Abort tx → ends_nothing state q ≡ false → (takes_none q ≡ true → is_up_in state ≡ true → found ≡ true) → found ≡ false → ⊥
abort_has_room state q tx found is some kept none =
    let active = subst (λ (r : Request). ends_nothing state r ≡ false) is some in
    let given = kept (subst (λ (r : Request). takes_none r ≡ true) (sym is) refl) (up_where_active state tx active) in
    false≢true (sym none ∙ given)

pub stop_has_room : {D : Type 0} (state : CoordinatorState D) (q : Request) (found : Bool) → q ≡ request.Stop → is_up_in state ≡ true → (takes_none q ≡ true → is_up_in state ≡ true → found ≡ true) → found ≡ false → ⊥
stop_has_room state q found is up kept none =
    let given = kept (subst (λ (r : Request). takes_none r ≡ true) (sym is) refl) up in
    false≢true (sym none ∙ given)

pub abort_takes_none : (q : Request) (tx : Tx) → q ≡ request.Abort tx → takes_none q ≡ true
abort_takes_none q tx is = subst (λ (r : Request). takes_none r ≡ true) (sym is) refl

pub stop_takes_none : (q : Request) → q ≡ request.Stop → takes_none q ≡ true
stop_takes_none q is = subst (λ (r : Request). takes_none r ≡ true) (sym is) refl
