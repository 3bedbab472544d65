-- A Begin that was asked last may have been answered NoMemory just as well.
use Rattle.std.proofs.Common.{◌≡◌, ◌∙◌, ℕ, Bool, true, false, List, [], ◌∷◌, ◌++◌, ap, inr, refl, subst, sym}
use Rattle.hb_types.specs.declared.answer.Answer.TheVariants as answer
use Rattle.hb_types.specs.declared.change.LogItem.{LogItem}
use Rattle.hb_types.specs.declared.names.Owner.{Owner}
use Rattle.hb_types.specs.declared.request.Request.TheVariants as request
use Rattle.hb_runs.specs.Coordinator as coordinator
use Rattle.hb_runs.specs.ServerRuns.{Asked}
use Rattle.hb_law.specs.Composition.{CoordinatorRan}
use Rattle.hb_law.specs.Histories.{Labelled, asked, asked_of}
use Rattle.hb_law.specs.Moments.{answered_as}
use Rattle.hb_intime.proofs.Deeds.{asked_append}
use Rattle.hb_votes.proofs.Reserving.{crun_parts}

-- the state before the last effect
record Before (k : coordinator.CState) (es : List coordinator.CEffect) (e : coordinator.CEffect) (t : coordinator.CState) : Type 0 where
  state : coordinator.CState
  steps : coordinator.Steps k es state
  last : coordinator.happens state e ≡ t

before : (k : coordinator.CState) (es : List coordinator.CEffect) (e : coordinator.CEffect) (t : coordinator.CState) → coordinator.Steps k (es ++ e ∷ []) t → Before k es e t
before k [] e t s = record { state = k; steps = refl; last = s.1 }
before k (x ∷ es) e t s =
    let b = before (coordinator.happens k x) es e t s.1 in record { state = b.state; steps = (s.0, b.steps); last = b.last }

up_for : (k : coordinator.CState) (up : Bool) (owner : Owner) (tx : ℕ) → coordinator.RightIn up k (request.Begin owner) (answer.Begun (record { 0 = tx })) → up ≡ true
up_for k true owner tx r = refl
up_for k false owner tx r = absurd r

abbrev begun_as : Owner → ℕ → Asked
begun_as owner tx = record { request = request.Begin owner; answer = answer.Begun (record { 0 = tx }) }

abbrev failed_as : Owner → Asked
failed_as owner = record { request = request.Begin owner; answer = answer.NoMemory }

one_turn : (k t : coordinator.CState) (owner : Owner) (tx : ℕ) → coordinator.CTurns k (begun_as owner tx) t
    → (u : coordinator.CState) × coordinator.CTurns k (failed_as owner) u × (t.log ≡ u.log)
one_turn k t owner tx c =
    let f = c.causes in
    let up : k.up ≡ true = up_for k k.up owner tx c.right in
    let b = before k f.0 (coordinator.begun tx) t (subst (λ es. coordinator.Steps k es t) f.2 c.steps) in (
      b.state,
      record {
        effects = f.0;
        causes = inr f.1;
        right = subst (λ z. coordinator.RightIn z k (request.Begin owner) answer.NoMemory) (sym up) refl;
        steps = b.steps;
      },
      ap (λ z. z.log) (sym b.last),
    )

runs_joined : (k u t : coordinator.CState) (front : List Asked) (a : Asked) → coordinator.CRun k front u → coordinator.CTurns u a t → coordinator.CRun k (front ++ a ∷ []) t
runs_joined k u t [] a r c = (t, subst (λ z. coordinator.CTurns z a t) (sym r) c, refl)
runs_joined k u t (x ∷ front) a r c = (r.0, r.1, runs_joined r.0 u t front a r.2 c)

module _ (first after : List LogItem) (done : List Labelled) (l : Labelled) (owner : Owner) (tx : ℕ) (q : l.entry.request ≡ request.Begin owner)
    (a : l.entry.answer ≡ answer.Begun (record { 0 = tx })) (c : CoordinatorRan first after (done ++ l ∷ [])) where
  begun_last : (k t : coordinator.CState) → coordinator.CTurns k (asked l.entry) t → coordinator.CTurns k (begun_as owner tx) t
  begun_last k t turn = subst (λ z. coordinator.CTurns k z t) (λ i. record { request = q i; answer = a i }) turn

  failed_last : (k t : coordinator.CState) → coordinator.CTurns k (failed_as owner) t → coordinator.CTurns k (asked (answered_as answer.NoMemory l).entry) t
  failed_last k t turn = subst (λ z. coordinator.CTurns k z t) (λ i. record { request = sym q i; answer = answer.NoMemory }) turn

  pub may_fail : CoordinatorRan first after (done ++ answered_as answer.NoMemory l ∷ [])
  may_fail =
      let whole = subst (λ x. coordinator.CRun (coordinator.stopped_at first) x c.last) (asked_append done (l ∷ [])) c.ran in
      let r = crun_parts (coordinator.stopped_at first) (asked_of done) (asked l.entry ∷ []) c.last whole in
      let turned = one_turn r.0 r.2.0 owner tx (begun_last r.0 r.2.0 r.2.1) in
      let joined = runs_joined (coordinator.stopped_at first) r.0 turned.0 (asked_of done) (asked (answered_as answer.NoMemory l).entry) r.1 (failed_last r.0 turned.0 turned.1) in
      record {
        last = turned.0;
        ran = subst (λ x. coordinator.CRun (coordinator.stopped_at first) x turned.0) (sym (asked_append done (answered_as answer.NoMemory l ∷ []))) joined;
        log = c.log ∙ ap (λ z. z.log) (sym r.2.2) ∙ turned.2;
      }
