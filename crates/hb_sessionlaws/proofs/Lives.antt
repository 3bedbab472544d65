-- A session's calls, transaction after transaction.
use Rattle.std.proofs.Common.{◌≡◌, true, false, List, [], ◌∷◌, ◌++◌, refl, ap, sym, subst, ◌∙◌, append_assoc, append-nil, inl, inr}
use Rattle.std.proofs.lemmas.Bool.{false≢true}
use Rattle.hb_types.specs.declared.trail.Call.{Call}
use Rattle.hb_types.specs.Lists.{Each}
use Rattle.hb_model.specs.declared.reply.Reply.TheVariants as reply
use Rattle.hb_model.specs.declared.statement.Statement.{Statement}
use Rattle.hb_talk.specs.Sessions.{going}
use Rattle.hb_law.specs.Callers.{ObeysFrom, begun_count}
use Rattle.hb_access.specs.Accesses.{use_of}
use Rattle.hb_access.specs.declared.usage.Usage.{Usage}
use Rattle.hb_wait.specs.Waiting.{is_waiting as waits_for_lock}
use Rattle.hb_wait.specs.declared.pending.Pending.{Pending}
use Rattle.hb_wait.specs.declared.pending.Pending.TheVariants as pending
use Rattle.hb_session.specs.declared.stage.Stage.{Stage}
use Rattle.hb_session.specs.declared.stage.Stage.TheVariants as stage
use Rattle.hb_session.specs.Runs.{call_of}
use Rattle.hb_session.specs.Sitting.{Sitting, is_busy, is_ending, is_refused, is_waiting, owner, stands, stands_at}
use Rattle.hb_session.specs.Steps.{Abandons, Closes, Gives, GivesAt, OpensAt, RollsBack}
use Rattle.hb_obeys.specs.Obeying.{IsOfSystem}
use Rattle.hb_obeys.proofs.Endings.{Counts}
use Rattle.hb_obeys.proofs.Obeying.{always_weaker}
use Rattle.hb_obeys.proofs.Planning.{within}
use Rattle.hb_obeys.proofs.Sessions.{going_obeys}
use Rattle.hb_sessionlaws.specs.Lives.{IsKept, LivesObey, Sits, StepsSit, abandons, asks, closes, gives, refuses, stays}
use Rattle.hb_sessionlaws.proofs.Calling.{called}
use Rattle.hb_sessionlaws.proofs.Going.{At, Goes, ends_at, none_begun, stays_at}
use Rattle.hb_sessionlaws.proofs.Undone.{Anyhow, nodes_used, rolling_back_may}
use Rattle.hb_sessionlaws.proofs.Using.{HasUsed, Pends, quiet}

-- ---- a statement that is given

-- COMMIT, ROLLBACK or any other one, with no statement behind it
given_talk : (s m : Sitting) (st : Statement) (front : List Call) (u : Usage) → HasUsed front u → Goes m front (going s.back_ends (owner s) (st ∷ []) (use_of u))
given_talk s m st front u t = record {
  moment = within t.begun (use_of u);
  reaches = t.reaches;
  always = always_weaker (quiet m.index) (going s.back_ends (owner s) (st ∷ []) (use_of u)) (within t.begun (use_of u)) (Counts t.begun) Anyhow (λ z r h. tt)
      (going_obeys (quiet m.index) t.begun s.back_ends (owner s) (st ∷ []) (use_of u));
}

given : (s m : Sitting) (st : Statement) (front : List Call) → Gives s m st → (g : Stage) → s.stage ≡ g → is_busy g ≡ false → At s front g → At m front m.stage
given s m st front h stage.Idle e free_now t = none_begun m front m.stage (subst (λ g. GivesAt g m.stage) e h.moves)
given s m st front h (stage.Open u) e free_now t = elim (subst (λ g. GivesAt g m.stage) e h.moves) [
  | inl on ↦ stays_at m front u m.stage t on
  | inr ending ↦ ends_at m front m.stage (going s.back_ends (owner s) (st ∷ []) (use_of u)) ending
      (sym (subst (λ g. stands_at s (st ∷ []) g ≡ stands m []) e (h.talk []))) (given_talk s m st front u t)
]
given s m st front h _ e free_now t = absurd (false≢true (sym free_now))

-- ---- without a call

showed : (s m : Sitting) (front : List Call) → is_refused s.stage ≡ true → OpensAt s.stage m.stage → (g : Stage) → s.stage ≡ g → At s front g → At m front m.stage
showed s m front refused opens (stage.Refused u r) e t = subst (At m front) (sym (subst (λ g. OpensAt g m.stage) e opens)) t
showed s m front refused opens _ e t = absurd (false≢true (sym (ap is_refused e) ∙ refused))

-- the transaction is rolled back at all nodes that it has used
given_up : (m : Sitting) (front : List Call) (u : Usage) → is_ending m.stage ≡ true → RollsBack (use_of u) reply.RolledBackEnd m → HasUsed front u → At m front m.stage
given_up m front u ending rolls t =
    ends_at m front m.stage _ ending (rolls [])
    (record { moment = _; reaches = t.reaches; always = rolling_back_may (quiet m.index) t.begun u (use_of u) reply.RolledBackEnd refl (nodes_used u.used.0) })

waits_at : (front : List Call) (u : Usage) (p : Pending) → waits_for_lock p ≡ true → Pends front u p → HasUsed front u
waits_at front u (pending.Waits l) waits t = t.stands
waits_at front u _ waits t = absurd (false≢true waits)

abandoned : (s m : Sitting) (front : List Call) → is_ending m.stage ≡ true → (g : Stage) → is_waiting g ≡ true → Abandons g m → At s front g → At m front m.stage
abandoned s m front ending (stage.Asks b) waits back t = given_up m front b.plan.usage ending back (waits_at front b.plan.usage b.pending waits t)
abandoned s m front ending _ waits back t = absurd back

closed : (s m : Sitting) (front : List Call) → is_ending m.stage ≡ true → (g : Stage) → Closes g m → At s front g → At m front m.stage
closed s m front ending (stage.Open u) back t = given_up m front u ending back t
closed s m front ending _ back t = absurd back

-- ---- the whole

lives : (s e : Sitting) (calls : List Call) → Sits s calls e → (front : List Call) → IsKept s → At s front s.stage → s.begun ≡ begun_count front → Each IsOfSystem calls
    → ObeysFrom s.index front calls × (e.begun ≡ begun_count (front ++ calls))
lives s _ _ stays front kept t counts all = (tt, counts ∙ ap begun_count (sym (append-nil front)))
lives _ _ _ (gives {s} {m} {e} {st} {cs} k idle g more) front kept t counts all =
    let r = lives m e cs more front k (given s m st front g s.stage refl idle t) (g.begun ∙ counts) all in
    (subst (λ i. ObeysFrom i front cs) g.same.index r.0, r.1)
lives _ _ _ (asks {s} {m} {e} {cs} p a shows k h more) front kept t counts all =
    let c = call_of p a in
    let one = called s m front p a shows h kept counts s.stage refl t in
    let r = lives m e cs more (front ++ c ∷ []) k (one.at all.0) (one.count all.0) all.1 in
    ((one.permitted, subst (λ i. ObeysFrom i (front ++ c ∷ []) cs) h.same.index r.0), r.1 ∙ ap begun_count (append_assoc front (c ∷ []) cs))
lives _ _ _ (refuses {s} {m} {e} {cs} x k h more) front kept t counts all =
    let r = lives m e cs more front k (showed s m front h.refused h.opens s.stage refl t) (h.begun ∙ counts) all in
    (subst (λ i. ObeysFrom i front cs) h.same.index r.0, r.1)
lives _ _ _ (abandons {s} {m} {e} {cs} k h more) front kept t counts all =
    let r = lives m e cs more front k (abandoned s m front h.ending s.stage h.waiting h.abandons t) (h.begun ∙ counts) all in
    (subst (λ i. ObeysFrom i front cs) h.same.index r.0, r.1)
lives _ _ _ (closes {s} {m} {e} {cs} k h more) front kept t counts all =
    let r = lives m e cs more front k (closed s m front h.ending s.stage h.closes t) (h.begun ∙ counts) all in
    (subst (λ i. ObeysFrom i front cs) h.same.index r.0, r.1)

pub lives_obey : LivesObey
lives_obey old new front calls kept none counts sits all = lives old new calls sits front kept (none_begun old front old.stage none) counts all

pub steps_sit : StepsSit
steps_sit old new before after shows h kept = (
  λ refused. let s = h.shown refused in refuses shows kept (record { refused = refused; same = h.same; leaves = h.leaves; begun = s.1; leads = s.2; opens = s.3 }) stays,
  λ calls. let s = h.steps calls in (s.0, s.1, s.3, asks s.0 s.1 shows kept (record { same = h.same; leaves = h.leaves; makes = s.4 }) stays),
)
