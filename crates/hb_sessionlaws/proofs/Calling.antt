-- One call of a session: it is permitted, and the calls stand where the session does.
use Rattle.std.proofs.Common.{◌≡◌, ℕ, ◌+◌, ◌<◌, ◌^◌, Bool, true, false, cond, List, [], ◌∷◌, ◌++◌, Some, None, refl, ap, sym, subst, ◌∙◌, arith, inl, inr}
use Rattle.std.proofs.lemmas.Bool.{false≢true}
use Rattle.std.proofs.lemmas.Option.{none-some, same_Some}
use Rattle.std.specs.Prelude.{IsTrue}
use Rattle.hb_types.specs.declared.answer.Answer.{Answer}
use Rattle.hb_types.specs.declared.answer.Answer.TheVariants as answer
use Rattle.hb_types.specs.declared.names.Tx.{Tx}
use Rattle.hb_types.specs.declared.request.Request.{Request}
use Rattle.hb_types.specs.declared.request.Request.TheVariants as request
use Rattle.hb_types.specs.declared.trail.Call.{Call}
use Rattle.hb_model.specs.Answers.{call}
use Rattle.hb_talk.specs.Ends.{fes1}
use Rattle.hb_talk.specs.Sessions.{going}
use Rattle.hb_talk.specs.Talk.{mgr}
use Rattle.hb_law.specs.Callers.{Permitted, begun_count, is_begun}
use Rattle.hb_access.specs.Accesses.{use_of}
use Rattle.hb_plan.specs.Planned.{now_hears}
use Rattle.hb_wait.specs.Courses.{after_call, free, next_in, pending_in}
use Rattle.hb_wait.specs.Waiting.{heard, node_asked, request_asked}
use Rattle.hb_wait.specs.declared.pending.Heard.TheVariants as heard_as
use Rattle.hb_wait.specs.declared.pending.Pending.{Pending}
use Rattle.hb_wait.specs.declared.pending.Pending.TheVariants as pending
use Rattle.hb_session.specs.declared.session.Progress.{Progress}
use Rattle.hb_session.specs.declared.stage.Asking.{Asking}
use Rattle.hb_session.specs.declared.stage.Ending.{Ending}
use Rattle.hb_session.specs.declared.stage.Given.{Given}
use Rattle.hb_session.specs.declared.stage.Stage.{Stage}
use Rattle.hb_session.specs.declared.stage.Stage.TheVariants as stage
use Rattle.hb_session.specs.Runs.{call_of}
use Rattle.hb_session.specs.Sitting.{Sitting, counted, next_owner, owner, planned, stands, stands_at}
use Rattle.hb_session.specs.Steps.{GoesOn, IsToldBy, MovesAt, RunsOutAt, begun_by, nothing_used, said}
use Rattle.hb_obeys.specs.Obeying.{IsOfSystem, is_begin}
use Rattle.hb_obeys.proofs.Obeying.{Always}
use Rattle.hb_obeys.proofs.Planning.{within}
use Rattle.hb_obeys.proofs.Standing.{begun-last, behind, reaches_more}
use Rattle.hb_sessionlaws.specs.Lives.{Asked, IsKept}
use Rattle.hb_sessionlaws.proofs.Ending.{call_leads, next_permits}
use Rattle.hb_sessionlaws.proofs.Going.{At, Goes, ending_talk, ends_on_at, heard_at, moves_at, none_begun}
use Rattle.hb_sessionlaws.proofs.Undone.{Anyhow}
use Rattle.hb_sessionlaws.proofs.Using.{HasUsed, MayAsk, Pends, may_ask, pending_heard, pending_may, quiet}

pub record Called (s m : Sitting) (front : List Call) (c : Call) : Type 0 where
  pub permitted : Permitted s.index front c.node.0 c.request
  pub at : IsOfSystem c → At m (front ++ c ∷ []) m.stage
  pub count : IsOfSystem c → m.begun ≡ begun_count (front ++ c ∷ [])

-- the count where no transaction begun
same_count : (front : List Call) (c : Call) → is_begin c.request ≡ false → IsOfSystem c → begun_count (front ++ c ∷ []) ≡ begun_count front
same_count front c plain sys = begun-last front c ∙ by (is_begun c.answer) sys.begins
  where
    by : (b : Bool) → (IsTrue b → IsTrue (is_begin c.request)) → cond b (begun_count front + 1) (begun_count front) ≡ begun_count front
    by true h = absurd (false≢true (sym plain ∙ h refl))
    by false h = refl

counted_next : (begun n : ℕ) → begun + 1 < 2 ^ 64 → begun ≡ n → counted begun ≡ n + 1
counted_next begun n room e = omega (arith, room, e)

-- a call that begins no transaction
plainly_called : (s m : Sitting) (front : List Call) (p : Pending) (a : Answer) → MayAsk s.index front (node_asked p) (request_asked p) → m.begun ≡ begun_count front
    → (IsOfSystem (call_of p a) → At m (front ++ call_of p a ∷ []) m.stage) → Called s m front (call_of p a)
plainly_called s m front p a may counts at = record { permitted = may.0; at = at; count = λ sys. counts ∙ sym (same_count front (call_of p a) may.1 sys) }

-- ---- what is asked

pending_next : (s : Sitting) (b : Asking) (p : Pending) → next_in (stands_at s [] (stage.Asks b)) ≡ Some p → b.pending ≡ p
pending_next s b p e = by b.pending e
  where
    by : (x : Pending) → next_in (pending_in x (λ y. planned s [] (now_hears b.plan y))) ≡ Some p → x ≡ p
    by (pending.Asks node q) e = same_Some (pending.Asks node q) p e
    by (pending.Blocked l path wanted holders) e = same_Some (pending.Blocked l path wanted holders) p e
    by (pending.Waits l) e = same_Some (pending.Waits l) p e

module _ (s m : Sitting) (front : List Call) (p : Pending) (a : Answer) (shows : Progress) (h : Asked s m p a shows) where
  next_at : (g : Stage) → s.stage ≡ g → next_in (stands_at s [] g) ≡ Some p
  next_at g e = subst (λ x. next_in (stands_at s [] x) ≡ Some p) e (h.makes.next [])

  moves_from : (g : Stage) → s.stage ≡ g → MovesAt g (heard p a) m
  moves_from g e = subst (λ x. MovesAt x (heard p a) m) e h.makes.moves

  begun_from : (g : Stage) → s.stage ≡ g → m.begun ≡ begun_by g a s.begun
  begun_from g e = h.makes.begun ∙ ap (λ x. begun_by x a s.begun) e

  -- ---- within a statement

  asks_called : (b : Asking) → s.stage ≡ stage.Asks b → s.begun ≡ begun_count front → Pends front b.plan.usage b.pending → Called s m front (call_of p a)
  asks_called b e counts t =
      let is : b.pending ≡ p = pending_next s b p (next_at (stage.Asks b) e) in
      let here : Pends front b.plan.usage p = subst (Pends front b.plan.usage) is t in
      plainly_called s m front p a (pending_may s.index front b.plan.usage p here) (begun_from (stage.Asks b) e ∙ counts)
      (λ sys. heard_at m (front ++ call_of p a ∷ []) b (heard p a) (pending_heard front b.plan.usage p a here sys) (moves_from (stage.Asks b) e))

  -- ---- the beginning of a transaction

  enters_called : (tx : Tx) (g : Given) → s.stage ≡ stage.Enters tx g → s.begun ≡ begun_count front → HasUsed front (nothing_used tx) → Called s m front (call_of p a)
  enters_called tx g e counts t =
      let q : Request = request.Enter tx (owner s) in
      let is : pending.Asks (record { 0 = mgr }) q ≡ p = same_Some (pending.Asks (record { 0 = mgr }) q) p (next_at (stage.Enters tx g) e) in
      subst (λ x. Called s m front (call_of x a)) is (plainly_called s m front (pending.Asks (record { 0 = mgr }) q) a (tt, refl) (begun_from (stage.Enters tx g) e ∙ counts)
      (λ sys. moves_at m (front ++ call mgr q a ∷ []) (nothing_used tx)
      (record { begun = t.begun; reaches = reaches_more (within t.begun (use_of (nothing_used tx))) front mgr q a sys t.reaches }) (moves_from (stage.Enters tx g) e)))

  -- behind a Begin
  begin_at : (g : Given) (x : Answer) → IsOfSystem (call fes1 (request.Begin (next_owner s)) x) → MovesAt (stage.Begins g) (heard_as.Answered x) m
      → At m (front ++ call fes1 (request.Begin (next_owner s)) x ∷ []) m.stage
  begin_at g (answer.Begun tx) sys moves =
      subst (At m (front ++ call fes1 (request.Begin (next_owner s)) (answer.Begun tx) ∷ [])) (sym moves) (record {
        begun = begun_count front + 1;
        reaches = reaches_more (record { begun = begun_count front; open_as = None }) front fes1 (request.Begin (next_owner s)) (answer.Begun tx) sys (record { begun = refl; stands = tt });
      })
  begin_at g x sys moves = none_begun m (front ++ call fes1 (request.Begin (next_owner s)) x ∷ []) m.stage moves

  begin_count : (g : Given) (x : Answer) → counted s.begun ≡ begun_count front + 1 → s.begun ≡ begun_count front
      → begun_by (stage.Begins g) x s.begun ≡ begun_count (front ++ call fes1 (request.Begin (next_owner s)) x ∷ [])
  begin_count g (answer.Begun tx) nth counts = nth ∙ sym (begun-last front (call fes1 (request.Begin (next_owner s)) (answer.Begun tx)))
  begin_count g x nth counts = counts ∙ sym (begun-last front (call fes1 (request.Begin (next_owner s)) x))

  begins_called : (g : Given) → s.stage ≡ stage.Begins g → IsKept s → s.begun ≡ begun_count front → Called s m front (call_of p a)
  begins_called g e kept counts =
      let q : Request = request.Begin (next_owner s) in
      let is : pending.Asks (record { 0 = fes1 }) q ≡ p = same_Some (pending.Asks (record { 0 = fes1 }) q) p (next_at (stage.Begins g) e) in
      let nth : counted s.begun ≡ begun_count front + 1 = counted_next s.begun (begun_count front) kept.room counts in
      subst (λ x. Called s m front (call_of x a)) is (record {
        permitted = (refl, nth);
        at = λ sys. begin_at g a sys (subst (λ x. MovesAt (stage.Begins g) (heard x a) m) (sym is) (moves_from (stage.Begins g) e));
        count = λ sys. begun_from (stage.Begins g) e ∙ begin_count g a nth counts;
      })

  -- ---- the end of a transaction

  ends_led : (e : Ending) → s.stage ≡ stage.Ends e → after_call (free (ending_talk s e)) a ≡ said shows (stands m [])
  ends_led e is = subst (λ x. after_call (stands_at s [] x) a ≡ said shows (stands m [])) is (goes [])
    where
      goes : GoesOn s m a shows
      goes = elim (h.makes.goes (subst (λ x. IsToldBy x (heard p a)) (sym is) tt)) [ inl on ↦ on | inr out ↦ absurd (subst (λ x. RunsOutAt x m shows) is out) ]

  ends_called : (e : Ending) → s.stage ≡ stage.Ends e → s.begun ≡ begun_count front → Goes s front (ending_talk s e) → Called s m front (call_of p a)
  ends_called e is counts t =
      let next : next_in (free (ending_talk s e)) ≡ Some p = next_at (stage.Ends e) is in
      let may : MayAsk s.index front (node_asked p) (request_asked p) = may_ask s.index front (node_asked p) (request_asked p) t.moment t.reaches
      (next_permits (quiet s.index) (ending_talk s e) p t.moment next t.always) in
      plainly_called s m front p a may (begun_from (stage.Ends e) is ∙ counts)
      (λ sys. ends_on_at m (front ++ call_of p a ∷ []) (after_call (free (ending_talk s e)) a)
      (λ u to. record {
        moment = behind (node_asked p) (request_asked p) a t.moment;
        reaches = reaches_more t.moment front (node_asked p) (request_asked p) a sys t.reaches;
        always = subst (λ i. Always (quiet i) u (behind (node_asked p) (request_asked p) a t.moment) Anyhow) (sym h.same.index)
            (call_leads (quiet s.index) (ending_talk s e) p t.moment a u next t.always to);
      })
      m.stage (moves_from (stage.Ends e) is) shows h.leaves (ends_led e is))

  -- ---- by stage

  none_next : (g : Stage) → next_in (stands_at s [] g) ≡ None → s.stage ≡ g → Called s m front (call_of p a)
  none_next g none e = absurd (none-some p (sym none ∙ next_at g e))

  pub called : IsKept s → s.begun ≡ begun_count front → (g : Stage) → s.stage ≡ g → At s front g → Called s m front (call_of p a)
  unfolding going
  called kept counts stage.Idle e t = none_next stage.Idle refl e
  called kept counts (stage.Open u) e t = none_next (stage.Open u) refl e
  called kept counts (stage.Refused u r) e t = none_next (stage.Refused u r) refl e
  called kept counts (stage.Begins g) e t = begins_called g e kept counts
  called kept counts (stage.Enters tx g) e t = enters_called tx g e counts t
  called kept counts (stage.Asks b) e t = asks_called b e counts t
  called kept counts (stage.Ends x) e t = ends_called x e counts t
