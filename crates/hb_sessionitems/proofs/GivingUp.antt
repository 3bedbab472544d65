-- How far a session's transaction comes that is given up where its last sitting stands.
use Rattle.std.proofs.Common.{◌≡◌, ℕ, List, [], ◌∷◌, Bool, true, false, Some, refl, subst, sym, ap, ◌∙◌}
use Rattle.std.proofs.lemmas.Bool.{false≢true}
use Rattle.hb_types.specs.declared.answer.Answer.{Answer}
use Rattle.hb_types.specs.declared.answer.Answer.TheVariants as answer
use Rattle.hb_types.specs.declared.names.Tx.{Tx}
use Rattle.hb_types.specs.declared.request.Request.{Request}
use Rattle.hb_types.specs.declared.request.Request.TheVariants as request
use Rattle.hb_model.specs.declared.reply.Reply.{Reply}
use Rattle.hb_model.specs.declared.reply.Reply.TheVariants as reply
use Rattle.hb_model.specs.declared.statement.Statement.{Statement}
use Rattle.hb_model.specs.declared.statement.Statement.TheVariants as statement
use Rattle.hb_talk.specs.Ends.{fes1, rolling_back}
use Rattle.hb_talk.specs.Moves.{fresh}
use Rattle.hb_talk.specs.PlansDefine.{plan}
use Rattle.hb_talk.specs.Sessions.{transaction}
use Rattle.hb_talk.specs.Talk.{Talk, says, asks, Use, mgr}
use Rattle.hb_faithful.specs.Planned.{is_rolled_back}
use Rattle.hb_plan.specs.Planned.{Said}
use Rattle.hb_plancalc.specs.Counted.{reply_in}
use Rattle.hb_wait.specs.Courses.{Course, free, halted, next_in, after_call, IsExpected}
use Rattle.hb_wait.specs.Waiting.{request_asked}
use Rattle.hb_wait.specs.declared.pending.Pending.{Pending}
use Rattle.hb_wait.specs.declared.pending.Pending.TheVariants as pending
use Rattle.hb_wait.proofs.Following.{leads}
use Rattle.hb_session.specs.declared.stage.Stage.{Stage}
use Rattle.hb_session.specs.declared.stage.Stage.TheVariants as stage
use Rattle.hb_session.specs.Runs.{call_of}
use Rattle.hb_session.specs.Sitting.{Sitting, answered, finishing, is_waiting, next_owner, opening, stands, stands_at}
use Rattle.hb_session.specs.Steps.{Closes as ClosesAt}
use Rattle.hb_itemlaws.specs.GivingUp.{amid, between}
use Rattle.hb_itemlaws.proofs.Dividing.{ends_somehow}
use Rattle.hb_sessionitems.proofs.Courses.{after_kept, after_undone, ends_course, into, into_next, is_free, is_said, none_is_some}
use Rattle.hb_sessionitems.proofs.Planning.{end_unplanned, is_planning}
use Rattle.hb_sessionitems.proofs.Positions.{At, LeftAt, LeftFrom, LeftIn, here, amid_at, begins_at, ends_at, enters_at, going_at, none_at, open_at}
use Rattle.hb_sessionitems.proofs.Showing.{going_none, rolls_at, silent_at}
use Rattle.hb_sessionitems.proofs.Stepping.{some_is, speaks}
use Rattle.hb_model.specs.Answers.{call}
use Rattle.hb_talk.specs.Sessions.{with_reply}
use Rattle.hb_talk.specs.Talk.{the_tx}
use Rattle.hb_plan.specs.Planned.{now_hears}
use Rattle.hb_wait.specs.Courses.{pending_in}
use Rattle.hb_wait.specs.Waiting.{is_waiting as waits_for_lock}
use Rattle.hb_session.specs.Sitting.{in_transaction, is_busy, planned}

-- ---- a statement that waits is abandoned

waits_halted : {R : Type 0} (p : Pending) (k : Answer → Talk R) → waits_for_lock p ≡ true → is_free (pending_in p k) ≡ false
waits_halted (pending.Asks node q) k e = absurd (false≢true e)
waits_halted (pending.Blocked l path wanted holders) k e = absurd (false≢true e)
waits_halted (pending.Waits l) k e = refl

halted_at : (m : Sitting) (sts : List Statement) (g : Stage) → is_waiting g ≡ true → is_free (stands_at m sts g) ≡ false
halted_at m sts (stage.Asks a) e = waits_halted a.pending (λ x. planned m sts (now_hears a.plan x)) e
halted_at m sts _ e = absurd (false≢true e)

module _ (old last : Sitting) where
  pub waiting_left : is_waiting last.stage ≡ true → (at : At old last) → LeftAt old last true at [] [] []
  waiting_left w at = by at (λ sts t e. false≢true (sym (halted_at last sts last.stage w) ∙ ap is_free e))
    where
      by : (at : At old last) → ((sts : List Statement) (t : Talk (List Reply)) → stands last sts ≡ free t → ⊥) → LeftAt old last true at [] [] []
      by (none_at e) held = absurd (held [] (opening old []) (e []))
      by (begins_at st e) held = absurd (held [] (transaction old.back_ends (next_owner old) (st ∷ [])) (e []))
      by (enters_at st tx e) held = absurd (held [] (answered (transaction old.back_ends (next_owner old) (st ∷ [])) (answer.Begun tx)) (e []))
      by (open_at v e) held = absurd (held [] (going_at old [] v) (e []))
      by (amid_at S e) held = let more = ends_course S in here refl refl more.0 more.1 more.2
      by (ends_at (halted p k) only e) held = absurd only
      by (ends_at (free t) only e) held = absurd (held [] t (e []))

  -- ---- the session finds no memory

  module _ (p : Pending) (a : Answer) (expected : IsExpected p a) (planning : is_planning (request_asked p) ≡ true) (next : (sts : List Statement) → next_in (stands last sts) ≡ Some p) where
    nexts : (F : List Statement → Course (List Reply)) → ((sts : List Statement) → stands last sts ≡ F sts) → next_in (F []) ≡ Some p
    nexts F e = ap next_in (sym (e [])) ∙ next []

    -- what isn't asked for a statement isn't next
    unplanned : (node : ℕ) (q : Request) → is_planning q ≡ false → Some (pending.Asks (record { 0 = node }) q) ≡ Some p → ⊥
    unplanned node q not e = false≢true (sym not ∙ ap (λ x. is_planning (request_asked x)) (some_is (pending.Asks (record { 0 = node }) q) p e) ∙ planning)

    plan_left : (S : Course Said) → is_said S ≡ false → next_in (into (going_at old []) S) ≡ Some p → LeftIn old.back_ends true S [] (call_of p a ∷ []) []
    plan_left S asking n =
        let more = ends_course (after_call S a) in
        here refl refl more.0 more.1 ((leads S p a (sym (into_next (going_at old []) S asking) ∙ n) expected).follows more.0 more.1 more.2)

    amid_left : (S : Course Said) → next_in (into (going_at old []) S) ≡ Some p → LeftIn old.back_ends true S [] (call_of p a ∷ []) []
    amid_left (halted q k) n = plan_left (halted q k) refl n
    amid_left (free (asks node q k)) n = plan_left (free (asks node q k)) refl n
    amid_left (free (says (o, v))) n = by (is_rolled_back o) refl
      where
        by : (b : Bool) → is_rolled_back o ≡ b → LeftIn old.back_ends true (free (says (o, v))) [] (call_of p a ∷ []) []
        by true undone = absurd (unplanned fes1 (request.Abort (the_tx v)) refl (ap next_in (sym (ap free (after_undone (going_at old []) o v undone))) ∙ n))
        by false kept =
            let one : into (going_at old []) (free (says (o, v))) ≡ free (says (reply_in o ∷ [])) = ap free (after_kept (going_at old []) o v kept ∙ ap (with_reply (reply_in o)) (going_none old.back_ends (next_owner old) v)) in
            absurd (none_is_some p (ap next_in (sym one) ∙ n))

    enters_left : (st : Statement) (tx : Tx) (place : ℕ) → LeftFrom old.back_ends true tx.0 ((place, st) ∷ []) (call mgr (request.Enter tx (next_owner old)) a ∷ []) []
    enters_left st tx place = record {
      front = [];
      asked = [];
      late = call mgr (request.Enter tx (next_owner old)) a ∷ [];
      parts = refl;
      opens = record { beside = tt; no_rows = refl; undoes_none = tt };
      beside = (refl, tt);
      front_begins = tt;
      late_begins = (refl, tt);
      late_alone = λ n. absurd (n refl);
      left = amid (ends_somehow (plan old.back_ends st (fresh tx.0)));
    }

    pub ran_out_left : (at : At old last) → LeftAt old last true at [] (call_of p a ∷ []) []
    ran_out_left (none_at e) = absurd (none_is_some p (nexts (λ sts. free (opening old sts)) e))
    ran_out_left (begins_at st e) =
        absurd (unplanned fes1 (request.Begin (next_owner old)) refl (nexts (λ sts. free (transaction old.back_ends (next_owner old) (st ∷ sts))) e))
    ran_out_left (enters_at st tx e) =
        let n = nexts (λ sts. free (answered (transaction old.back_ends (next_owner old) (st ∷ sts)) (answer.Begun tx))) e in
        let same : call mgr (request.Enter tx (next_owner old)) a ≡ call_of p a = ap (λ x. call_of x a) (some_is (pending.Asks (record { 0 = mgr }) (request.Enter tx (next_owner old))) p n) in
        λ place. subst (λ c. LeftFrom old.back_ends true tx.0 ((place, st) ∷ []) (c ∷ []) []) same (enters_left st tx place)
    ran_out_left (open_at v e) =
        absurd (none_is_some p (ap next_in (sym (ap free (going_none old.back_ends (next_owner old) v))) ∙ nexts (λ sts. free (going_at old sts v)) e))
    ran_out_left (amid_at S e) = amid_left S (nexts (λ sts. into (going_at old sts) S) e)
    ran_out_left (ends_at (halted q k) only e) = absurd only
    ran_out_left (ends_at (free (says r)) only e) = absurd (none_is_some p (nexts (λ sts. free (says r)) e))
    ran_out_left (ends_at (free (asks node q k)) only e) = absurd (unplanned node q (end_unplanned q only.0) (nexts (λ sts. free (asks node q k)) e))

  -- ---- it is closed between two statements

  abbrev begins_it : {R : Type 0} → Course R → Bool
  begins_it (free (asks node (request.Begin o) k)) = true
  begins_it _ = false

  closes_open : (g : Stage) (new : Sitting) → ClosesAt g new → (is_busy g ≡ false) × (in_transaction g ≡ true)
  closes_open (stage.Open u) new h = (refl, refl)
  closes_open _ new h = absurd h

  pub closed_left : (new : Sitting) → ClosesAt last.stage new → (at : At old last) → LeftAt old last false at [] [] []
  closed_left new h at = by at (silent_at last last.stage (closes_open last.stage new h).0) (rolls_at last last.stage (closes_open last.stage new h).0 (closes_open last.stage new h).1)
    where
      by : (at : At old last) → stands last [] ≡ free (says []) → (u : Use) × (stands last (statement.Rollback ∷ []) ≡ free (finishing (rolling_back u 0 reply.RolledBack))) → LeftAt old last false at [] [] []
      by (none_at e) silent rolls = absurd (false≢true (ap begins_it (sym rolls.1 ∙ e (statement.Rollback ∷ []))))
      by (begins_at st e) silent rolls = absurd (false≢true (ap is_said (sym (e []) ∙ silent)))
      by (enters_at st tx e) silent rolls = absurd (false≢true (ap is_said (sym (e []) ∙ silent)))
      by (open_at v e) silent rolls = between
      by (amid_at S e) silent rolls = absurd (speaks old S (sym (e []) ∙ silent))
      by (ends_at C only e) silent rolls = absurd (false≢true (ap is_said (sym rolls.1 ∙ e (statement.Rollback ∷ []) ∙ sym (e []) ∙ silent)))
