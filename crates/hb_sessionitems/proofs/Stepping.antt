-- What one step of a session makes of where its transaction stands.
use Rattle.std.proofs.Common.{◌≡◌, ℕ, List, [], ◌∷◌, Bool, true, false, Some, refl, subst, sym, ap, ◌∙◌}
use Rattle.std.specs.Prelude.{unwrap_or}
use Rattle.std.proofs.lemmas.Bool.{false≢true}
use Rattle.std.proofs.lemmas.List.{append-nil}
use Rattle.hb_types.specs.declared.answer.Answer.{Answer}
use Rattle.hb_types.specs.declared.answer.Answer.TheVariants as answer
use Rattle.hb_types.specs.declared.names.Tx.{Tx}
use Rattle.hb_types.specs.declared.request.Request.TheVariants as request
use Rattle.hb_types.specs.declared.trail.Call.{Call}
use Rattle.hb_model.specs.Answers.{call}
use Rattle.hb_model.specs.declared.reply.Reply.{Reply}
use Rattle.hb_model.specs.declared.statement.Statement.{Statement}
use Rattle.hb_talk.specs.Ends.{fes1, rolling_back}
use Rattle.hb_talk.specs.Moves.{fresh}
use Rattle.hb_talk.specs.Sessions.{after, transaction, with_reply}
use Rattle.hb_talk.specs.Talk.{says, asks, mgr, refusal_of}
use Rattle.hb_faithful.specs.Planned.{is_rolled_back}
use Rattle.hb_plan.specs.Planned.{Said}
use Rattle.hb_plancalc.specs.Counted.{reply_in}
use Rattle.hb_wait.specs.Courses.{Course, free, halted, next_in, by_heard, after_call}
use Rattle.hb_wait.specs.declared.pending.Pending.{Pending}
use Rattle.hb_wait.specs.declared.pending.Pending.TheVariants as pending
use Rattle.hb_wait.proofs.Following.{leads}
use Rattle.hb_session.specs.declared.session.Progress.{Progress}
use Rattle.hb_session.specs.declared.session.Progress.TheVariants as progress
use Rattle.hb_session.specs.Runs.{Asks, call_of, is_end}
use Rattle.hb_session.specs.Sitting.{Sitting, answered, finishing, is_busy, next_owner, opening, stands}
use Rattle.hb_session.specs.Steps.{Gives, Leads, LeavesAs, said}
use Rattle.hb_itemlaws.specs.Dividing.{Given}
use Rattle.hb_itemlaws.proofs.Ends.{undone_ends}
use Rattle.hb_sessionitems.proofs.Courses.{EndsOnly, after_kept, after_undone, end_heard, into, into_after, into_next, is_said, none_is_some, words_of}
use Rattle.hb_sessionitems.proofs.Positions.{At, LeftAt, LeftBegun, LeftFrom, LeftIn, Onto, amid_at, begins_at, ends_at, enters_at, going_at, left_before, none_at, open_at}
use Rattle.hb_sessionitems.proofs.Showing.{going_none, on_amid, on_ends, on_given, on_still, silent_at}

-- ---- words

pub some_is : {A : Type 0} (x y : A) → Some x ≡ Some y → x ≡ y
some_is x y e = ap (λ o. unwrap_or o x) e

-- nothing is no reply
none_said : (r : Reply) → free (says []) ≡ free (says (r ∷ [])) → ⊥
none_said r e = absurd (cc (ap words_of e))

-- a plan says a reply in the end, whatever is given behind it
pub speaks : (old : Sitting) (S : Course Said) → into (going_at old []) S ≡ free (says []) → ⊥
speaks old (halted p k) e = false≢true (ap is_said e)
speaks old (free (asks node q k)) e = false≢true (ap is_said e)
speaks old (free (says (o, v))) e = by (is_rolled_back o) refl
  where
    by : (b : Bool) → is_rolled_back o ≡ b → ⊥
    by true undone = false≢true (ap is_said (sym (ap free (after_undone (going_at old []) o v undone)) ∙ e))
    by false kept =
        let one : free (after (going_at old []) o v) ≡ free (says (reply_in o ∷ [])) = ap free (after_kept (going_at old []) o v kept ∙ ap (with_reply (reply_in o)) (going_none old.back_ends (next_owner old) v)) in
        none_said (reply_in o) (sym e ∙ one)

-- ---- a refusal is shown

module _ (old m n : Sitting) (amidst : Bool) (shows : Progress) (leaves : LeavesAs shows n.stage) (goes : is_end shows ≡ false) where
  pub refuses_at : (at : At old m) → Leads (stands m) n shows → Onto old n amidst (LeftAt old m amidst at) shows
  refuses_at (none_at e) to = on_still old n amidst shows leaves goes (λ sts. free (opening old sts)) (LeftAt old m amidst (none_at e)) none_at (λ f ws calls replies l. l) none_said (λ sts. sym (e sts) ∙ to sts)
  refuses_at (begins_at st e) to =
      on_still old n amidst shows leaves goes (λ sts. free (transaction old.back_ends (next_owner old) (st ∷ sts))) (LeftAt old m amidst (begins_at st e)) (begins_at st) (λ f ws calls replies l. l)
      (λ r f. false≢true (ap is_said f)) (λ sts. sym (e sts) ∙ to sts)
  refuses_at (enters_at st tx e) to =
      on_still old n amidst shows leaves goes (λ sts. free (answered (transaction old.back_ends (next_owner old) (st ∷ sts)) (answer.Begun tx))) (LeftAt old m amidst (enters_at st tx e)) (enters_at st tx) (λ f ws calls replies l. l)
      (λ r f. false≢true (ap is_said f)) (λ sts. sym (e sts) ∙ to sts)
  refuses_at (open_at v e) to =
      on_still old n amidst shows leaves goes (λ sts. free (going_at old sts v)) (LeftAt old m amidst (open_at v e)) (open_at v) (λ f ws calls replies l. l)
      (λ r f. none_said r (sym (ap free (going_none old.back_ends (next_owner old) v)) ∙ f)) (λ sts. sym (e sts) ∙ to sts)
  refuses_at (amid_at S e) to = on_amid old n amidst shows leaves goes S (λ sts. sym (e sts) ∙ to sts)
  refuses_at (ends_at C only e) to = on_ends old n amidst (LeftAt old m amidst (ends_at C only e)) shows leaves goes C only (λ sts. sym (e sts) ∙ to sts)

  -- ---- a request is asked

  abbrev pub Behind : (at : At old m) → Call → List Given → List Call → List Reply → Type 0
  Behind at c ws calls replies = LeftAt old m amidst at ws (c ∷ calls) replies

  module _ (p : Pending) (a : Answer) (h : Asks m n p a shows) where
    -- where the answer led
    led : (F : List Statement → Course (List Reply)) → ((sts : List Statement) → stands m sts ≡ F sts) → (sts : List Statement) → after_call (F sts) a ≡ said shows (stands n sts)
    led F e sts = ap (λ c. after_call c a) (sym (e sts)) ∙ h.goes sts

    nexts : (F : List Statement → Course (List Reply)) → ((sts : List Statement) → stands m sts ≡ F sts) → (sts : List Statement) → next_in (F sts) ≡ Some p
    nexts F e sts = ap next_in (sym (e sts)) ∙ h.makes.next sts

    -- what is left behind a Begin, an Enter, a request of a plan
    abbrev BehindBegin : Statement → Answer → List Given → List Call → List Reply → Type 0
    BehindBegin st b ws calls replies = (place : ℕ) → LeftBegun old amidst ((place, st) ∷ ws) (call fes1 (request.Begin (next_owner old)) b ∷ calls) replies

    abbrev BehindEnter : Statement → Tx → Answer → List Given → List Call → List Reply → Type 0
    BehindEnter st tx b ws calls replies = (place : ℕ) → LeftFrom old.back_ends amidst tx.0 ((place, st) ∷ ws) (call mgr (request.Enter tx (next_owner old)) b ∷ calls) replies

    abbrev BehindPlan : Course Said → List Given → List Call → List Reply → Type 0
    BehindPlan S ws calls replies = LeftIn old.back_ends amidst S ws (call_of p a ∷ calls) replies

    -- Begin
    begun_by : (st : Statement) (b : Answer) → ((sts : List Statement) → free (answered (transaction old.back_ends (next_owner old) (st ∷ sts)) b) ≡ said shows (stands n sts))
        → Onto old n amidst (BehindBegin st b) shows
    begun_by st (answer.Begun tx) g =
        on_still old n amidst shows leaves goes (λ sts. free (answered (transaction old.back_ends (next_owner old) (st ∷ sts)) (answer.Begun tx))) (BehindBegin st (answer.Begun tx)) (enters_at st tx)
        (λ f ws calls replies l place. record { tx = tx; more = calls; whole = refl; left = l place })
        (λ r f. false≢true (ap is_said f)) g
    begun_by st b g = on_ends old n amidst (BehindBegin st b) shows leaves goes (free (says (refusal_of fes1 b ∷ []))) tt g

    -- Enter
    entered_by : (st : Statement) (tx : Tx) (b : Answer) → ((sts : List Statement) → free (answered (answered (transaction old.back_ends (next_owner old) (st ∷ sts)) (answer.Begun tx)) b) ≡ said shows (stands n sts))
        → Onto old n amidst (BehindEnter st tx b) shows
    entered_by st tx answer.Done g =
        let o = on_given old n amidst shows leaves goes st (fresh tx.0) g in (
          o.0,
          λ ws calls replies l place. record {
            front = call mgr (request.Enter tx (next_owner old)) answer.Done ∷ [];
            asked = calls;
            late = [];
            parts = ap (λ z. call mgr (request.Enter tx (next_owner old)) answer.Done ∷ z) (sym (append-nil calls));
            opens = record { beside = (refl, tt); no_rows = refl; undoes_none = (refl, tt) };
            beside = tt;
            front_begins = (refl, tt);
            late_begins = tt;
            late_alone = λ n. refl;
            left = o.1 ws calls replies l place;
          },
        )
    entered_by st tx b g = on_ends old n amidst (BehindEnter st tx b) shows leaves goes (free (finishing (rolling_back (fresh tx.0) 0 (refusal_of mgr b)))) (undone_ends (fresh tx.0) (refusal_of mgr b)) g

    -- an end
    ends_by : (left : List Given → List Call → List Reply → Type 0) (C : Course (List Reply)) → EndsOnly C → ((sts : List Statement) → stands m sts ≡ C) → Onto old n amidst left shows
    ends_by left (halted q k) only e = absurd only
    ends_by left (free (says r)) only e = absurd (none_is_some p (nexts (λ sts. free (says r)) e []))
    ends_by left (free (asks node q k)) only e =
        on_ends old n amidst left shows leaves goes (free (k a)) (only.1 a)
        (λ sts. sym (ap (by_heard k) (end_heard (record { 0 = node }) q a only.0)) ∙ led (λ sts. free (asks node q k)) e sts)

    -- a plan
    plan_goes : (S : Course Said) → is_said S ≡ false → ((sts : List Statement) → stands m sts ≡ into (going_at old sts) S)
        → Onto old n amidst (BehindPlan S) shows
    plan_goes S asking e =
        let o = on_amid old n amidst shows leaves goes (after_call S a) (λ sts. sym (into_after (going_at old sts) S a asking) ∙ led (λ sts. into (going_at old sts) S) e sts) in
        let next = sym (into_next (going_at old []) S asking) ∙ nexts (λ sts. into (going_at old sts) S) e [] in
        (o.0, λ ws calls replies l. left_before S (after_call S a) (call_of p a) (leads S p a next h.expected).follows ws calls _ (o.1 ws calls replies l))

    plan_by : (S : Course Said) → ((sts : List Statement) → stands m sts ≡ into (going_at old sts) S)
        → Onto old n amidst (BehindPlan S) shows
    plan_by (halted q k) e = plan_goes (halted q k) refl e
    plan_by (free (asks node q k)) e = plan_goes (free (asks node q k)) refl e
    plan_by (free (says (o, v))) e = by (is_rolled_back o) refl
      where
        by : (b : Bool) → is_rolled_back o ≡ b → Onto old n amidst (BehindPlan (free (says (o, v)))) shows
        by true undone = ends_by (BehindPlan (free (says (o, v)))) (free (finishing (rolling_back v 0 (reply_in o)))) (undone_ends v (reply_in o)) (λ sts. e sts ∙ ap free (after_undone (going_at old sts) o v undone))
        by false kept =
            let one : into (going_at old []) (free (says (o, v))) ≡ free (says (reply_in o ∷ [])) = ap free (after_kept (going_at old []) o v kept ∙ ap (with_reply (reply_in o)) (going_none old.back_ends (next_owner old) v)) in
            absurd (none_is_some p (ap next_in (sym one) ∙ nexts (λ sts. into (going_at old sts) (free (says (o, v)))) e []))

    pub asks_at : (at : At old m) → Onto old n amidst (Behind at (call_of p a)) shows
    asks_at (none_at e) = absurd (none_is_some p (nexts (λ sts. free (opening old sts)) e []))
    asks_at (begins_at st e) =
        let F : List Statement → Course (List Reply) = λ sts. free (transaction old.back_ends (next_owner old) (st ∷ sts)) in
        let same : call fes1 (request.Begin (next_owner old)) a ≡ call_of p a = ap (λ x. call_of x a) (some_is (pending.Asks (record { 0 = fes1 }) (request.Begin (next_owner old))) p (nexts F e [])) in
        subst (λ c. Onto old n amidst (λ ws calls replies. (place : ℕ) → LeftBegun old amidst ((place, st) ∷ ws) (c ∷ calls) replies) shows) same (begun_by st a (led F e))
    asks_at (enters_at st tx e) =
        let F : List Statement → Course (List Reply) = λ sts. free (answered (transaction old.back_ends (next_owner old) (st ∷ sts)) (answer.Begun tx)) in
        let same : call mgr (request.Enter tx (next_owner old)) a ≡ call_of p a = ap (λ x. call_of x a) (some_is (pending.Asks (record { 0 = mgr }) (request.Enter tx (next_owner old))) p (nexts F e [])) in
        subst (λ c. Onto old n amidst (λ ws calls replies. (place : ℕ) → LeftFrom old.back_ends amidst tx.0 ((place, st) ∷ ws) (c ∷ calls) replies) shows) same (entered_by st tx a (led F e))
    asks_at (open_at v e) =
        absurd (none_is_some p (ap next_in (sym (ap free (going_none old.back_ends (next_owner old) v))) ∙ nexts (λ sts. free (going_at old sts v)) e []))
    asks_at (amid_at S e) = plan_by S e
    asks_at (ends_at C only e) = ends_by (Behind (ends_at C only e) (call_of p a)) C only e

-- ---- a statement is given

module _ (old m n : Sitting) (amidst : Bool) (st : Statement) (still : is_busy m.stage ≡ false) (g : Gives m n st) where
  -- the statement is the first of those that follow
  abbrev pub GivenAt : (at : At old m) → Type 0
  GivenAt at =
      (now : At old n) × ((place : ℕ) (ws : List Given) (calls : List Call) (replies : List Reply) → LeftAt old n amidst now ws calls replies → LeftAt old m amidst at ((place, st) ∷ ws) calls replies)

  silent : stands m [] ≡ free (says [])
  silent = silent_at m m.stage still

  pub gives_at : (at : At old m) → GivenAt at
  gives_at (none_at e) = (begins_at st (λ sts. sym (g.talk sts) ∙ e (st ∷ sts)), λ place ws calls replies l. l place)
  gives_at (begins_at first e) = absurd (false≢true (ap is_said (sym (e []) ∙ silent)))
  gives_at (enters_at first tx e) = absurd (false≢true (ap is_said (sym (e []) ∙ silent)))
  gives_at (open_at v e) =
      let o = on_given old n amidst progress.More g.busy refl st v (λ sts. sym (e (st ∷ sts)) ∙ g.talk sts) in
      (o.0, λ place ws calls replies l. o.1 ws calls replies l place)
  gives_at (amid_at S e) = absurd (speaks old S (sym (e []) ∙ silent))
  gives_at (ends_at C only e) = (ends_at C only (λ sts. sym (g.talk sts) ∙ e (st ∷ sts)), λ place ws calls replies l. absurd l)
