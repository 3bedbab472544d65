-- How a transaction begins, and how a statement does.
use Rattle.std.proofs.Common.{◌≡◌, ℕ, Bool, true, false, ◌⊎◌, List, ◌∷◌, Result, Ok, Err, refl, ap, sym, ◌∙◌, subst, inl, inr, IfOk}
use Rattle.std.proofs.lemmas.Bool.{false≢true}
use Rattle.hb_types.specs.declared.answer.Answer.{Answer}
use Rattle.hb_types.specs.declared.answer.Answer.TheVariants as answer
use Rattle.hb_types.specs.declared.names.Tx.{Tx}
use Rattle.hb_types.specs.declared.request.Request.TheVariants as request
use Rattle.hb_model.specs.declared.reply.Reply.{Reply}
use Rattle.hb_model.specs.declared.reply.Reply.TheVariants as reply
use Rattle.hb_model.specs.declared.statement.Statement.{Statement}
use Rattle.hb_model.specs.declared.statement.Statement.TheVariants as statement
use Rattle.hb_talk.specs.Ends.{rolling_back}
use Rattle.hb_talk.specs.Moves.{fresh}
use Rattle.hb_talk.specs.PlansDefine.{plan}
use Rattle.hb_talk.specs.Sessions.{going, rolls_back}
use Rattle.hb_talk.specs.Talk.{Talk, says, asks, Use, refusal_of}
use Rattle.hb_access.specs.Accesses.{use_of}
use Rattle.hb_access.specs.declared.usage.Usage.{Usage}
use Rattle.hb_plan.specs.Planned.{Planned, Said, is_planned, now_talks, now_hears}
use Rattle.hb_wait.specs.Courses.{Course, free}
use Rattle.hb_wait.specs.declared.pending.Pending.TheVariants as pending
use Rattle.hb_session.specs.declared.session.Progress.{Progress}
use Rattle.hb_session.specs.declared.session.Progress.TheVariants as progress
use Rattle.hb_session.specs.declared.stage.Given.{Given}
use Rattle.hb_session.specs.declared.stage.Stage.TheVariants as stage
use Rattle.hb_types.specs.declared.names.NodeName.{NodeName}
use Rattle.hb_types.specs.declared.request.Request.{Request}
use Rattle.hb_session.specs.declared.stage.Stage.{Stage}
use Rattle.hb_session.specs.Sitting.{Sitting, Starts, counted, finishing, in_transaction, is_busy, is_ending, is_refused, owner, planned, stands_at}
use Rattle.hb_session.specs.Steps.{AsksAt, CarriesOn, Gives, GivesAt, GivesTalk, IsSameUse, Makes, LeavesAs, RollsBack, SameSession, StaysAt, Stepped, Steps, Undoes, is_no_memory, nothing_used}
use Rattle.hb_access.proofs.Nodes.{each_in}
use Rattle.hb_session.proofs.Moving.{stays_same, undone}
use Rattle.hb_node.specs.Lists.{Lists}
use Rattle.hb_session.specs.declared.stage.Line.{Line}

-- ---- Begin

pub begun_call : (s : Sitting) (g : Given) (n : ℕ) (tx : Tx) → n ≡ counted s.begun
    → Makes (record s { stage = stage.Begins g }) (record s { begun = n; stage = stage.Enters tx g })
    (pending.Asks (record { 0 = 0 }) (request.Begin (record { session = s.index; nth = n }))) (answer.Begun tx) progress.More
begun_call s g n tx e =
    subst (λ m. Makes (record s { stage = stage.Begins g }) (record s { begun = m; stage = stage.Enters tx g })
    (pending.Asks (record { 0 = 0 }) (request.Begin (record { session = s.index; nth = m }))) (answer.Begun tx) progress.More) (sym e)
    (record { next = λ sts. refl; goes = λ told. inl (λ sts. refl); moves = refl; edges = refl; begun = refl })

unbegun : (s : Sitting) (g : Given) (a : Answer) → s.stage ≡ stage.Idle → ((tx : Tx) → a ≡ answer.Begun tx → ⊥)
    → Makes (record s { stage = stage.Begins g }) s
    (pending.Asks (record { 0 = 0 }) (request.Begin (record { session = s.index; nth = counted s.begun }))) a (progress.Ended (refusal_of 0 a))
unbegun s g (answer.Begun tx) idle not = absurd (not tx refl)
unbegun s g a idle not = record { next = λ sts. refl; goes = λ told. inl (λ sts. refl); moves = ap in_transaction idle; edges = refl; begun = refl }

pub not_begun_call : (s : Sitting) (g : Given) (n : ℕ) (a : Answer) (r : Reply) → s.stage ≡ stage.Idle → n ≡ counted s.begun → ((tx : Tx) → a ≡ answer.Begun tx → ⊥)
    → r ≡ refusal_of 0 a
    → Makes (record s { stage = stage.Begins g }) s
    (pending.Asks (record { 0 = 0 }) (request.Begin (record { session = s.index; nth = n }))) a (progress.Ended r)
not_begun_call s g n a r idle e not is =
    subst (λ m. Makes (record s { stage = stage.Begins g }) s
    (pending.Asks (record { 0 = 0 }) (request.Begin (record { session = s.index; nth = m }))) a (progress.Ended r)) (sym e)
    (subst (λ x. Makes (record s { stage = stage.Begins g }) s
    (pending.Asks (record { 0 = 0 }) (request.Begin (record { session = s.index; nth = counted s.begun }))) a (progress.Ended x)) (sym is) (unbegun s g a idle not))

-- ---- Enter

pub entered_call : (s new : Sitting) (g : Given) (tx : Tx) (st : Statement) (shows : Progress) → st ≡ g.statement
    → CarriesOn (λ sts. free (going s.back_ends (owner s) (st ∷ sts) (fresh tx.0))) (nothing_used tx) s new shows
    → Makes (record s { stage = stage.Enters tx g }) new (pending.Asks (record { 0 = 10 }) (request.Enter tx (owner s))) answer.Done shows
entered_call s new g tx st shows is carries = record {
  next = λ sts. refl;
  goes = λ told. elim carries.goes [
    | inl leads ↦ inl (λ sts. ap (λ x. free (going s.back_ends (owner s) (x ∷ sts) (fresh tx.0))) (sym is) ∙ leads sts)
    | inr out ↦ inr out
  ];
  moves = carries.moves;
  edges = carries.edges;
  begun = carries.begun;
}

-- a transaction that has used no node is rolled back
fresh_undone : (tx : Tx) (r : Reply) (new : Sitting) → RollsBack (fresh tx.0) r new → is_ending new.stage ≡ true → Undoes (nothing_used tx) new
fresh_undone tx r new rolled ending = undone (nothing_used tx) (nothing_used tx) r new refl (each_in 0) rolled ending

unentered : (s new : Sitting) (g : Given) (tx : Tx) (a : Answer) → (a ≡ answer.Done → ⊥) → new.begun ≡ s.begun → RollsBack (fresh tx.0) (refusal_of 10 a) new
    → is_ending new.stage ≡ true
    → Makes (record s { stage = stage.Enters tx g }) new (pending.Asks (record { 0 = 10 }) (request.Enter tx (owner s))) a progress.More
unentered s new g tx answer.Done not begun rolled ending = absurd (not refl)
unentered s new g tx a not begun rolled ending =
    record { next = λ sts. refl; goes = λ told. inl (λ sts. sym (rolled sts)); moves = inr (fresh_undone tx (refusal_of 10 a) new rolled ending); edges = refl; begun = begun }

pub not_entered_call : (s new : Sitting) (g : Given) (tx : Tx) (a : Answer) (r : Reply) → (a ≡ answer.Done → ⊥) → r ≡ refusal_of 10 a → new.begun ≡ s.begun
    → RollsBack (fresh tx.0) r new → is_ending new.stage ≡ true
    → Makes (record s { stage = stage.Enters tx g }) new (pending.Asks (record { 0 = 10 }) (request.Enter tx (owner s))) a progress.More
not_entered_call s new g tx a r not is begun rolled ending = unentered s new g tx a not begun (subst (λ x. RollsBack (fresh tx.0) x new) is rolled) ending

-- ---- a statement

goes_on : (s : Sitting) (st : Statement) (sts : List Statement) (u : Use) → is_planned st ≡ true
    → going s.back_ends (owner s) (st ∷ sts) u ≡ planned s sts (plan s.back_ends st u)
unfolding going
goes_on s statement.Commit sts u is = absurd (false≢true is)
goes_on s statement.Rollback sts u is = absurd (false≢true is)
goes_on s st sts u is = refl

-- what a plan asks first, where its transaction has used no node
enlists_first : (back_ends : ℕ) (st : Statement) (tx : ℕ) → is_planned st ≡ true
    → (rest : Answer → Talk Said) × (plan back_ends st (fresh tx) ≡ asks 1 (request.Enlist (record { 0 = tx })) rest)
unfolding plan
enlists_first back_ends statement.Commit tx is = absurd (false≢true is)
enlists_first back_ends statement.Rollback tx is = absurd (false≢true is)
enlists_first back_ends st tx is = (_, refl)

pub starts : (back_ends : ℕ) (st : Statement) (tx : Tx) (p : Planned) → is_planned st ≡ true → p.usage ≡ nothing_used tx
    → now_talks p ≡ plan back_ends st (use_of (nothing_used tx)) → Starts p
starts back_ends st tx p is usage talk =
    let first = enlists_first back_ends st tx.0 is in
    record {
      none = ap (λ u. u.used.0) usage;
      rest = first.0;
      first = talk ∙ first.1 ∙ ap (λ (t : Tx). asks 1 (request.Enlist t) first.0) (sym (ap (λ u. u.tx) usage));
    }

-- a course that is the same at each point is carried on the same
carried : (c d : List Statement → Course (List Reply)) (u : Usage) (s new : Sitting) (shows : Progress) → ((sts : List Statement) → c sts ≡ d sts)
    → CarriesOn d u s new shows → CarriesOn c u s new shows
carried c d u s new shows same carries = record {
  same = carries.same;
  begun = carries.begun;
  leaves = carries.leaves;
  edges = carries.edges;
  goes = elim carries.goes [
    | inl leads ↦ inl (λ sts. same sts ∙ leads sts)
    | inr out ↦ inr out
  ];
  moves = carries.moves;
}

pub first_carried : (s new : Sitting) (st : Statement) (tx : Tx) (p : Planned) (shows : Progress) → is_planned st ≡ true
    → p.usage ≡ nothing_used tx → now_talks p ≡ plan s.back_ends st (fresh tx.0)
    → CarriesOn (λ sts. free (planned s sts (now_talks p))) p.usage s new shows
    → CarriesOn (λ sts. free (going s.back_ends (owner s) (st ∷ sts) (fresh tx.0))) (nothing_used tx) s new shows
first_carried s new st tx p shows is usage talk carries =
    carried (λ sts. free (going s.back_ends (owner s) (st ∷ sts) (fresh tx.0))) (λ sts. free (planned s sts (now_talks p))) (nothing_used tx) s new shows
    (λ sts. ap free (goes_on s st sts (fresh tx.0) is) ∙ ap (λ t. free (planned s sts t)) (sym talk))
    (subst (λ (u : Usage). CarriesOn (λ sts. free (planned s sts (now_talks p))) u s new shows) usage carries)

-- ---- given

pub if_ok : {A E : Type 0} (r : Result A E) (P Q : A → Type 0) → ((x : A) → P x → Q x) → IfOk r P → IfOk r Q
if_ok (Ok x) P Q h p = h x p
if_ok (Err e) P Q h p = p

pub planned_other : (st : Statement) → (st ≡ statement.Commit → ⊥) → (st ≡ statement.Rollback → ⊥) → is_planned st ≡ true
planned_other statement.Commit c r = absurd (c refl)
planned_other statement.Rollback c r = absurd (r refl)
planned_other st c r = refl

rollback_open : (s : Sitting) (sts : List Statement) (v : Use)
    → going s.back_ends (owner s) (statement.Rollback ∷ sts) v ≡ finishing (rolling_back v 0 reply.RolledBack)
unfolding going
rollback_open s sts v = refl

pub rollback_given : (s new : Sitting) (u : Usage) → s.stage ≡ stage.Open u → SameSession s new → new.begun ≡ s.begun → is_busy new.stage ≡ true → is_ending new.stage ≡ true
    → RollsBack (use_of u) reply.RolledBack new → Gives s new statement.Rollback
rollback_given s new u at same begun busy ending rolled = record {
  same = same;
  begun = begun;
  busy = busy;
  talk = λ sts. ap (stands_at s (statement.Rollback ∷ sts)) at ∙ ap free (rollback_open s sts (use_of u)) ∙ sym (rolled sts);
  moves = subst (λ g. GivesAt g new.stage) (sym at) (inr ending);
}

pub statement_given : (s new : Sitting) (st : Statement) (u : Usage) (p : Planned) → is_planned st ≡ true → s.stage ≡ stage.Open u
    → p.usage ≡ u → now_talks p ≡ plan s.back_ends st (use_of u) → GivesTalk (λ sts. planned s sts (now_talks p)) p.usage s new → Gives s new st
statement_given s new st u p is at usage talk gives = record {
  same = gives.same;
  begun = gives.begun;
  busy = gives.busy;
  talk = λ sts. ap (stands_at s (st ∷ sts)) at ∙ ap free (goes_on s st sts (use_of u) is ∙ ap (planned s sts) (sym talk)) ∙ gives.talk sts;
  moves = subst (λ g. GivesAt g new.stage) (sym at) (subst (λ (v : Usage). StaysAt v new.stage ⊎ (is_ending new.stage ≡ true)) usage gives.moves);
}

pub first_given : (s : Sitting) (st : Statement) → s.stage ≡ stage.Idle → Gives s (record s { stage = stage.Begins (record { statement = st }) }) st
first_given s st at = record {
  same = record { index = refl; back_ends = refl };
  begun = refl;
  busy = refl;
  talk = λ sts. ap (stands_at s (st ∷ sts)) at;
  moves = subst (λ g. GivesAt g (stage.Begins (record { statement = st }))) (sym at) refl;
}

pub given_rolls : (s new : Sitting) (u : Usage) (r : Reply) → rolls_back r ≡ true → SameSession s new → new.begun ≡ s.begun → is_busy new.stage ≡ true → is_ending new.stage ≡ true
    → RollsBack (use_of u) r new → GivesTalk (λ sts. planned s sts (says (Err r, use_of u))) u s new
given_rolls s new u r is same begun busy ending rolled =
    record { same = same; begun = begun; busy = busy; talk = λ sts. rw is (sym (rolled sts)); moves = inr ending }

pub given_open : (s : Sitting) (u : Usage) (r : Reply) → rolls_back r ≡ false
    → GivesTalk (λ sts. planned s sts (says (Err r, use_of u))) u s (record s { stage = stage.Refused u (record { reply = r }) })
given_open s u r is =
    record { same = record { index = refl; back_ends = refl }; begun = refl; busy = refl; talk = λ sts. rw is refl; moves = inl (refl, refl) }

given_moves : (u v : Usage) (g : Stage) → IsSameUse u v → StaysAt v g ⊎ (is_ending g ≡ true) → StaysAt u g ⊎ (is_ending g ≡ true)
given_moves u v g alike (inl h) = inl (stays_same u v g alike h)
given_moves u v g alike (inr ending) = inr ending

pub given_refused : (s new : Sitting) (p : Planned) (v : Usage) (r : Reply) → IsSameUse p.usage v → ((now_talks p ≡ says (Err r, use_of v)) ⊎ (r ≡ reply.NoMemory))
    → is_no_memory r ≡ false → GivesTalk (λ sts. planned s sts (says (Err r, use_of v))) v s new → GivesTalk (λ sts. planned s sts (now_talks p)) p.usage s new
given_refused s new p v r alike (inl told) not gives = record {
  same = gives.same;
  begun = gives.begun;
  busy = gives.busy;
  talk = λ sts. ap (λ t. free (planned s sts t)) told ∙ gives.talk sts;
  moves = given_moves p.usage v new.stage alike gives.moves;
}
given_refused s new p v r alike (inr none) not gives = absurd (false≢true (sym not ∙ ap is_no_memory none))

pub given_asks : (s : Sitting) (p held : Planned) (node : NodeName) (q : Request) → now_talks p ≡ asks node.0 q (now_hears held)
    → AsksAt p.usage (record { plan = held; pending = pending.Asks node q })
    → GivesTalk (λ sts. planned s sts (now_talks p)) p.usage s (record s { stage = stage.Asks (record { plan = held; pending = pending.Asks node q }) })
given_asks s p held node q told at = record {
  same = record { index = refl; back_ends = refl };
  begun = refl;
  busy = refl;
  talk = λ sts. ap (λ t. free (planned s sts t)) told;
  moves = inl at;
}

pub idle_of : (st : Stage) → is_busy st ≡ false → ((u : Usage) → st ≡ stage.Open u → ⊥) → st ≡ stage.Idle
idle_of stage.Idle b not = refl
idle_of (stage.Open u) b not = absurd (not u refl)
idle_of (stage.Refused u r) b not = absurd (false≢true (sym b))
idle_of (stage.Begins g) b not = absurd (false≢true (sym b))
idle_of (stage.Enters tx g) b not = absurd (false≢true (sym b))
idle_of (stage.Asks a) b not = absurd (false≢true (sym b))
idle_of (stage.Ends e) b not = absurd (false≢true (sym b))

pub planned_of : (st : Statement) (at : Stage) → at ≡ stage.Idle → (is_planned st ≡ false → in_transaction at ≡ false → is_busy at ≡ true) → is_planned st ≡ true
planned_of st at idle h = of (is_planned st) (λ e. false≢true (sym (ap is_busy idle) ∙ h e (ap in_transaction idle)))
  where
    of : (b : Bool) → (b ≡ false → ⊥) → b ≡ true
    of true not = refl
    of false not = absurd (not refl)

-- ---- one step

pub asked_step : (s new : Sitting) (at st : Stage) (before after : Lists) (shows : Progress) → at ≡ st → is_refused st ≡ false → SameSession s new
    → LeavesAs shows new.stage → Steps (record s { stage = st }) new before after shows → Stepped (record s { stage = at }) new before after shows
asked_step s new at st before after shows is not same leaves steps =
    subst (λ x. Stepped (record s { stage = x }) new before after shows) (sym is)
    (record { same = record { index = same.index; back_ends = same.back_ends }; leaves = leaves; steps = λ e. steps; shown = λ e. absurd (false≢true (sym not ∙ e)) })

pub shown_step : (s new : Sitting) (at : Stage) (u : Usage) (line : Line) (r : Reply) (lists : Lists) → at ≡ stage.Refused u line → r ≡ line.reply
    → new ≡ record s { stage = stage.Open u } → Stepped (record s { stage = at }) new lists lists (progress.Shown r)
shown_step s new at u line r lists is told opened =
    subst (λ x. Stepped (record s { stage = x }) new lists lists (progress.Shown r)) (sym is)
    (subst (λ n. Stepped (record s { stage = stage.Refused u line }) n lists lists (progress.Shown r)) (sym opened)
    (subst (λ x. Stepped (record s { stage = stage.Refused u line }) (record s { stage = stage.Open u }) lists lists (progress.Shown x)) (sym told)
    (record {
      same = record { index = refl; back_ends = refl };
      leaves = (refl, refl);
      steps = λ e. absurd (false≢true (sym e));
      shown = λ e. (refl, refl, (λ sts. refl), refl);
    })))
