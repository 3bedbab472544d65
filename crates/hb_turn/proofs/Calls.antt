-- Each step of a turn is one of its talk.
use Rattle.std.proofs.Common.{◌≡◌, ◌≢◌, ℕ, ℤ, Bool, true, false, ◌⊎◌, List, [], ◌∷◌, Some, Err, refl, ap, sym, ◌∙◌, subst, inl, inr}
use Rattle.std.specs.Prelude.{◌==◌, All, FitsSigned, filter}
use Rattle.std.specs.Int.{w32}
use Rattle.std.proofs.lemmas.Bool.{false≢true}
use Rattle.hb_types.specs.declared.answer.Answer.{Answer}
use Rattle.hb_types.specs.declared.answer.Answer.TheVariants as answer
use Rattle.hb_types.specs.declared.answer.Edge.{Edge}
use Rattle.hb_types.specs.declared.names.NodeName.{NodeName}
use Rattle.hb_types.specs.declared.names.Tx.{Tx}
use Rattle.hb_types.specs.declared.request.Request.{Request}
use Rattle.hb_types.specs.declared.request.Request.TheVariants as request
use Rattle.hb_types.specs.Groups.{group_of}
use Rattle.hb_types.specs.Lists.{Each}
use Rattle.hb_types.specs.Places.{node_of_area}
use Rattle.hb_model.specs.NodeSets.{has_node, nodes_in}
use Rattle.hb_model.specs.declared.reply.Reply.{Reply}
use Rattle.hb_model.specs.declared.reply.Reply.TheVariants as reply
use Rattle.hb_model.specs.Spots.{space_in}
use Rattle.hb_talk.specs.Ends.{rolling_back}
use Rattle.hb_talk.specs.Moves.{batch_plan, check_plan, finish_plan, fresh, over, turn_with}
use Rattle.hb_talk.specs.Talk.{Talk, says, asks, Use, refusal_of}
use Rattle.hb_access.specs.Accesses.{use_of}
use Rattle.hb_access.specs.declared.usage.Usage.{Usage}
use Rattle.hb_batch.specs.Batches.{hint_of, IsSitedHint}
use Rattle.hb_batch.specs.declared.hint.Hint.{Hint}
use Rattle.hb_moveplan.specs.declared.plan.Plan.{Plan}
use Rattle.hb_moveplan.specs.MovePlans.{Came, coming, hints, moved, finished, now_hears, now_talks, usage_of, IsTold}
use Rattle.hb_round.specs.Onward.{Ends}
use Rattle.hb_wait.specs.Courses.{Course, free, next_in, by_heard, after_call, pending_in}
use Rattle.hb_wait.specs.Waiting.{heard}
use Rattle.hb_wait.specs.declared.pending.Heard.TheVariants as heard_as
use Rattle.hb_wait.specs.declared.pending.Lock.{Lock}
use Rattle.hb_wait.specs.declared.pending.Pending.{Pending}
use Rattle.hb_wait.specs.declared.pending.Pending.TheVariants as pending
use Rattle.hb_turn.specs.declared.stage.After.TheVariants as after
use Rattle.hb_turn.specs.declared.stage.Asking.{Asking}
use Rattle.hb_turn.specs.declared.stage.Stage.{Stage}
use Rattle.hb_turn.specs.declared.stage.Stage.TheVariants as stage
use Rattle.hb_turn.specs.declared.stage.Task.{Task}
use Rattle.hb_turn.specs.declared.stage.Task.TheVariants as task
use Rattle.hb_turn.specs.declared.turn.Turned.TheVariants as said
use Rattle.hb_turn.specs.declared.turn.Went.{Went}
use Rattle.hb_turn.specs.declared.turn.Went.TheVariants as went
use Rattle.hb_turn.specs.Turning.{ends, Outcome, Turning, IsTask, Starts, counted, following, in_transaction, is_busy, next_owner, nothing_used, of_check, of_turned, opening, owner, planned, stands, task_on, told}
use Rattle.hb_turn.specs.Steps.{active_after, active_at, begun_by, edges_heard, is_going, started, CarriesOn, CarriesOnIf, IsToldBy, Leads, Makes, RollsBack, RunsOut, RunsOutAt, TakesKeys}
use Rattle.hb_turn.proofs.Talks.{batch_planned, check_planned, ends_by_it, finish_planned, refused_end}

-- ---- Begin

pub begun_call : (t : Turning) (k : Task) (n : ℕ) (tx : Tx) → n ≡ counted t.begun
    → Makes (record t { stage = stage.Begins k }) (record t { begun = n; stage = stage.Enters tx k })
    (pending.Asks (record { 0 = 0 }) (request.Begin (record { session = t.line.session; nth = n }))) (answer.Begun tx) went.More
begun_call t k n tx is =
    subst (λ m. Makes (record t { stage = stage.Begins k }) (record t { begun = m; stage = stage.Enters tx k })
    (pending.Asks (record { 0 = 0 }) (request.Begin (record { session = t.line.session; nth = m }))) (answer.Begun tx) went.More) (sym is) (by k)
  where
    by : (k : Task) → Makes (record t { stage = stage.Begins k }) (record t { begun = counted t.begun; stage = stage.Enters tx k })
        (pending.Asks (record { 0 = 0 }) (request.Begin (next_owner t))) (answer.Begun tx) went.More
    by task.Check = record { next = refl; goes = λ x. inl refl; edges = refl; begun = refl; active = refl }
    by (task.Batch h keys) = record { next = refl; goes = λ x. inl refl; edges = refl; begun = refl; active = refl }
    by (task.Finish h) = record { next = refl; goes = λ x. inl refl; edges = refl; begun = refl; active = refl }

-- ---- an answer

pub leads_from : (c d : Course Outcome) (new : Turning) (w : Went) → c ≡ d → Leads d new w → Leads c new w
leads_from c d new went.More is leads = is ∙ leads
leads_from c d new (went.Waits edges) is leads = is ∙ leads
leads_from c d new (went.Said s) is leads = is ∙ leads

pub goes_from : (X : Type 0) (c d : Course Outcome) (new : Turning) (w : Went) → c ≡ d → Leads d new w ⊎ X → Leads c new w ⊎ X
goes_from X c d new w is (inl leads) = inl (leads_from c d new w is leads)
goes_from X c d new w is (inr out) = inr out

-- a turn that goes on in its transaction, or ended it
at_end : (s : Stage) (a : Answer) (w : Went) → active_at s a ≡ true → is_going w ≡ active_after s a w
at_end s a went.More is = sym is
at_end s a (went.Waits edges) is = sym is
at_end s a (went.Said t) is = refl

-- keys are asked for in no transaction
no_transaction : (h : Hint) (a : Answer) (w : Went) → active_after (stage.Keys h) a w ≡ false
no_transaction h a went.More = refl
no_transaction h a (went.Waits edges) = refl
no_transaction h a (went.Said t) = refl

-- ---- Begin is refused

asks_begin : (t : Turning) (k : Task) → next_in (stands (record t { stage = stage.Begins k })) ≡ Some (pending.Asks (record { 0 = 0 }) (request.Begin (next_owner t)))
asks_begin t task.Check = refl
asks_begin t (task.Batch h keys) = refl
asks_begin t (task.Finish h) = refl

refused_check : (t : Turning) (a : Answer) → ((tx : Tx) → a ≡ answer.Begun tx → ⊥)
    → after_call (stands (record t { stage = stage.Begins task.Check })) a ≡ free (says (ends (refusal_of 0 a)))
refused_check t (answer.Begun tx) not = absurd (not tx refl)
refused_check t a not = refl

refused_batch : (t : Turning) (h : Hint) (keys : List ℤ) (a : Answer) → ((tx : Tx) → a ≡ answer.Begun tx → ⊥)
    → after_call (stands (record t { stage = stage.Begins (task.Batch h keys) })) a ≡ free (says (ends (refusal_of 0 a)))
refused_batch t h keys (answer.Begun tx) not = absurd (not tx refl)
refused_batch t h keys a not = refl

refused_finish : (t : Turning) (h : Hint) (a : Answer) → ((tx : Tx) → a ≡ answer.Begun tx → ⊥)
    → after_call (stands (record t { stage = stage.Begins (task.Finish h) })) a ≡ free (says (ends (refusal_of 0 a)))
refused_finish t h (answer.Begun tx) not = absurd (not tx refl)
refused_finish t h a not = refl

refused_begin : (t : Turning) (k : Task) (a : Answer) → ((tx : Tx) → a ≡ answer.Begun tx → ⊥)
    → after_call (stands (record t { stage = stage.Begins k })) a ≡ free (says (ends (refusal_of 0 a)))
refused_begin t task.Check a not = refused_check t a not
refused_begin t (task.Batch h keys) a not = refused_batch t h keys a not
refused_begin t (task.Finish h) a not = refused_finish t h a not

not_begun : (k : Task) (a : Answer) (n : ℕ) → ((tx : Tx) → a ≡ answer.Begun tx → ⊥) → n ≡ begun_by (stage.Begins k) a n
not_begun k (answer.Begun tx) n not = absurd (not tx refl)
not_begun k a n not = refl

pub not_begun_call : (t : Turning) (k : Task) (n : ℕ) (a : Answer) (r : Reply) → n ≡ counted t.begun → ((tx : Tx) → a ≡ answer.Begun tx → ⊥) → r ≡ refusal_of 0 a → in_transaction t.stage ≡ false
    → Makes (record t { stage = stage.Begins k }) t (pending.Asks (record { 0 = 0 }) (request.Begin (record { session = t.line.session; nth = n }))) a (went.Said (said.Over r))
not_begun_call t k n a r is not told done = record {
  next = asks_begin t k ∙ ap (λ m. Some (pending.Asks (record { 0 = 0 }) (request.Begin (record { session = t.line.session; nth = m })))) (sym is);
  goes = λ x. inl (refused_begin t k a not ∙ ap (λ e. free (says (ends e))) (sym told));
  edges = refl;
  begun = not_begun k a t.begun not;
  active = done;
}

-- ---- Enter

asks_enter : (t : Turning) (k : Task) (tx : Tx) → next_in (stands (record t { stage = stage.Enters tx k })) ≡ Some (pending.Asks (record { 0 = 10 }) (request.Enter tx (owner t)))
asks_enter t task.Check tx = refl
asks_enter t (task.Batch h keys) tx = refl
asks_enter t (task.Finish h) tx = refl

entered : (t : Turning) (k : Task) (tx : Tx) → after_call (stands (record t { stage = stage.Enters tx k })) answer.Done ≡ free (started t tx k)
entered t task.Check tx = refl
entered t (task.Batch h keys) tx = refl
entered t (task.Finish h) tx = refl

pub entered_call : (t new : Turning) (k : Task) (tx : Tx) (w : Went) → CarriesOn (free (started t tx k)) (nothing_used tx) t new w
    → Makes (record t { stage = stage.Enters tx k }) new (pending.Asks (record { 0 = 10 }) (request.Enter tx (owner t))) answer.Done w
entered_call t new k tx w carries = record {
  next = asks_enter t k tx;
  goes = λ x. goes_from (RunsOut tx.0 0 new w) (after_call (stands (record t { stage = stage.Enters tx k })) answer.Done) (free (started t tx k)) new w (entered t k tx) carries.goes;
  edges = carries.edges;
  begun = carries.begun;
  active = carries.active ∙ at_end (stage.Enters tx k) answer.Done w refl;
}

-- a transaction that isn't entered is rolled back
abbrev rolls_over : Tx → Answer → Course Outcome
rolls_over tx a = free (following (after.Over (refusal_of 10 a)) (rolling_back (fresh tx.0) 0 reply.RolledBack))

unentered_check : (t : Turning) (tx : Tx) (a : Answer) → (a ≡ answer.Done → ⊥) → after_call (stands (record t { stage = stage.Enters tx task.Check })) a ≡ rolls_over tx a
unentered_check t tx answer.Done not = absurd (not refl)
unentered_check t tx a not = ap free (ends_by_it of_check Err (fresh tx.0) (refusal_of 10 a) refl)

unentered_batch : (t : Turning) (h : Hint) (keys : List ℤ) (tx : Tx) (a : Answer) → (a ≡ answer.Done → ⊥)
    → after_call (stands (record t { stage = stage.Enters tx (task.Batch h keys) })) a ≡ rolls_over tx a
unentered_batch t h keys tx answer.Done not = absurd (not refl)
unentered_batch t h keys tx a not = ap free (ends_by_it of_turned over (fresh tx.0) (refusal_of 10 a) refl)

unentered_finish : (t : Turning) (h : Hint) (tx : Tx) (a : Answer) → (a ≡ answer.Done → ⊥) → after_call (stands (record t { stage = stage.Enters tx (task.Finish h) })) a ≡ rolls_over tx a
unentered_finish t h tx answer.Done not = absurd (not refl)
unentered_finish t h tx a not = ap free (ends_by_it of_turned over (fresh tx.0) (refusal_of 10 a) refl)

unentered : (t : Turning) (k : Task) (tx : Tx) (a : Answer) → (a ≡ answer.Done → ⊥) → after_call (stands (record t { stage = stage.Enters tx k })) a ≡ rolls_over tx a
unentered t task.Check tx a not = unentered_check t tx a not
unentered t (task.Batch h keys) tx a not = unentered_batch t h keys tx a not
unentered t (task.Finish h) tx a not = unentered_finish t h tx a not

pub not_entered_call : (t new : Turning) (k : Task) (tx : Tx) (a : Answer) (r : Reply) → (a ≡ answer.Done → ⊥) → r ≡ refusal_of 10 a → new.begun ≡ t.begun → in_transaction new.stage ≡ true
    → RollsBack (fresh tx.0) (after.Over r) new
    → Makes (record t { stage = stage.Enters tx k }) new (pending.Asks (record { 0 = 10 }) (request.Enter tx (owner t))) a went.More
not_entered_call t new k tx a r not is begun active rolled = record {
  next = asks_enter t k tx;
  goes = λ x. inl (unentered t k tx a not ∙ sym (subst (λ e. RollsBack (fresh tx.0) (after.Over e) new) is rolled));
  edges = refl;
  begun = begun;
  active = active;
}

-- ---- keys

pub keys_call : (t new : Turning) (h : Hint) (node : NodeName) (keys : List ℤ) (w : Went) → node.0 ≡ node_of_area h.old → TakesKeys h keys t new w
    → Makes (record t { stage = stage.Keys h }) new (pending.Asks node (request.GroupKeys (space_in h.old h.table) h.group t.line.rows)) (answer.Keys keys) w
keys_call t new h node keys w at takes = record {
  next = ap (λ n. Some (pending.Asks (record { 0 = n }) (request.GroupKeys (space_in h.old h.table) h.group t.line.rows))) (sym at);
  goes = takes.goes;
  edges = takes.edges;
  begun = takes.begun;
  active = takes.none ∙ sym (no_transaction h (answer.Keys keys) w);
}

untold : (t : Turning) (h : Hint) (a : Answer) → ((keys : List ℤ) → a ≡ answer.Keys keys → ⊥)
    → after_call (stands (record t { stage = stage.Keys h })) a ≡ free (says (ends (refusal_of (node_of_area h.old) a)))
untold t h (answer.Keys keys) not = absurd (not keys refl)
untold t h a not = refl

pub no_keys_call : (t : Turning) (h : Hint) (node : NodeName) (a : Answer) (r : Reply) → node.0 ≡ node_of_area h.old → ((keys : List ℤ) → a ≡ answer.Keys keys → ⊥)
    → r ≡ refusal_of node.0 a → in_transaction t.stage ≡ false
    → Makes (record t { stage = stage.Keys h }) t (pending.Asks node (request.GroupKeys (space_in h.old h.table) h.group t.line.rows)) a (went.Said (said.Over r))
no_keys_call t h node a r at not is done = record {
  next = ap (λ n. Some (pending.Asks (record { 0 = n }) (request.GroupKeys (space_in h.old h.table) h.group t.line.rows))) (sym at);
  goes = λ x. inl (untold t h a not ∙ ap (λ e. free (says (ends e))) (ap (λ n. refusal_of n a) (sym at) ∙ sym is));
  edges = refl;
  begun = refl;
  active = done;
}

-- the keys of the group, as a task
on_keys : (t : Turning) (h : Hint) (keys : List ℤ) → told of_turned (turn_with (next_owner t) (hint_of h) keys) ≡ opening t.line (next_owner t) (task_on h keys)
on_keys t h [] = refl
on_keys t h (k ∷ ks) = refl

pub takes_own : (t new : Turning) (h : Hint) (keys own : List ℤ) (k : Task) → own ≡ filter (λ key. group_of key == h.group) keys → k ≡ task_on h own
    → new ≡ record t { stage = stage.Begins k } → TakesKeys h keys t new went.More
takes_own t new h keys own k is on at =
    subst (λ n. TakesKeys h keys t n went.More) (sym at) (record {
      line = refl;
      begun = refl;
      leaves = refl;
      none = refl;
      edges = refl;
      goes = λ x. inl (ap free (ap (λ ks. told of_turned (turn_with (next_owner t) (hint_of h) ks)) (sym is) ∙ on_keys t h own) ∙ ap (λ e. free (opening t.line (next_owner t) e)) (sym on));
    })

pub is_task : (h : Hint) (own : List ℤ) (k : Task) → k ≡ task_on h own → IsSitedHint h → All (FitsSigned w32) own → IsTask k
is_task h own k is sited fits = subst IsTask (sym is) (by own fits)
  where
    by : (ks : List ℤ) → All (FitsSigned w32) ks → IsTask (task_on h ks)
    by [] f = sited
    by (x ∷ xs) f = (sited, f)

-- ---- the plan begins

abbrev Rest : Type 0
Rest = Answer → Talk (Ends Came)

starts : (tx : Tx) (p : Plan) (u : Usage) (talk : Use → Talk (Ends Came)) → (rest : Rest) → talk (fresh tx.0) ≡ asks 1 (request.Enlist (record { 0 = tx.0 })) rest
    → u ≡ nothing_used tx → usage_of p ≡ u → now_talks p ≡ talk (use_of u) → Starts p
starts tx p u talk rest first none usage is = record {
  none = ap (λ v. v.used.0) (usage ∙ none);
  rest = rest;
  first = is ∙ ap (λ v. talk (use_of v)) none ∙ first ∙ ap (λ (t : Tx). asks 1 (request.Enlist t) rest) (sym (ap (λ v. v.tx) (usage ∙ none)));
}

check_first : (name : List ℕ) (tx : ℕ) → (rest : Rest) × (coming hints (check_plan name (fresh tx)) ≡ asks 1 (request.Enlist (record { 0 = tx })) rest)
check_first name tx = (_, refl)

batch_first : (h : Hint) (keys : List ℤ) (tx : ℕ) → (rest : Rest) × (coming moved (batch_plan (hint_of h) keys (fresh tx)) ≡ asks 1 (request.Enlist (record { 0 = tx })) rest)
batch_first h keys tx = (_, refl)

finish_first : (h : Hint) (tx : ℕ) → (rest : Rest) × (coming finished (finish_plan (hint_of h) (fresh tx)) ≡ asks 1 (request.Enlist (record { 0 = tx })) rest)
finish_first h tx = (_, refl)

pub check_starts : (name : List ℕ) (tx : Tx) (p : Plan) (u : Usage) → u ≡ nothing_used tx → usage_of p ≡ u → now_talks p ≡ coming hints (check_plan name (use_of u)) → Starts p
check_starts name tx p u none usage is =
    let f = check_first name tx.0 in starts tx p u (λ v. coming hints (check_plan name v)) f.0 f.1 none usage is

pub batch_starts : (h : Hint) (keys : List ℤ) (tx : Tx) (p : Plan) (u : Usage) → u ≡ nothing_used tx → usage_of p ≡ u
    → now_talks p ≡ coming moved (batch_plan (hint_of h) keys (use_of u)) → Starts p
batch_starts h keys tx p u none usage is =
    let f = batch_first h keys tx.0 in starts tx p u (λ v. coming moved (batch_plan (hint_of h) keys v)) f.0 f.1 none usage is

pub finish_starts : (h : Hint) (tx : Tx) (p : Plan) (u : Usage) → u ≡ nothing_used tx → usage_of p ≡ u
    → now_talks p ≡ coming finished (finish_plan (hint_of h) (use_of u)) → Starts p
finish_starts h tx p u none usage is =
    let f = finish_first h tx.0 in starts tx p u (λ v. coming finished (finish_plan (hint_of h) v)) f.0 f.1 none usage is

-- what is started is the plan's talk
started_as : (t new : Turning) (tx : Tx) (k : Task) (group : ℕ) (p : Plan) (u : Usage) (w : Went) (talk : Use → Talk (Ends Came)) → started t tx k ≡ planned (owner t) group (talk (fresh tx.0))
    → u ≡ nothing_used tx → usage_of p ≡ u → now_talks p ≡ talk (use_of u) → CarriesOn (free (planned (owner t) group (now_talks p))) (usage_of p) t new w
    → CarriesOn (free (started t tx k)) (nothing_used tx) t new w
started_as t new tx k group p u w talk how none usage is carries = record {
  line = carries.line;
  begun = carries.begun;
  leaves = carries.leaves;
  active = carries.active;
  edges = carries.edges;
  goes = goes_from (RunsOut tx.0 0 new w) (free (started t tx k)) (free (planned (owner t) group (now_talks p))) new w
      (ap free (how ∙ ap (planned (owner t) group) (sym (is ∙ ap (λ v. talk (use_of v)) none))))
      (subst (λ (v : Usage). Leads (free (planned (owner t) group (now_talks p))) new w ⊎ RunsOut v.tx.0 v.used.0 new w) (usage ∙ none) carries.goes);
}

pub check_started : (t new : Turning) (tx : Tx) (group : ℕ) (p : Plan) (u : Usage) (w : Went) (name : List ℕ) → name ≡ t.line.table
    → u ≡ nothing_used tx → usage_of p ≡ u → now_talks p ≡ coming hints (check_plan name (use_of u)) → CarriesOn (free (planned (owner t) group (now_talks p))) (usage_of p) t new w
    → CarriesOn (free (started t tx task.Check)) (nothing_used tx) t new w
check_started t new tx group p u w name named none usage is carries =
    started_as t new tx task.Check group p u w (λ v. coming hints (check_plan name v))
    (check_planned (owner t) group (check_plan t.line.table (fresh tx.0)) ∙ ap (λ x. planned (owner t) group (coming hints (check_plan x (fresh tx.0)))) (sym named)) none usage is carries

pub batch_started : (t new : Turning) (tx : Tx) (h : Hint) (keys : List ℤ) (p : Plan) (u : Usage) (w : Went)
    → u ≡ nothing_used tx → usage_of p ≡ u → now_talks p ≡ coming moved (batch_plan (hint_of h) keys (use_of u))
    → CarriesOn (free (planned (owner t) h.group (now_talks p))) (usage_of p) t new w
    → CarriesOn (free (started t tx (task.Batch h keys))) (nothing_used tx) t new w
batch_started t new tx h keys p u w none usage is carries =
    started_as t new tx (task.Batch h keys) h.group p u w (λ v. coming moved (batch_plan (hint_of h) keys v))
    (batch_planned (owner t) (hint_of h) (batch_plan (hint_of h) keys (fresh tx.0))) none usage is carries

pub finish_started : (t new : Turning) (tx : Tx) (h : Hint) (p : Plan) (u : Usage) (w : Went)
    → u ≡ nothing_used tx → usage_of p ≡ u → now_talks p ≡ coming finished (finish_plan (hint_of h) (use_of u))
    → CarriesOn (free (planned (owner t) h.group (now_talks p))) (usage_of p) t new w
    → CarriesOn (free (started t tx (task.Finish h))) (nothing_used tx) t new w
finish_started t new tx h p u w none usage is carries =
    started_as t new tx (task.Finish h) h.group p u w (λ v. coming finished (finish_plan (hint_of h) v))
    (finish_planned (owner t) (hint_of h) (finish_plan (hint_of h) (fresh tx.0))) none usage is carries

-- ---- a request of the plan

next_pending : {R : Type 0} (p : Pending) (k : Answer → Talk R) → next_in (pending_in p k) ≡ Some p
next_pending (pending.Asks node q) k = refl
next_pending (pending.Blocked l path wanted holders) k = refl
next_pending (pending.Waits l) k = refl

after_pending : {R : Type 0} (p : Pending) (k : Answer → Talk R) (a : Answer) → after_call (pending_in p k) a ≡ by_heard k (heard p a)
after_pending (pending.Asks node q) k a = refl
after_pending (pending.Blocked l path wanted holders) k a = refl
after_pending (pending.Waits l) k a = refl

abbrev rest_of : Turning → Asking → Answer → Talk Outcome
rest_of t e x = planned (owner t) e.group (now_hears e.plan x)

pub answered_call : (t new : Turning) (e : Asking) (a x : Answer) (w : Went) → heard e.pending a ≡ heard_as.Answered x
    → CarriesOnIf (IsTold e.plan x) (free (planned (owner t) e.group (now_hears e.plan x))) (usage_of e.plan) t new w
    → Makes (record t { stage = stage.Asks e }) new e.pending a w
answered_call t new e a x w is carries = record {
  next = next_pending e.pending (rest_of t e);
  goes = λ told. goes_from (RunsOutAt (stage.Asks e) new w) (after_call (pending_in e.pending (rest_of t e)) a) (free (planned (owner t) e.group (now_hears e.plan x))) new w
      (after_pending e.pending (rest_of t e) a ∙ ap (by_heard (rest_of t e)) is) (carries.goes (subst (λ h. IsToldBy (stage.Asks e) h) is told));
  edges = carries.edges ∙ sym (ap edges_heard is);
  begun = carries.begun;
  active = carries.active ∙ at_end (stage.Asks e) a w refl;
}

pub waits_call : (t : Turning) (e : Asking) (a : Answer) (l : Lock) (edges : List Edge) → heard e.pending a ≡ heard_as.Waits l edges
    → Makes (record t { stage = stage.Asks e }) (record t { stage = stage.Asks (record { plan = e.plan; group = e.group; pending = pending.Waits l }) }) e.pending a (went.Waits edges)
waits_call t e a l edges is = record {
  next = next_pending e.pending (rest_of t e);
  goes = λ told. inl (after_pending e.pending (rest_of t e) a ∙ ap (by_heard (rest_of t e)) is);
  edges = sym (ap edges_heard is);
  begun = refl;
  active = refl;
}

pub more_call : (t : Turning) (e : Asking) (a : Answer) (p : Pending) → heard e.pending a ≡ heard_as.More p
    → Makes (record t { stage = stage.Asks e }) (record t { stage = stage.Asks (record { plan = e.plan; group = e.group; pending = p }) }) e.pending a went.More
more_call t e a p is = record {
  next = next_pending e.pending (rest_of t e);
  goes = λ told. inl (after_pending e.pending (rest_of t e) a ∙ ap (by_heard (rest_of t e)) is);
  edges = sym (ap edges_heard is);
  begun = refl;
  active = refl;
}

-- ---- what an answer makes of the plan

pub asks_next : (t : Turning) (group : ℕ) (plan held : Plan) (node : NodeName) (q : Request) → now_talks plan ≡ asks node.0 q (now_hears held)
    → CarriesOn (free (planned (owner t) group (now_talks plan))) (usage_of plan) t (record t { stage = stage.Asks (record { plan = held; group = group; pending = pending.Asks node q }) }) went.More
asks_next t group plan held node q told = record {
  line = refl;
  begun = refl;
  leaves = refl;
  active = refl;
  edges = refl;
  goes = inl (ap (λ x. free (planned (owner t) group x)) told);
}

-- where something was told, what goes on behind it with the same transaction and nodes
pub carried_if : (T : Type 0) (t new : Turning) (group : ℕ) (x y : Talk (Ends Came)) (u v : Usage) (w : Went) → (T → x ≡ y) → v.tx.0 ≡ u.tx.0 → v.used.0 ≡ u.used.0
    → CarriesOn (free (planned (owner t) group y)) v t new w → CarriesOnIf T (free (planned (owner t) group x)) u t new w
carried_if T t new group x y u v w is tx used carries = record {
  line = carries.line;
  begun = carries.begun;
  leaves = carries.leaves;
  active = carries.active;
  edges = carries.edges;
  goes = λ told. goes_from (RunsOut u.tx.0 u.used.0 new w) (free (planned (owner t) group x)) (free (planned (owner t) group y)) new w (ap (λ z. free (planned (owner t) group z)) (is told))
      (subst (λ n. Leads (free (planned (owner t) group y)) new w ⊎ RunsOut u.tx.0 n new w) used
      (subst (λ n. Leads (free (planned (owner t) group y)) new w ⊎ RunsOut n v.used.0 new w) tx carries.goes));
}

abbrev is_no_memory : Reply → Bool
is_no_memory reply.NoMemory = true
is_no_memory _ = false

none_or_not : (r : Reply) → (r ≡ reply.NoMemory) ⊎ (r ≢ reply.NoMemory)
none_or_not reply.NoMemory = inl refl
none_or_not r = inr (λ e. false≢true (ap is_no_memory e))

-- a refusal, told or for want of memory, is rolled back, at none but nodes that were used
pub record Rolled (u v : Usage) (r : Reply) (old new : Turning) : Type 0 where
  pub line : new.line ≡ old.line
  pub begun : new.begun ≡ old.begun
  pub busy : is_busy new.stage ≡ true
  pub active : in_transaction new.stage ≡ true
  pub rolls : RollsBack (use_of v) (after.Over r) new
  pub tx : v.tx.0 ≡ u.tx.0
  pub nodes : Each (λ n. has_node u.used.0 n ≡ true) (nodes_in v.used.0)

refused_goes : (t new : Turning) (group : ℕ) (x : Talk (Ends Came)) (u v : Usage) (r : Reply) → (r ≢ reply.NoMemory → x ≡ says (Err r, use_of v)) → Rolled u v r t new
    → Leads (free (planned (owner t) group x)) new went.More ⊎ RunsOut u.tx.0 u.used.0 new went.More
refused_goes t new group x u v r told rolled = by (none_or_not r)
  where
    by : (r ≡ reply.NoMemory) ⊎ (r ≢ reply.NoMemory) → Leads (free (planned (owner t) group x)) new went.More ⊎ RunsOut u.tx.0 u.used.0 new went.More
    by (inl none) = inr (use_of v, rolled.tx, rolled.nodes, subst (λ e. RollsBack (use_of v) (after.Over e) new) none rolled.rolls, refl)
    by (inr not) = inl (ap (λ z. free (planned (owner t) group z)) (told not) ∙ ap free (refused_end (owner t) group (use_of v) r) ∙ sym rolled.rolls)

pub refused : (t new : Turning) (group : ℕ) (x : Talk (Ends Came)) (u v : Usage) (r : Reply) → (r ≢ reply.NoMemory → x ≡ says (Err r, use_of v)) → Rolled u v r t new
    → CarriesOn (free (planned (owner t) group x)) u t new went.More
refused t new group x u v r told rolled =
    record { line = rolled.line; begun = rolled.begun; leaves = rolled.busy; active = rolled.active; edges = refl; goes = refused_goes t new group x u v r told rolled }

pub refused_if : (T : Type 0) (t new : Turning) (group : ℕ) (x : Talk (Ends Came)) (u v : Usage) (r : Reply) → (T → r ≢ reply.NoMemory → x ≡ says (Err r, use_of v)) → Rolled u v r t new
    → CarriesOnIf T (free (planned (owner t) group x)) u t new went.More
refused_if T t new group x u v r told rolled =
    record { line = rolled.line; begun = rolled.begun; leaves = rolled.busy; active = rolled.active; edges = refl; goes = λ is. refused_goes t new group x u v r (told is) rolled }
