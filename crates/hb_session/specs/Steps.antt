-- What a session's calls do: a statement is given, one request is asked, a statement that waits is given up.
use Rattle.std.specs.Prelude.{◌≡◌, ℕ, Bool, true, false, ◌⊎◌, List, [], ◌∷◌, Option, Some, None, Result, Err, ⊤}
use Rattle.hb_types.specs.declared.answer.Answer.{Answer}
use Rattle.hb_types.specs.declared.answer.Answer.TheVariants as answer
use Rattle.hb_types.specs.declared.answer.Edge.{Edge}
use Rattle.hb_types.specs.declared.names.NodeName.{NodeName}
use Rattle.hb_types.specs.declared.names.Tx.{Tx}
use Rattle.hb_types.specs.declared.request.Request.{Request}
use Rattle.hb_types.specs.Calls.{IsAnswer}
use Rattle.hb_types.specs.Lists.{Each}
use Rattle.hb_model.specs.NodeSets.{has_node, nodes_in}
use Rattle.hb_node.specs.Lists.{Lists, OneMore}
use Rattle.hb_model.specs.declared.reply.Reply.{Reply}
use Rattle.hb_model.specs.declared.reply.Reply.TheVariants as reply
use Rattle.hb_model.specs.declared.statement.Statement.{Statement}
use Rattle.hb_talk.specs.Ends.{rolling_back}
use Rattle.hb_talk.specs.Sessions.{with_reply}
use Rattle.hb_talk.specs.Talk.{Talk, says, Use}
use Rattle.hb_access.specs.Accesses.{at_branch, use_of, used_after}
use Rattle.hb_access.specs.declared.access.Next.TheVariants as next
use Rattle.hb_access.specs.declared.usage.Usage.{Usage}
use Rattle.hb_plan.specs.Planned.{IsTold}
use Rattle.hb_wait.specs.Courses.{Course, free, halted, next_in, after_call}
use Rattle.hb_wait.specs.Waiting.{heard, node_asked, request_asked}
use Rattle.hb_wait.specs.declared.pending.Heard.{Heard}
use Rattle.hb_wait.specs.declared.pending.Heard.TheVariants as heard_as
use Rattle.hb_wait.specs.declared.pending.Pending.{Pending}
use Rattle.hb_wait.specs.declared.pending.Pending.TheVariants as pending
use Rattle.hb_session.specs.declared.session.GiveFault.{GiveFault}
use Rattle.hb_session.specs.declared.session.GiveFault.TheVariants as fault
use Rattle.hb_session.specs.declared.session.Progress.{Progress}
use Rattle.hb_session.specs.declared.session.Progress.TheVariants as progress
use Rattle.hb_session.specs.declared.session.Turn.{Turn}
use Rattle.hb_session.specs.declared.session.Turn.TheVariants as turn
use Rattle.hb_session.specs.declared.stage.Asking.{Asking}
use Rattle.hb_session.specs.declared.stage.Stage.{Stage}
use Rattle.hb_session.specs.declared.stage.Stage.TheVariants as stage
use Rattle.hb_session.specs.Sitting.{Sitting, counted, finishing, in_transaction, is_busy, is_ending, is_refused, stands, IsUsed}

pub record SameSession (old new : Sitting) : Type 0 where
  pub index : new.index ≡ old.index
  pub back_ends : new.back_ends ≡ old.back_ends

-- ---- what is shown

abbrev pub replied : Reply → Course (List Reply) → Course (List Reply)
replied r (free t) = free (with_reply r t)
replied r (halted p k) = halted p k

-- what was still to be said, by what is still to be said once this was shown
abbrev pub said : Progress → Course (List Reply) → Course (List Reply)
said progress.More c = c
said (progress.Waits edges) c = c
said (progress.Shown r) c = replied r c
said (progress.Ended r) c = free (says (r ∷ []))

abbrev pub edges_shown : Progress → Option (List Edge)
edges_shown (progress.Waits edges) = Some edges
edges_shown _ = None

abbrev pub edges_heard : Heard → Option (List Edge)
edges_heard (heard_as.Waits l edges) = Some edges
edges_heard _ = None

-- whether a statement is in progress, and whether there is a transaction, once this was shown
abbrev pub LeavesAs : Progress → Stage → Type 0
LeavesAs (progress.Shown r) s = (is_busy s ≡ false) × (in_transaction s ≡ true)
LeavesAs (progress.Ended r) s = s ≡ stage.Idle
LeavesAs _ s = is_busy s ≡ true

-- the end of a transaction goes on, or its reply was shown
abbrev pub EndsOn : Progress → Stage → Type 0
EndsOn progress.More s = is_ending s ≡ true
EndsOn (progress.Ended r) s = ⊤
EndsOn _ s = ⊥

-- ---- one call

-- what was to be asked and said is what is shown and then what is still to be asked and said
abbrev pub Leads : (List Statement → Course (List Reply)) → Sitting → Progress → Type 0
Leads course new shows = (sts : List Statement) → course sts ≡ said shows (stands new sts)

abbrev pub GoesOn : Sitting → Sitting → Answer → Progress → Type 0
GoesOn old new a shows = Leads (λ sts. after_call (stands old sts) a) new shows

-- the transaction is rolled back, for this reply
abbrev pub RollsBack : Use → Reply → Sitting → Type 0
RollsBack u r new = (sts : List Statement) → stands new sts ≡ free (finishing (rolling_back u 0 r))

-- the session found no memory: its transaction is rolled back, at none but nodes that it used
abbrev pub RunsOut : ℕ → ℕ → Sitting → Progress → Type 0
RunsOut tx used new shows =
    (u : Use) × (u.tx ≡ tx) × Each (λ n. has_node used n ≡ true) (nodes_in u.used) × RollsBack u reply.NoMemory new × (shows ≡ progress.More)

abbrev pub RunsOutAt : Stage → Sitting → Progress → Type 0
RunsOutAt (stage.Enters tx g) new shows = RunsOut tx.0 0 new shows
RunsOutAt (stage.Asks a) new shows = RunsOut a.plan.usage.tx.0 a.plan.usage.used.0 new shows
RunsOutAt _ new shows = ⊥

-- ---- the nodes of a statement, whatever its answers tell

-- a transaction that has used no node
abbrev pub nothing_used : Tx → Usage
nothing_used tx = record { tx = tx; used = record { 0 = 0 }; locks = 0; bytes = 0 }

-- what is asked next is asked of a node that the transaction uses, or it is the Enlist of its branch there
pub record AsksAt (u : Usage) (b : Asking) : Type 0 where
  pub node : NodeName
  pub request : Request
  pub pending : b.pending ≡ pending.Asks node request
  pub branch : at_branch u (next.Ask node request) ≡ true
  pub tx : b.plan.usage.tx.0 ≡ u.tx.0
  pub used : b.plan.usage.used.0 ≡ used_after u.used.0 (next.Ask node request)

-- the transaction ends by a rolling back, at none but nodes that it used
pub record Undoes (u : Usage) (new : Sitting) : Type 0 where
  pub uses : Use
  pub why : Reply
  pub tx : uses.tx ≡ u.tx.0
  pub nodes : Each (λ n. has_node u.used.0 n ≡ true) (nodes_in uses.used)
  pub rolls : RollsBack uses why new
  pub ending : is_ending new.stage ≡ true

abbrev pub IsSameUse : Usage → Usage → Type 0
IsSameUse u v = (v.tx.0 ≡ u.tx.0) × (v.used.0 ≡ u.used.0)

-- the statement goes on, or its reply stands
abbrev pub StaysAt : Usage → Stage → Type 0
StaysAt u (stage.Asks b) = AsksAt u b
StaysAt u (stage.Open v) = IsSameUse u v
StaysAt u (stage.Refused v r) = IsSameUse u v
StaysAt u _ = ⊥

abbrev pub Moves : Usage → Sitting → Type 0
Moves u new = StaysAt u new.stage ⊎ Undoes u new

-- where an answer leads, whatever rows it tells; an end goes on as one, until there is no transaction
abbrev pub MovesAt : Stage → Heard → Sitting → Type 0
MovesAt (stage.Begins g) (heard_as.Answered (answer.Begun tx)) new = new.stage ≡ stage.Enters tx g
MovesAt (stage.Begins g) h new = in_transaction new.stage ≡ false
MovesAt (stage.Asks s) (heard_as.Answered x) new = Moves s.plan.usage new
MovesAt (stage.Asks s) (heard_as.Waits l edges) new = new.stage ≡ stage.Asks (record { plan = s.plan; pending = pending.Waits l })
MovesAt (stage.Asks s) (heard_as.More p) new = new.stage ≡ stage.Asks (record { plan = s.plan; pending = p })
MovesAt (stage.Enters tx g) h new = Moves (nothing_used tx) new
MovesAt (stage.Ends e) h new = is_ending new.stage ≡ in_transaction new.stage
MovesAt _ h new = ⊤

-- where a refusal that was shown leads
abbrev pub OpensAt : Stage → Stage → Type 0
OpensAt (stage.Refused u r) new = new ≡ stage.Open u
OpensAt _ new = ⊤

-- where a statement that is given leads; a first one begins a transaction, COMMIT and ROLLBACK begin the end
abbrev pub GivesAt : Stage → Stage → Type 0
GivesAt stage.Idle new = in_transaction new ≡ false
GivesAt (stage.Open u) new = StaysAt u new ⊎ (is_ending new ≡ true)
GivesAt _ new = ⊤

abbrev pub begun_by : Stage → Answer → ℕ → ℕ
begun_by (stage.Begins g) (answer.Begun tx) n = counted n
begun_by _ a n = n

-- the answer that a plan heard tells rows of the dictionary's shapes, and of the table's, where it is rows that are awaited
abbrev pub IsToldBy : Stage → Heard → Type 0
IsToldBy (stage.Asks s) (heard_as.Answered x) = IsTold s.plan x
IsToldBy _ _ = ⊤

-- One request was asked, the one that is next for whatever statements follow, and the session stands where the answer leads.
pub record Makes (old new : Sitting) (p : Pending) (a : Answer) (shows : Progress) : Type 0 where
  pub next : (sts : List Statement) → next_in (stands old sts) ≡ Some p
  pub goes : IsToldBy old.stage (heard p a) → GoesOn old new a shows ⊎ RunsOutAt old.stage new shows
  pub moves : MovesAt old.stage (heard p a) new
  pub edges : edges_shown shows ≡ edges_heard (heard p a)
  pub begun : new.begun ≡ begun_by old.stage a old.begun

abbrev pub Steps : Sitting → Sitting → Lists → Lists → Progress → Type 0
Steps old new before after shows =
    (p : Pending) × (a : Answer) × IsAnswer a × OneMore before after (node_asked p) (request_asked p) a × Makes old new p a shows

-- nothing was asked: the refusal that stood was shown
abbrev pub Shows : Sitting → Sitting → Lists → Lists → Progress → Type 0
Shows old new before after shows =
    (after ≡ before) × (new.begun ≡ old.begun) × Leads (stands old) new shows × OpensAt old.stage new.stage

-- one step: a request is asked, or the refusal that stood is shown
pub record Stepped (old new : Sitting) (before after : Lists) (shows : Progress) : Type 0 where
  pub same : SameSession old new
  pub leaves : LeavesAs shows new.stage
  pub steps : is_refused old.stage ≡ false → Steps old new before after shows
  pub shown : is_refused old.stage ≡ true → Shows old new before after shows

-- A statement was carried on without a call: what was to be said led here, or the session found no memory.
pub record CarriesOn (course : List Statement → Course (List Reply)) (u : Usage) (old new : Sitting) (shows : Progress) : Type 0 where
  pub same : SameSession old new
  pub begun : new.begun ≡ old.begun
  pub leaves : LeavesAs shows new.stage
  pub edges : edges_shown shows ≡ None
  pub goes : Leads course new shows ⊎ RunsOut u.tx.0 u.used.0 new shows
  pub moves : Moves u new

-- the same, where something was told
pub record CarriesOnIf (told : Type 0) (course : List Statement → Course (List Reply)) (u : Usage) (old new : Sitting) (shows : Progress) : Type 0 where
  pub same : SameSession old new
  pub begun : new.begun ≡ old.begun
  pub leaves : LeavesAs shows new.stage
  pub edges : edges_shown shows ≡ None
  pub goes : told → Leads course new shows ⊎ RunsOut u.tx.0 u.used.0 new shows
  pub moves : Moves u new

-- ---- given

abbrev pub is_busy_fault : Result (Unit {0}) GiveFault → Bool
is_busy_fault (Err fault.Busy) = true
is_busy_fault _ = false

abbrev pub is_no_memory : Reply → Bool
is_no_memory reply.NoMemory = true
is_no_memory _ = false

pub record GivesTalk (given : List Statement → Talk (List Reply)) (u : Usage) (old new : Sitting) : Type 0 where
  pub same : SameSession old new
  pub begun : new.begun ≡ old.begun
  pub busy : is_busy new.stage ≡ true
  pub talk : (sts : List Statement) → free (given sts) ≡ stands new sts
  pub moves : StaysAt u new.stage ⊎ (is_ending new.stage ≡ true)

-- the statement is the next of those that follow
pub record Gives (old new : Sitting) (st : Statement) : Type 0 where
  pub same : SameSession old new
  pub begun : new.begun ≡ old.begun
  pub busy : is_busy new.stage ≡ true
  pub talk : (sts : List Statement) → stands old (st ∷ sts) ≡ stands new sts
  pub moves : GivesAt old.stage new.stage

-- what a statement would be now
abbrev pub TurnIs : Stage → Turn → Type 0
TurnIs st turn.Busy = is_busy st ≡ true
TurnIs st turn.First = st ≡ stage.Idle
TurnIs st (turn.Next u) = (st ≡ stage.Open u) × IsUsed u

-- given up
abbrev pub Abandons : Stage → Sitting → Type 0
Abandons (stage.Asks a) new = RollsBack (use_of a.plan.usage) reply.RolledBackEnd new
Abandons _ new = ⊥

-- a transaction between two statements is given up
abbrev pub Closes : Stage → Sitting → Type 0
Closes (stage.Open u) new = RollsBack (use_of u) reply.RolledBackEnd new
Closes _ new = ⊥
