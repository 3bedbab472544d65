-- What a step of a turn does: one request is asked, the one that is next.
use Rattle.std.specs.Prelude.{◌≡◌, ◌⊎◌, ℕ, ℤ, Bool, true, false, All, FitsSigned, List, Option, Some, None, Result, Ok, Err, ⊤}
use Rattle.std.specs.Int.{w32}
use Rattle.hb_types.specs.declared.answer.Answer.{Answer}
use Rattle.hb_types.specs.declared.answer.Answer.TheVariants as answer
use Rattle.hb_types.specs.declared.answer.Edge.{Edge}
use Rattle.hb_types.specs.declared.names.Number.{Number}
use Rattle.hb_types.specs.declared.names.Tx.{Tx}
use Rattle.hb_types.specs.Calls.{IsAnswer}
use Rattle.hb_types.specs.Lists.{Each}
use Rattle.hb_model.specs.NodeSets.{has_node, nodes_in}
use Rattle.hb_node.specs.Lists.{Lists, OneMore}
use Rattle.hb_model.specs.declared.reply.Reply.{Reply}
use Rattle.hb_model.specs.declared.reply.Reply.TheVariants as reply
use Rattle.hb_talk.specs.Ends.{rolling_back}
use Rattle.hb_talk.specs.Moves.{turn_by}
use Rattle.hb_talk.specs.Talk.{Talk, says, Use}
use Rattle.hb_access.specs.declared.usage.Usage.{Usage}
use Rattle.hb_access.specs.Accesses.{use_of}
use Rattle.hb_batch.specs.Batches.{hint_of, IsSitedHint}
use Rattle.hb_batch.specs.declared.hint.Hint.{Hint}
use Rattle.hb_moveplan.specs.MovePlans.{IsTold, usage_of}
use Rattle.hb_wait.specs.Courses.{Course, free, next_in, after_call}
use Rattle.hb_wait.specs.Waiting.{heard, node_asked, request_asked}
use Rattle.hb_wait.specs.declared.pending.Heard.{Heard}
use Rattle.hb_wait.specs.declared.pending.Heard.TheVariants as heard_as
use Rattle.hb_wait.specs.declared.pending.Pending.{Pending}
use Rattle.hb_turn.specs.declared.stage.After.{After}
use Rattle.hb_turn.specs.declared.stage.After.TheVariants as after
use Rattle.hb_turn.specs.declared.stage.Stage.{Stage}
use Rattle.hb_turn.specs.declared.stage.Stage.TheVariants as stage
use Rattle.hb_turn.specs.declared.stage.Task.{Task}
use Rattle.hb_turn.specs.declared.turn.Turned.{Turned as Said}
use Rattle.hb_turn.specs.declared.turn.Turned.TheVariants as said
use Rattle.hb_turn.specs.declared.turn.Went.{Went}
use Rattle.hb_turn.specs.declared.turn.Went.TheVariants as went
use Rattle.hb_turn.specs.Turning.{Outcome, Turning, answered, counted, following, in_transaction, is_busy, is_last, next_owner, of_turned, opening, outcome_of, owner, stands, told}

-- ---- what is shown

abbrev pub edges_shown : Went → Option (List Edge)
edges_shown (went.Waits edges) = Some edges
edges_shown _ = None

abbrev pub edges_heard : Heard → Option (List Edge)
edges_heard (heard_as.Waits l edges) = Some edges
edges_heard _ = None

-- the groups that a check found lie where areas are
abbrev pub AreSitedIn : Said → Type 0
AreSitedIn (said.Found hs number) = All IsSitedHint hs
AreSitedIn _ = ⊤

-- whether the turn goes on, once this was told
abbrev pub LeavesAs : Went → Stage → Type 0
LeavesAs (went.Said t) s = (s ≡ stage.Over) × AreSitedIn t
LeavesAs _ s = is_busy s ≡ true

-- a rolling back that ends the line goes on, or it ended the line
abbrev pub EndsOn : Went → Stage → Type 0
EndsOn went.More s = is_last s ≡ true
EndsOn (went.Said (said.Over r)) s = ⊤
EndsOn _ s = ⊥

-- ---- one call

-- what was to be asked and said is what is still to be, or what was said
abbrev pub Leads : Course Outcome → Turning → Went → Type 0
Leads c new (went.Said t) = c ≡ free (says (outcome_of t))
Leads c new _ = c ≡ stands new

-- the transaction is rolled back, and this follows
abbrev pub RollsBack : Use → After → Turning → Type 0
RollsBack u f new = stands new ≡ free (following f (rolling_back u 0 reply.RolledBack))

-- the turn found no memory: its transaction is rolled back, at none but nodes that it used, and the line ends
abbrev pub RunsOut : ℕ → ℕ → Turning → Went → Type 0
RunsOut tx used new w =
    (u : Use) × (u.tx ≡ tx) × Each (λ n. has_node used n ≡ true) (nodes_in u.used) × RollsBack u (after.Over reply.NoMemory) new × (w ≡ went.More)

-- a turn that has begun no transaction ends the line at once
abbrev pub RunsOutAt : Stage → Turning → Went → Type 0
RunsOutAt (stage.Keys h) new w = w ≡ went.Said (said.Over reply.NoMemory)
RunsOutAt (stage.Enters tx k) new w = RunsOut tx.0 0 new w
RunsOutAt (stage.Asks a) new w = RunsOut (usage_of a.plan).tx.0 (usage_of a.plan).used.0 new w
RunsOutAt _ new w = ⊥

abbrev pub begun_by : Stage → Answer → ℕ → ℕ
begun_by (stage.Begins k) (answer.Begun tx) n = counted n
begun_by _ a n = n

-- whether a transaction is begun and hasn't ended, where the turn goes on
abbrev pub active_at : Stage → Answer → Bool
active_at (stage.Keys h) a = false
active_at (stage.Begins k) (answer.Begun tx) = true
active_at (stage.Begins k) a = false
active_at s a = true

abbrev pub active_after : Stage → Answer → Went → Bool
active_after s a (went.Said t) = false
active_after s a w = active_at s a

-- whether the turn goes on
abbrev pub is_going : Went → Bool
is_going (went.Said t) = false
is_going _ = true

-- the keys that were told are INTEGERs
abbrev pub TellsKeys : Answer → Type 0
TellsKeys (answer.Keys keys) = All (FitsSigned w32) keys
TellsKeys _ = ⊤

-- the answer that was heard tells rows of the dictionary's shapes, and of the table's, where it is rows that are awaited
abbrev pub IsToldBy : Stage → Heard → Type 0
IsToldBy (stage.Keys h) (heard_as.Answered x) = TellsKeys x
IsToldBy (stage.Asks s) (heard_as.Answered x) = IsTold s.plan x
IsToldBy _ _ = ⊤

-- One request was asked, the one that is next, and the turn stands where the answer leads; or it found no memory.
pub record Makes (old new : Turning) (p : Pending) (a : Answer) (w : Went) : Type 0 where
  pub next : next_in (stands old) ≡ Some p
  pub goes : IsToldBy old.stage (heard p a) → Leads (after_call (stands old) a) new w ⊎ RunsOutAt old.stage new w
  pub edges : edges_shown w ≡ edges_heard (heard p a)
  pub begun : new.begun ≡ begun_by old.stage a old.begun
  pub active : in_transaction new.stage ≡ active_after old.stage a w

abbrev pub Steps : Turning → Turning → Lists → Lists → Went → Type 0
Steps old new before behind w =
    (p : Pending) × (a : Answer) × IsAnswer a × OneMore before behind (node_asked p) (request_asked p) a × Makes old new p a w

-- one step of a turn of this line
pub record Stepped (old new : Turning) (before behind : Lists) (w : Went) : Type 0 where
  pub line : new.line ≡ old.line
  pub leaves : LeavesAs w new.stage
  pub steps : Steps old new before behind w

-- a turn was carried on without a call: what was to be said led here, or it found no memory
pub record CarriesOn (course : Course Outcome) (u : Usage) (old new : Turning) (w : Went) : Type 0 where
  pub line : new.line ≡ old.line
  pub begun : new.begun ≡ old.begun
  pub leaves : LeavesAs w new.stage
  pub active : in_transaction new.stage ≡ is_going w
  pub edges : edges_shown w ≡ None
  pub goes : Leads course new w ⊎ RunsOut u.tx.0 u.used.0 new w

-- the same, where something was told
pub record CarriesOnIf (T : Type 0) (course : Course Outcome) (u : Usage) (old new : Turning) (w : Went) : Type 0 where
  pub line : new.line ≡ old.line
  pub begun : new.begun ≡ old.begun
  pub leaves : LeavesAs w new.stage
  pub active : in_transaction new.stage ≡ is_going w
  pub edges : edges_shown w ≡ None
  pub goes : T → Leads course new w ⊎ RunsOut u.tx.0 u.used.0 new w

-- what follows where the transaction is entered
abbrev pub started : Turning → Tx → Task → Talk Outcome
started t tx k = answered (answered (opening t.line (owner t) k) (answer.Begun tx)) answer.Done

-- the keys of the group were taken, without a call
pub record TakesKeys (h : Hint) (keys : List ℤ) (old new : Turning) (w : Went) : Type 0 where
  pub line : new.line ≡ old.line
  pub begun : new.begun ≡ old.begun
  pub leaves : LeavesAs w new.stage
  pub none : in_transaction new.stage ≡ false
  pub edges : edges_shown w ≡ None
  pub goes : All (FitsSigned w32) keys → Leads (free (told of_turned (turn_by (next_owner old) (hint_of h) (answer.Keys keys)))) new w ⊎ (w ≡ went.Said (said.Over reply.NoMemory))

-- ---- ends

-- the reply that shows a number, or the one that tells why there is none
abbrev pub by_number : (Number → Reply) → Result Number Reply → Reply
by_number shown (Ok number) = shown number
by_number shown (Err r) = r

-- whether a reply shows the number of a check's or a batch's commit
abbrev pub is_counted : Reply → Bool
is_counted (reply.Complete number) = true
is_counted (reply.Moved rows group number) = true
is_counted _ = false

abbrev pub is_over : Said → Bool
is_over (said.Over r) = true
is_over _ = false

-- a turn is given up: it is rolled back, and the line ends so
abbrev pub GivesUp : Stage → Turning → Type 0
GivesUp (stage.Asks a) new = RollsBack (use_of (usage_of a.plan)) (after.Over reply.RolledBackEnd) new
GivesUp _ new = ⊥
