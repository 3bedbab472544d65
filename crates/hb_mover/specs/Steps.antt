-- What a step of a line of pdrbal does: one request is asked, the one that is next.
use Rattle.std.specs.Prelude.{◌≡◌, ◌≤◌, ◌<◌, ◌+◌, ◌^◌, ◌⊎◌, ℕ, suc, true, false, List, [], ◌∷◌, map, Option, Some, None, ⊤}
use Rattle.hb_types.specs.declared.answer.Answer.{Answer}
use Rattle.hb_types.specs.declared.answer.Edge.{Edge}
use Rattle.hb_types.specs.Calls.{IsAnswer}
use Rattle.hb_types.specs.Lists.{Each}
use Rattle.hb_node.specs.Lists.{Lists, OneMore}
use Rattle.hb_model.specs.declared.reply.Reply.{Reply}
use Rattle.hb_model.specs.declared.reply.Reply.TheVariants as reply
use Rattle.hb_model.specs.NodeSets.{has_node, nodes_in}
use Rattle.hb_talk.specs.Ends.{rolling_back}
use Rattle.hb_talk.specs.Moves.{moving}
use Rattle.hb_talk.specs.Sessions.{with_reply}
use Rattle.hb_talk.specs.Talk.{says, going_on, Use}
use Rattle.hb_batch.specs.Batches.{hint_of, IsSitedHint}
use Rattle.hb_batch.specs.declared.hint.Hint.{Hint}
use Rattle.hb_moveplan.specs.MovePlans.{usage_of}
use Rattle.hb_wait.specs.Courses.{Course, free, halted, next_in, after_call}
use Rattle.hb_wait.specs.Waiting.{heard, node_asked, request_asked}
use Rattle.hb_wait.specs.declared.pending.Heard.{Heard}
use Rattle.hb_wait.specs.declared.pending.Pending.{Pending}
use Rattle.hb_turn.specs.Steps.{begun_by as begun_at, edges_heard}
use Rattle.hb_turn.specs.Steps as turn
use Rattle.hb_turn.specs.Turning.{Outcome, ends, counted}
use Rattle.hb_turn.specs.declared.stage.Stage.{Stage}
use Rattle.hb_turn.specs.declared.stage.Stage.TheVariants as stage
use Rattle.hb_mover.specs.declared.mover.Progress.{Progress}
use Rattle.hb_mover.specs.declared.mover.Progress.TheVariants as progress
use Rattle.hb_mover.specs.Moving.{Moving, after_outcome, begun_by, in_transaction, index_of, is_ending, is_going, is_waiting, line_of, stands}

pub record SameLine (old new : Moving) : Type 0 where
  pub line : line_of new ≡ line_of old
  pub index : index_of new ≡ index_of old

-- ---- what is shown

abbrev pub replied : Reply → Course (List Reply) → Course (List Reply)
replied r (free t) = free (with_reply r t)
replied r (halted p k) = halted p k

-- what was still to be said, by what is still to be said once this was shown
abbrev pub said : Progress → Course (List Reply) → Course (List Reply)
said progress.More c = c
said (progress.Waits edges) c = c
said (progress.Told r) c = replied r c
said (progress.Ended r) c = free (says (r ∷ []))

abbrev pub edges_shown : Progress → Option (List Edge)
edges_shown (progress.Waits edges) = Some edges
edges_shown _ = None

-- whether the line goes on, once this was shown
abbrev pub LeavesAs : Progress → Moving → Type 0
LeavesAs progress.More m = is_going m ≡ true
LeavesAs (progress.Waits edges) m = is_going m ≡ true
LeavesAs (progress.Told r) m = (is_going m ≡ true) × (is_waiting m ≡ false)
LeavesAs (progress.Ended r) m = in_transaction m ≡ false

-- the end of the line goes on, or its reply was shown
abbrev pub EndsOn : Progress → Moving → Type 0
EndsOn progress.More m = (is_ending m ≡ true) × (is_going m ≡ true) × (is_waiting m ≡ false)
EndsOn (progress.Ended r) m = ⊤
EndsOn _ m = ⊥

-- ---- one call

-- what was to be asked and said is what is shown and then what is still to be asked and said
abbrev pub Leads : Course (List Reply) → Moving → Progress → Type 0
Leads course new shows = course ≡ said shows (stands new)

-- the answer that was heard tells rows of their shapes, where it is rows that are awaited; and the count isn't at its end
abbrev pub IsToldBy : Moving → Heard → Type 0
IsToldBy m h = turn.IsToldBy m.turn.stage h × (begun_by m + 1 < 2 ^ 64)

-- its transaction is rolled back, at none but nodes that it used, and the line ends so
abbrev pub RollsBack : ℕ → ℕ → Moving → Progress → Type 0
RollsBack tx used new shows =
    (u : Use) × (u.tx ≡ tx) × Each (λ n. has_node used n ≡ true) (nodes_in u.used)
    × (stands new ≡ free (going_on (λ r. says (reply.NoMemory ∷ [])) (rolling_back u 0 reply.RolledBack))) × (shows ≡ progress.More)

-- the line found no memory: its transaction is rolled back; or it has begun none, and ends at once
abbrev pub RunsOutAt : Stage → Moving → Progress → Type 0
RunsOutAt (stage.Keys h) new shows = shows ≡ progress.Ended reply.NoMemory
RunsOutAt (stage.Enters tx k) new shows = RollsBack tx.0 0 new shows
RunsOutAt (stage.Asks a) new shows = RollsBack (usage_of a.plan).tx.0 (usage_of a.plan).used.0 new shows
RunsOutAt _ new shows = ⊥

abbrev pub RunsOut : Moving → Moving → Progress → Type 0
RunsOut old new shows = RunsOutAt old.turn.stage new shows

abbrev pub begun_after : Moving → Answer → ℕ
begun_after old a = begun_at old.turn.stage a (begun_by old)

-- One request was asked, the one that is next, and the line stands where the answer leads; or it found no memory.
pub record Makes (old new : Moving) (p : Pending) (a : Answer) (shows : Progress) : Type 0 where
  pub next : next_in (stands old) ≡ Some p
  pub goes : IsToldBy old (heard p a) → Leads (after_call (stands old) a) new shows ⊎ RunsOut old new shows
  pub ends : is_ending old ≡ true → Leads (after_call (stands old) a) new shows
  pub edges : edges_shown shows ≡ edges_heard (heard p a)
  pub begun : begun_by new ≡ begun_after old a

abbrev pub Steps : Moving → Moving → Lists → Lists → Progress → Type 0
Steps old new before behind shows =
    (p : Pending) × (a : Answer) × IsAnswer a × OneMore before behind (node_asked p) (request_asked p) a × Makes old new p a shows

-- one step: a request is asked
pub record Stepped (old new : Moving) (before behind : Lists) (shows : Progress) : Type 0 where
  pub same : SameLine old new
  pub leaves : LeavesAs shows new
  pub steps : Steps old new before behind shows
  pub more : begun_by old ≤ begun_by new

-- ---- behind a turn

-- the group that is next and its turn, which is counted; none where there is no group or no turn is left
pub record TakesHint (old new : Moving) (h : Hint) : Type 0 where
  pub rest : List Hint
  pub first : old.hints ≡ h ∷ rest
  pub left : old.left ≡ suc new.left
  pub same : new ≡ record old { left = new.left }
  pub sited : IsSitedHint h

abbrev pub TakesNext : Moving → Moving → Option Hint → Type 0
TakesNext old new None = (new ≡ old) × ((old.left ≡ 0) ⊎ (old.hints ≡ []))
TakesNext old new (Some h) = TakesHint old new h

-- a turn is begun, the one that is next
pub record BeginsTurn (old new : Moving) : Type 0 where
  pub same : SameLine old new
  pub begun : begun_by new ≡ begun_by old
  pub going : is_going new ≡ true
  pub waiting : is_waiting new ≡ false
  pub talk : stands new ≡ free (moving (line_of old) old.left (counted (begun_by old)) (map hint_of old.hints))

-- the reply that ends the line is shown
abbrev pub ShowsEnd : Outcome → Progress → Type 0
ShowsEnd (ends r) shows = shows ≡ progress.Ended r
ShowsEnd _ shows = ⊤

-- the line goes on behind a turn that came to this
pub record GoesOn (old new : Moving) (o : Outcome) (shows : Progress) : Type 0 where
  pub same : SameLine old new
  pub begun : begun_by new ≡ begun_by old
  pub leaves : LeavesAs shows new
  pub edges : edges_shown shows ≡ None
  pub ends : ShowsEnd o shows
  pub goes : begun_by old + 1 < 2 ^ 64 → Leads (free (after_outcome (line_of old) old.left (begun_by old + 1) (map hint_of old.hints) o)) new shows

-- ---- given up

-- its transaction is rolled back, and the line ends so
abbrev pub GivesUp : Moving → Moving → Type 0
GivesUp old new = (u : Use) × (stands new ≡ free (going_on (λ r. says (reply.RolledBackEnd ∷ [])) (rolling_back u 0 reply.RolledBack)))
