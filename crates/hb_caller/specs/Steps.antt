-- What a caller's calls do: a statement or a line is given, one request is asked, what waits is given up.
use Rattle.std.specs.Prelude.{◌≡◌, ℕ, true, false, List, [], ◌∷◌, Option, Some, None, ⊤}
use Rattle.hb_types.specs.declared.answer.Answer.{Answer}
use Rattle.hb_types.specs.declared.answer.Edge.{Edge}
use Rattle.hb_node.specs.Lists.{Lists}
use Rattle.hb_model.specs.declared.reply.Reply.{Reply}
use Rattle.hb_model.specs.declared.statement.Statement.{Statement}
use Rattle.hb_talk.specs.Talk.{says}
use Rattle.hb_wait.specs.Courses.{Course, free, next_in, after_call}
use Rattle.hb_wait.specs.declared.pending.Pending.{Pending}
use Rattle.hb_session.specs.declared.session.Progress.{Progress as SessionProgress}
use Rattle.hb_session.specs.declared.session.Progress.TheVariants as session_shows
use Rattle.hb_session.specs.declared.stage.Stage.TheVariants as stage
use Rattle.hb_session.specs.Sitting.{Sitting}
use Rattle.hb_session.specs.Steps.{SameSession, replied, Stepped as SessionStepped, Gives as SessionGives, Abandons as SessionAbandons, Closes as SessionCloses}
use Rattle.hb_mover.specs.declared.mover.Progress.{Progress as LineProgress}
use Rattle.hb_mover.specs.declared.mover.Progress.TheVariants as line_shows
use Rattle.hb_mover.specs.Moving.{Moving, begun_by, is_ending, is_going, is_waiting, IsNew}
use Rattle.hb_mover.specs.Steps.{SameLine, Stepped as LineStepped, GivesUp as LineGivesUp}
use Rattle.hb_caller.specs.declared.caller.Progress.{Progress}
use Rattle.hb_caller.specs.declared.caller.Progress.TheVariants as progress
use Rattle.hb_caller.specs.Calling.{Calling, begun, busy, ending, in_transaction, stands, waits}

abbrev pub SameCaller : Calling → Calling → Type 0
SameCaller old new = SameSession old.session new.session

-- ---- what is shown

abbrev pub of_session : SessionProgress → Progress
of_session session_shows.More = progress.More
of_session (session_shows.Waits edges) = progress.Waits edges
of_session (session_shows.Shown r) = progress.Shown r
of_session (session_shows.Ended r) = progress.Ended r

abbrev pub of_line : LineProgress → Progress
of_line line_shows.More = progress.More
of_line (line_shows.Waits edges) = progress.Waits edges
of_line (line_shows.Told r) = progress.Told r
of_line (line_shows.Ended r) = progress.Ended r

-- what was still to be said, by what is still to be said once this was shown
abbrev pub said : Progress → Course (List Reply) → Course (List Reply)
said progress.More c = c
said (progress.Waits edges) c = c
said (progress.Told r) c = replied r c
said (progress.Shown r) c = replied r c
said (progress.Ended r) c = free (says (r ∷ []))

abbrev pub edges_shown : Progress → Option (List Edge)
edges_shown (progress.Waits edges) = Some edges
edges_shown _ = None

-- whether a statement or a line is in progress, and whether there is a transaction, once this was shown
abbrev pub LeavesAs : Progress → Calling → Type 0
LeavesAs progress.More c = busy c ≡ true
LeavesAs (progress.Waits edges) c = busy c ≡ true
LeavesAs (progress.Told r) c = (busy c ≡ true) × (waits c ≡ false)
LeavesAs (progress.Shown r) c = (busy c ≡ false) × (in_transaction c ≡ true)
LeavesAs (progress.Ended r) c = (busy c ≡ false) × (in_transaction c ≡ false)

-- the end goes on, or its reply was shown
abbrev pub EndsOn : Progress → Calling → Type 0
EndsOn progress.More c = (ending c ≡ true) × (busy c ≡ true) × (waits c ≡ false)
EndsOn (progress.Ended r) c = ⊤
EndsOn _ c = ⊥

-- ---- one call

-- what was to be asked and said is what is shown and then what is still to be asked and said
abbrev pub Leads : (List Statement → Course (List Reply)) → Calling → Progress → Type 0
Leads course new shows = (sts : List Statement) → course sts ≡ said shows (stands new sts)

abbrev pub GoesOn : Calling → Calling → Answer → Progress → Type 0
GoesOn old new a shows = Leads (λ sts. after_call (stands old sts) a) new shows

-- the session made a step
pub record SessionSteps (old new : Sitting) (before after : Lists) (shows : Progress) : Type 0 where
  pub showed : SessionProgress
  pub shown : shows ≡ of_session showed
  pub stepped : SessionStepped old new before after showed

-- behind a step of the line: it goes on, or it has ended, and the session has its count
abbrev pub behind : Sitting → Moving → LineProgress → Calling
behind s m line_shows.More = record { session = s; mover = Some m }
behind s m (line_shows.Waits edges) = record { session = s; mover = Some m }
behind s m (line_shows.Told r) = record { session = s; mover = Some m }
behind s m (line_shows.Ended r) = record { session = record s { begun = begun_by m }; mover = None }

-- the line of an idle session made a step
pub record LineSteps (s : Sitting) (m : Moving) (new : Calling) (before after : Lists) (shows : Progress) : Type 0 where
  pub line : Moving
  pub showed : LineProgress
  pub idle : s.stage ≡ stage.Idle
  pub shown : shows ≡ of_line showed
  pub stepped : LineStepped m line before after showed
  pub becomes : new ≡ behind s line showed

abbrev pub StepsBy : Option Moving → Sitting → Calling → Lists → Lists → Progress → Type 0
StepsBy None s new before after shows = (new.mover ≡ None) × SessionSteps s new.session before after shows
StepsBy (Some m) s new before after shows = LineSteps s m new before after shows

-- one step: of the line where there is one, else of the session
pub record Stepped (old new : Calling) (before after : Lists) (shows : Progress) : Type 0 where
  pub same : SameCaller old new
  pub leaves : LeavesAs shows new
  pub steps : StepsBy old.mover old.session new before after shows

-- an end asked the request that is next, and goes on where the answer leads, whatever was answered
pub record EndsBy (old new : Calling) (shows : Progress) : Type 0 where
  pub asked : Pending
  pub answer : Answer
  pub next : (sts : List Statement) → next_in (stands old sts) ≡ Some asked
  pub goes : GoesOn old new answer shows

-- ---- given

-- the statement is the next of those that follow
pub record Gives (old new : Calling) (st : Statement) : Type 0 where
  pub none : old.mover ≡ None
  pub still : new.mover ≡ None
  pub busy_now : busy new ≡ true
  pub given : SessionGives old.session new.session st

-- the session stays as it is, and runs a new line
pub record GivesLine (old new : Calling) (table : List ℕ) (rows turns : ℕ) : Type 0 where
  pub idle : old.session.stage ≡ stage.Idle
  pub none : old.mover ≡ None
  pub line : Moving
  pub becomes : new ≡ record { session = old.session; mover = Some line }
  pub is_new : IsNew line old.session.index old.session.back_ends old.session.begun table rows turns

-- ---- given up

-- the line goes on as one that is rolled back
pub record LineIsUp (s : Sitting) (m : Moving) (new : Calling) : Type 0 where
  pub line : Moving
  pub becomes : new ≡ record { session = s; mover = Some line }
  pub same : SameLine m line
  pub begun : begun_by line ≡ begun_by m
  pub going : is_going line ≡ true
  pub waiting : is_waiting line ≡ false
  pub ending : is_ending line ≡ true
  pub gives_up : LineGivesUp m line

abbrev pub AbandonsBy : Option Moving → Sitting → Calling → Type 0
AbandonsBy None s new = (new.mover ≡ None) × SessionAbandons s.stage new.session
AbandonsBy (Some m) s new = LineIsUp s m new

-- what waits is given up
abbrev pub Abandons : Calling → Calling → Type 0
Abandons old new = AbandonsBy old.mover old.session new

-- a transaction between two statements is given up
pub record Closes (old new : Calling) : Type 0 where
  pub none : old.mover ≡ None
  pub still : new.mover ≡ None
  pub closed : SessionCloses old.session.stage new.session

-- what follows is a rolling back
pub record GivesUp (old new : Calling) : Type 0 where
  pub same : SameCaller old new
  pub begun_so : begun new ≡ begun old
  pub busy_now : busy new ≡ true
  pub ending_now : ending new ≡ true
  pub waits_not : waits new ≡ false
