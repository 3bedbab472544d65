-- What a session's calls come to, one after another: statements are given, requests are asked, replies are shown.
use Rattle.std.specs.Prelude.{◌≡◌, Bool, true, false, List, [], ◌∷◌, ◌++◌}
use Rattle.hb_types.specs.declared.answer.Answer.{Answer}
use Rattle.hb_types.specs.declared.trail.Call.{Call}
use Rattle.hb_model.specs.Answers.{call}
use Rattle.hb_model.specs.declared.reply.Reply.{Reply}
use Rattle.hb_model.specs.declared.statement.Statement.{Statement}
use Rattle.hb_talk.specs.Sessions.{transaction}
use Rattle.hb_talk.specs.Talk.{Follows}
use Rattle.hb_wait.specs.Courses.{FollowsIn, IsExpected}
use Rattle.hb_wait.specs.Waiting.{node_asked, request_asked}
use Rattle.hb_wait.specs.declared.pending.Pending.{Pending}
use Rattle.hb_session.specs.declared.session.Progress.{Progress}
use Rattle.hb_session.specs.declared.session.Progress.TheVariants as progress
use Rattle.hb_session.specs.declared.stage.Stage.TheVariants as stage
use Rattle.hb_session.specs.Sitting.{Sitting, next_owner, stands}
use Rattle.hb_session.specs.Steps.{LeavesAs, Makes, GoesOn, Gives, Leads}

-- the reply that was shown
abbrev pub reply_shown : Progress → List Reply
reply_shown (progress.Shown r) = r ∷ []
reply_shown (progress.Ended r) = r ∷ []
reply_shown _ = []

abbrev pub is_end : Progress → Bool
is_end (progress.Ended r) = true
is_end _ = false

abbrev pub call_of : Pending → Answer → Call
call_of p a = call (node_asked p) (request_asked p) a

-- One request was asked, its node answered as it may, with rows of their shapes, and the session found memory.
pub record Asks (old new : Sitting) (p : Pending) (a : Answer) (shows : Progress) : Type 0 where
  pub leaves : LeavesAs shows new.stage
  pub makes : Makes old new p a shows
  pub goes : GoesOn old new a shows
  pub expected : IsExpected p a

-- from one sitting to another, with no end of a transaction between: the statements given, the calls, the replies shown
pub data Runs : Sitting → List Statement → List Call → List Reply → Sitting → Type 0 where
  stays : {s : Sitting} → Runs s [] [] [] s
  gives : {s m e : Sitting} {st : Statement} {sts : List Statement} {cs : List Call} {rs : List Reply} → Gives s m st → Runs m sts cs rs e → Runs s (st ∷ sts) cs rs e
  asks : {s m e : Sitting} {sts : List Statement} {cs : List Call} {rs : List Reply} → (p : Pending) (a : Answer) (shows : Progress) → Asks s m p a shows → is_end shows ≡ false
      → Runs m sts cs rs e → Runs s sts (call_of p a ∷ cs) (reply_shown shows ++ rs) e
  refuses : {s m e : Sitting} {sts : List Statement} {cs : List Call} {rs : List Reply} → (shows : Progress) → LeavesAs shows m.stage → Leads (stands s) m shows → is_end shows ≡ false
      → Runs m sts cs rs e → Runs s sts cs (reply_shown shows ++ rs) e

-- what was asked and shown, and then what is still to be asked and said, is what was to be asked and said
abbrev pub RunsFollow : Type 0
RunsFollow =
    (old new : Sitting) (given : List Statement) (calls : List Call) (replies : List Reply) → Runs old given calls replies new
    → (sts : List Statement) (cs : List Call) (rs : List Reply) → FollowsIn (stands new sts) cs rs → FollowsIn (stands old (given ++ sts)) (calls ++ cs) (replies ++ rs)

-- up to the end of a transaction, the calls and the replies are those of the talk of what was given
abbrev pub EndsFollow : Type 0
EndsFollow =
    (old last new : Sitting) (given : List Statement) (calls : List Call) (replies : List Reply) → Runs old given calls replies last
    → (p : Pending) (a : Answer) (r : Reply) → Asks last new p a (progress.Ended r)
    → FollowsIn (stands old given) (calls ++ call_of p a ∷ []) (replies ++ r ∷ [])

-- from a first statement on, they are those of the talk of a transaction of the next owner
abbrev pub TransactionsFollow : Type 0
TransactionsFollow =
    (old last new : Sitting) (st : Statement) (given : List Statement) (calls : List Call) (replies : List Reply) → old.stage ≡ stage.Idle
    → Runs old (st ∷ given) calls replies last → (p : Pending) (a : Answer) (r : Reply) → Asks last new p a (progress.Ended r)
    → Follows false (transaction old.back_ends (next_owner old) (st ∷ given)) (calls ++ call_of p a ∷ []) (replies ++ r ∷ [])
