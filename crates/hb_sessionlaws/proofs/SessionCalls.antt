-- The calls of a session begin a talk that obeys.
use Rattle.std.proofs.Common.{◌≡◌, ℕ, false, List, [], ◌∷◌, ◌++◌, length, refl, ap, arith, subst, sym, append-nil}
use Rattle.hb_types.specs.declared.answer.Answer.TheVariants as answer
use Rattle.hb_types.specs.declared.request.Request.TheVariants as request
use Rattle.hb_types.specs.declared.trail.Call.{Call}
use Rattle.hb_types.specs.Lists.{Each}
use Rattle.hb_model.specs.Answers.{call}
use Rattle.hb_model.specs.declared.reply.Reply.{Reply}
use Rattle.hb_model.specs.declared.statement.Statement.{Statement}
use Rattle.hb_talk.specs.Talk.{Talk, says, asks, Follows, ends, asked, gone, ready, mgr}
use Rattle.hb_law.specs.Callers.{IsNextOwner, ObeysFrom}
use Rattle.hb_wait.specs.Courses.{Course, FollowsIn, free, halted}
use Rattle.hb_wait.specs.Waiting.{lock_of}
use Rattle.hb_wait.specs.declared.pending.Pending.TheVariants as pending
use Rattle.hb_session.specs.declared.stage.Stage.TheVariants as stage
use Rattle.hb_session.specs.Runs.{EndsFollow, RunsFollow, call_of}
use Rattle.hb_session.specs.Sitting.{Sitting, next_owner, stands, stands_at}
use Rattle.hb_obeys.specs.Obeying.{IsOfSystem}
use Rattle.hb_sessionlaws.specs.Sessions.{EndedSessionsObey, SessionsObey}
use Rattle.hb_obeys.proofs.Sessions.{transactions_obey}

-- ---- each talk comes to an end by some calls

pub record Completed {R : Type 0} (c : Course R) : Type 0 where
  pub calls : List Call
  pub said : R
  pub follows : FollowsIn c calls said

talk_ends : {R : Type 0} → (t : Talk R) → Completed (free t)
talk_ends (says r) = record { calls = []; said = r; follows = ends }
talk_ends (asks node q k) =
    let x = talk_ends (k answer.Done) in record { calls = call node q answer.Done ∷ x.calls; said = x.said; follows = asked answer.Done refl x.follows }

course_ends : {R : Type 0} → (c : Course R) → Completed c
course_ends (free t) = talk_ends t
course_ends (halted (pending.Asks node q) k) = let x = talk_ends (asks node.0 q k) in record { calls = x.calls; said = x.said; follows = x.follows }
course_ends (halted (pending.Blocked l path wanted holders) k) =
    let x = talk_ends (asks l.node.0 (lock_of l) k) in record {
      calls = call mgr (request.Wait l.tx l.node path wanted holders) answer.Gone ∷ x.calls;
      said = x.said;
      follows = gone l.tx l.path path l.mode wanted holders x.follows;
    }
course_ends (halted (pending.Waits l) k) =
    let x = talk_ends (asks l.node.0 (lock_of l) k) in record { calls = call mgr (request.Ready l.tx) answer.Ready ∷ x.calls; said = x.said; follows = ready l.tx x.follows }

-- ---- from no transaction

none_asked : {R : Type 0} (session : ℕ) (front cs more whole : List Call) (x r : R) → Follows false (says x) whole r → cs ++ more ≡ whole → ObeysFrom session front cs
none_asked session front [] more _ x r ends e = tt
none_asked session front (c ∷ cs) more _ x r ends e = absurd (omega (arith, ap length e))

idle_obeys : (s : Sitting) (given : List Statement) (front cs more : List Call) (rs : List Reply) → IsNextOwner s.index front (next_owner s)
    → FollowsIn (stands_at s given stage.Idle) (cs ++ more) rs → Each IsOfSystem cs → ObeysFrom s.index front cs
idle_obeys s [] front cs more rs next f e = none_asked s.index front cs more (cs ++ more) [] rs f refl
idle_obeys s (st ∷ given) front cs more rs next f e = transactions_obey s.back_ends s.index (next_owner s) (st ∷ given) front cs next (more, rs, f) e

from_idle : (s : Sitting) (given : List Statement) (front cs more : List Call) (rs : List Reply) → s.stage ≡ stage.Idle → IsNextOwner s.index front (next_owner s)
    → FollowsIn (stands s given) (cs ++ more) rs → Each IsOfSystem cs → ObeysFrom s.index front cs
from_idle s given front cs more rs idle next f e = idle_obeys s given front cs more rs next (subst (λ g. FollowsIn (stands_at s given g) (cs ++ more) rs) idle f) e

pub sessions_obey : RunsFollow → SessionsObey
sessions_obey follow old new given front calls replies idle next runs e =
    let x = course_ends (stands new []) in
    from_idle old (given ++ []) front calls x.calls (replies ++ x.said) idle next (follow old new given calls replies runs [] x.calls x.said x.follows) e

pub ended_sessions_obey : EndsFollow → EndedSessionsObey
ended_sessions_obey follow old last new given front calls replies idle next runs p a r h e =
    let whole : List Call = calls ++ call_of p a ∷ [] in
    from_idle old given front whole [] (replies ++ r ∷ []) idle next
    (subst (λ cs. FollowsIn (stands old given) cs (replies ++ r ∷ [])) (sym (append-nil whole)) (follow old last new given calls replies runs p a r h)) e
