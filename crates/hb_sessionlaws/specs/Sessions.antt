-- The calls of a session obey the callers' law.
use Rattle.std.specs.Prelude.{◌≡◌, List, [], ◌∷◌, ◌++◌}
use Rattle.hb_types.specs.declared.answer.Answer.{Answer}
use Rattle.hb_types.specs.declared.trail.Call.{Call}
use Rattle.hb_types.specs.Lists.{Each}
use Rattle.hb_model.specs.declared.reply.Reply.{Reply}
use Rattle.hb_model.specs.declared.statement.Statement.{Statement}
use Rattle.hb_law.specs.Callers.{IsNextOwner, ObeysFrom}
use Rattle.hb_wait.specs.declared.pending.Pending.{Pending}
use Rattle.hb_session.specs.declared.session.Progress.TheVariants as progress
use Rattle.hb_session.specs.declared.stage.Stage.TheVariants as stage
use Rattle.hb_session.specs.Runs.{Asks, Runs, call_of}
use Rattle.hb_session.specs.Sitting.{Sitting, next_owner}
use Rattle.hb_obeys.specs.Obeying.{IsOfSystem}

-- From where there is no transaction, what a session asks for the statements that it is given obeys, however far it came.
abbrev pub SessionsObey : Type 0
SessionsObey =
    (old new : Sitting) (given : List Statement) (front calls : List Call) (replies : List Reply) → old.stage ≡ stage.Idle
    → IsNextOwner old.index front (next_owner old) → Runs old given calls replies new → Each IsOfSystem calls → ObeysFrom old.index front calls

-- and so does it with the call by which the transaction ends
abbrev pub EndedSessionsObey : Type 0
EndedSessionsObey =
    (old last new : Sitting) (given : List Statement) (front calls : List Call) (replies : List Reply) → old.stage ≡ stage.Idle
    → IsNextOwner old.index front (next_owner old) → Runs old given calls replies last → (p : Pending) (a : Answer) (r : Reply) → Asks last new p a (progress.Ended r)
    → Each IsOfSystem (calls ++ call_of p a ∷ []) → ObeysFrom old.index front (calls ++ call_of p a ∷ [])
