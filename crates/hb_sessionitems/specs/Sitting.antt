-- The items of a session's transaction.
use Rattle.std.specs.Prelude.{◌≡◌, ◌≢◌, ◌≤◌, IsTrue, List, [], ◌∷◌, ◌++◌}
use Rattle.hb_types.specs.declared.answer.Answer.{Answer}
use Rattle.hb_types.specs.declared.trail.Call.{Call}
use Rattle.hb_types.specs.Lists.{Each}
use Rattle.hb_model.specs.declared.reply.Reply.{Reply}
use Rattle.hb_model.specs.Plain.{is_plain}
use Rattle.hb_wait.specs.declared.pending.Pending.{Pending}
use Rattle.hb_session.specs.declared.session.Progress.TheVariants as progress
use Rattle.hb_session.specs.declared.stage.Stage.TheVariants as stage
use Rattle.hb_session.specs.Runs.{Asks, Runs, call_of}
use Rattle.hb_session.specs.Sitting.{Sitting}
use Rattle.hb_planlaws.specs.Planned.{most_back_ends}
use Rattle.hb_law.specs.Transactions.{begins_of}
use Rattle.hb_itemlaws.specs.Dividing.{Divided, Given, statements}

-- From where there is no transaction to the end of one that was begun, what a session asks and shows for plain statements is divided
-- into right items.
abbrev pub SessionsAreRight : Type 0
SessionsAreRight =
    (old last new : Sitting) (work : Given) (works : List Given) (calls : List Call) (replies : List Reply) → old.back_ends ≤ most_back_ends
    → Each (λ w. IsTrue (is_plain w.1)) (work ∷ works) → old.stage ≡ stage.Idle → Runs old (statements (work ∷ works)) calls replies last
    → (p : Pending) (a : Answer) (r : Reply) → Asks last new p a (progress.Ended r)
    → begins_of (calls ++ call_of p a ∷ []) ≢ [] → Divided old.back_ends (work ∷ works) (calls ++ call_of p a ∷ []) (replies ++ r ∷ [])
