-- Which of the items of a session's transaction begins it, and which ask something of it.
use Rattle.std.specs.Prelude.{◌≡◌, ◌≢◌, ℕ, ◌≤◌, IsTrue, List, [], ◌∷◌, ◌++◌, None}
use Rattle.hb_types.specs.declared.answer.Answer.{Answer}
use Rattle.hb_types.specs.declared.trail.Call.{Call}
use Rattle.hb_types.specs.Lists.{Each}
use Rattle.hb_model.specs.declared.reply.Reply.{Reply}
use Rattle.hb_model.specs.Plain.{is_plain}
use Rattle.hb_wait.specs.declared.pending.Pending.{Pending}
use Rattle.hb_session.specs.declared.session.Progress.TheVariants as progress
use Rattle.hb_session.specs.declared.stage.Stage.TheVariants as stage
use Rattle.hb_session.specs.Runs.{Asks, Runs, call_of}
use Rattle.hb_session.specs.Sitting.{Sitting}
use Rattle.hb_session.specs.Steps.{Closes}
use Rattle.hb_planlaws.specs.Planned.{most_back_ends}
use Rattle.hb_law.specs.Callers.{ObeysFrom}
use Rattle.hb_law.specs.Transactions.{begins_of, tx_asked}
use Rattle.hb_itemlaws.specs.Dividing.{Given, statements}
use Rattle.hb_itemlaws.specs.GivingUp.{Closed, closing}
use Rattle.hb_itemlaws.specs.Owning.{AreBegins, AreOwn, DividedOwn}
use Rattle.hb_sessionitems.specs.GivingUp.{GivesUp, InTurn, RunsToEnd}

-- A transaction that was begun is divided into items of its own, the first of which begins it, if the answers are a system's.
abbrev pub SessionsAreOwn : Type 0
SessionsAreOwn =
    (old last new : Sitting) (work : Given) (works : List Given) (calls : List Call) (replies : List Reply) → old.back_ends ≤ most_back_ends
    → Each (λ w. IsTrue (is_plain w.1)) (work ∷ works) → old.stage ≡ stage.Idle → Runs old (statements (work ∷ works)) calls replies last
    → (p : Pending) (a : Answer) (r : Reply) → Asks last new p a (progress.Ended r) → AreBegins (calls ++ call_of p a ∷ [])
    → begins_of (calls ++ call_of p a ∷ []) ≢ [] → DividedOwn old.back_ends (work ∷ works) (calls ++ call_of p a ∷ []) (replies ++ r ∷ [])

-- One that was not begun asks nothing of any transaction.
abbrev pub UnbegunSessionsAskNothing : Type 0
UnbegunSessionsAskNothing =
    (old last new : Sitting) (work : Given) (works : List Given) (calls : List Call) (replies : List Reply) → old.stage ≡ stage.Idle
    → Runs old (statements (work ∷ works)) calls replies last → (p : Pending) (a : Answer) (r : Reply) → Asks last new p a (progress.Ended r)
    → begins_of (calls ++ call_of p a ∷ []) ≡ [] → Each (λ c. tx_asked c.request ≡ None) (calls ++ call_of p a ∷ [])

-- behind some calls of its session these obey
abbrev pub Obeyed : Sitting → List Call → Type 0
Obeyed s calls = (front : List Call) × ObeysFrom s.index front calls

-- So it is divided where it is given up amid a statement, if its calls obey the callers' law.
abbrev pub GivenUpSessionsAreOwn : Type 0
GivenUpSessionsAreOwn =
    (old last new : Sitting) (work : Given) (works : List Given) (calls asked rolled : List Call) (replies : List Reply) (why r : Reply) → old.back_ends ≤ most_back_ends
    → Each (λ w. IsTrue (is_plain w.1)) (work ∷ works) → old.stage ≡ stage.Idle → (runs : Runs old (statements (work ∷ works)) calls replies last) → InTurn runs
    → GivesUp last new asked why → RunsToEnd new rolled r → AreBegins (calls ++ (asked ++ rolled))
    → Obeyed old (calls ++ (asked ++ rolled)) → DividedOwn old.back_ends (work ∷ works) (calls ++ (asked ++ rolled)) (replies ++ r ∷ [])

-- and where it is given up between two, with the rolling back as the last item
abbrev pub ClosedSessionsAreOwn : Type 0
ClosedSessionsAreOwn =
    (old last new : Sitting) (work : Given) (works : List Given) (calls rolled : List Call) (replies : List Reply) (r : Reply) (place : ℕ) → old.back_ends ≤ most_back_ends
    → Each (λ w. IsTrue (is_plain w.1)) (work ∷ works) → old.stage ≡ stage.Idle → (runs : Runs old (statements (work ∷ works)) calls replies last) → InTurn runs
    → Closes last.stage new → RunsToEnd new rolled r → AreBegins (calls ++ rolled) → Obeyed old (calls ++ rolled)
    → (c : Closed old.back_ends place (work ∷ works) (calls ++ rolled) replies r) × (tx : ℕ) × AreOwn tx (c.items ++ closing place c.last r ∷ [])
