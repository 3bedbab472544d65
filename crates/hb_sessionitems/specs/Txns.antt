-- The items of a session's transaction are those of a right one.
use Rattle.std.specs.Prelude.{◌≡◌, ◌≢◌, ℕ, ◌≤◌, IsTrue, List, [], ◌∷◌, ◌++◌}
use Rattle.hb_types.specs.declared.answer.Answer.{Answer}
use Rattle.hb_types.specs.declared.names.Owner.{Owner}
use Rattle.hb_types.specs.declared.trail.Call.{Call}
use Rattle.hb_types.specs.Lists.{Each}
use Rattle.hb_model.specs.declared.reply.Reply.{Reply}
use Rattle.hb_model.specs.Plain.{is_plain}
use Rattle.hb_wait.specs.declared.pending.Pending.{Pending}
use Rattle.hb_session.specs.declared.session.Progress.TheVariants as progress
use Rattle.hb_session.specs.declared.stage.Stage.TheVariants as stage
use Rattle.hb_session.specs.Runs.{Asks, Runs, call_of}
use Rattle.hb_session.specs.Sitting.{Sitting, next_owner}
use Rattle.hb_session.specs.Steps.{Closes}
use Rattle.hb_planlaws.specs.Planned.{most_back_ends}
use Rattle.hb_faithful.specs.Planned.{is_planned}
use Rattle.hb_law.specs.Transactions.{begins_of}
use Rattle.hb_itemlaws.specs.Dividing.{Divided, Given, statements}
use Rattle.hb_itemlaws.specs.GivingUp.{Closed, closing}
use Rattle.hb_itemlaws.specs.Owning.{AreBegins}
use Rattle.hb_itemlaws.specs.Txns.{AreLoose, AreRightItems}
use Rattle.hb_sessionitems.specs.GivingUp.{GivesUp, InTurn, RunsToEnd}
use Rattle.hb_sessionitems.specs.Owning.{Obeyed}

-- a division whose items are a right transaction of this owner
abbrev pub DividedRightly : ℕ → Owner → List Given → List Call → List Reply → Type 0
DividedRightly back_ends owner works calls replies = (d : Divided back_ends works calls replies) × (tx : ℕ) × AreRightItems back_ends owner tx d.items

-- So is a transaction divided that was begun, for a first statement that is no COMMIT or ROLLBACK.
abbrev pub SessionsAreTxns : Type 0
SessionsAreTxns =
    (old last new : Sitting) (work : Given) (works : List Given) (calls : List Call) (replies : List Reply) → old.back_ends ≤ most_back_ends
    → Each (λ w. IsTrue (is_plain w.1)) (work ∷ works) → IsTrue (is_planned work.1) → old.stage ≡ stage.Idle → Runs old (statements (work ∷ works)) calls replies last
    → (p : Pending) (a : Answer) (r : Reply) → Asks last new p a (progress.Ended r) → AreBegins (calls ++ call_of p a ∷ [])
    → begins_of (calls ++ call_of p a ∷ []) ≢ [] → DividedRightly old.back_ends (next_owner old) (work ∷ works) (calls ++ call_of p a ∷ []) (replies ++ r ∷ [])

-- so is one that is given up amid a statement,
abbrev pub GivenUpSessionsAreTxns : Type 0
GivenUpSessionsAreTxns =
    (old last new : Sitting) (work : Given) (works : List Given) (calls asked rolled : List Call) (replies : List Reply) (why r : Reply) → old.back_ends ≤ most_back_ends
    → Each (λ w. IsTrue (is_plain w.1)) (work ∷ works) → IsTrue (is_planned work.1) → old.stage ≡ stage.Idle → (runs : Runs old (statements (work ∷ works)) calls replies last)
    → InTurn runs → GivesUp last new asked why → RunsToEnd new rolled r → AreBegins (calls ++ (asked ++ rolled))
    → Obeyed old (calls ++ (asked ++ rolled)) → DividedRightly old.back_ends (next_owner old) (work ∷ works) (calls ++ (asked ++ rolled)) (replies ++ r ∷ [])

-- and one that is given up between two, with the rolling back as the last item
abbrev pub ClosedSessionsAreTxns : Type 0
ClosedSessionsAreTxns =
    (old last new : Sitting) (work : Given) (works : List Given) (calls rolled : List Call) (replies : List Reply) (r : Reply) (place : ℕ) → old.back_ends ≤ most_back_ends
    → Each (λ w. IsTrue (is_plain w.1)) (work ∷ works) → IsTrue (is_planned work.1) → old.stage ≡ stage.Idle → (runs : Runs old (statements (work ∷ works)) calls replies last)
    → InTurn runs → Closes last.stage new → RunsToEnd new rolled r → AreBegins (calls ++ rolled) → Obeyed old (calls ++ rolled)
    → (c : Closed old.back_ends place (work ∷ works) (calls ++ rolled) replies r) × (tx : ℕ) × AreRightItems old.back_ends (next_owner old) tx (c.items ++ closing place c.last r ∷ [])

-- One that was not begun had one reply, with which it is an item of no transaction.
abbrev pub UnbegunSessionsAreLoose : Type 0
UnbegunSessionsAreLoose =
    (old last new : Sitting) (work : Given) (works : List Given) (calls : List Call) (replies : List Reply) → old.stage ≡ stage.Idle
    → Runs old (statements (work ∷ works)) calls replies last → (p : Pending) (a : Answer) (r : Reply) → Asks last new p a (progress.Ended r)
    → begins_of (calls ++ call_of p a ∷ []) ≡ [] → AreLoose (calls ++ call_of p a ∷ []) (replies ++ r ∷ [])
