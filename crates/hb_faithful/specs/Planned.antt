-- The calls of a statement's item: those of its plan, with what is asked beside it; and when they are faithful.
use Rattle.std.specs.Prelude.{◌≡◌, ℕ, ◌≤◌, Bool, true, false, ◌||◌, IsTrue, List, [], ◌++◌, Result, Ok, Err}
use Rattle.hb_types.specs.declared.request.Request.{Request}
use Rattle.hb_types.specs.declared.request.Request.TheVariants as request
use Rattle.hb_types.specs.declared.trail.Call.{Call}
use Rattle.hb_types.specs.Lists.{Each}
use Rattle.hb_model.specs.declared.reply.Reply.{Reply}
use Rattle.hb_model.specs.declared.statement.Statement.{Statement}
use Rattle.hb_model.specs.declared.statement.Statement.TheVariants as statement
use Rattle.hb_model.specs.Answers.{HasAsked, given, is_decide, is_undoing}
use Rattle.hb_model.specs.Asked.{AreWhereAsked}
use Rattle.hb_model.specs.Faithful.{Faithful}
use Rattle.hb_model.specs.Items.{Spent}
use Rattle.hb_model.specs.Locking.{LocksByTable}
use Rattle.hb_model.specs.Outside.{is_outside, says_undone}
use Rattle.hb_talk.specs.Ends.{rolling_back}
use Rattle.hb_talk.specs.PlansDefine.{plan}
use Rattle.hb_talk.specs.Sessions.{rolls_back}
use Rattle.hb_talk.specs.Talk.{Begins, Follows, Use}
use Rattle.hb_plancalc.specs.Counted.{IsWithin, reply_in, spent_of}
use Rattle.hb_planlaws.specs.Planned.{most_back_ends}
use Rattle.hb_law.specs.Standing.{leaves_open}
use Rattle.hb_law.specs.Transactions.{is_rows, is_select}

-- a request that neither locks, reads, writes nor decides, as those by which a transaction begins and is rolled back
abbrev pub is_beside : Request → Bool
is_beside (request.Lock tx p m) = false
is_beside (request.Read tx place) = false
is_beside (request.Scan tx space) = false
is_beside (request.ScanGroup tx space group) = false
is_beside (request.Write tx change) = false
is_beside (request.Decide tx votes) = false
is_beside _ = true

abbrev pub AreBeside : List Call → Type 0
AreBeside calls = Each (λ c. IsTrue (is_beside c.request)) calls

-- calls that may come before the plan: they are answered no rows, and undo nothing
pub record Opens (calls : List Call) : Type 0 where
  pub beside : AreBeside calls
  pub no_rows : given calls ≡ []
  pub undoes_none : Each (λ c. is_undoing c.request ≡ false) calls

-- calls that may come behind the plan, and roll the transaction back where the reply says so
pub record Closes (calls : List Call) (r : Reply) : Type 0 where
  pub beside : AreBeside calls
  pub undone : IsTrue (says_undone r) → HasAsked is_undoing calls

-- ---- a statement that had its reply

-- Calls of which some follow the plan of this statement, from this use, and the reply that it came to.
pub record FollowsPlan (back_ends : ℕ) (st : Statement) (u : Use) (calls : List Call) (r : Reply) : Type 0 where
  pub front : List Call
  pub asked : List Call
  pub back : List Call
  pub parts : calls ≡ front ++ (asked ++ back)
  pub outcome : Result Reply Reply
  pub last : Use
  pub follows : Follows false (plan back_ends st u) asked (outcome, last)
  pub replies : reply_in outcome ≡ r
  pub opens : Opens front
  pub closes : Closes back r

-- From a use within the limits they are faithful.
abbrev pub PlanIsFaithful : Statement → Type 0
PlanIsFaithful st =
    (back_ends : ℕ) (u : Use) (calls : List Call) (r : Reply) → back_ends ≤ most_back_ends → IsWithin u → FollowsPlan back_ends st u calls r
    → (full : Bool) × Faithful back_ends (spent_of u) full st calls r

-- ---- a statement that was given up, or has no reply yet

-- Calls of which some begin the plan of this statement.
pub record BeginsPlan (back_ends : ℕ) (st : Statement) (u : Use) (calls : List Call) (r : Reply) : Type 0 where
  pub front : List Call
  pub asked : List Call
  pub back : List Call
  pub parts : calls ≡ front ++ (asked ++ back)
  pub begins : Begins (plan back_ends st u) asked
  pub opens : Opens front
  pub closes : Closes back r

-- With a reply from outside they are faithful, whatever was spent.
abbrev pub GivenUpIsFaithful : Statement → Type 0
GivenUpIsFaithful st =
    (back_ends : ℕ) (u : Use) (calls : List Call) (r : Reply) (spent : Spent) → IsWithin u → BeginsPlan back_ends st u calls r → IsTrue (is_outside r)
    → Faithful back_ends spent false st calls r

abbrev pub UnfinishedIsRight : Statement → Type 0
UnfinishedIsRight st =
    (back_ends : ℕ) (u : Use) (front asked : List Call) → IsWithin u → Opens front → Begins (plan back_ends st u) asked
    → (¬ (HasAsked is_decide (front ++ asked))) × (AreWhereAsked (front ++ asked) → LocksByTable st (front ++ asked))

-- ---- rolling back

-- COMMIT and ROLLBACK have no plan but a reply
abbrev pub is_planned : Statement → Bool
is_planned statement.Commit = false
is_planned statement.Rollback = false
is_planned _ = true

-- whether a session rolls its transaction back for what a plan came to
abbrev pub is_rolled_back : Result Reply Reply → Bool
is_rolled_back (Ok r) = false
is_rolled_back (Err r) = rolls_back r

-- Whatever the answers, the reply says that the transaction was rolled back exactly where a session rolls it back.
abbrev pub PlanTellsUndone : Statement → Type 0
PlanTellsUndone st =
    (back_ends : ℕ) (u v : Use) (calls : List Call) (r : Result Reply Reply) → Follows false (plan back_ends st u) calls (r, v) → says_undone (reply_in r) ≡ is_rolled_back r

-- Whatever the answers, the reply leaves the transaction open, or says that it was rolled back; and a SELECT alone shows rows.
abbrev pub PlanReplies : Statement → Type 0
PlanReplies st =
    (back_ends : ℕ) (u v : Use) (calls : List Call) (r : Result Reply Reply) → Follows false (plan back_ends st u) calls (r, v)
    → IsTrue (leaves_open (reply_in r) || says_undone (reply_in r)) × (IsTrue (is_rows (reply_in r)) → IsTrue (is_select st))

-- What is asked to roll a transaction back closes an item, with the reply for which that is done.
abbrev pub RollingBackCloses : Type 0
RollingBackCloses =
    (u : Use) (prepared : ℕ) (r said : Reply) (calls : List Call) → Follows false (rolling_back u prepared r) calls said → (said ≡ r) × Closes calls r
