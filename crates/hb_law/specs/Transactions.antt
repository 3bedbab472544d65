-- Transactions of a record: their owners and items, and when the items are right.
use Rattle.std.specs.Prelude.{◌≡◌, ◌≢◌, ℕ, ◌+◌, ◌≤◌, ◌<◌, ◌==◌, Bool, true, false, not, ◌&&◌, ◌||◌, IsTrue, if◌then◌else◌, ◌⊎◌, List, [], ◌∷◌, ◌++◌, length, Option, Some, None, slice_get, MatchOption, ⊤}
use Rattle.std.specs.List.{list_all}
use Rattle.hb_types.specs.declared.answer.Answer.{Answer}
use Rattle.hb_types.specs.declared.answer.Answer.TheVariants as answer
use Rattle.hb_types.specs.declared.names.Owner.{Owner}
use Rattle.hb_types.specs.declared.request.Request.{Request}
use Rattle.hb_types.specs.declared.request.Request.TheVariants as request
use Rattle.hb_types.specs.declared.trail.Call.{Call}
use Rattle.hb_types.specs.Lists.{Each, Has, IsIn}
use Rattle.hb_model.specs.declared.reply.Reply.{Reply}
use Rattle.hb_model.specs.declared.reply.Reply.TheVariants as reply
use Rattle.hb_model.specs.declared.statement.Statement.{Statement}
use Rattle.hb_model.specs.declared.statement.Statement.TheVariants as statement
use Rattle.hb_model.specs.Answers.{AnswersOf, HasAsked, grants_in, is_decide, is_undoing, of_rows}
use Rattle.hb_model.specs.Asked.{AreWhereAsked}
use Rattle.hb_model.specs.Faithful.{Faithful}
use Rattle.hb_model.specs.Families.{Family}
use Rattle.hb_model.specs.Items.{Item, Doing, sql, turn, tending, calls_of, Spent, spending, nothing_spent}
use Rattle.hb_model.specs.Locking.{LocksByTable}
use Rattle.hb_model.specs.Outside.{is_outside, says_undone}
use Rattle.hb_model.specs.Sources.{Sourced}
use Rattle.hb_model.specs.State.{State}
use Rattle.hb_model.specs.System.{Sys}
use Rattle.hb_law.specs.Callers.{WasDecided, MayBeDecided, begun_count}
use Rattle.hb_law.specs.Standing.{is_aside, leaves_open}
use Rattle.hb_law.specs.Turns.{IsRightTurn, tells_decision}

-- a transaction that was begun: its owner, and the items of its caller's list that are its own
pub record Txn : Type 0 where
  pub owner : Owner
  pub tx : ℕ
  pub items : List Item

-- the transactions that calls began
abbrev pub begun_in : Answer → List ℕ
begun_in (answer.Begun tx) = tx.0 ∷ []
begun_in _ = []

abbrev pub begins_of : List Call → List ℕ
begins_of [] = []
begins_of (c ∷ cs) = begun_in c.answer ++ begins_of cs

-- the place of a session's list: that of the operator is first
abbrev pub caller_of : Owner → ℕ
caller_of o = o.session + 1

-- the transaction whose branch or end a request is of
abbrev pub tx_asked : Request → Option ℕ
tx_asked (request.Enlist tx) = Some tx.0
tx_asked (request.Lock tx p m) = Some tx.0
tx_asked (request.Read tx place) = Some tx.0
tx_asked (request.Scan tx space) = Some tx.0
tx_asked (request.ScanGroup tx space group) = Some tx.0
tx_asked (request.Write tx c) = Some tx.0
tx_asked (request.Prepare tx) = Some tx.0
tx_asked (request.Decide tx votes) = Some tx.0
tx_asked (request.Abort tx) = Some tx.0
tx_asked _ = None

-- these items ask nothing of a transaction, up to one that begins another
abbrev pub IsOver : ℕ → List Item → Type 0
IsOver tx [] = ⊤
IsOver tx (i ∷ is) = Each (λ c. tx_asked c.request ≢ Some tx) i.calls × ((begins_of i.calls ≢ []) ⊎ IsOver tx is)

-- ---- works of no transaction

-- a line that tells an outcome
abbrev pub is_told : Reply → Bool
is_told (reply.ToldCommitted o number) = true
is_told (reply.ToldRolledBack o) = true
is_told _ = false

-- a reply that may be given outside of any transaction: nothing was given, or nothing was begun
abbrev pub is_loose : Reply → Bool
is_loose r = is_aside r || is_outside r

-- an item of no transaction asks nothing of one, and tells only that nothing was done, or an outcome
pub record IsLoose (i : Item) : Type 0 where
  pub asks_none : Each (λ c. tx_asked c.request ≡ None) i.calls
  pub tells_none : Each (λ r. IsTrue (is_loose r || is_told r)) i.lines

-- An item without a call whose lines leave the session as it was. Amid a transaction no other reply may be passed over:
-- one from outside says that the transaction was rolled back.
abbrev pub is_idle : Item → Bool
is_idle i = (length i.calls == 0) && list_all is_aside i.lines

-- the items of a stretch that are a transaction's own; a statement that is refused without a call is one of them
abbrev pub own_items : List Item → List Item
own_items [] = []
own_items (i ∷ is) = if is_idle i then own_items is else i ∷ own_items is

-- calls that ask nothing of a transaction, while this one is neither decided nor undone by those before
pub record AreBeside (before calls : List Call) : Type 0 where
  pub asks_none : Each (λ c. tx_asked c.request ≡ None) calls
  pub undecided : ¬ (HasAsked is_decide before)
  pub not_undone : ¬ (HasAsked is_undoing before)

-- Each of these items begins nothing, and asks something of this transaction; or it asks nothing of any while this one is open.
abbrev pub AllAsk : ℕ → List Call → List Item → Type 0
AllAsk tx before [] = ⊤
AllAsk tx before (i ∷ is) =
    ((begins_of i.calls ≡ []) × (Has (λ c. tx_asked c.request ≡ Some tx) i.calls ⊎ AreBeside before i.calls)) × AllAsk tx (before ++ i.calls) is

-- a turn of pdrbal is right, with the items before it
abbrev pub TurnIsRight : List Item → Item → Type 0
TurnIsRight before i = of i.doing
  where
    of : Doing → Type 0
    of (turn table most) = IsRightTurn before i.place table most i.calls i.lines
    of _ = ⊤

-- a call that asks nothing of any transaction, and rolls none back
abbrev pub IsApart : Call → Type 0
IsApart c = (tx_asked c.request ≡ None) × IsTrue (not (is_undoing c.request))

-- these calls begin the transaction, once, and before that ask nothing of any
pub record BeginsIt (tx : ℕ) (calls : List Call) : Type 0 where
  pub before : List Call
  pub begin : Call
  pub more : List Call
  pub parts : calls ≡ before ++ begin ∷ more
  pub begun : begins_of (begin ∷ []) ≡ tx ∷ []
  pub apart : Each IsApart before
  pub none_before : begins_of before ≡ []
  pub none_behind : begins_of more ≡ []

-- The items are those of a stretch of the session's list that are not idle: the first begins this transaction, each other asks
-- something of it or nothing at all, and behind the stretch nothing is asked of it.
pub record IsTxnOf (lists : List (List Item)) (t : Txn) : Type 0 where
  pub front : List Item
  pub stretch : List Item
  pub back : List Item
  pub first : Item
  pub others : List Item
  pub parts : slice_get lists (caller_of t.owner) ≡ Some (front ++ stretch ++ back)
  pub own : own_items stretch ≡ first ∷ others
  pub items : t.items ≡ first ∷ others
  pub begins : BeginsIt t.tx first.calls
  pub asked : AllAsk t.tx first.calls others
  pub counted : t.owner.nth ≡ begun_count (calls_of front) + 1
  pub over : IsOver t.tx back
  -- the items are right, those of pdrbal with the items before them
  pub turns : Each (TurnIsRight front) t.items

-- ---- right items

-- the reply, if the item has its line
abbrev pub reply_in : List Reply → Option Reply
reply_in [] = None
reply_in (r ∷ rs) = Some r

-- what the reply to a COMMIT tells is what its Decide was answered
abbrev pub CommitTells : List Call → Option Reply → Type 0
CommitTells calls None = ⊤
CommitTells calls (Some (reply.Committed number)) = WasDecided number.0 calls
CommitTells calls (Some (reply.OutcomeUnknown o)) = MayBeDecided calls
CommitTells calls (Some r) = (¬ (MayBeDecided calls)) × IsTrue (says_undone r) × HasAsked is_undoing calls

-- no row is read or written, and no lock is granted
abbrev pub IsBare : List Call → Type 0
IsBare calls = (of_rows calls ≡ []) × (grants_in calls ≡ 0)

-- A COMMIT neither reads nor writes a row nor locks, and tells what was decided. Any other statement is faithful; while it has no
-- line it has decided nothing, and its locks are in the table of locks where its answers are a system's.
abbrev pub IsRightStatement : ℕ → Spent → Statement → List Call → Option Reply → Type 0
IsRightStatement back_ends spent statement.Commit calls r = IsBare calls × CommitTells calls r
IsRightStatement back_ends spent st calls (Some r) = (full : Bool) × Faithful back_ends spent full st calls r
IsRightStatement back_ends spent st calls None = (¬ (HasAsked is_decide calls)) × (AreWhereAsked calls → LocksByTable st calls)

-- what belongs to no work tells an outcome, or that the transaction was rolled back, which it asked for
abbrev pub TendingTells : List Call → Reply → Type 0
TendingTells calls r = IsTrue (is_told r) ⊎ (IsTrue (says_undone r) × HasAsked is_undoing calls)

abbrev pub IsRightTending : List Call → List Reply → Type 0
IsRightTending calls lines = (¬ (HasAsked is_decide calls)) × IsBare calls × Each (TendingTells calls) lines

abbrev pub IsRightItem : ℕ → Spent → Item → Type 0
IsRightItem back_ends spent i = of i.doing
  where
    of : Doing → Type 0
    of (sql st) = IsRightStatement back_ends spent st i.calls (reply_in i.lines)
    of (turn table most) = ⊤
    of tending = IsRightTending i.calls i.lines

-- the items of one transaction, with what was spent before each
abbrev pub AreRight : ℕ → Spent → List Item → Type 0
AreRight back_ends spent [] = ⊤
AreRight back_ends spent (i ∷ is) = IsRightItem back_ends spent i × AreRight back_ends (spending spent i.calls) is

-- a statement has one reply; only the last item may have none
abbrev pub AllAnswered : List Item → Type 0
AllAnswered [] = ⊤
AllAnswered (i ∷ []) = length i.lines ≤ 1
AllAnswered (i ∷ j ∷ is) = (length i.lines ≡ 1) × AllAnswered (j ∷ is)

-- a statement, or a rolling back at the script's end
abbrev pub IsOfStatements : Doing → Type 0
IsOfStatements (turn table most) = ⊥
IsOfStatements _ = ⊤

abbrev pub IsTurning : Doing → Type 0
IsTurning (turn table most) = ⊤
IsTurning _ = ⊥

-- statements, each with its reply; or one turn of pdrbal, which is a transaction of its own
abbrev pub AreOfAKind : List Item → Type 0
AreOfAKind items = (Each (λ i. IsOfStatements i.doing) items × AllAnswered items) ⊎ ((i : Item) × (items ≡ i ∷ []) × IsTurning i.doing)

-- ---- whatever is answered

abbrev pub is_rows : Reply → Bool
is_rows (reply.Rows rows) = true
is_rows _ = false

abbrev pub is_select : Statement → Bool
is_select (statement.Select w table pred) = true
is_select _ = false

-- a statement but COMMIT leaves its transaction open, or says that it was rolled back; a SELECT alone shows rows
pub record IsReplyTo (st : Statement) (calls : List Call) (r : Reply) : Type 0 where
  pub replied : IsTrue (leaves_open r || says_undone r)
  pub of_select : IsTrue (is_rows r) → IsTrue (is_select st)
  pub undone : IsTrue (says_undone r) → HasAsked is_undoing calls
  pub sourced : AreWhereAsked calls → Sourced st calls r

-- A statement decides nothing and locks by the table of locks; a COMMIT tells what was decided.
abbrev pub IsBoundStatement : Statement → List Call → List Reply → Type 0
IsBoundStatement statement.Commit calls lines = IsBare calls × CommitTells calls (reply_in lines)
IsBoundStatement st calls lines = (¬ (HasAsked is_decide calls)) × (AreWhereAsked calls → LocksByTable st calls) × Each (IsReplyTo st calls) lines

-- a line of pdrbal tells of a decision, or that it was rolled back, or why it was refused
abbrev pub is_of_turn : Reply → Bool
is_of_turn r = tells_decision r || (says_undone r || (leaves_open r && not (is_rows r)))

-- what is so of an item whatever the answers to its calls are
abbrev pub IsBoundItem : Item → Type 0
IsBoundItem i = of i.doing
  where
    of : Doing → Type 0
    of (sql st) = IsBoundStatement st i.calls i.lines
    of (turn table most) = Each (λ r. IsTrue (is_of_turn r)) i.lines
    of tending = IsRightTending i.calls i.lines

-- the answers are those that the rows of a system give
abbrev pub AreOfSystem : ℕ → List Call → Type 0
AreOfSystem back_ends calls = (family : Family) × (s : State) × Sys back_ends family s × AnswersOf family calls

-- an unknown outcome is told of its own transaction
abbrev pub NamesOwner : Owner → Reply → Type 0
NamesOwner owner (reply.OutcomeUnknown o) = o ≡ owner
NamesOwner owner _ = ⊤

abbrev pub NamesItself : Txn → Type 0
NamesItself t = Each (λ i. Each (NamesOwner t.owner) i.lines) t.items

-- COMMIT and ROLLBACK begin no transaction, nor does what belongs to no work
abbrev pub BeginsWell : Doing → Type 0
BeginsWell (sql statement.Commit) = ⊥
BeginsWell (sql statement.Rollback) = ⊥
BeginsWell tending = ⊥
BeginsWell _ = ⊤

abbrev pub FirstBeginsWell : List Item → Type 0
FirstBeginsWell [] = ⊥
FirstBeginsWell (i ∷ is) = BeginsWell i.doing

-- A transaction is right: where it asked for its decision, and its answers are a system's, its statements do what they do; the rest is so
-- whatever it is answered.
pub record IsRightTxn (back_ends : ℕ) (t : Txn) : Type 0 where
  pub right : HasAsked is_decide (calls_of t.items) → AreOfSystem back_ends (calls_of t.items) → AreRight back_ends nothing_spent t.items
  pub bound : Each IsBoundItem t.items
  pub kinds : AreOfAKind t.items
  pub named : NamesItself t
  pub begins : FirstBeginsWell t.items

-- an item is a transaction's, or it did nothing
abbrev pub IsSomebodys : List Txn → ℕ → Item → Type 0
IsSomebodys txns caller i = Has (λ t. (caller_of t.owner ≡ caller) × IsIn i t.items) txns ⊎ IsLoose i

-- the transactions are all that the lists began, and every item is one's or did nothing
pub record AreTxns (lists : List (List Item)) (txns : List Txn) : Type 0 where
  pub each : Each (IsTxnOf lists) txns
  pub all : Each (λ list. Each (λ tx. Has (λ t. t.tx ≡ tx) txns) (begins_of (calls_of list))) lists
  pub none_left : (caller : ℕ) (list : List Item) → slice_get lists caller ≡ Some list → Each (IsSomebodys txns caller) list

-- ---- owners

-- an owner has one transaction and a transaction one owner, and a session's transactions ascend as it began them
pub record OwnersApart (txns : List Txn) : Type 0 where
  pub one_tx : (t u : Txn) → IsIn t txns → IsIn u txns → t.owner ≡ u.owner → t.tx ≡ u.tx
  pub one_owner : (t u : Txn) → IsIn t txns → IsIn u txns → t.tx ≡ u.tx → t.owner ≡ u.owner
  pub ascend : (t u : Txn) → IsIn t txns → IsIn u txns → t.owner.session ≡ u.owner.session → t.owner.nth < u.owner.nth → t.tx < u.tx

-- ---- numbers

-- the number of its own decision that a line shows
abbrev pub number_of : Reply → Option ℕ
number_of (reply.Committed number) = Some number.0
number_of (reply.Moved rows group number) = Some number.0
number_of (reply.Complete number) = Some number.0
number_of (reply.Suspended turns number) = Some number.0
number_of _ = None

-- a line that shows a number is of an item whose Decide was answered with it
abbrev pub ShowsAnswered : Item → Type 0
ShowsAnswered i = Each (λ r. MatchOption (number_of r) ⊤ (λ n. WasDecided n i.calls)) i.lines

-- ---- what the operator tells

abbrev pub WasAnswered : ℕ → Answer → List Call → Type 0
WasAnswered tx a calls = Has (λ c. (c.request ≡ request.Outcome (record { 0 = tx })) × (c.answer ≡ a)) calls

-- a line that tells an owner's outcome is of an owner that there is, and tells what Outcome was answered in its item
abbrev pub TellsOutcome : List Txn → List Call → Reply → Type 0
TellsOutcome txns calls (reply.ToldCommitted o number) = Has (λ t. (t.owner ≡ o) × WasAnswered t.tx (answer.Decided number) calls) txns
TellsOutcome txns calls (reply.ToldRolledBack o) = Has (λ t. (t.owner ≡ o) × WasAnswered t.tx answer.Aborted calls) txns
TellsOutcome txns calls r = ⊤

-- what belongs to no work tells outcomes rightly
abbrev pub OutcomesTold : List Txn → List Item → Type 0
OutcomesTold txns list = Each (λ i. Each (TellsOutcome txns i.calls) i.lines) list
