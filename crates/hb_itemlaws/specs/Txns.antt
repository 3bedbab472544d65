-- A transaction of statements is right, whatever its calls are answered.
use Rattle.std.specs.Prelude.{◌≡◌, ◌≢◌, ℕ, Bool, false, IsTrue, List, [], ◌∷◌, ◌++◌}
use Rattle.hb_types.specs.declared.names.Owner.{Owner}
use Rattle.hb_types.specs.declared.trail.Call.{Call}
use Rattle.hb_types.specs.Lists.{Each}
use Rattle.hb_model.specs.declared.reply.Reply.{Reply}
use Rattle.hb_model.specs.declared.statement.Statement.{Statement}
use Rattle.hb_model.specs.Items.{Doing, Item}
use Rattle.hb_model.specs.Outside.{is_outside}
use Rattle.hb_talk.specs.Sessions.{transaction}
use Rattle.hb_talk.specs.Talk.{Follows}
use Rattle.hb_faithful.specs.Planned.{is_planned}
use Rattle.hb_law.specs.Transactions.{IsLoose, IsRightTxn, NamesOwner, ShowsAnswered, TellsOutcome, Txn, begins_of, own_items}
use Rattle.hb_itemlaws.specs.Dividing.{Divided, Given, statements}
use Rattle.hb_itemlaws.specs.GivingUp.{Closed, GivenUp, closing}
use Rattle.hb_itemlaws.specs.Owning.{AreOwn}

-- ---- whom the replies name

-- an unknown outcome is told of this owner
abbrev pub NameOwner : Owner → List Reply → Type 0
NameOwner owner replies = Each (NamesOwner owner) replies

abbrev pub TransactionsNameOwner : Type 0
TransactionsNameOwner =
    (back_ends : ℕ) (owner : Owner) (sts : List Statement) (calls : List Call) (replies : List Reply) → Follows false (transaction back_ends owner sts) calls replies
    → NameOwner owner replies

-- one that is given up tells no outcome of any
abbrev pub GivenUpNameOwner : Type 0
GivenUpNameOwner =
    (back_ends : ℕ) (amidst : Bool) (owner : Owner) (works : List Given) (calls : List Call) (replies : List Reply) (why : Reply) → GivenUp back_ends amidst works calls replies why
    → NameOwner owner (replies ++ why ∷ [])

-- ---- right transactions

-- An item's lines show no number but that which its Decide was answered, and tell no outcome that was asked for.
pub record TellsOwn (i : Item) : Type 0 where
  pub numbers : ShowsAnswered i
  pub outcomes : (txns : List Txn) → Each (TellsOutcome txns i.calls) i.lines

-- Of these items the first begins the transaction, and those that are not idle are a right transaction of this owner.
pub record AreRightItems (back_ends : ℕ) (owner : Owner) (tx : ℕ) (items : List Item) : Type 0 where
  pub own : AreOwn tx items
  pub right : IsRightTxn back_ends (record { owner = owner; tx = tx; items = own_items items })
  pub tells : Each TellsOwn items

-- So it is with a division into a transaction's own items, if the first statement is no COMMIT or ROLLBACK.
abbrev pub TxnsAreRight : Type 0
TxnsAreRight =
    (back_ends tx : ℕ) (owner : Owner) (work : Given) (works : List Given) (calls : List Call) (replies : List Reply) → IsTrue (is_planned work.1) → NameOwner owner replies
    → (d : Divided back_ends (work ∷ works) calls replies) → AreOwn tx d.items → AreRightItems back_ends owner tx d.items

-- And with a rolling back behind statements, of which one had its reply, for a reply from outside.
abbrev pub ClosedTxnsAreRight : Type 0
ClosedTxnsAreRight =
    (back_ends tx place : ℕ) (owner : Owner) (work : Given) (works : List Given) (calls : List Call) (replies : List Reply) (why : Reply) → IsTrue (is_planned work.1)
    → IsTrue (is_outside why) → replies ≢ [] → NameOwner owner (replies ++ why ∷ []) → (c : Closed back_ends place (work ∷ works) calls replies why) → AreOwn tx (c.items ++ closing place c.last why ∷ [])
    → AreRightItems back_ends owner tx (c.items ++ closing place c.last why ∷ [])

-- which one had, where a transaction is given up between two
abbrev pub ClosedHadReplies : Type 0
ClosedHadReplies =
    (back_ends : ℕ) (work : Given) (works : List Given) (calls : List Call) (replies : List Reply) (why : Reply) → GivenUp back_ends false (work ∷ works) calls replies why → replies ≢ []

-- ---- one that was not begun

-- it had one reply, and an item with its calls and that reply is of no transaction
pub record AreLoose (calls : List Call) (replies : List Reply) : Type 0 where
  pub reply : Reply
  pub alone : replies ≡ reply ∷ []
  pub loose : (place : ℕ) (doing : Doing) → IsLoose (record { place = place; doing = doing; calls = calls; lines = reply ∷ [] })
  pub tells : (place : ℕ) (doing : Doing) → TellsOwn (record { place = place; doing = doing; calls = calls; lines = reply ∷ [] })

abbrev pub UnbegunAreLoose : Type 0
UnbegunAreLoose =
    (back_ends : ℕ) (owner : Owner) (work : Given) (works : List Given) (calls : List Call) (replies : List Reply)
    → Follows false (transaction back_ends owner (statements (work ∷ works))) calls replies → begins_of calls ≡ [] → AreLoose calls replies
