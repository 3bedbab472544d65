-- The lists of all callers and their transactions, from those of each.
use Rattle.std.specs.Prelude.{◌≡◌, ℕ, ◌+◌, List, [], ◌∷◌, ◌++◌}
use Rattle.hb_types.specs.Lists.{Each}
use Rattle.hb_model.specs.Items.{Item}
use Rattle.hb_law.specs.Transactions.{AreTxns, IsLoose, IsRightTxn, OutcomesTold, ShowsAnswered, TellsOutcome, Txn, begins_of}
use Rattle.hb_lives.specs.Stretches.{AreTold}

-- the lists of sessions from one number on, and their transactions one after another
pub data Listed (back_ends : ℕ) (lists : List (List Item)) : ℕ → List (List Item) → List Txn → Type 0 where
  none : {session : ℕ} → Listed back_ends lists session [] []
  next : {session : ℕ} {items : List Item} {rest : List (List Item)} {own txns : List Txn} → AreTold back_ends session lists items own
      → Listed back_ends lists (session + 1) rest txns → Listed back_ends lists session (items ∷ rest) (own ++ txns)

-- the operator begins nothing, and tells outcomes of transactions that there are
pub record IsOperators (txns : List Txn) (i : Item) : Type 0 where
  pub nothing_done : IsLoose i
  pub none : begins_of i.calls ≡ []
  pub numbers : ShowsAnswered i
  pub outcomes : Each (TellsOutcome txns i.calls) i.lines

-- what the law of composition asks of all lists
pub record AllTold (back_ends : ℕ) (lists : List (List Item)) (all : List Txn) : Type 0 where
  pub txns : AreTxns lists all
  pub right : Each (IsRightTxn back_ends) all
  pub outcomes : Each (OutcomesTold all) lists
  pub numbers : Each (Each ShowsAnswered) lists

-- It is so of the operator's list and the sessions' where it is so of each.
abbrev pub ListsAreTold : Type 0
ListsAreTold =
    (back_ends : ℕ) (operator : List Item) (lists : List (List Item)) (txns : List Txn) → Each (IsOperators txns) operator
    → Listed back_ends (operator ∷ lists) 0 lists txns → AllTold back_ends (operator ∷ lists) txns
