-- A session's items by stretches: each is a transaction of its own, or an item of none.
use Rattle.std.specs.Prelude.{◌≡◌, ◌≢◌, ℕ, ◌+◌, List, [], ◌∷◌, ◌++◌, Some, slice_get, ⊤}
use Rattle.hb_types.specs.declared.names.Owner.{Owner}
use Rattle.hb_types.specs.Lists.{Each, Has}
use Rattle.hb_model.specs.Items.{Item, calls_of}
use Rattle.hb_law.specs.Callers.{Obeys, begun_count}
use Rattle.hb_law.specs.Transactions.{IsLoose, IsOfStatements, IsRightTxn, IsSomebodys, IsTxnOf, OutcomesTold, ShowsAnswered, Txn, begins_of, own_items}
use Rattle.hb_itemlaws.specs.Owning.{AreBegins}
use Rattle.hb_itemlaws.specs.Txns.{AreRightItems, TellsOwn}

abbrev pub txn_of : Owner → ℕ → List Item → Txn
txn_of owner tx items = record { owner = owner; tx = tx; items = own_items items }

-- an item of no transaction begins none, and tells no more than it was answered
pub record IsLooseItem (i : Item) : Type 0 where
  pub nothing_done : IsLoose i
  pub none : begins_of i.calls ≡ []
  pub tells : TellsOwn i

-- items of statements that are the session's next transaction, behind these
pub record IsOwned (back_ends session : ℕ) (front : List Item) (owner : Owner) (tx : ℕ) (items : List Item) : Type 0 where
  pub right : AreRightItems back_ends owner tx items
  pub kinds : Each (λ i. IsOfStatements i.doing) items
  pub whose : owner.session ≡ session
  pub counted : owner.nth ≡ begun_count (calls_of front) + 1

-- behind the items in front, these, and the transactions that they are
pub data Stretches (back_ends session : ℕ) : List Item → List Item → List Txn → Type 0 where
  nothing : {front : List Item} → Stretches back_ends session front [] []
  loose : {front : List Item} {i : Item} {more : List Item} {txns : List Txn} → IsLooseItem i → Stretches back_ends session (front ++ i ∷ []) more txns
      → Stretches back_ends session front (i ∷ more) txns
  owned : {front items more : List Item} {txns : List Txn} → (owner : Owner) (tx : ℕ) → IsOwned back_ends session front owner tx items
      → Stretches back_ends session (front ++ items) more txns → Stretches back_ends session front (items ++ more) (txn_of owner tx items ∷ txns)

-- each number is there once
abbrev pub AreOnce : List ℕ → Type 0
AreOnce [] = ⊤
AreOnce (x ∷ xs) = Each (λ y. y ≢ x) xs × AreOnce xs

-- what the law of composition asks of a session's list and of its transactions
pub record AreTold (back_ends session : ℕ) (lists : List (List Item)) (items : List Item) (txns : List Txn) : Type 0 where
  pub each : Each (IsTxnOf lists) txns
  pub right : Each (IsRightTxn back_ends) txns
  pub all : Each (λ tx. Has (λ t. t.tx ≡ tx) txns) (begins_of (calls_of items))
  pub none_left : Each (IsSomebodys txns (session + 1)) items
  pub numbers : Each ShowsAnswered items
  pub outcomes : (others : List Txn) → OutcomesTold others items

-- So it is with any list that is made of stretches, if its calls obey, only a Begin is answered that one begun, and no number is begun
-- twice in it.
abbrev pub StretchesAreTxns : Type 0
StretchesAreTxns =
    (back_ends session : ℕ) (lists : List (List Item)) (items : List Item) (txns : List Txn) → slice_get lists (session + 1) ≡ Some items
    → Stretches back_ends session [] items txns → Obeys session (calls_of items) → AreBegins (calls_of items) → AreOnce (begins_of (calls_of items))
    → AreTold back_ends session lists items txns
