-- A transaction's calls and replies as items, one for each statement that had its reply.
use Rattle.std.specs.Prelude.{◌≡◌, ◌≢◌, ℕ, ◌≤◌, false, IsTrue, List, [], ◌∷◌, map, ⊤}
use Rattle.hb_types.specs.declared.names.Owner.{Owner}
use Rattle.hb_types.specs.declared.trail.Call.{Call}
use Rattle.hb_types.specs.Lists.{Each}
use Rattle.hb_model.specs.declared.reply.Reply.{Reply}
use Rattle.hb_model.specs.declared.statement.Statement.{Statement}
use Rattle.hb_model.specs.Items.{Item, calls_of, nothing_spent, sql}
use Rattle.hb_model.specs.Plain.{is_plain}
use Rattle.hb_talk.specs.Sessions.{transaction}
use Rattle.hb_talk.specs.Talk.{Follows}
use Rattle.hb_planlaws.specs.Planned.{most_back_ends}
use Rattle.hb_law.specs.Transactions.{AreRight, IsBoundItem, begins_of}

-- a statement, and its place in the script
abbrev pub Given : Type 0
Given = ℕ × Statement

abbrev pub statements : List Given → List Statement
statements works = map (λ w. w.1) works

-- items of the first of these statements, each with its one reply
abbrev pub AreItemsOf : List Given → List Reply → List Item → Type 0
AreItemsOf (w ∷ ws) (r ∷ rs) (i ∷ is) = ((i.place ≡ w.0) × (i.doing ≡ sql w.1) × (i.lines ≡ r ∷ [])) × AreItemsOf ws rs is
AreItemsOf ws [] [] = ⊤
AreItemsOf _ _ _ = ⊥

-- the right items that the calls and the replies are made of
pub record Divided (back_ends : ℕ) (works : List Given) (calls : List Call) (replies : List Reply) : Type 0 where
  pub items : List Item
  pub made_of : calls_of items ≡ calls
  pub each : AreItemsOf works replies items
  pub right : AreRight back_ends nothing_spent items
  pub bound : Each IsBoundItem items

-- Whatever the answers are, a transaction that was begun is made of right items.
abbrev pub TransactionsAreRight : Type 0
TransactionsAreRight =
    (back_ends : ℕ) (owner : Owner) (work : Given) (works : List Given) (calls : List Call) (replies : List Reply) → back_ends ≤ most_back_ends
    → Each (λ w. IsTrue (is_plain w.1)) (work ∷ works) → Follows false (transaction back_ends owner (statements (work ∷ works))) calls replies
    → begins_of calls ≢ [] → Divided back_ends (work ∷ works) calls replies
