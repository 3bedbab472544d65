-- Which of a transaction's items begins it, and which ask something of it.
use Rattle.std.specs.Prelude.{◌≡◌, ◌≢◌, ℕ, ◌≤◌, Bool, true, false, IsTrue, List, [], ◌∷◌, ◌++◌, Some, None, ⊤}
use Rattle.hb_types.specs.declared.answer.Answer.TheVariants as answer
use Rattle.hb_types.specs.declared.names.Owner.{Owner}
use Rattle.hb_types.specs.declared.request.Request.{Request}
use Rattle.hb_types.specs.declared.request.Request.TheVariants as request
use Rattle.hb_types.specs.declared.trail.Call.{Call}
use Rattle.hb_types.specs.Lists.{Each}
use Rattle.hb_model.specs.declared.reply.Reply.{Reply}
use Rattle.hb_model.specs.Answers.{call}
use Rattle.hb_model.specs.Items.{Item}
use Rattle.hb_model.specs.Plain.{is_plain}
use Rattle.hb_talk.specs.Ends.{fes1}
use Rattle.hb_talk.specs.Sessions.{transaction}
use Rattle.hb_talk.specs.Talk.{Follows}
use Rattle.hb_planlaws.specs.Planned.{most_back_ends}
use Rattle.hb_law.specs.Callers.{is_begun}
pub use Rattle.hb_runs.specs.Kinds.{is_begin}
use Rattle.hb_law.specs.Transactions.{AllAsk, BeginsIt, begins_of, own_items, tx_asked}
use Rattle.hb_itemlaws.specs.Dividing.{Divided, Given, statements}
use Rattle.hb_itemlaws.specs.GivingUp.{Closed, GivenUp, closing}

-- only a Begin is answered that a transaction begun, as a system answers
abbrev pub AreBegins : List Call → Type 0
AreBegins calls = Each (λ c. IsTrue (is_begun c.answer) → IsTrue (is_begin c.request)) calls

abbrev pub NoBegin : List Call → Type 0
NoBegin calls = Each (λ c. is_begin c.request ≡ false) calls

-- the first call, if there is one, asks something of this transaction
abbrev pub StartsOwn : ℕ → List Call → Type 0
StartsOwn tx [] = ⊤
StartsOwn tx (c ∷ cs) = tx_asked c.request ≡ Some tx

-- The first item begins this transaction, and is the first of those that are not idle; each other of these begins none, and asks
-- something of it, or nothing at all while it is open.
pub record AreOwn (tx : ℕ) (items : List Item) : Type 0 where
  pub first : Item
  pub more : List Item
  pub parts : items ≡ first ∷ more
  pub others : List Item
  pub own : own_items items ≡ first ∷ others
  pub begins : BeginsIt tx first.calls
  pub asked : AllAsk tx first.calls others

-- a division of a transaction's calls whose items are its own
abbrev pub DividedOwn : ℕ → List Given → List Call → List Reply → Type 0
DividedOwn back_ends works calls replies = (d : Divided back_ends works calls replies) × (tx : ℕ) × AreOwn tx d.items

-- So is a transaction divided that was begun, if the answers are a system's.
abbrev pub TransactionsAreOwn : Type 0
TransactionsAreOwn =
    (back_ends : ℕ) (owner : Owner) (work : Given) (works : List Given) (calls : List Call) (replies : List Reply) → back_ends ≤ most_back_ends
    → Each (λ w. IsTrue (is_plain w.1)) (work ∷ works) → Follows false (transaction back_ends owner (statements (work ∷ works))) calls replies
    → AreBegins calls → begins_of calls ≢ [] → DividedOwn back_ends (work ∷ works) calls replies

-- One that was not begun asks nothing of any transaction.
abbrev pub UnbegunAskNothing : Type 0
UnbegunAskNothing =
    (back_ends : ℕ) (owner : Owner) (work : Given) (works : List Given) (calls : List Call) (replies : List Reply)
    → Follows false (transaction back_ends owner (statements (work ∷ works))) calls replies → begins_of calls ≡ [] → Each (λ c. tx_asked c.request ≡ None) calls

-- ---- where it is given up

-- the calls begin with the Begin of this transaction, and there is no other
abbrev pub IsBegun : Owner → ℕ → List Call → Type 0
IsBegun owner tx calls = (more : List Call) × (calls ≡ call fes1 (request.Begin owner) (answer.Begun (record { 0 = tx })) ∷ more) × NoBegin more

-- So is a transaction divided that is given up amid a statement, if it is this one that is rolled back.
abbrev pub GivenUpAreOwn : Type 0
GivenUpAreOwn =
    (back_ends : ℕ) (owner : Owner) (works : List Given) (calls : List Call) (replies : List Reply) (why : Reply) → back_ends ≤ most_back_ends → Each (λ w. IsTrue (is_plain w.1)) works
    → (g : GivenUp back_ends true works calls replies why) → AreBegins calls → IsBegun owner g.tx calls → (replies ≢ [] → StartsOwn g.tx g.back)
    → (d : Divided back_ends works calls (replies ++ why ∷ [])) × AreOwn g.tx d.items

-- And so it is between two, with the rolling back as the last item.
abbrev pub ClosedAreOwn : Type 0
ClosedAreOwn =
    (back_ends place : ℕ) (owner : Owner) (works : List Given) (calls : List Call) (replies : List Reply) (why : Reply) → back_ends ≤ most_back_ends → Each (λ w. IsTrue (is_plain w.1)) works
    → (g : GivenUp back_ends false works calls replies why) → AreBegins calls → IsBegun owner g.tx calls → (replies ≢ [] → StartsOwn g.tx g.back)
    → (c : Closed back_ends place works calls replies why) × AreOwn g.tx (c.items ++ closing place c.last why ∷ [])
