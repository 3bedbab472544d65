-- Right items of one transaction, over the rows of a system, are the transaction run alone.
use Rattle.std.specs.Prelude.{◌≡◌, ◌≢◌, ℕ, IsTrue, List, [], not, ⊤}
use Rattle.hb_types.specs.declared.trail.Call.{Call}
use Rattle.hb_types.specs.Lists.{Each}
use Rattle.hb_model.specs.declared.reply.Reply.{Reply}
use Rattle.hb_model.specs.declared.statement.Statement.TheVariants as statement
use Rattle.hb_model.specs.Answers.{AnswersOf, afters}
use Rattle.hb_model.specs.Families.{Family}
use Rattle.hb_model.specs.Items.{Doing, Item, calls_of, nothing_spent, sql, tending}
use Rattle.hb_model.specs.Outside.{is_outside}
use Rattle.hb_model.specs.State.{State}
use Rattle.hb_model.specs.System.{Sys}
use Rattle.hb_law.specs.RunAlone.{RunsAlone, replies_of}
use Rattle.hb_law.specs.Transactions.{AllAnswered, AreRight, IsOfStatements}

-- a statement but COMMIT has its line
abbrev pub IsReplied : Doing → List Reply → Type 0
IsReplied (sql statement.Commit) lines = ⊤
IsReplied (sql st) lines = lines ≢ []
IsReplied _ lines = ⊤

-- Right items of statements that were run through: each statement has its reply, and none is an outside one.
pub record RunThrough (back_ends : ℕ) (items : List Item) : Type 0 where
  pub statements : Each (λ i. IsOfStatements i.doing) items
  pub right : AreRight back_ends nothing_spent items
  pub answered : AllAnswered items
  pub replied : Each (λ i. IsReplied i.doing i.lines) items
  pub inside : Each (λ r. IsTrue (not (is_outside r))) (replies_of items)

-- Where their row answers are those of a system's rows, they are run alone from the system's state, to that of the rows behind them.
abbrev pub RightItemsRunAlone : Type 0
RightItemsRunAlone =
    (back_ends : ℕ) (items : List Item) (family : Family) (before : State) → Sys back_ends family before → RunThrough back_ends items
    → AnswersOf family (calls_of items) → (after : State) × Sys back_ends (afters family (calls_of items)) after × RunsAlone back_ends items before after
