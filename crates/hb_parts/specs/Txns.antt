-- The items of a decided transaction, and its step.
use Rattle.std.specs.Prelude.{◌≡◌, ℕ, ◌⊎◌, false, map, List, [], ◌∷◌, ◌++◌, Option, Some, None, slice_get}
use Rattle.hb_types.specs.declared.answer.Answer.TheVariants as answer
use Rattle.hb_types.specs.declared.request.Request.TheVariants as request
use Rattle.hb_types.specs.declared.request.Vote.{Vote}
use Rattle.hb_types.specs.declared.trail.Call.{Call}
use Rattle.hb_types.specs.Lists.{Each, IsIn}
use Rattle.hb_model.specs.declared.statement.Statement.TheVariants as statement
use Rattle.hb_model.specs.Answers.{HasAsked, is_undoing}
use Rattle.hb_model.specs.Items.{Item, calls_of, nothing_spent, sql}
use Rattle.hb_model.specs.State.{State}
use Rattle.hb_disks.specs.Images.{Logs, decided, family}
use Rattle.hb_disks.specs.Redo.{Decided}
use Rattle.hb_disks.specs.StandsFor.{AreLogs, StateAfter, back_ends}
use Rattle.hb_law.specs.Histories.{Labelled, Trails}
use Rattle.hb_law.specs.RunAlone.{StepsAs}
use Rattle.hb_law.specs.ShownEnds.{last_item}
use Rattle.hb_law.specs.Transactions.{AllAnswered, AllAsk, AreRight, AreTxns, IsOfStatements, IsRightTxn, Txn}
use Rattle.hb_alone.specs.RunThrough.{RunThrough}
use Rattle.hb_parts.specs.Callings.{Callings}
use Rattle.hb_parts.specs.Courses.{AskNone}
use Rattle.hb_parts.specs.Rows.{OneFamily}
use Rattle.hb_parts.specs.Voting.{IsNewDecision}

-- The calls of a decided transaction's items: up to its Decide, nothing undone before that, and nothing asked of it behind.
pub record AreDecidedCalls (d : Decided) (calls : List Call) : Type 0 where
  pub front : List Call
  pub votes : List Vote
  pub decide : Call
  pub back : List Call
  pub parts : calls ≡ front ++ decide ∷ back
  pub asked : decide.request ≡ request.Decide (record { 0 = d.tx }) votes
  pub answered : (decide.answer ≡ answer.Decided (record { 0 = d.number })) ⊎ (decide.answer ≡ answer.Fault false)
  pub not_undone : ¬ (HasAsked is_undoing front)
  pub nothing_behind : AskNone d.tx back

-- what callers asked is in items, of which these are transactions
pub record Itemed (base logs : Logs) (trails : Trails) (lists : List (List Item)) (txns : List Txn) : Type 0 where
  pub callings : Callings base logs trails (map calls_of lists)
  pub txns_are : AreTxns lists txns
  pub right : Each (IsRightTxn (back_ends base)) txns

-- a new decision is of a transaction of these, and its items' calls are those of the decided course
pub record HasItems (logs : Logs) (txns : List Txn) (front : List Decided) (d : Decided) (t : Txn) : Type 0 where
  pub known : IsIn t txns
  pub of_tx : t.tx ≡ d.tx
  pub calls : AreDecidedCalls d (calls_of t.items)
  pub rows : OneFamily logs front d (calls_of t.items)

abbrev pub NewHaveItems : Type 0
NewHaveItems =
    (base logs : Logs) (trails : Trails) (lists : List (List Item)) (txns : List Txn) (fes : List Labelled) (front back : List Decided) (d : Decided)
    → Itemed base logs trails lists txns
    → AreLogs logs → slice_get trails 0 ≡ Some fes → decided logs ≡ front ++ d ∷ back → (k : IsNewDecision trails (map calls_of lists) fes d)
    → OneFamily logs front d k.owned.course → (t : Txn) × HasItems logs txns front d t

-- statements that were decided were run through, and end with the COMMIT that decided
abbrev pub EndsInCommit : Option Item → Type 0
EndsInCommit None = ⊥
EndsInCommit (Some i) = i.doing ≡ sql statement.Commit

abbrev pub DecidedRunThrough : Type 0
DecidedRunThrough =
    (back_ends : ℕ) (d : Decided) (first : Item) (others : List Item) → AreRight back_ends nothing_spent (first ∷ others)
    → Each (λ i. IsOfStatements i.doing) (first ∷ others)
    → AllAnswered (first ∷ others) → AllAsk d.tx first.calls others → AreDecidedCalls d (calls_of (first ∷ others))
    → RunThrough back_ends (first ∷ others) × EndsInCommit (last_item (first ∷ others))

-- each step, from any state of the rows before; states one behind another
pub record Step (logs : Logs) (txns : List Txn) (front : List Decided) (d : Decided) (before : State) : Type 0 where
  pub txn : Txn
  pub known : IsIn txn txns
  pub of_tx : txn.tx ≡ d.tx
  pub after : State
  pub at_after : StateAfter logs (front ++ d ∷ []) after
  pub steps : StepsAs (back_ends logs) txn.items before after (family logs front) (family logs (front ++ d ∷ []))

-- the states behind each of these decisions, one step after another
abbrev pub Chain : Logs → List Txn → List Decided → State → List Decided → State → Type 0
Chain logs txns front s [] t = s ≡ t
Chain logs txns front s (d ∷ ds) t = (k : Step logs txns front d s) × Chain logs txns (front ++ d ∷ []) k.after ds t

abbrev pub StatesChain : Type 0
StatesChain =
    (base logs : Logs) (trails : Trails) (lists : List (List Item)) (txns : List Txn) (further : List Decided) (start : State)
    → Itemed base logs trails lists txns → AreLogs logs
    → decided logs ≡ decided base ++ further → StateAfter base (decided base) start
    → (last : State) × StateAfter logs (decided base) start × StateAfter logs (decided logs) last × Chain logs txns (decided base) start further last
