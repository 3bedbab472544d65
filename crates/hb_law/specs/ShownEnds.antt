-- Decided and shown: which decisions there are, and what lines tell of the ends of transactions.
use Rattle.std.specs.Prelude.{◌≡◌, ◌≢◌, ℕ, ◌||◌, ◌⊎◌, IsTrue, List, [], ◌∷◌, ◌++◌, Option, Some, None, MatchOption, ⊤}
use Rattle.hb_types.specs.Lists.{Each, Has, IsIn}
use Rattle.hb_model.specs.declared.reply.Reply.{Reply}
use Rattle.hb_model.specs.declared.reply.Reply.TheVariants as reply
use Rattle.hb_model.specs.declared.statement.Statement.TheVariants as statement
use Rattle.hb_model.specs.Items.{Item, Doing, sql, turn}
use Rattle.hb_model.specs.Outside.{says_undone}
use Rattle.hb_disks.specs.Images.{Logs, decided}
use Rattle.hb_disks.specs.Redo.{Decided}
use Rattle.hb_law.specs.Histories.{Shown}
use Rattle.hb_law.specs.Transactions.{Txn, OwnersApart, NamesItself, caller_of, is_loose, is_told, reply_in}

-- ---- words

abbrev pub IsDecidedAs : Logs → ℕ → ℕ → Type 0
IsDecidedAs logs tx n = Has (λ d. (d.tx ≡ tx) × (d.number ≡ n)) (decided logs)

abbrev pub IsUndecided : Logs → ℕ → Type 0
IsUndecided logs tx = Each (λ d. d.tx ≢ tx) (decided logs)

abbrev pub last_item : List Item → Option Item
last_item [] = None
last_item (i ∷ []) = Some i
last_item (i ∷ j ∷ is) = last_item (j ∷ is)

-- the number that a line of pdrbal shows
abbrev pub moving_number : Reply → Option ℕ
moving_number (reply.Moved rows group number) = Some number.0
moving_number (reply.Complete number) = Some number.0
moving_number (reply.Suspended turns number) = Some number.0
moving_number _ = None

abbrev pub number_shown : Reply → Option ℕ
number_shown (reply.Committed number) = Some number.0
number_shown (reply.ToldCommitted o number) = Some number.0
number_shown r = moving_number r

-- ---- decided

-- the decisions begin with those of the base, and each further one is of a transaction that was begun
pub record AreFurther (base logs : Logs) (txns : List Txn) (further : List Decided) : Type 0 where
  pub begins : decided logs ≡ decided base ++ further
  pub owned : Each (λ d. Has (λ t. t.tx ≡ d.tx) txns) further
  pub owners_apart : OwnersApart txns

-- ---- shown

-- a reply to a statement, and a line of a turn, is right about the end of its transaction
abbrev pub StatementEnds : Logs → ℕ → Reply → Type 0
StatementEnds logs tx (reply.Committed number) = IsDecidedAs logs tx number.0
StatementEnds logs tx r = IsTrue (says_undone r) → IsUndecided logs tx

-- a turn that ends with any other line was rolled back
abbrev pub TurnEnds : Logs → ℕ → Reply → Type 0
TurnEnds logs tx (reply.OutcomeUnknown o) = ⊤
TurnEnds logs tx r = MatchOption (moving_number r) (IsUndecided logs tx) (IsDecidedAs logs tx)

abbrev pub EndsAs : Logs → ℕ → Doing → Reply → Type 0
EndsAs logs tx (turn table most) r = TurnEnds logs tx r
EndsAs logs tx d r = StatementEnds logs tx r

abbrev pub ItemEnds : Logs → ℕ → Item → Type 0
ItemEnds logs tx i = Each (EndsAs logs tx i.doing) i.lines

-- what a line without a session tells of an owner is so, and there is that owner
abbrev pub ToldRightly : Logs → List Txn → Reply → Type 0
ToldRightly logs txns (reply.ToldCommitted o number) = Has (λ t. (t.owner ≡ o) × IsDecidedAs logs t.tx number.0) txns
ToldRightly logs txns (reply.ToldRolledBack o) = Has (λ t. (t.owner ≡ o) × IsUndecided logs t.tx) txns
ToldRightly logs txns _ = ⊤

-- the COMMIT of a decided transaction of statements is shown committed, or has no line, or its outcome is unknown
abbrev pub IsShownOrOpen : ℕ → Option Reply → Type 0
IsShownOrOpen n None = ⊤
IsShownOrOpen n (Some (reply.Committed number)) = number.0 ≡ n
IsShownOrOpen n (Some (reply.OutcomeUnknown o)) = ⊤
IsShownOrOpen n _ = ⊥

abbrev pub EndsOpenly : ℕ → Doing → List Reply → Type 0
EndsOpenly n (sql statement.Commit) lines = IsShownOrOpen n (reply_in lines)
EndsOpenly n (turn table most) lines = ⊤
EndsOpenly n _ lines = ⊥

-- a line is one of a transaction's
abbrev pub IsOfTxn : List Txn → Shown → Type 0
IsOfTxn txns l = Has (λ t. (caller_of t.owner ≡ l.caller) × Has (λ i. (i.place ≡ l.place) × IsIn l.reply i.lines) t.items) txns

-- each line is a transaction's, or tells only that nothing was done, or what became of one
abbrev pub AllJudged : List Txn → List Shown → Type 0
AllJudged txns lines = Each (λ l. IsOfTxn txns l ⊎ IsTrue (is_loose l.reply || is_told l.reply)) lines

pub record ShowsEnds (logs : Logs) (txns : List Txn) (lines : List Shown) (further : List Decided) : Type 0 where
  pub judged : AllJudged txns lines
  pub named : Each NamesItself txns
  pub ended : Each (λ t. Each (ItemEnds logs t.tx) t.items) txns
  pub told : Each (λ l. ToldRightly logs txns l.reply) lines
  pub open_or_shown : Each (λ d. Each (λ t. t.tx ≡ d.tx → MatchOption (last_item t.items) ⊥ (λ i. EndsOpenly d.number i.doing i.lines)) txns) further
