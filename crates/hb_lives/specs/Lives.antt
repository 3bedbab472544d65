-- A session's life, transaction after transaction, and the items that it is made of.
use Rattle.std.specs.Prelude.{◌≡◌, ℕ, ◌+◌, ◌≤◌, ◌<◌, false, IsTrue, List, [], ◌∷◌, ◌++◌, Some, flat_map, slice_get, ⊤}
use Rattle.hb_types.specs.declared.answer.Answer.{Answer}
use Rattle.hb_types.specs.declared.trail.Call.{Call}
use Rattle.hb_types.specs.Lists.{Each}
use Rattle.hb_model.specs.declared.reply.Reply.{Reply}
use Rattle.hb_model.specs.Items.{Item, Doing, calls_of}
use Rattle.hb_model.specs.Plain.{is_plain}
use Rattle.hb_wait.specs.declared.pending.Pending.{Pending}
use Rattle.hb_session.specs.declared.session.Progress.TheVariants as progress
use Rattle.hb_session.specs.declared.stage.Stage.TheVariants as stage
use Rattle.hb_session.specs.Runs.{Asks, Runs, call_of}
use Rattle.hb_session.specs.Sitting.{Sitting, in_transaction}
use Rattle.hb_session.specs.Steps.{Closes}
use Rattle.hb_planlaws.specs.Planned.{most_back_ends}
use Rattle.hb_faithful.specs.Planned.{is_planned}
use Rattle.hb_law.specs.Callers.{Obeys, begun_count}
use Rattle.hb_law.specs.Composition.{ArePlaced}
use Rattle.hb_law.specs.Standing.{is_aside}
use Rattle.hb_law.specs.Transactions.{Txn, begins_of}
use Rattle.hb_itemlaws.specs.Dividing.{Given, statements}
use Rattle.hb_obeys.specs.Obeying.{IsOfSystem}
use Rattle.hb_sessionitems.specs.GivingUp.{GivesUp, InTurn, RunsToEnd}
use Rattle.hb_sessionlaws.specs.Lives.{IsKept, Sits}
use Rattle.hb_lives.specs.Stretches.{AreOnce, AreTold, Stretches}

-- ---- stretches of a life

-- the places of works ascend, from behind the last one
abbrev pub Ascending : ℕ → List Given → Type 0
Ascending from [] = ⊤
Ascending from (w ∷ ws) = (from < w.0) × Ascending w.0 ws

abbrev pub last_of : ℕ → List Given → ℕ
last_of from [] = from
last_of from (w ∷ ws) = last_of w.0 ws

-- plain statements of which the first is no COMMIT or ROLLBACK, where there is no transaction
pub record Opened (from : ℕ) (old : Sitting) (work : Given) (works : List Given) : Type 0 where
  pub ascending : Ascending from (work ∷ works)
  pub plain : Each (λ w. IsTrue (is_plain w.1)) (work ∷ works)
  pub planned : IsTrue (is_planned work.1)
  pub idle : old.stage ≡ stage.Idle

-- a transaction came to the end that its talk says, or was not begun
pub record Ended (old new : Sitting) (works : List Given) (calls : List Call) (replies : List Reply) : Type 0 where
  pub last : Sitting
  pub before : List Call
  pub said : List Reply
  pub pending : Pending
  pub answer : Answer
  pub reply : Reply
  pub runs : Runs old (statements works) before said last
  pub ends : Asks last new pending answer (progress.Ended reply)
  pub calls_are : calls ≡ before ++ call_of pending answer ∷ []
  pub replies_are : replies ≡ said ++ reply ∷ []

-- one was given up amid a statement, and rolled back
pub record EndedAmid (old new : Sitting) (works : List Given) (calls : List Call) (replies : List Reply) : Type 0 where
  pub last : Sitting
  pub given_up : Sitting
  pub before : List Call
  pub asked : List Call
  pub rolled : List Call
  pub said : List Reply
  pub why : Reply
  pub reply : Reply
  pub runs : Runs old (statements works) before said last
  pub turn : InTurn runs
  pub gives_up : GivesUp last given_up asked why
  pub ends : RunsToEnd given_up rolled reply
  pub over : ends.over ≡ new
  pub calls_are : calls ≡ before ++ (asked ++ rolled)
  pub replies_are : replies ≡ said ++ reply ∷ []

-- one was given up between two statements, and rolled back
pub record EndedBetween (old new : Sitting) (works : List Given) (calls : List Call) (replies : List Reply) : Type 0 where
  pub last : Sitting
  pub closed : Sitting
  pub before : List Call
  pub rolled : List Call
  pub said : List Reply
  pub reply : Reply
  pub runs : Runs old (statements works) before said last
  pub turn : InTurn runs
  pub closes : Closes last.stage closed
  pub ends : RunsToEnd closed rolled reply
  pub over : ends.over ≡ new
  pub calls_are : calls ≡ before ++ rolled
  pub replies_are : replies ≡ said ++ reply ∷ []

-- From one sitting to another, stretch by stretch, behind works up to a place: the calls and the replies. A rolling back between two
-- statements is told at any place; a work that is refused where there is no transaction asks nothing.
pub data Lived : ℕ → Sitting → List Call → List Reply → Sitting → Type 0 where
  rests : {from : ℕ} {s : Sitting} → Lived from s [] [] s
  ended : {from : ℕ} {s m e : Sitting} {calls more : List Call} {replies shown : List Reply} → (work : Given) (works : List Given) → Opened from s work works
      → Ended s m (work ∷ works) calls replies → Sits s calls m → Lived (last_of from (work ∷ works)) m more shown e → Lived from s (calls ++ more) (replies ++ shown) e
  amid : {from : ℕ} {s m e : Sitting} {calls more : List Call} {replies shown : List Reply} → (work : Given) (works : List Given) → Opened from s work works
      → EndedAmid s m (work ∷ works) calls replies → Sits s calls m → Lived (last_of from (work ∷ works)) m more shown e → Lived from s (calls ++ more) (replies ++ shown) e
  between : {from : ℕ} {s m e : Sitting} {calls more : List Call} {replies shown : List Reply} → (place : ℕ) (work : Given) (works : List Given) → Opened from s work works
      → EndedBetween s m (work ∷ works) calls replies → Sits s calls m → Lived (last_of from (work ∷ works)) m more shown e → Lived from s (calls ++ more) (replies ++ shown) e
  passed : {from : ℕ} {s e : Sitting} {more : List Call} {shown : List Reply} → (work : Given) (reply : Reply) → from < work.0 → IsTrue (is_aside reply)
      → Lived work.0 s more shown e → Lived from s more (reply ∷ shown) e

-- ---- the laws

-- The items that the calls and the replies are made of, in order, behind those in front, with their transactions.
pub record MadeOf (from : ℕ) (s : Sitting) (front : List Item) (calls : List Call) (replies : List Reply) : Type 0 where
  pub items : List Item
  pub txns : List Txn
  pub made_of : calls_of items ≡ calls
  pub shown : flat_map (λ i. i.lines) items ≡ replies
  pub stretches : Stretches s.back_ends s.index front items txns
  pub placed : (before : Doing) → ArePlaced from before items

-- A life is made of stretches, each of which is a right transaction or an item of none, and the places of its works ascend.
abbrev pub LivesAreStretches : Type 0
LivesAreStretches =
    (from : ℕ) (old new : Sitting) (front : List Item) (calls : List Call) (replies : List Reply) → old.back_ends ≤ most_back_ends → IsKept old
    → old.begun ≡ begun_count (calls_of front) → Lived from old calls replies new → Each IsOfSystem calls → MadeOf from old front calls replies

-- So a session's whole list is what the law of composition asks of it, if its numbers are begun once.
abbrev pub LivesAreTold : Type 0
LivesAreTold =
    (old new : Sitting) (calls : List Call) (replies : List Reply) → old.back_ends ≤ most_back_ends → IsKept old → in_transaction old.stage ≡ false → old.begun ≡ 0
    → Lived 0 old calls replies new → Each IsOfSystem calls → AreOnce (begins_of calls)
    → (m : MadeOf 0 old [] calls replies) × Obeys old.index calls
    × ((lists : List (List Item)) → slice_get lists (old.index + 1) ≡ Some m.items → AreTold old.back_ends old.index lists m.items m.txns)
