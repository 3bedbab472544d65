-- A transaction that is given up: how far it came, and the items that the whole is made of.
use Rattle.std.specs.Prelude.{◌≡◌, ℕ, ◌≤◌, Bool, true, false, IsTrue, List, [], ◌∷◌, ◌++◌, Result}
use Rattle.hb_types.specs.declared.trail.Call.{Call}
use Rattle.hb_types.specs.Lists.{Each}
use Rattle.hb_model.specs.declared.reply.Reply.{Reply}
use Rattle.hb_model.specs.Items.{Item, calls_of, nothing_spent, tending}
use Rattle.hb_model.specs.Outside.{is_outside}
use Rattle.hb_model.specs.Plain.{is_plain}
use Rattle.hb_talk.specs.Moves.{fresh}
use Rattle.hb_talk.specs.PlansDefine.{plan}
use Rattle.hb_talk.specs.Talk.{Begins, Follows, Use}
use Rattle.hb_plancalc.specs.Counted.{reply_in}
use Rattle.hb_planlaws.specs.Planned.{most_back_ends}
use Rattle.hb_faithful.specs.Planned.{Closes, Opens, is_planned, is_rolled_back}
use Rattle.hb_law.specs.Transactions.{AreRight, IsBoundItem}
use Rattle.hb_itemlaws.specs.Dividing.{AreItemsOf, Divided, Given}

-- What was asked and said from a use on, up to where the transaction is given up: amid the plan of a statement, or between two.
-- Each statement before had its reply, and left the transaction open.
pub data LeftOff (back_ends : ℕ) : Bool → List Given → Use → List Call → List Reply → Type 0 where
  amid : {w : Given} {ws : List Given} {u : Use} {calls : List Call} → Begins (plan back_ends w.1 u) calls → LeftOff back_ends true (w ∷ ws) u calls []
  between : {u : Use} → LeftOff back_ends false [] u [] []
  behind : {amidst : Bool} {w : Given} {ws : List Given} {u v : Use} {asked calls : List Call} {o : Result Reply Reply} {replies : List Reply} → IsTrue (is_planned w.1)
      → Follows false (plan back_ends w.1 u) asked (o, v) → is_rolled_back o ≡ false → LeftOff back_ends amidst ws v calls replies
      → LeftOff back_ends amidst (w ∷ ws) u (asked ++ calls) (reply_in o ∷ replies)

-- A transaction's calls: those that begin it, those up to where it is given up, and those that roll it back, for a reply from outside.
pub record GivenUp (back_ends : ℕ) (amidst : Bool) (works : List Given) (calls : List Call) (replies : List Reply) (why : Reply) : Type 0 where
  pub tx : ℕ
  pub front : List Call
  pub asked : List Call
  pub back : List Call
  pub parts : calls ≡ front ++ (asked ++ back)
  pub opens : Opens front
  pub left : LeftOff back_ends amidst works (fresh tx) asked replies
  pub closes : Closes back why
  pub outside : IsTrue (is_outside why)

-- ---- amid a statement

-- The whole is made of right items; the last one is of the statement that was given up, with the reply from outside.
abbrev pub GivenUpAreRight : Type 0
GivenUpAreRight =
    (back_ends : ℕ) (works : List Given) (calls : List Call) (replies : List Reply) (why : Reply) → back_ends ≤ most_back_ends → Each (λ w. IsTrue (is_plain w.1)) works
    → GivenUp back_ends true works calls replies why → Divided back_ends works calls (replies ++ why ∷ [])

-- ---- between two statements

-- a rolling back that belongs to no statement, with its line
abbrev pub closing : ℕ → List Call → Reply → Item
closing place calls why = record { place = place; doing = tending; calls = calls; lines = why ∷ [] }

-- The right items that the calls and the replies are made of: those of statements, each with its reply, and the rolling back.
pub record Closed (back_ends place : ℕ) (works : List Given) (calls : List Call) (replies : List Reply) (why : Reply) : Type 0 where
  pub items : List Item
  pub last : List Call
  pub made_of : calls_of items ++ last ≡ calls
  pub each : AreItemsOf works replies items
  pub right : AreRight back_ends nothing_spent (items ++ closing place last why ∷ [])
  pub bound : Each IsBoundItem (items ++ closing place last why ∷ [])

-- wherever the rolling back is told to stand
abbrev pub ClosedAreRight : Type 0
ClosedAreRight =
    (back_ends place : ℕ) (works : List Given) (calls : List Call) (replies : List Reply) (why : Reply) → back_ends ≤ most_back_ends → Each (λ w. IsTrue (is_plain w.1)) works
    → GivenUp back_ends false works calls replies why → Closed back_ends place works calls replies why
