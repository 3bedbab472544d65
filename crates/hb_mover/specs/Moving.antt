-- Where a line of pdrbal stands: a turn, and what is still to be said behind it.
use Rattle.std.specs.Prelude.{◌≡◌, ℕ, zero, suc, ◌+◌, ◌<◌, ◌^◌, Bool, true, false, if◌then◌else◌, List, [], ◌∷◌, map, All}
use Rattle.hb_types.specs.declared.names.Number.{Number}
use Rattle.hb_model.specs.declared.reply.Reply.{Reply}
use Rattle.hb_model.specs.declared.reply.Reply.TheVariants as reply
use Rattle.hb_model.specs.Shapes.{Hint as Group}
use Rattle.hb_talk.specs.Moves.{Mover, moving, shown_before}
use Rattle.hb_talk.specs.Talk.{Talk, says, going_on}
use Rattle.hb_batch.specs.Batches.{hint_of, IsSitedHint}
use Rattle.hb_batch.specs.declared.hint.Hint.{Hint}
use Rattle.hb_wait.specs.Courses.{Course, free, halted}
use Rattle.hb_turn.specs.Turning.{Outcome, found, stays, goes_on, ends, Turning, counted, mover_of, is_busy}
use Rattle.hb_turn.specs.Turning as turn

-- the turn in progress, the turns that aren't begun yet, and the groups that are next, that of the turn first
pub record Moving : Type 0 where
  pub turn : Turning
  pub left : ℕ
  pub hints : List Hint

-- ---- words

-- it asks a request next
abbrev pub is_going : Moving → Bool
is_going m = is_busy m.turn.stage

abbrev pub is_waiting : Moving → Bool
is_waiting m = turn.is_waiting m.turn.stage

-- its transaction is rolled back, and the line ends with it
abbrev pub is_ending : Moving → Bool
is_ending m = turn.is_last m.turn.stage

-- a transaction was begun and hasn't ended
abbrev pub in_transaction : Moving → Bool
in_transaction m = turn.in_transaction m.turn.stage

-- the transactions that the session has begun
abbrev pub begun_by : Moving → ℕ
begun_by m = m.turn.begun

abbrev pub index_of : Moving → ℕ
index_of m = m.turn.line.session

abbrev pub back_ends_of : Moving → ℕ
back_ends_of m = m.turn.line.back_ends

-- the line, as talks know it
abbrev pub line_of : Moving → Mover
line_of m = mover_of m.turn.line

-- ---- talks

-- what is still to be said behind a check that found these groups
abbrev pub after_found : Mover → ℕ → ℕ → List Group → Number → Talk (List Reply)
after_found m left nth [] number = says (reply.Complete number ∷ [])
after_found m zero nth (h ∷ hs) number = says (reply.Suspended m.turns number ∷ [])
after_found m (suc left) nth (h ∷ hs) number = moving m (suc left) nth (h ∷ hs)

abbrev pub behind_first : {A : Type 0} → List A → List A
behind_first [] = []
behind_first (x ∷ xs) = xs

-- what is still to be said behind a turn, with so many turns left, the nth transaction next, and these groups
abbrev pub after_outcome : Mover → ℕ → ℕ → List Group → Outcome → Talk (List Reply)
after_outcome m left nth hs (found gs number) = after_found m left nth gs number
after_outcome m left nth hs (stays rs) = shown_before rs (moving m left nth hs)
after_outcome m left nth hs goes_on = moving m left nth (behind_first hs)
after_outcome m left nth hs (ends r) = says (r ∷ [])

-- a course, and what follows its end
abbrev pub onto : {A B : Type 0} → (A → Talk B) → Course A → Course B
onto k (free t) = free (going_on k t)
onto k (halted p f) = halted p (λ a. going_on k (f a))

-- the number of the turn's transaction
abbrev pub nth_of : Turning → ℕ
nth_of t = if turn.in_transaction t.stage then t.begun else counted t.begun

-- what is still to be said behind the turn in progress
abbrev pub behind_turn : Moving → Outcome → Talk (List Reply)
behind_turn m = after_outcome (line_of m) m.left (nth_of m.turn + 1) (map hint_of m.hints)

-- what is still to be asked and said
unfoldable pub stands : Moving → Course (List Reply)
stands m = onto (behind_turn m) (turn.stands m.turn)

-- what a line keeps
pub record IsKept (t : Turning) (hints : List Hint) : Type 0 where
  pub sited : All IsSitedHint hints
  pub begun : t.begun < 2 ^ 64

-- a line that has asked nothing yet
pub record IsNew (m : Moving) (session back_ends count : ℕ) (table : List ℕ) (rows turns : ℕ) : Type 0 where
  pub line : line_of m ≡ record { session = session; back_ends = back_ends; table = table; rows = rows; turns = turns }
  pub begun : begun_by m ≡ count
  pub index : index_of m ≡ session
  pub going : is_going m ≡ true
  pub waiting : is_waiting m ≡ false
  pub ending : is_ending m ≡ false
  pub none : in_transaction m ≡ false
  pub talk : stands m ≡ free (moving (line_of m) turns (counted count) [])
