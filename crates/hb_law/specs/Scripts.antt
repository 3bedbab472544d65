-- What ties items and lines to the script: whose work each item does, and which work each line is of.
use Rattle.std.specs.Prelude.{◌≡◌, ℕ, zero, suc, ◌+◌, ◌==◌, Bool, true, false, not, ◌&&◌, if◌then◌else◌, List, [], ◌∷◌, ◌++◌, map, flat_map, filter, length, Option, Some, None, unwrap_or, slice_get, ⊤}
use Rattle.hb_types.specs.Lists.{Each}
use Rattle.hb_model.specs.declared.line.Line.{Line}
use Rattle.hb_model.specs.declared.line.Work.{Work}
use Rattle.hb_model.specs.declared.line.Work.TheVariants as work
use Rattle.hb_model.specs.declared.reply.Reply.{Reply}
use Rattle.hb_model.specs.declared.reply.Reply.TheVariants as reply
use Rattle.hb_model.specs.Items.{Item, Doing, sql, turn, tending}
use Rattle.hb_law.specs.Histories.{Event, History, Shown}
use Rattle.hb_law.specs.OwnAnswers.{ScriptLine, Names, giving}
use Rattle.hb_law.specs.Standing.{is_passing}
use Rattle.hb_law.specs.InTime.{InItsOrder, is_busy}
use Rattle.hb_law.specs.Transactions.{is_told}
use Rattle.hb_law.specs.Composition.{World, Together, lists_of}
use Rattle.hb_disks.specs.Points.{Format}

-- ---- items and the script

-- the works of a session, in the order in which the script gives them
abbrev pub works_of : Names → List ScriptLine → ℕ → List Work
works_of names script session = map (λ g. g.1) (filter (λ g. g.0 == session) (flat_map (giving names) script))

abbrev pub DoesWork : Option Work → Doing → Type 0
DoesWork (Some (work.Sql st)) (sql doing) = doing ≡ st
DoesWork (Some (work.Rebalance table rows turns)) (turn name most) = (name ≡ table) × (most ≡ rows)
DoesWork o tending = ⊤
DoesWork o d = ⊥

-- places begin with 1
abbrev pub work_at : List Work → ℕ → Option Work
work_at works zero = None
work_at works (suc n) = slice_get works n

-- each item of a session does the work of its place
abbrev pub DoTheScript : Names → List ScriptLine → List (List Item) → Type 0
DoTheScript names script lists =
    (session : ℕ) (list : List Item) → slice_get lists (session + 1) ≡ Some list → Each (λ i. DoesWork (work_at (works_of names script session) i.place) i.doing) list

-- ---- lines and works

-- the works that are not answered yet, as session and place
abbrev pub Unanswered : Type 0
Unanswered = List (ℕ × ℕ)

abbrev pub place_at : ℕ → ℕ → Unanswered → Option ℕ
place_at session behind [] = None
place_at session behind (u ∷ us) =
    if u.0 == session then (if behind == 0 then Some u.1 else place_at session 0 us) else place_at session behind us

abbrev pub without_place : ℕ → ℕ → Unanswered → Unanswered
without_place session behind [] = []
without_place session behind (u ∷ us) =
    if u.0 == session then (if behind == 0 then us else u ∷ without_place session 0 us) else u ∷ without_place session behind us

abbrev pub is_moved : Reply → Bool
is_moved (reply.Moved rows group number) = true
is_moved _ = false

-- What a line of a session is of: BUSY answers the work behind the one in progress, each other final reply the earliest that is
-- unanswered; what comes when all works were answered is of the place behind them.
abbrev pub place_of : (ℕ → ℕ) → Unanswered → ℕ → Reply → ℕ
place_of behind left s r = unwrap_or (place_at s (if is_busy r then 1 else 0) left) (behind s)

-- a line that ends nothing is of no work, but MOVED
abbrev pub line_shown : (ℕ → ℕ) → Unanswered → Line → List Shown
line_shown behind left l = of l.session
  where
    of : Option ℕ → List Shown
    of None = if is_told l.reply then record { caller = 0; place = 0; reply = l.reply } ∷ [] else []
    of (Some s) = if is_passing l.reply && not (is_moved l.reply) then [] else record { caller = s + 1; place = place_of behind left s l.reply; reply = l.reply } ∷ []

abbrev pub left_after : Unanswered → Line → Unanswered
left_after left l = of l.session
  where
    of : Option ℕ → Unanswered
    of None = left
    of (Some s) = if is_passing l.reply then left else without_place s (if is_busy l.reply then 1 else 0) left

abbrev pub shown_from : (ℕ → ℕ) → Unanswered → List Line → List Shown
shown_from behind left [] = []
shown_from behind left (l ∷ ls) = line_shown behind left l ++ shown_from behind (left_after left l) ls

-- the works of a script as session and place, in the order in which they are given
abbrev pub places_from : List ℕ → List ℕ → Unanswered
places_from done [] = []
places_from done (s ∷ ss) = (s, length (filter (λ d. d == s) done) + 1) ∷ places_from (s ∷ done) ss

abbrev pub all_works : Names → List ScriptLine → Unanswered
all_works names script = places_from [] (map (λ g. g.0) (flat_map (giving names) script))

-- what lines show of the works of a script
abbrev pub shown_in : Names → List ScriptLine → List Line → List Shown
shown_in names script lines = shown_from (λ s. length (works_of names script s) + 1) (all_works names script) lines

-- ---- the headline's record

-- a run that is together, whose items do the script's works, and whose lines are those that were printed
pub record IsRunOf (format : Format) (names : Names) (script : List ScriptLine) (lines : List Line) (w : World) (h : List Event) : Type 0 where
  pub together : Together format w
  pub history : History h w.trails (lists_of w) w.lines
  pub order : InItsOrder h w.lists
  pub works : DoTheScript names script w.lists
  pub lines_are : w.lines ≡ shown_in names script lines
