-- What is so of each item that was run through.
use Rattle.std.proofs.Common.{◌≡◌, ℕ, ◌≤◌, List, [], ◌∷◌, ◌++◌, length, refl, arith}
use Rattle.std.specs.Prelude.{◌≢◌, IsTrue, not, ⊤}
use Rattle.hb_types.specs.declared.trail.Call.{Call}
use Rattle.hb_types.specs.Lists.{Each}
use Rattle.hb_model.specs.declared.reply.Reply.{Reply}
use Rattle.hb_model.specs.declared.statement.Statement.TheVariants as statement
use Rattle.hb_model.specs.Items.{Doing, Item, sql, tending, turn}
use Rattle.hb_model.specs.Outside.{is_outside}
use Rattle.hb_law.specs.RunAlone.{replies_of, replies_to}
use Rattle.hb_law.specs.Transactions.{AllAnswered, IsOfStatements}
use Rattle.hb_alone.specs.RunThrough.{IsReplied, RunThrough}

abbrev pub IsInside : Reply → Type 0
IsInside r = IsTrue (not (is_outside r))

-- the one reply of a statement, which is none from outside
abbrev pub OneInside : List Reply → Type 0
OneInside lines = (r : Reply) × (lines ≡ r ∷ []) × IsInside r

abbrev pub IsHeard : Doing → List Call → List Reply → Type 0
IsHeard (sql statement.Commit) calls lines = ⊤
IsHeard (sql st) calls lines = OneInside lines
IsHeard tending calls lines = ⊤
IsHeard (turn table most) calls lines = ⊥

one_inside : (lines : List Reply) → length lines ≤ 1 → lines ≢ [] → Each IsInside lines → OneInside lines
one_inside [] few some inside = absurd (some refl)
one_inside (r ∷ []) few some inside = (r, refl, inside.0)
one_inside (r ∷ q ∷ rs) few some inside = absurd (omega arith)

heard : (doing : Doing) (calls : List Call) (lines : List Reply) → IsOfStatements doing → length lines ≤ 1 → IsReplied doing lines → Each IsInside (replies_to doing lines)
    → IsHeard doing calls lines
heard (sql statement.Commit) calls lines of few replied inside = tt
heard (sql st) calls lines of few replied inside = one_inside lines few replied inside
heard tending calls lines of few replied inside = tt
heard (turn table most) calls lines of few replied inside = of

-- ---- all items

each_front : (xs ys : List Reply) → Each IsInside (xs ++ ys) → Each IsInside xs
each_front [] ys h = tt
each_front (x ∷ xs) ys h = (h.0, each_front xs ys h.1)

each_back : (xs ys : List Reply) → Each IsInside (xs ++ ys) → Each IsInside ys
each_back [] ys h = h
each_back (x ∷ xs) ys h = each_back xs ys h.1

few_lines : (items : List Item) → AllAnswered items → Each (λ i. length i.lines ≤ 1) items
few_lines [] h = tt
few_lines (i ∷ []) h = (h, tt)
few_lines (i ∷ j ∷ is) h = let one : length i.lines ≡ 1 = h.0 in (omega arith, few_lines (j ∷ is) h.1)

all_heard : (items : List Item) → Each (λ i. IsOfStatements i.doing) items → Each (λ i. length i.lines ≤ 1) items → Each (λ i. IsReplied i.doing i.lines) items
    → Each IsInside (replies_of items) → Each (λ i. IsHeard i.doing i.calls i.lines) items
all_heard [] of few replied inside = tt
all_heard (i ∷ is) of few replied inside = (
  heard i.doing i.calls i.lines of.0 few.0 replied.0 (each_front (replies_to i.doing i.lines) (replies_of is) inside),
  all_heard is of.1 few.1 replied.1 (each_back (replies_to i.doing i.lines) (replies_of is) inside),
)

pub through_heard : (back_ends : ℕ) (items : List Item) → RunThrough back_ends items → Each (λ i. IsHeard i.doing i.calls i.lines) items
through_heard back_ends items h = all_heard items h.statements (few_lines items h.answered) h.replied h.inside
