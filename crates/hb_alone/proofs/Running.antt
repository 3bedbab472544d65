-- Right items that were heard are statements run alone, item by item.
use Rattle.std.proofs.Common.{◌≡◌, ◌∙◌, ℕ, suc, ◌+◌, Bool, true, false, List, [], ◌∷◌, ◌++◌, length, ap, refl, subst, sym, arith}
use Rattle.std.specs.Prelude.{cond, nat_le}
use Rattle.std.specs.List.{zip}
use Rattle.std.proofs.lemmas.Bool.{false≢true}
use Rattle.hb_types.specs.declared.trail.Call.{Call}
use Rattle.hb_types.specs.Lists.{Each}
use Rattle.hb_model.specs.declared.reply.Reply.{Reply}
use Rattle.hb_model.specs.declared.reply.Reply.TheVariants as reply
use Rattle.hb_model.specs.declared.statement.Statement.{Statement}
use Rattle.hb_model.specs.declared.statement.Statement.TheVariants as statement
use Rattle.hb_model.specs.Alone.{alone, alone_from, replies_with}
use Rattle.hb_model.specs.Answers.{AnswersOf, afters, bytes_in, grants_in, of_rows}
use Rattle.hb_model.specs.Does.{does, effect, is_accepted, most_bytes, reads}
use Rattle.hb_model.specs.Faithful.{Did, Faithful}
use Rattle.hb_model.specs.Families.{Family}
use Rattle.hb_model.specs.Items.{Doing, Item, Spent, calls_of, nothing_spent, spending, sql, tending, turn}
use Rattle.hb_model.specs.Needs.{MayBeFull, locks_of}
use Rattle.hb_model.specs.State.{State}
use Rattle.hb_model.specs.System.{Sys}
use Rattle.hb_law.specs.RunAlone.{replies_of, replies_to, statements_of}
use Rattle.hb_law.specs.Transactions.{AreRight, IsRightItem, IsRightStatement, reply_in}
use Rattle.hb_alone.specs.RunThrough.{RightItemsRunAlone}
use Rattle.hb_alone.proofs.Calls.{afters_append, answers_back, answers_front, rowless_leaves}
use Rattle.hb_alone.proofs.Counts.{InOrder, accepted_behind, counted}
use Rattle.hb_alone.proofs.Heard.{IsHeard, IsInside, through_heard}

-- the statements of these items run alone, once so many bytes were written and the counts of locks are these
pub record Goes (back_ends : ℕ) (items : List Item) (bytes accepted all : ℕ) (family : Family) (s : State) : Type 0 where
  pub full : List Bool
  pub one_each : length full ≡ length (statements_of items)
  pub full_rightly : MayBeFull back_ends s bytes accepted all (zip (statements_of items) full)
  pub replies : (alone_from back_ends s bytes (zip (statements_of items) full)).replies ≡ replies_of items
  pub left : Sys back_ends (afters family (calls_of items)) (alone_from back_ends s bytes (zip (statements_of items) full)).state

other_rows : (back_ends : ℕ) (f g : Family) (s : State) → f ≡ g → Sys back_ends f s → Sys back_ends g s
other_rows back_ends f g s e sys = subst (λ x. Sys back_ends x s) e sys

other_state : (back_ends : ℕ) (f : Family) (s t : State) → s ≡ t → Sys back_ends f s → Sys back_ends f t
other_state back_ends f s t e sys = subst (λ x. Sys back_ends f x) e sys

same_replies : (st : Statement) (p q : Reply) (ps qs : List Reply) → p ≡ q → ps ≡ qs → replies_with st p ps ≡ replies_with st q qs
same_replies st p q ps qs e es = ap (λ x. replies_with st x ps) e ∙ ap (λ x. replies_with st q x) es

-- ---- a COMMIT

reads_leave : (b : Bool) (s : State) → ((cond b (reads s reply.RolledBack) (reads s reply.TooMuch)).state ≡ s) × ((cond b (reads s reply.RolledBack) (reads s reply.TooMuch)).bytes ≡ 0)
reads_leave true s = (refl, refl)
reads_leave false s = (refl, refl)

commit_leaves : (back_ends : ℕ) (s : State) (spent : ℕ) → ((does back_ends s spent false statement.Commit).state ≡ s) × ((does back_ends s spent false statement.Commit).bytes ≡ 0)
unfolding does effect
commit_leaves back_ends s spent = reads_leave (nat_le (spent + 0) most_bytes) s

module _ (back_ends : ℕ) (spent : Spent) (calls : List Call) (family : Family) where
  -- a COMMIT does to the state nothing
  commit_did : (accepted all : ℕ) (s : State) → Sys back_ends family s → InOrder accepted spent.locks all → of_rows calls ≡ [] → grants_in calls ≡ 0
      → Did back_ends spent false statement.Commit calls (does back_ends s spent.bytes false statement.Commit).reply family s
  commit_did accepted all s sys o rowless no_grants =
      let leaves = rowless_leaves family calls rowless in
      let does_nothing = commit_leaves back_ends s spent.bytes in
      let granted : grants_in calls ≡ 0 = no_grants in
      record {
        replied = refl;
        left = other_rows back_ends family (afters family calls) _ (sym leaves.same) (other_state back_ends family s _ (sym does_nothing.0) sys);
        wrote = leaves.bytes ∙ sym does_nothing.1;
        few_locks = omega (arith, granted);
        all_locks = λ e a. granted;
        full_rightly = λ e. absurd (false≢true e);
        within = omega (arith, granted, o.within);
      }

  -- ---- one item

  module _ (is : List Item) where
    -- the items behind, from each state of the rows behind these calls
    abbrev Rest : Type 0
    Rest =
        (accepted all : ℕ) (s : State) → Sys back_ends (afters family calls) s → InOrder accepted (spent.locks + grants_in calls) all
        → Goes back_ends is (spent.bytes + bytes_in calls) accepted all (afters family calls) s

    statement_goes : (place : ℕ) (st : Statement) (lines : List Reply) (accepted all : ℕ) (s : State) (full : Bool) (r : Reply) → InOrder accepted spent.locks all
        → Did back_ends spent full st calls r family s → ((rs : List Reply) → replies_with st r rs ≡ replies_to (sql st) lines ++ rs) → Rest
        → Goes back_ends (record { place = place; doing = sql st; calls = calls; lines = lines } ∷ is) spent.bytes accepted all family s
    unfolding alone_from
    statement_goes place st lines accepted all s full r o d shown rest =
        let e = does back_ends s spent.bytes full st in
        let ok = is_accepted spent.bytes (effect back_ends s st) in
        let count = locks_of s st in
        let now = accepted_behind full ok accepted count in
        let k = counted full ok accepted spent.locks all (grants_in calls) count o d.few_locks d.all_locks d.full_rightly d.within in
        let more = subst (λ b. Goes back_ends is (spent.bytes + b) now (all + count) (afters family calls) e.state) d.wrote (rest now (all + count) e.state d.left k.behind) in
        record {
          full = full ∷ more.full;
          one_each = ap suc more.one_each;
          full_rightly = (k.must, k.may, more.full_rightly);
          replies = same_replies st e.reply r _ (replies_of is) d.replied more.replies ∙ shown (replies_of is);
          left = other_rows back_ends _ (afters family (calls ++ calls_of is)) _ (sym (afters_append family calls (calls_of is))) more.left;
        }

    tending_goes : (place : ℕ) (lines : List Reply) (accepted all : ℕ) (s : State) → Sys back_ends family s → InOrder accepted spent.locks all → of_rows calls ≡ [] → grants_in calls ≡ 0 → Rest
        → Goes back_ends (record { place = place; doing = tending; calls = calls; lines = lines } ∷ is) spent.bytes accepted all family s
    tending_goes place lines accepted all s sys o rowless no_grants rest =
        let leaves = rowless_leaves family calls rowless in
        let granted : grants_in calls ≡ 0 = no_grants in
        let wrote : bytes_in calls ≡ 0 = leaves.bytes in
        let same : spent.bytes + bytes_in calls ≡ spent.bytes = omega arith in
        let behind : InOrder accepted (spent.locks + grants_in calls) all = record { under = omega (arith, o.under); over = omega (arith, o.over); within = omega (arith, o.within) } in
        let more = subst (λ b. Goes back_ends is b accepted all (afters family calls) s) same (rest accepted all s (other_rows back_ends family (afters family calls) s (sym leaves.same) sys) behind) in
        record {
          full = more.full;
          one_each = more.one_each;
          full_rightly = more.full_rightly;
          replies = more.replies;
          left = other_rows back_ends _ (afters family (calls ++ calls_of is)) _ (sym (afters_append family calls (calls_of is))) more.left;
        }

    -- a statement but COMMIT
    plain_goes : (place : ℕ) (st : Statement) (lines : List Reply) (accepted all : ℕ) (s : State) (r : Reply) → Sys back_ends family s → InOrder accepted spent.locks all
        → (full : Bool) × Faithful back_ends spent full st calls r → IsInside r → AnswersOf family calls
        → ((rs : List Reply) → replies_with st r rs ≡ replies_to (sql st) lines ++ rs) → Rest
        → Goes back_ends (record { place = place; doing = sql st; calls = calls; lines = lines } ∷ is) spent.bytes accepted all family s
    plain_goes place st lines accepted all s r sys o right inside answers shown rest =
        statement_goes place st lines accepted all s right.0 r o (right.1.does_rightly inside family s sys answers) shown rest

    item_goes : (place : ℕ) (doing : Doing) (lines : List Reply) (accepted all : ℕ) (s : State) → Sys back_ends family s → InOrder accepted spent.locks all
        → IsRightItem back_ends spent (record { place = place; doing = doing; calls = calls; lines = lines }) → IsHeard doing calls lines → AnswersOf family calls → Rest
        → Goes back_ends (record { place = place; doing = doing; calls = calls; lines = lines } ∷ is) spent.bytes accepted all family s
    item_goes place (sql statement.Commit) lines accepted all s sys o right heard answers rest =
        statement_goes place statement.Commit lines accepted all s false _ o (commit_did accepted all s sys o right.0.0 right.0.1) (λ rs. refl) rest
    item_goes place (sql st) lines accepted all s sys o right heard answers rest =
        plain_goes place st lines accepted all s heard.0 sys o (subst (λ x. IsRightStatement back_ends spent st calls (reply_in x)) heard.1 right) heard.2 answers
        (λ rs. ap (λ x. x ++ rs) (sym heard.1)) rest
    item_goes place tending lines accepted all s sys o right heard answers rest = tending_goes place lines accepted all s sys o right.1.0 right.1.1 rest
    item_goes place (turn table most) lines accepted all s sys o right heard answers rest = absurd heard

-- ---- all items

module _ (back_ends : ℕ) where
  items_go : (items : List Item) (spent : Spent) (accepted all : ℕ) (family : Family) (s : State) → Sys back_ends family s → InOrder accepted spent.locks all → AreRight back_ends spent items
      → Each (λ i. IsHeard i.doing i.calls i.lines) items → AnswersOf family (calls_of items) → Goes back_ends items spent.bytes accepted all family s
  unfolding alone_from
  items_go [] spent accepted all family s sys o right heard answers = record { full = []; one_each = refl; full_rightly = tt; replies = refl; left = sys }
  items_go (i ∷ is) spent accepted all family s sys o right heard answers =
      item_goes back_ends spent i.calls family is i.place i.doing i.lines accepted all s sys o right.0 heard.0 (answers_front family i.calls (calls_of is) answers)
      (λ accepted all s sys o. items_go is (spending spent i.calls) accepted all (afters family i.calls) s sys o right.1 heard.1 (answers_back family i.calls (calls_of is) answers))

pub items_run_alone : RightItemsRunAlone
items_run_alone back_ends items family before sys through answers =
    let none : InOrder 0 0 0 = record { under = omega arith; over = omega arith; within = omega arith } in
    let g = items_go back_ends items nothing_spent 0 0 family before sys none through.right (through_heard back_ends items through) answers in
    ((alone back_ends before (zip (statements_of items) g.full)).state, g.left, record { full = g.full; one_each = g.one_each; full_rightly = g.full_rightly; replies = g.replies; state = refl })
