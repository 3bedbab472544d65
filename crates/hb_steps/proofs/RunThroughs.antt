-- Statements of a decided transaction were run through, and the last one is its COMMIT.
use Rattle.std.proofs.Common.{◌≡◌, ◌⊎◌, ◌∙◌, ℕ, Bool, true, false, List, [], ◌∷◌, ◌++◌, Option, Some, None, ap, arith, inl, inr, length, refl, subst, sym}
use Rattle.std.specs.Prelude.{IsTrue, not}
use Rattle.std.proofs.lemmas.Bool.{false≢true}
use Rattle.hb_types.specs.declared.trail.Call.{Call}
use Rattle.hb_types.specs.Lists.{Each, Has}
use Rattle.hb_types.proofs.Ascending.{Has-back, Has-front, in_Each}
use Rattle.hb_types.proofs.PutLaws.{by_test}
use Rattle.hb_loglaws.proofs.Members.{Has-in, found}
use Rattle.hb_model.specs.declared.reply.Reply.{Reply}
use Rattle.hb_model.specs.declared.reply.Reply.TheVariants as reply
use Rattle.hb_model.specs.declared.statement.Statement.{Statement}
use Rattle.hb_model.specs.declared.statement.Statement.TheVariants as statement
use Rattle.hb_model.specs.Answers.{HasAsked, is_decide, is_undoing}
use Rattle.hb_model.specs.Faithful.{Faithful}
use Rattle.hb_model.specs.Items.{Doing, Item, Spent, calls_of, nothing_spent, spending, sql, tending, turn}
use Rattle.hb_model.specs.Outside.{is_outside, says_undone}
use Rattle.hb_law.specs.RunAlone.{replies_of, replies_to}
use Rattle.hb_law.specs.ShownEnds.{last_item}
use Rattle.hb_law.specs.Transactions.{AllAnswered, AllAsk, AreBeside, AreRight, IsOfStatements, IsRightItem, IsRightStatement, reply_in, tx_asked}
use Rattle.hb_alone.specs.RunThrough.{IsReplied}
use Rattle.hb_parts.specs.Courses.{AskNone}
use Rattle.hb_parts.specs.Txns.{DecidedRunThrough, EndsInCommit}
use Rattle.hb_whose.proofs.Parts.{is_there}
use Rattle.hb_whose.proofs.Told.{heads}

-- ---- a call in two lists of calls

pub data InOf (xs ys front : List Call) (c : Call) (back : List Call) : Type 0 where
  first : (more : List Call) → xs ≡ front ++ c ∷ more → back ≡ more ++ ys → InOf xs ys front c back
  second : (done : List Call) → front ≡ xs ++ done → ys ≡ done ++ c ∷ back → InOf xs ys front c back

pub in_of : (xs ys front : List Call) (c : Call) (back : List Call) → xs ++ ys ≡ front ++ c ∷ back → InOf xs ys front c back
in_of [] ys front c back e = second front refl e
in_of (x ∷ xs) ys [] c back e = let k = heads x c (xs ++ ys) back e in first xs (ap (λ z. z ∷ xs) k.0) (sym k.1)
in_of (x ∷ xs) ys (f ∷ fs) c back e = by (heads x f (xs ++ ys) (fs ++ c ∷ back) e) (in_of xs ys fs c back (heads x f (xs ++ ys) (fs ++ c ∷ back) e).1)
  where
    by : (x ≡ f) × (xs ++ ys ≡ fs ++ c ∷ back) → InOf xs ys fs c back → InOf (x ∷ xs) ys (f ∷ fs) c back
    by k (first more p q) = first more (ap (λ l. x ∷ l) p ∙ ap (λ z. z ∷ (fs ++ c ∷ more)) k.0) q
    by k (second done p q) = second done (ap (λ z. z ∷ fs) (sym k.0) ∙ ap (λ l. x ∷ l) p) q

-- ---- what an item decides, and what it undoes

faithful_of : (back_ends : ℕ) (spent : Spent) (st : Statement) (calls : List Call) (r : Reply) → (st ≡ statement.Commit → ⊥)
    → IsRightStatement back_ends spent st calls (Some r)
    → (full : Bool) × Faithful back_ends spent full st calls r
faithful_of back_ends spent statement.Commit calls r n h = absurd (n refl)
faithful_of back_ends spent st calls r n h = h

undecided_of : (back_ends : ℕ) (spent : Spent) (st : Statement) (calls : List Call) (o : Option Reply) → (st ≡ statement.Commit → ⊥)
    → IsRightStatement back_ends spent st calls o → ¬ (HasAsked is_decide calls)
undecided_of back_ends spent statement.Commit calls o n h = absurd (n refl)
undecided_of back_ends spent st calls (Some r) n h = h.1.undecided
undecided_of back_ends spent st calls None n h = h.0

abbrev is_commit : Statement → Bool
is_commit statement.Commit = true
is_commit _ = false

commit_or_not : (st : Statement) → (st ≡ statement.Commit) ⊎ (st ≡ statement.Commit → ⊥)
commit_or_not statement.Commit = inl refl
commit_or_not st = inr (λ e. false≢true (ap is_commit e))

-- an item of a decision is a COMMIT
decides : (back_ends : ℕ) (spent : Spent) (place : ℕ) (w : Doing) (calls : List Call) (lines : List Reply)
    → IsRightItem back_ends spent (record { place = place; doing = w; calls = calls; lines = lines })
    → IsOfStatements w → HasAsked is_decide calls → w ≡ sql statement.Commit
decides back_ends spent place (sql st) calls lines r s h =
    elim (commit_or_not st) [ inl e ↦ ap sql e | inr n ↦ absurd (undecided_of back_ends spent st calls (reply_in lines) n r h) ]
decides back_ends spent place tending calls lines r s h = absurd (r.0 h)
decides back_ends spent place (turn table most) calls lines r s h = absurd s

-- a statement with one line has its reply
has_line : (st : Statement) (lines : List Reply) → length lines ≡ 1 → IsReplied (sql st) lines
has_line statement.Commit lines e = tt
has_line st [] e = absurd (omega (arith, e))
has_line st (r ∷ rs) e = λ h. cons_nil r rs h
  where
    cons_nil : (r : Reply) (rs : List Reply) → r ∷ rs ≡ [] → ⊥
    cons_nil r rs h = cc

replied : (w : Doing) (lines : List Reply) → IsOfStatements w → length lines ≡ 1 → IsReplied w lines
replied (sql st) lines s e = has_line st lines e
replied tending lines s e = tt
replied (turn table most) lines s e = absurd s

undone_too : (r : Reply) → is_outside r ≡ true → IsTrue (says_undone r)
undone_too reply.RolledBack e = refl
undone_too r e = e

not_outside : (x : Reply) → (IsTrue (says_undone x) → ⊥) → IsTrue (not (is_outside x))
not_outside x n = by_test (is_outside x) (λ t. absurd (n (undone_too x t))) (λ f. rw f refl)

plain_inside : (back_ends : ℕ) (spent : Spent) (st : Statement) (calls : List Call) (x : Reply) → IsRightStatement back_ends spent st calls (Some x)
    → ¬ (HasAsked is_undoing calls)
    → Each (λ r. IsTrue (not (is_outside r))) (replies_to (sql st) (x ∷ []))
plain_inside back_ends spent statement.Commit calls x r un = tt
plain_inside back_ends spent st calls x r un = (not_outside x (λ u. un (r.1.undone u)), tt)

-- where nothing was undone, no reply is an outside one
inside : (back_ends : ℕ) (spent : Spent) (place : ℕ) (w : Doing) (calls : List Call) (lines : List Reply)
    → IsRightItem back_ends spent (record { place = place; doing = w; calls = calls; lines = lines })
    → length lines ≡ 1 → ¬ (HasAsked is_undoing calls) → Each (λ r. IsTrue (not (is_outside r))) (replies_to w lines)
inside back_ends spent place (sql st) calls [] r e un = absurd (omega (arith, e))
inside back_ends spent place (sql st) calls (x ∷ y ∷ zs) r e un = absurd (omega (arith, e))
inside back_ends spent place (sql st) calls (x ∷ []) r e un = plain_inside back_ends spent st calls x r un
inside back_ends spent place tending calls lines r e un = tt
inside back_ends spent place (turn table most) calls lines r e un = tt

-- ---- all items

record Through (items : List Item) : Type 0 where
  replied : Each (λ i. IsReplied i.doing i.lines) items
  inside : Each (λ r. IsTrue (not (is_outside r))) (replies_of items)
  commits : EndsInCommit (last_item items)

each_append : (P : Reply → Type 0) (xs ys : List Reply) → Each P xs → Each P ys → Each P (xs ++ ys)
each_append P [] ys e f = f
each_append P (x ∷ xs) ys e f = (e.0, each_append P xs ys e.1 f)

nil_is : (front : List Call) (c : Call) (back : List Call) → [] ≡ front ++ c ∷ back → ⊥
nil_is [] c back e = cc
nil_is (f ∷ fs) c back e = cc

module _ (back_ends t : ℕ) where
  -- an item behind the decision would ask something of the transaction, and amid it nothing was decided
  none_behind : (before : List Call) (is : List Item) → HasAsked is_decide before → AllAsk t before is → AskNone t (calls_of is) → is ≡ []
  none_behind before [] d a n = refl
  none_behind before (j ∷ js) d a n = by a.0.1
    where
      by : Has (λ c. tx_asked c.request ≡ Some t) j.calls ⊎ AreBeside before j.calls → j ∷ js ≡ []
      by (inl h) =
          let c = found (λ (c : Call). tx_asked c.request ≡ Some t) j.calls h in
          absurd (in_Each (λ y. tx_asked y.request ≡ Some t → ⊥) c.0 (j.calls ++ calls_of js) (Has-front (λ y. y ≡ c.0) j.calls (calls_of js) c.1) n c.2)
      by (inr beside) = absurd (beside.undecided d)

  commit_is_last : (i : Item) → i.doing ≡ sql statement.Commit → Through (i ∷ [])
  commit_is_last i e =
      record {
        replied = (subst (λ w. IsReplied w i.lines) (sym e) tt, tt);
        inside = subst (λ w. Each (λ r. IsTrue (not (is_outside r))) (replies_to w i.lines ++ [])) (sym e) tt;
        commits = e;
      }

  has_decide : (calls front : List Call) (decide : Call) (more : List Call) → calls ≡ front ++ decide ∷ more → IsTrue (is_decide decide.request)
      → HasAsked is_decide calls
  has_decide calls front decide more p d =
      subst (HasAsked is_decide) (sym p) (Has-in (λ c. IsTrue (is_decide c.request)) decide (front ++ decide ∷ more) (is_there decide front more) d)

  -- these items, behind the calls of those before
  through : (past : List Call) (i : Item) (is : List Item) (spent : Spent) (front : List Call) (decide : Call) (back : List Call)
      → AreRight back_ends spent (i ∷ is)
      → Each (λ j. IsOfStatements j.doing) (i ∷ is) → AllAnswered (i ∷ is) → AllAsk t (past ++ i.calls) is → calls_of (i ∷ is) ≡ front ++ decide ∷ back
      → IsTrue (is_decide decide.request) → ¬ (HasAsked is_undoing front) → AskNone t back → Through (i ∷ is)
  through past i [] spent front decide back right kinds answered asks e d un none = here (in_of i.calls [] front decide back e)
    where
      here : InOf i.calls [] front decide back → Through (i ∷ [])
      here (first more p q) =
          commit_is_last i (decides back_ends spent i.place i.doing i.calls i.lines right.0 kinds.0 (has_decide i.calls front decide more p d))
      here (second done p q) = absurd (nil_is done decide back q)
  through past i (j ∷ js) spent front decide back right kinds answered asks e d un none =
      here (in_of i.calls (calls_of (j ∷ js)) front decide back e)
      (λ done p q. through (past ++ i.calls) j js (spending spent i.calls) done decide back right.1 kinds.1 answered.1 asks.1 q d
      (λ h. un (subst (HasAsked is_undoing) (sym p) (Has-back (λ c. IsTrue (is_undoing c.request)) i.calls done h))) none)
    where
      here : InOf i.calls (calls_of (j ∷ js)) front decide back
          → ((done : List Call) → front ≡ i.calls ++ done → calls_of (j ∷ js) ≡ done ++ decide ∷ back → Through (j ∷ js)) → Through (i ∷ j ∷ js)
      here (first more p q) rest =
          let decided = Has-back (λ c. IsTrue (is_decide c.request)) past i.calls (has_decide i.calls front decide more p d) in
          absurd (cons_nil (none_behind (past ++ i.calls) (j ∷ js) decided asks (each_back more (calls_of (j ∷ js)) (subst (AskNone t) q none))))
        where
          cons_nil : j ∷ js ≡ [] → ⊥
          cons_nil h = cc

          each_back : (xs ys : List Call) → AskNone t (xs ++ ys) → AskNone t ys
          each_back [] ys n = n
          each_back (x ∷ xs) ys n = each_back xs ys n.1
      here (second done p q) rest =
          let r = rest done p q in
          record {
            replied = (replied i.doing i.lines kinds.0 answered.0, r.replied);
            inside = each_append (λ x. IsTrue (not (is_outside x))) (replies_to i.doing i.lines) (replies_of (j ∷ js))
                (inside back_ends spent i.place i.doing i.calls i.lines right.0 answered.0
                (λ h. un (subst (HasAsked is_undoing) (sym p) (Has-front (λ c. IsTrue (is_undoing c.request)) i.calls done h)))) r.inside;
            commits = r.commits;
          }

pub run_through : DecidedRunThrough
run_through back_ends d i is right kinds answered asks c =
    let h = through back_ends d.tx [] i is nothing_spent c.front c.decide c.back right kinds answered asks c.parts
    (ap is_decide c.asked) c.not_undone c.nothing_behind in
    (record { statements = kinds; right = right; answered = answered; replied = h.replied; inside = h.inside }, h.commits)
