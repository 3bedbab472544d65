-- Calls beside a plan change no row, write no byte, lock and decide nothing.
use Rattle.std.proofs.Common.{◌≡◌, inl, inr, ℕ, ◌+◌, List, [], ◌∷◌, ◌++◌, filter, length, false, refl, subst, ap, ◌∙◌, arith, length-append}
use Rattle.std.specs.Prelude.{IsTrue}
use Rattle.std.proofs.lemmas.Bool.{false≢true}
use Rattle.hb_types.specs.declared.answer.Answer.{Answer}
use Rattle.hb_types.specs.declared.change.Stored.{Stored}
use Rattle.hb_types.specs.declared.request.Request.{Request}
use Rattle.hb_types.specs.declared.request.Request.TheVariants as request
use Rattle.hb_types.specs.declared.trail.Call.{Call}
use Rattle.hb_model.specs.declared.statement.Statement.{Statement}
use Rattle.hb_model.specs.Answers.{AnswersOf, HasAsked, after_answer, afters, bytes_in, grants_in, is_decide, is_grant, written_bytes}
use Rattle.hb_model.specs.Families.{Family}
use Rattle.hb_model.specs.Locking.{OfLock}
use Rattle.hb_model.specs.Needs.{Need}
use Rattle.hb_model.specs.Sources.{WriteMade}
use Rattle.hb_planlocks.proofs.RowLocks.{filter-more}
use Rattle.hb_faithful.specs.Planned.{AreBeside, is_beside}

-- ---- one call

plain_decide : (q : Request) → IsTrue (is_beside q) → IsTrue (is_decide q) → ⊥
plain_decide (request.Decide tx votes) b d = false≢true b
plain_decide _ b d = false≢true d

pub lock_free : (P : Need → Type 0) (node : ℕ) (q : Request) → IsTrue (is_beside q) → OfLock P node q
lock_free P node q = elim q as (λ x. IsTrue (is_beside x) → OfLock P node x) [ request.Lock tx p m ↦ λ b. absurd (false≢true b) | x ↦ λ b. tt ]

pub write_free : (st : Statement) (g : List Stored) (q : Request) → IsTrue (is_beside q) → WriteMade st g q
write_free st g q = elim q as (λ x. IsTrue (is_beside x) → WriteMade st g x) [ request.Write tx c ↦ λ b. absurd (false≢true b) | x ↦ λ b. tt ]

still_after : (node : ℕ) (q : Request) (a : Answer) (family : Family) → IsTrue (is_beside q) → after_answer node q a family ≡ family
still_after node q a family = elim q as (λ x. IsTrue (is_beside x) → after_answer node x a family ≡ family) [ request.Write tx c ↦ λ b. absurd (false≢true b) | x ↦ λ b. refl ]

no_bytes : (q : Request) (a : Answer) → IsTrue (is_beside q) → written_bytes q a ≡ 0
no_bytes q a = elim q as (λ x. IsTrue (is_beside x) → written_bytes x a ≡ 0) [ request.Write tx c ↦ λ b. absurd (false≢true b) | x ↦ λ b. refl ]

no_grant : (q : Request) (a : Answer) → IsTrue (is_beside q) → is_grant q a ≡ false
no_grant q a = elim q as (λ x. IsTrue (is_beside x) → is_grant x a ≡ false) [ request.Lock tx p m ↦ λ b. absurd (false≢true b) | x ↦ λ b. refl ]

-- ---- all of them

pub undecided : (calls : List Call) → AreBeside calls → ¬ (HasAsked is_decide calls)
undecided [] b h = h
undecided (c ∷ cs) b (inl d) = plain_decide c.request b.0 d
undecided (c ∷ cs) b (inr h) = undecided cs b.1 h

pub afters_beside : (family : Family) (calls : List Call) → AreBeside calls → afters family calls ≡ family
afters_beside family [] b = refl
afters_beside family (c ∷ cs) b = ap (λ f. afters f cs) (still_after c.node.0 c.request c.answer family b.0) ∙ afters_beside family cs b.1

bytes_beside : (calls : List Call) → AreBeside calls → bytes_in calls ≡ 0
bytes_beside [] b = refl
bytes_beside (c ∷ cs) b = let one = no_bytes c.request c.answer b.0 in let more = bytes_beside cs b.1 in omega (arith, one, more)

pub grants_beside : (calls : List Call) → AreBeside calls → grants_in calls ≡ 0
grants_beside [] b = refl
grants_beside (c ∷ cs) b = rw (no_grant c.request c.answer b.0) (grants_beside cs b.1)

-- ---- parts

pub afters_append : (family : Family) (xs ys : List Call) → afters family (xs ++ ys) ≡ afters (afters family xs) ys
afters_append family [] ys = refl
afters_append family (x ∷ xs) ys = afters_append (after_answer x.node.0 x.request x.answer family) xs ys

bytes_append : (xs ys : List Call) → bytes_in (xs ++ ys) ≡ bytes_in xs + bytes_in ys
bytes_append [] ys = omega arith
bytes_append (x ∷ xs) ys = let more = bytes_append xs ys in omega (arith, more)

grants_append : (xs ys : List Call) → grants_in (xs ++ ys) ≡ grants_in xs + grants_in ys
grants_append xs ys =
    ap length (filter-more (λ (c : Call). is_grant c.request c.answer) xs ys) ∙ length-append (filter (λ (c : Call). is_grant c.request c.answer) xs) (filter (λ (c : Call). is_grant c.request c.answer) ys)

pub answers_front : (family : Family) (xs ys : List Call) → AnswersOf family (xs ++ ys) → AnswersOf family xs
answers_front family [] ys h = tt
answers_front family (x ∷ xs) ys h = (h.0, answers_front (after_answer x.node.0 x.request x.answer family) xs ys h.1)

pub answers_back : (family : Family) (xs ys : List Call) → AnswersOf family (xs ++ ys) → AnswersOf (afters family xs) ys
answers_back family [] ys h = h
answers_back family (x ∷ xs) ys h = answers_back (after_answer x.node.0 x.request x.answer family) xs ys h.1

module _ (front asked back : List Call) (opens : AreBeside front) (closes : AreBeside back) where
  -- what all calls come to is what those of the plan come to
  pub same_rows : (family : Family) → afters family (front ++ (asked ++ back)) ≡ afters family asked
  same_rows family =
      afters_append family front (asked ++ back) ∙ ap (λ f. afters f (asked ++ back)) (afters_beside family front opens) ∙ afters_append family asked back
      ∙ afters_beside (afters family asked) back closes

  pub same_bytes : bytes_in (front ++ (asked ++ back)) ≡ bytes_in asked
  same_bytes =
      let a = bytes_append front (asked ++ back) in let b = bytes_append asked back in let c = bytes_beside front opens in let d = bytes_beside back closes in omega (arith, a, b, c, d)

  pub same_grants : grants_in (front ++ (asked ++ back)) ≡ grants_in asked
  same_grants =
      let a = grants_append front (asked ++ back) in let b = grants_append asked back in let c = grants_beside front opens in let d = grants_beside back closes in omega (arith, a, b, c, d)

  pub answers_asked : (family : Family) → AnswersOf family (front ++ (asked ++ back)) → AnswersOf family asked
  answers_asked family h =
      answers_front family asked back (subst (λ f. AnswersOf f (asked ++ back)) (afters_beside family front opens) (answers_back family front (asked ++ back) h))
