-- What is so of an item whatever it was answered is so of it as far as it came.
use Rattle.std.proofs.Common.{◌≡◌, ◌⊎◌, ◌∙◌, Bool, true, false, List, [], ◌∷◌, ◌++◌, ap, append-nil, inl, inr, length, refl, subst, sym}
use Rattle.std.specs.Prelude.{IsTrue, filter}
use Rattle.std.proofs.lemmas.Bool.{false≢true}
use Rattle.hb_types.specs.declared.answer.Answer.{Answer}
use Rattle.hb_types.specs.declared.request.Request.{Request}
use Rattle.hb_types.specs.declared.trail.Call.{Call}
use Rattle.hb_types.specs.Lists.{Each, EachBehind, IsIn}
use Rattle.hb_types.proofs.Ascending.{Each-front, Each-in}
use Rattle.hb_types.proofs.PutLaws.{by_test}
use Rattle.hb_model.specs.declared.reply.Reply.{Reply}
use Rattle.hb_model.specs.declared.statement.Statement.{Statement}
use Rattle.hb_model.specs.declared.statement.Statement.TheVariants as statement
use Rattle.hb_model.specs.Answers.{HasAsked, grants_in, is_decide, is_grant, is_of_rows, of_rows}
use Rattle.hb_model.specs.Asked.{AreWhereAsked}
use Rattle.hb_model.specs.Items.{Doing, Item, sql, tending, turn}
use Rattle.hb_model.specs.Locking.{LocksByTable, MayLock, OfLock}
use Rattle.hb_law.specs.Moments.{AreSoFar, IsPartOf, LastAsked}
use Rattle.hb_law.specs.Transactions.{CommitTells, IsBare, IsBoundItem, IsBoundStatement, IsReplyTo, TendingTells, is_of_turn, reply_in}
use Rattle.hb_whose.proofs.Parts.{none_kept}

-- ---- requests of calls as far as they came

module _ (test : Request → Bool) where
  asked_front : (xs ys : List Call) → HasAsked test xs → HasAsked test (xs ++ ys)
  asked_front [] ys h = absurd h
  asked_front (x ∷ xs) ys (inl p) = inl p
  asked_front (x ∷ xs) ys (inr h) = inr (asked_front xs ys h)

  asked_last : (xs : List Call) (c : Call) (a : Answer) (ys : List Call) → HasAsked test (xs ++ record c { answer = a } ∷ []) → HasAsked test (xs ++ c ∷ ys)
  asked_last [] c a ys (inl p) = inl p
  asked_last [] c a ys (inr h) = absurd h
  asked_last (x ∷ xs) c a ys (inl p) = inl p
  asked_last (x ∷ xs) c a ys (inr h) = inr (asked_last xs c a ys h)

-- what holds of fronts, whatever the last of them is answered
holds_so_far : (P : List Call → Type 0) → ((xs ys : List Call) → P (xs ++ ys) → P xs)
    → ((xs : List Call) (c : Call) (a : Answer) (ys : List Call) → P (xs ++ c ∷ ys) → P (xs ++ record c { answer = a } ∷ []))
    → (whole part : List Call) → AreSoFar whole part → P whole → P part
holds_so_far P front last whole part k p = by k.rest k.parts k.last
  where
    by : (rest : List Call) → whole ≡ k.done ++ rest → (part ≡ k.done) ⊎ LastAsked k.done rest part → P part
    by rest e (inl q) = subst P (sym q) (front k.done rest (subst P e p))
    by [] e (inr q) = absurd q
    by (c ∷ rest) e (inr q) = subst P (sym q.1) (last k.done c q.0 rest (subst P e p))

undecided : (whole part : List Call) → AreSoFar whole part → ¬ (HasAsked is_decide whole) → ¬ (HasAsked is_decide part)
undecided =
    holds_so_far (λ cs. ¬ (HasAsked is_decide cs)) (λ xs ys n h. n (asked_front is_decide xs ys h)) (λ xs c a ys n h. n (asked_last is_decide xs c a ys h))

rows_front : (xs ys : List Call) → of_rows (xs ++ ys) ≡ [] → of_rows xs ≡ []
rows_front [] ys e = refl
rows_front (x ∷ xs) ys e = by_test (is_of_rows x.request) (λ t. absurd (taken (rw t at e))) (λ f. rw f (rows_front xs ys (rw f at e)))
  where
    taken : x ∷ of_rows (xs ++ ys) ≡ [] → ⊥
    taken q = cc

rows_last : (xs : List Call) (c : Call) (a : Answer) (ys : List Call) → of_rows (xs ++ c ∷ ys) ≡ [] → of_rows (xs ++ record c { answer = a } ∷ []) ≡ []
rows_last [] c a ys e = by_test (is_of_rows c.request) (λ t. absurd (taken (rw t at e))) (λ f. rw f refl)
  where
    taken : c ∷ of_rows ys ≡ [] → ⊥
    taken q = cc
rows_last (x ∷ xs) c a ys e = by_test (is_of_rows x.request) (λ t. absurd (taken (rw t at e))) (λ f. rw f (rows_last xs c a ys (rw f at e)))
  where
    taken : x ∷ of_rows (xs ++ c ∷ ys) ≡ [] → ⊥
    taken q = cc

locks_front : (st : Statement) (before xs ys : List Call) → EachBehind (λ before c. OfLock (MayLock st before) c.node.0 c.request) before (xs ++ ys)
    → EachBehind (λ before c. OfLock (MayLock st before) c.node.0 c.request) before xs
locks_front st before [] ys e = tt
locks_front st before (x ∷ xs) ys e = (e.0, locks_front st (before ++ x ∷ []) xs ys e.1)

locks_last : (st : Statement) (before xs : List Call) (c : Call) (a : Answer) (ys : List Call)
    → EachBehind (λ before c. OfLock (MayLock st before) c.node.0 c.request) before (xs ++ c ∷ ys)
    → EachBehind (λ before c. OfLock (MayLock st before) c.node.0 c.request) before (xs ++ record c { answer = a } ∷ [])
locks_last st before [] c a ys e = (e.0, tt)
locks_last st before (x ∷ xs) c a ys e = (e.0, locks_last st (before ++ x ∷ []) xs c a ys e.1)

locks : (st : Statement) (whole part : List Call) → AreSoFar whole part → LocksByTable st whole → LocksByTable st part
locks st = holds_so_far (LocksByTable st) (locks_front st []) (locks_last st [])

-- ---- an item

not_granted : (cs : List Call) → grants_in cs ≡ 0 → (c : Call) → IsIn c cs → is_grant c.request c.answer ≡ true → ⊥
not_granted [] e c h g = absurd h
not_granted (x ∷ xs) e c h g = by_test (is_grant x.request x.answer) (λ t. absurd (counted (rw t at e))) (λ f. past f h (λ k. not_granted xs (rw f at e) c k g))
  where
    counted : length (x ∷ filter (λ c. is_grant c.request c.answer) xs) ≡ 0 → ⊥
    counted q = cc

    past : is_grant x.request x.answer ≡ false → IsIn c (x ∷ xs) → (IsIn c xs → ⊥) → ⊥
    past f (inl q) rest = false≢true (sym f ∙ ap (λ z. is_grant z.request z.answer) q ∙ g)
    past f (inr k) rest = rest k

module _ (whole part : Item) (k : IsPartOf whole part) (asked : AreWhereAsked whole.calls)
    (granted : (c : Call) → IsIn c part.calls → is_grant c.request c.answer ≡ true → IsIn c whole.calls) where
  so_far : AreSoFar whole.calls part.calls
  so_far = by k.calls_so_far
    where
      by : (part.calls ≡ whole.calls) ⊎ ((part.lines ≡ []) × AreSoFar whole.calls part.calls) → AreSoFar whole.calls part.calls
      by (inl q) = record { done = whole.calls; rest = []; parts = sym (append-nil whole.calls); last = inl q }
      by (inr s) = s.1

  lines_tell : (P : List Call → Reply → Type 0) → Each (P whole.calls) whole.lines → Each (P part.calls) part.lines
  lines_tell P e = by k.calls_so_far
    where
      by : (part.calls ≡ whole.calls) ⊎ ((part.lines ≡ []) × AreSoFar whole.calls part.calls) → Each (P part.calls) part.lines
      by (inl q) =
          subst (λ cs. Each (P cs) part.lines) (sym q)
          (Each-front (P whole.calls) part.lines k.lines_so_far.0 (subst (Each (P whole.calls)) k.lines_so_far.1 e))
      by (inr s) = subst (Each (P part.calls)) (sym s.0) tt

  bare : IsBare whole.calls → IsBare part.calls
  bare b = (holds_so_far (λ cs. of_rows cs ≡ []) rows_front rows_last whole.calls part.calls so_far b.0, ap length none)
    where
      none : filter (λ c. is_grant c.request c.answer) part.calls ≡ []
      none =
          none_kept (λ c. is_grant c.request c.answer) part.calls
          (Each-in (λ c. is_grant c.request c.answer ≡ false) part.calls
          (λ c i. by_test (is_grant c.request c.answer) (λ t. absurd (not_granted whole.calls b.1 c (granted c i t) t)) (λ f. f)))

  commit_tells : CommitTells whole.calls (reply_in whole.lines) → CommitTells part.calls (reply_in part.lines)
  commit_tells t = by part.lines k.lines_so_far.1 k.calls_so_far
    where
      by : (lines : List Reply) → whole.lines ≡ lines ++ k.lines_so_far.0 → (part.calls ≡ whole.calls) ⊎ ((lines ≡ []) × AreSoFar whole.calls part.calls)
          → CommitTells part.calls (reply_in lines)
      by [] e h = tt
      by (r ∷ rs) e (inl q) = subst (λ cs. CommitTells cs (reply_in (r ∷ rs))) (sym q) (subst (λ ls. CommitTells whole.calls (reply_in ls)) e t)
      by (r ∷ rs) e (inr s) = absurd (nothing s.0)
        where
          nothing : r ∷ rs ≡ [] → ⊥
          nothing q = cc

  statement_bound : (st : Statement) → IsBoundStatement st whole.calls whole.lines → IsBoundStatement st part.calls part.lines
  statement_bound statement.Commit b = (bare b.0, commit_tells b.1)
  statement_bound st b =
      (undecided whole.calls part.calls so_far b.0, λ w. locks st whole.calls part.calls so_far (b.1 asked), lines_tell (λ cs r. IsReplyTo st cs r) b.2)

  doing_bound : (d : Doing) → IsBoundItem (record whole { doing = d }) → IsBoundItem (record part { doing = d })
  doing_bound (sql st) b = statement_bound st b
  doing_bound (turn table most) b = lines_tell (λ cs r. IsTrue (is_of_turn r)) b
  doing_bound tending b = (undecided whole.calls part.calls so_far b.0, bare b.1, lines_tell TendingTells b.2)

  pub bound : IsBoundItem whole → IsBoundItem part
  bound b = subst (λ d. IsBoundItem (record part { doing = d })) (sym k.doing) (doing_bound whole.doing b)
