-- Of a caller's calls those on rows alone tell what is read and written.
use Rattle.std.proofs.Common.{◌≡◌, ℕ, List, [], ◌∷◌, false, refl, subst, sym, ap, ◌∙◌}
use Rattle.std.proofs.lemmas.Bool.{false≢true}
use Rattle.hb_types.specs.declared.answer.Answer.{Answer}
use Rattle.hb_types.specs.declared.request.Request.{Request}
use Rattle.hb_types.specs.declared.request.Request.TheVariants as request
use Rattle.hb_types.specs.declared.trail.Call.{Call}
use Rattle.hb_types.proofs.PutLaws.{by_test}
use Rattle.hb_model.specs.Answers.{AnswersOf, after_answer, after_call, afters, is_of_rows, of_rows}
use Rattle.hb_model.specs.Families.{Family}

writes_nothing : (q : Request) → is_of_rows q ≡ false → (node : ℕ) (a : Answer) (family : Family) → after_answer node q a family ≡ family
writes_nothing q = elim q as (λ x. is_of_rows x ≡ false → (node : ℕ) (a : Answer) (family : Family) → after_answer node x a family ≡ family) [
  | request.Write tx change ↦ λ h node a family. absurd (false≢true (sym h))
  | x ↦ λ h node a family. refl
]

pub afters_of_rows : (family : Family) (calls : List Call) → afters family calls ≡ afters family (of_rows calls)
afters_of_rows family [] = refl
afters_of_rows family (c ∷ cs) =
    by_test (is_of_rows c.request)
    (λ t. rw t (afters_of_rows (after_call family c) cs))
    (λ n. rw n (ap (λ f. afters f cs) (writes_nothing c.request n c.node.0 c.answer family) ∙ afters_of_rows family cs))

pub answers_of_rows : (family : Family) (calls : List Call) → AnswersOf family calls → AnswersOf family (of_rows calls)
answers_of_rows family [] a = tt
answers_of_rows family (c ∷ cs) a =
    by_test (is_of_rows c.request)
    (λ t. rw t (a.0, answers_of_rows (after_call family c) cs a.1))
    (λ n. rw n (answers_of_rows family cs (subst (λ f. AnswersOf f cs) (writes_nothing c.request n c.node.0 c.answer family) a.1)))
