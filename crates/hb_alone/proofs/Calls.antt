-- Calls one after another, and calls that read and write no row.
use Rattle.std.proofs.Common.{◌≡◌, ◌∙◌, ℕ, Bool, true, false, List, [], ◌∷◌, ◌++◌, ap, refl, sym, arith}
use Rattle.std.specs.Prelude.{cond}
use Rattle.std.proofs.lemmas.Bool.{false≢true}
use Rattle.hb_types.specs.declared.answer.Answer.{Answer}
use Rattle.hb_types.specs.declared.request.Request.{Request}
use Rattle.hb_types.specs.declared.request.Request.TheVariants as request
use Rattle.hb_types.specs.declared.trail.Call.{Call}
use Rattle.hb_model.specs.Answers.{AnswersOf, after_answer, after_call, afters, bytes_in, is_of_rows, of_rows, written_bytes}
use Rattle.hb_model.specs.Families.{Family}

-- ---- parts

pub afters_append : (family : Family) (xs ys : List Call) → afters family (xs ++ ys) ≡ afters (afters family xs) ys
afters_append family [] ys = refl
afters_append family (x ∷ xs) ys = afters_append (after_call family x) xs ys

pub answers_front : (family : Family) (xs ys : List Call) → AnswersOf family (xs ++ ys) → AnswersOf family xs
answers_front family [] ys h = tt
answers_front family (x ∷ xs) ys h = (h.0, answers_front (after_call family x) xs ys h.1)

pub answers_back : (family : Family) (xs ys : List Call) → AnswersOf family (xs ++ ys) → AnswersOf (afters family xs) ys
answers_back family [] ys h = h
answers_back family (x ∷ xs) ys h = answers_back (after_call family x) xs ys h.1

-- ---- no row

-- what calls without rows leave, and the bytes that they write
pub record Leaves (family : Family) (calls : List Call) : Type 0 where
  pub same : afters family calls ≡ family
  pub bytes : bytes_in calls ≡ 0

same_one : (node : ℕ) (q : Request) (a : Answer) (family : Family) → is_of_rows q ≡ false → after_answer node q a family ≡ family
same_one node q a family = elim q as (λ x. is_of_rows x ≡ false → after_answer node x a family ≡ family) [ request.Write tx c ↦ λ e. absurd (false≢true (sym e)) | x ↦ λ e. refl ]

bytes_one : (q : Request) (a : Answer) → is_of_rows q ≡ false → written_bytes q a ≡ 0
bytes_one q a = elim q as (λ x. is_of_rows x ≡ false → written_bytes x a ≡ 0) [ request.Write tx c ↦ λ e. absurd (false≢true (sym e)) | x ↦ λ e. refl ]

-- a list that keeps nothing doesn't keep its first item
none_first : (b : Bool) (c : Call) (cs : List Call) → cond b (c ∷ cs) cs ≡ [] → (b ≡ false) × (cs ≡ [])
none_first true c cs e = cc
none_first false c cs e = (refl, e)

pub rowless_leaves : (family : Family) (calls : List Call) → of_rows calls ≡ [] → Leaves family calls
rowless_leaves family [] e = record { same = refl; bytes = refl }
rowless_leaves family (c ∷ cs) e =
    let parts = none_first (is_of_rows c.request) c (of_rows cs) e in
    let more = rowless_leaves family cs parts.1 in
    let one = bytes_one c.request c.answer parts.0 in
    let rest = more.bytes in
    record {
      same = ap (λ f. afters f cs) (same_one c.node.0 c.request c.answer family parts.0) ∙ more.same;
      bytes = omega (arith, one, rest);
    }
