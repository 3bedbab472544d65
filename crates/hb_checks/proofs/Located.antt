-- Where a call that fes1 answered stands in its trail, and what its caller began behind it.
use Rattle.std.proofs.Common.{◌≡◌, ◌∙◌, ℕ, true, List, [], ◌∷◌, ◌++◌, Some, ap, append_assoc, refl, subst, sym}
use Rattle.std.specs.Prelude.{filter, slice_get, ◌==◌}
use Rattle.std.proofs.lemmas.List.Elements.{filter-append}
use Rattle.hb_types.specs.declared.trail.Call.{Call}
use Rattle.hb_types.proofs.PutLaws.{by_test}
use Rattle.hb_runs.specs.ServerRuns.{Asked}
use Rattle.hb_law.specs.Histories.{Labelled, Merged, Trails, asked, asked_by, asked_of, calls_at, entries_of, stands}
use Rattle.hb_coordlaws.specs.Ascending.{given}
use Rattle.hb_whose.proofs.Begins.{gave, given_cons}
use Rattle.hb_whose.proofs.Parts.{unkept}
use Rattle.hb_whose.proofs.Trailing.{calls_at_append, same_number}

-- ---- lists in parts

asked_append : (xs ys : List Labelled) → asked_of (xs ++ ys) ≡ asked_of xs ++ asked_of ys
asked_append [] ys = refl
asked_append (x ∷ xs) ys = ap (λ l. asked x.entry ∷ l) (asked_append xs ys)

pub given_append : (xs ys : List Asked) → given (xs ++ ys) ≡ given xs ++ given ys
given_append [] ys = refl
given_append (x ∷ xs) ys =
    given_cons x (xs ++ ys) ∙ ap (λ l. gave x ++ l) (given_append xs ys) ∙ sym (append_assoc (gave x) (given xs) (given ys)) ∙ ap (λ l. l ++ given ys) (sym (given_cons x xs))

-- ---- one of a caller's entries in the trail

pub record Unlisted (caller : ℕ) (trail : List Labelled) (a : Asked) (rest : List Asked) : Type 0 where
  pub before : List Labelled
  pub one : Labelled
  pub behind : List Labelled
  pub parts : trail ≡ before ++ one ∷ behind
  pub is : asked one.entry ≡ a
  pub later : entries_of caller behind ≡ rest

asked_heads : (x y : Asked) (xs ys : List Asked) → x ∷ xs ≡ y ∷ ys → (x ≡ y) × (xs ≡ ys)
asked_heads x y xs ys e = (cc, cc)

asked_nil : (front : List Asked) (a : Asked) (rest : List Asked) → [] ≡ front ++ a ∷ rest → ⊥
asked_nil [] a rest e = cc
asked_nil (x ∷ xs) a rest e = cc

pub unlisted : (caller : ℕ) (trail : List Labelled) (front : List Asked) (a : Asked) (rest : List Asked) → entries_of caller trail ≡ front ++ a ∷ rest → Unlisted caller trail a rest
unlisted caller [] front a rest e = absurd (asked_nil front a rest e)
unlisted caller (l ∷ ls) front a rest e =
    by_test (l.caller == caller)
    (λ t. own front (rw t at e) (λ more h. unlisted caller ls more a rest h))
    (λ f. later (unlisted caller ls front a rest (rw f at e)))
  where
    later : Unlisted caller ls a rest → Unlisted caller (l ∷ ls) a rest
    later u = record { before = l ∷ u.before; one = u.one; behind = u.behind; parts = ap (λ z. l ∷ z) u.parts; is = u.is; later = u.later }

    own : (front : List Asked) → asked l.entry ∷ entries_of caller ls ≡ front ++ a ∷ rest → ((more : List Asked) → entries_of caller ls ≡ more ++ a ∷ rest → Unlisted caller ls a rest)
        → Unlisted caller (l ∷ ls) a rest
    own [] e f = let k = asked_heads (asked l.entry) a (entries_of caller ls) rest e in record { before = []; one = l; behind = ls; parts = refl; is = k.0; later = k.1 }
    own (x ∷ xs) e f = later (f xs (asked_heads (asked l.entry) x (entries_of caller ls) (xs ++ a ∷ rest) e).1)

-- ---- a call in the trail of fes1

-- the trail with the call in it, and the caller's calls behind it
pub record Located (fes : List Labelled) (caller : ℕ) (c : Call) (back : List Call) : Type 0 where
  pub before : List Labelled
  pub behind : List Labelled
  pub parts : asked_of fes ≡ asked_of before ++ asked_by c ∷ asked_of behind
  pub later : filter stands (entries_of caller behind) ≡ filter stands (calls_at 0 back)

pub located : (trails : Trails) (lists : List (List Call)) → Merged trails lists → (fes : List Labelled) → slice_get trails 0 ≡ Some fes → (caller : ℕ) (list front : List Call) (c : Call) (back : List Call)
    → slice_get lists caller ≡ Some list → list ≡ front ++ c ∷ back → c.node.0 ≡ 0 → stands (asked_by c) ≡ true → Located fes caller c back
located trails lists m fes at caller list front c back its parts node stood =
    let u = unkept stands (entries_of caller fes) (filter stands (calls_at 0 front)) (asked_by c) (filter stands (calls_at 0 back)) (m.same 0 caller fes list at its ∙ standing) in
    let l = unlisted caller fes u.front (asked_by c) u.back u.parts in
    record {
      before = l.before;
      behind = l.behind;
      parts = ap asked_of l.parts ∙ asked_append l.before (l.one ∷ l.behind) ∙ ap (λ a. asked_of l.before ++ a ∷ asked_of l.behind) l.is;
      later = ap (filter stands) l.later ∙ u.behind;
    }
  where
    here : calls_at 0 (c ∷ back) ≡ asked_by c ∷ calls_at 0 back
    here = let t : (c.node.0 == 0) ≡ true = subst (λ n. (n == 0) ≡ true) (sym node) (same_number 0) in rw t refl

    standing : filter stands (calls_at 0 list) ≡ filter stands (calls_at 0 front) ++ asked_by c ∷ filter stands (calls_at 0 back)
    standing =
        ap (λ l. filter stands (calls_at 0 l)) parts ∙ ap (filter stands) (calls_at_append 0 front (c ∷ back) ∙ ap (λ l. calls_at 0 front ++ l) here)
        ∙ filter-append stands (calls_at 0 front) (asked_by c ∷ calls_at 0 back) ∙ ap (λ l. filter stands (calls_at 0 front) ++ l) kept
      where
        kept : filter stands (asked_by c ∷ calls_at 0 back) ≡ asked_by c ∷ filter stands (calls_at 0 back)
        kept = rw stood refl
