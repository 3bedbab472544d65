-- A row goes to its place by an insert.
use Rattle.std.proofs.Common.{◌≡◌, ℕ, suc, ◌+◌, ◌<◌, All, get_or, subst, Bool, true, false, List, [], ◌∷◌, ◌++◌, length, take, drop, Option, Some, None, refl, ap, sym, ◌∙◌}
use Rattle.std.specs.Prelude.{cond, if◌then◌else◌, insert, fold, filter_map}
use Rattle.std.specs.Ordering.{int_cmp, is_lt}
use Rattle.std.proofs.lemmas.List.{take_more}
use Rattle.hb_types.specs.declared.change.Stored.{Stored}
use Rattle.hb_types.specs.Rows.{IsRow}
use Rattle.hb_talk.specs.Plans.{Lying, by_key, lying, lying_rows}
use Rattle.hb_planrows.specs.PlanRows.{spot_of, with_one}

step : (l m : Lying) (ms : List Lying) (b : Bool) → by_key l ms ≡ insert ms (spot_of l.0.key ms) l
    → cond b (l ∷ m ∷ ms) (m ∷ by_key l ms) ≡ insert (m ∷ ms) (if b then 0 else suc (spot_of l.0.key ms)) l
step l m ms true e = refl
step l m ms false e = ap (λ xs. m ∷ xs) e

pub by_key_is_insert : (l : Lying) (ls : List Lying) → by_key l ls ≡ insert ls (spot_of l.0.key ls) l
by_key_is_insert l [] = refl
by_key_is_insert l (m ∷ ms) = step l m ms (is_lt (int_cmp l.0.key m.0.key)) (by_key_is_insert l ms)

-- ---- rows, one after another

joined_by : (ls : List Lying) (r : Stored) (rs : List Stored) → fold (λ ls l. by_key l ls) ls (filter_map lying (r ∷ rs)) ≡ fold (λ ls l. by_key l ls) (with_one ls (lying r)) (filter_map lying rs)
joined_by ls r rs = by_case (lying r) refl
  where
    by_case : (o : Option Lying) → lying r ≡ o → fold (λ ls l. by_key l ls) ls (filter_map lying (r ∷ rs)) ≡ fold (λ ls l. by_key l ls) (with_one ls o) (filter_map lying rs)
    by_case None e = rw e refl
    by_case (Some l) e = rw e refl

more_from : (ls : List Lying) (rs : List Stored) (r : Stored)
    → fold (λ ls l. by_key l ls) ls (filter_map lying (rs ++ r ∷ [])) ≡ with_one (fold (λ ls l. by_key l ls) ls (filter_map lying rs)) (lying r)
more_from ls [] r = joined_by ls r []
more_from ls (s ∷ rs) r =
    joined_by ls s (rs ++ r ∷ []) ∙ more_from (with_one ls (lying s)) rs r ∙ ap (λ xs. with_one xs (lying r)) (sym (joined_by ls s rs))

pub one_more : (rs : List Stored) (r : Stored) → lying_rows (rs ++ r ∷ []) ≡ with_one (lying_rows rs) (lying r)
one_more rs r = more_from [] rs r

-- one row more of a loop over rows
pub lying_step : (rows : List Stored) (i : ℕ) (r : Stored) → r ≡ get_or rows i r → i < length rows → (before after : List Lying) (l : Option Lying)
    → (All (λ r. IsRow r.row) rows → before ≡ lying_rows (take i rows)) → (IsRow r.row → l ≡ lying r) → after ≡ with_one before l
    → All (λ r. IsRow r.row) rows → after ≡ lying_rows (take (i + 1) rows)
lying_step rows i r is lt before after l inv told put all =
    let item : get_or rows i r ≡ r = sym is in
    let row : IsRow r.row = subst (λ s. IsRow s.row) item (all i r lt) in
    put ∙ ap (λ ls. with_one ls l) (inv all) ∙ ap (with_one (lying_rows (take i rows))) (told row)
    ∙ sym (one_more (take i rows) r) ∙ ap (λ s. lying_rows (take i rows ++ s ∷ [])) (sym item) ∙ ap lying_rows (sym (take_more rows i r lt))
