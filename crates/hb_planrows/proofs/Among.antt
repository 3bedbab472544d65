-- The table of a name, row by row.
use Rattle.std.proofs.Common.{◌≡◌, ℕ, suc, ◌+◌, ◌<◌, Bool, true, false, List, [], ◌∷◌, length, drop, get_or, Option, Some, None, find, refl, ap, sym, ◌∙◌, subst, arith}
use Rattle.std.specs.Prelude.{cond, filter_map, if◌then◌else◌}
use Rattle.std.specs.Option.{option_or}
use Rattle.std.specs.Str.{bytes_eq}
use Rattle.std.proofs.Math.Seq.{drop-cons}
use Rattle.hb_types.specs.declared.change.Stored.{Stored}
use Rattle.hb_model.specs.Told.{Found, found_in, table_among}
use Rattle.hb_planrows.specs.PlanRows.{TellsTable, TellTables, named}

by_test : (f : Found) (b : Bool) (rest : Option Found) → cond b (Some f) rest ≡ option_or (if b then Some f else None) rest
by_test f true rest = refl
by_test f false rest = refl

among_step : (r : Stored) (rs : List Stored) (name : List ℕ) → table_among (r ∷ rs) name ≡ option_or (named name (found_in r)) (table_among rs name)
among_step r rs name = by_case (found_in r) refl
  where
    by_case : (o : Option Found) → found_in r ≡ o → table_among (r ∷ rs) name ≡ option_or (named name o) (table_among rs name)
    by_case None e = rw e refl
    by_case (Some f) e = rw e (by_test f (bytes_eq f.1.name name) (table_among rs name))

pub found_now : (rows : List Stored) (i : ℕ) (r : Stored) (name : List ℕ) → r ≡ get_or rows i r → i < length rows → (o : Option Found)
    → (TellsTable r → o ≡ named name (found_in r)) → TellTables rows → table_among (drop i rows) name ≡ option_or o (table_among (drop (i + 1) rows) name)
found_now rows i r name is lt o told tell =
    let item : get_or rows i r ≡ r = sym is in
    let one : suc i ≡ i + 1 = omega arith in
    let tells : TellsTable r = subst TellsTable item (tell i r lt) in
    ap (λ rs. table_among rs name) (drop-cons rows i r lt)
    ∙ ap (λ s. table_among (s ∷ drop (suc i) rows) name) item
    ∙ among_step r (drop (suc i) rows) name
    ∙ ap (λ n. option_or (named name (found_in r)) (table_among (drop n rows) name)) one
    ∙ ap (λ p. option_or p (table_among (drop (i + 1) rows) name)) (sym (told tells))
