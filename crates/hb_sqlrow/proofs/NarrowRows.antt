-- Rows whose numbers are within INTEGER.
use Rattle.std.proofs.Common.{suc, cond, arith, List, [], ◌∷◌, filter, Bool, true, false, All}
use Rattle.std.specs.Prelude.{Option}
use Rattle.hb_types.specs.declared.value.Value.{Value}
use Rattle.hb_types.specs.declared.value.Value.TheVariants as value
use Rattle.hb_types.specs.declared.value.Column.{Column}
use Rattle.hb_types.specs.Lists.{Each}
use Rattle.hb_types.specs.Rows.{HasBytes}
use Rattle.hb_model.specs.declared.condition.Pred.{Pred}
use Rattle.hb_model.specs.declared.table.Table.{Table}
use Rattle.hb_model.specs.Rows.{chosen, chooses}
use Rattle.hb_model.specs.Valid.{Fits, FitsAll}
use Rattle.hb_sqlrow.specs.Narrow.{IsNarrow, AreNarrow}

fits_narrow : (c : Column) (v : Value) → Fits c v → IsNarrow v
fits_narrow c (value.Int n) fits = fits.1
fits_narrow c (value.Text t) fits = tt

row_narrow : (cs : List Column) (vs : List Value) → FitsAll cs vs → Each IsNarrow vs
row_narrow [] [] fits = tt
row_narrow [] (v ∷ vs) fits = absurd fits
row_narrow (c ∷ cs) [] fits = absurd fits
row_narrow (c ∷ cs) (v ∷ vs) fits = (fits_narrow c v fits.0, row_narrow cs vs fits.1)

pub fitting_narrow : (cs : List Column) (rows : List (List Value)) → Each (FitsAll cs) rows → AreNarrow rows
fitting_narrow cs [] all = tt
fitting_narrow cs (r ∷ rs) all = (row_narrow cs r all.0, fitting_narrow cs rs all.1)

bytes_narrow : (v : Value) → HasBytes v → IsNarrow v
bytes_narrow (value.Int n) has = has
bytes_narrow (value.Text t) has = tt

pub read_narrow : (row : List Value) → All HasBytes row → Each IsNarrow row
read_narrow [] all = tt
read_narrow (v ∷ vs) all = (bytes_narrow v (all 0 v (omega arith)), read_narrow vs (λ k d lt. all (suc k) d (omega (arith, lt))))

kept : {A : Type 0} (P : A → Type 0) (b : Bool) (x : A) (ys : List A) → P x → Each P ys → Each P (cond b (x ∷ ys) ys)
kept P true x ys here all = (here, all)
kept P false x ys here all = all

each_filtered : {A : Type 0} (P : A → Type 0) (p : A → Bool) (xs : List A) → Each P xs → Each P (filter p xs)
each_filtered P p [] all = tt
each_filtered P p (x ∷ xs) all =
    kept P (p x) x (filter p xs) all.0 (each_filtered P p xs all.1)

pub chosen_narrow : (t : Table) (p : Option Pred) → AreNarrow t.rows → AreNarrow (chosen t p)
chosen_narrow t p all = each_filtered (Each IsNarrow) (chooses t p) t.rows all
