-- The columns of a new table are read.
use Rattle.std.proofs.Common.{◌≡◌, ℕ, inl, false, List, [], ◌∷◌, ◌++◌, Some, option_map, refl, sym, subst}
use Rattle.hb_types.specs.declared.value.Column.{Column}
use Rattle.hb_sqltoken.specs.declared.token.Token.{Token}
use Rattle.hb_sqltoken.specs.declared.token.Token.TheVariants as token
use Rattle.hb_sqltoken.specs.declared.token.Word.TheVariants as word
use Rattle.hb_sqlcond.specs.Runs.{here, next, Completes}
use Rattle.hb_sqlsteps.specs.declared.marks.Mark.TheVariants as mark
use Rattle.hb_sqlsteps.specs.declared.columns.Columns.{Columns}
use Rattle.hb_sqlsteps.specs.declared.columns.Columns.TheVariants as columns
use Rattle.hb_sqlparse.specs.Keywords.{INTEGER, VARCHAR}
use Rattle.hb_sqlparse.specs.Listed.{Listed}
use Rattle.hb_sqlsteps.specs.Kept.{column, varchar_size}
use Rattle.hb_sqlparse.specs.Columns.{IsColumn, integer, varchar}
use Rattle.hb_sqlsteps.specs.Marks.{is_mark}
use Rattle.hb_sqlsteps.specs.ListSteps.{size_in, step_columns, whole_columns}
use Rattle.hb_sqlparse.proofs.Takes.{some_is, none_is, mark_back, name_back, word_back, word_split}
use Rattle.hb_sqlparse.proofs.Going.{ends_here, ends_next}
use Rattle.hb_sqlparse.proofs.Listing.{Meets, WantRest, HaveRest, ItemRest, item_want, go_comma, Item, reads_list}

column_item : (xs : List Column) (x : Column) (s r : List Token) → IsColumn x s r → Item step_columns whole_columns columns.Want xs x s r
column_item xs x s r integer = record { state = columns.Have (xs ++ x ∷ []); leads = next refl (next refl here); is = refl; goes_on = refl }
column_item xs x s r varchar = record { state = columns.Have (xs ++ x ∷ []); leads = next refl (next refl (next refl (next refl (next refl here)))); is = refl; goes_on = refl }

-- the size is there, and the column is whole behind a parenthesis
record SizeRest (xs zs : List Column) (x : Column) (s r : List Token) : Type 0 where
  behind : List Token
  close : s ≡ token.Close ∷ behind
  have : HaveRest IsColumn (xs ++ x ∷ []) zs behind r

abbrev columns_rest : Columns → List Column → List Token → List Token → Type 0
columns_rest (columns.Want xs) zs s r = WantRest IsColumn xs zs s r
columns_rest (columns.Named xs name) zs s r = ItemRest IsColumn xs zs (token.Name name ∷ s) r
columns_rest (columns.Varchar xs name) zs s r = ItemRest IsColumn xs zs (token.Name name ∷ VARCHAR ∷ s) r
columns_rest (columns.Open xs name) zs s r = ItemRest IsColumn xs zs (token.Name name ∷ VARCHAR ∷ token.Open ∷ s) r
columns_rest (columns.Size xs x) zs s r = SizeRest xs zs x s r
columns_rest (columns.Have xs) zs s r = HaveRest IsColumn xs zs s r

of_size : (xs zs : List Column) (name : List ℕ) (n : ℕ) (s r : List Token) → SizeRest xs zs (column name (varchar_size n)) s r
    → ItemRest IsColumn xs zs (token.Name name ∷ VARCHAR ∷ token.Open ∷ token.Number n ∷ s) r
of_size xs zs name n s r x = record {
  item = column name (varchar_size n);
  behind = x.behind;
  is = subst (λ (l : List Token). IsColumn (column name (varchar_size n)) (token.Name name ∷ VARCHAR ∷ token.Open ∷ token.Number n ∷ l) x.behind) (sym x.close) varchar;
  have = x.have;
}

open_back : (zs : List Column) (r : List Token) (xs : List Column) (name : List ℕ) (t : Token) (m : Columns) (s : List Token) → option_map (λ size. columns.Size xs (column name size)) (size_in t) ≡ Some m
    → columns_rest m zs s r → ItemRest IsColumn xs zs (token.Name name ∷ VARCHAR ∷ token.Open ∷ t ∷ s) r
open_back zs r xs name (token.Number n) m s h x = of_size xs zs name n s r (subst (λ m. columns_rest m zs s r) (sym (some_is h)) x)
open_back zs r xs name _ m s h x = absurd (none_is h)

columns_back : (zs : List Column) (r : List Token) (c : Columns) (t : Token) (m : Columns) (s : List Token) → step_columns c t ≡ Some m → columns_rest m zs s r → columns_rest c zs (t ∷ s) r
columns_back zs r (columns.Want xs) t m s h =
    name_back (λ t m. columns_rest m zs s r → columns_rest (columns.Want xs) zs (t ∷ s) r) t _ m h (λ n x. item_want IsColumn xs zs _ r x)
columns_back zs r (columns.Named xs name) t m s h =
    word_split (λ t. columns_rest m zs s r → columns_rest (columns.Named xs name) zs (t ∷ s) r) word.Integer t _ _ m h
    (λ e x. record { item = column name 0; behind = s; is = integer; have = subst (λ m. columns_rest m zs s r) (sym (some_is e)) x })
    (λ e. word_back (λ t m. columns_rest m zs s r → columns_rest (columns.Named xs name) zs (t ∷ s) r) word.Varchar t _ m e (λ x. x))
columns_back zs r (columns.Varchar xs name) t m s h =
    mark_back (λ t m. columns_rest m zs s r → columns_rest (columns.Varchar xs name) zs (t ∷ s) r) mark.Open t _ m h (λ x. x)
columns_back zs r (columns.Open xs name) t m s h = open_back zs r xs name t m s h
columns_back zs r (columns.Size xs x) t m s h =
    mark_back (λ t m. columns_rest m zs s r → columns_rest (columns.Size xs x) zs (t ∷ s) r) mark.Close t _ m h (λ y. record { behind = s; close = refl; have = y })
columns_back zs r (columns.Have xs) t m s h =
    mark_back (λ t m. columns_rest m zs s r → columns_rest (columns.Have xs) zs (t ∷ s) r) mark.Comma t _ m h (λ x. go_comma IsColumn xs zs s r x)

columns_base : (c : Columns) (zs : List Column) (r : List Token) → whole_columns c ≡ Some zs → columns_rest c zs r r
columns_base (columns.Have xs) zs r h = inl (some_is h, refl)
columns_base _ zs r h = absurd (none_is h)

columns_end : (c : Columns) → Completes step_columns whole_columns c
columns_end (columns.Have xs) = ends_here (columns.Have xs) xs refl
columns_end (columns.Want xs) = ends_next (token.Name (97 ∷ [])) refl (ends_next INTEGER refl (ends_here (columns.Have _) _ refl))
columns_end (columns.Named xs name) = ends_next INTEGER refl (ends_here (columns.Have _) _ refl)
columns_end (columns.Varchar xs name) = ends_next token.Open refl (ends_next (token.Number 1) refl (ends_next token.Close refl (ends_here (columns.Have _) _ refl)))
columns_end (columns.Open xs name) = ends_next (token.Number 1) refl (ends_next token.Close refl (ends_here (columns.Have _) _ refl))
columns_end (columns.Size xs x) = ends_next token.Close refl (ends_here (columns.Have _) _ refl)

pub reads_columns : Meets (columns.Want []) step_columns whole_columns (Listed IsColumn)
reads_columns = reads_list IsColumn step_columns whole_columns columns.Want column_item columns_rest columns_back columns_base (λ zs s r x. x) columns_end

-- no parenthesis closes the columns before they are whole
pub have_not_close : (xs : List Column) (t : Token) (m : Columns) → step_columns (columns.Have xs) t ≡ Some m → is_mark mark.Close t ≡ false
have_not_close xs t m h = mark_back (λ t m. is_mark mark.Close t ≡ false) mark.Comma t _ m h refl
