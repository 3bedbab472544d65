-- What scans of ds give: the rows of the tables, and the entries of one table.
use Rattle.std.proofs.Common.{◌≡◌, inl, inr, ℕ, ◌+◌, ◌<◌, pos, List, [], ◌∷◌, ◌++◌, Option, Some, None, Bool, true, false, cond, refl, subst, sym, ap, ◌∙◌, arith}
use Rattle.std.specs.Prelude.{◌==◌, ◌&&◌, ◌<ℤ◌, flat_map, option_map, unwrap_or}
use Rattle.std.specs.Cmp.{int_cmp_is, nat_cmp_is}
use Rattle.std.specs.Ordering.{nat_cmp, int_cmp}
use Rattle.std.specs.declared.cmp.Ordering.TheVariants.{Less, Equal}
use Rattle.std.proofs.lemmas.Bool.Decides.{Decides-eqb}
use Rattle.std.proofs.lemmas.Int.{ints}
use Rattle.hb_types.specs.declared.change.Stored.{Stored}
use Rattle.hb_types.specs.declared.entry.Entry.{Entry}
use Rattle.hb_types.specs.declared.places.Path.{Path}
use Rattle.hb_types.specs.declared.places.Path.TheVariants as path
use Rattle.hb_types.specs.declared.places.Place.{Place}
use Rattle.hb_types.specs.declared.places.Space.{Space}
use Rattle.hb_types.specs.Groups.{map_from}
use Rattle.hb_types.specs.Lists.{Each, IsIn}
use Rattle.hb_types.specs.Places.{is_under, place_cmp, same_space}
use Rattle.hb_types.specs.Put.{lookup, rows_under}
use Rattle.hb_types.proofs.Ascending.{Each-append}
use Rattle.hb_types.proofs.PutLaws.{by_test}
use Rattle.hb_types.proofs.SamePlace.{same_space-eq}
use Rattle.hb_laws.specs.RowOrder.{AreAscending}
use Rattle.hb_laws.proofs.RowLaws.{rows_same}
use Rattle.hb_branch.proofs.Views.{under_ascends, lookup-under}
use Rattle.hb_model.specs.declared.table.Table.{Table}
use Rattle.hb_model.specs.Answers.{rows_of}
use Rattle.hb_model.specs.Dictionary.{rows_in_space, at_place, table_row, entry_row, table_rows, entry_rows}
use Rattle.hb_model.specs.Spots.{ds, dictionary_space, tables_space, entries_space}
use Rattle.hb_model.specs.State.{State, Spread, table_named}
use Rattle.hb_model.specs.Families.{Family}
use Rattle.hb_model.specs.System.{Sys}
use Rattle.hb_model.proofs.DictionaryRows.{by_space, not_true}
use Rattle.hb_model.proofs.NumberedRows.{GoUp}

-- ---- rows under a path

abbrev If : Bool → Option (List ℕ) → Option (List ℕ) → Option (List ℕ)
If b x y = cond b x y

-- ascending rows are, under a path, others that ascend there and stand at the same places
pub under_same : (p : Path) (xs ys : List Stored) → AreAscending xs → AreAscending (rows_under p ys)
    → ((x : Place) → is_under p x ≡ true → lookup x xs ≡ lookup x ys) → rows_under p xs ≡ rows_under p ys
under_same p xs ys a b same = rows_same (rows_under p xs) (rows_under p ys) (under_ascends p xs a) b each
  where
    each : (x : Place) → lookup x (rows_under p xs) ≡ lookup x (rows_under p ys)
    each x = lookup-under x p xs ∙ by_test (is_under p x) (λ t. rw t (same x t)) (λ f. rw f refl) ∙ sym (lookup-under x p ys)

under_append : (p : Path) (xs ys : List Stored) → rows_under p (xs ++ ys) ≡ rows_under p xs ++ rows_under p ys
under_append p [] ys = refl
under_append p (x ∷ xs) ys =
    by_test (is_under p x.place) (λ t. rw t (ap (λ zs. x ∷ zs) (under_append p xs ys))) (λ f. rw f (under_append p xs ys))

cons_ascends : (r : Stored) (rs : List Stored) → Each (λ s. place_cmp r.place s.place ≡ Less) rs → AreAscending rs → AreAscending (r ∷ rs)
cons_ascends r [] e a = tt
cons_ascends r (s ∷ ss) e a = (e.0, a)

-- ---- places of the dictionary by number

nat_less : (n m : ℕ) → n < m → nat_cmp n m ≡ Less
nat_less n m h = sym (nat_cmp_is n m Less h)

nat_same : (n : ℕ) → nat_cmp n n ≡ Equal
nat_same n = sym (nat_cmp_is n n Equal refl)

key_less : (n m : ℕ) → n < m → int_cmp (pos n) (pos m) ≡ Less
key_less n m h = sym (int_cmp_is (pos n) (pos m) Less (let l : pos n <ℤ pos m = grind (arith, ints) in l))

abbrev place_of : ℕ → ℕ → ℕ → Place
place_of space group key = record { space = dictionary_space space; group = group; key = pos key }

pub keys_less : (space group n m : ℕ) → n < m → place_cmp (place_of space group n) (place_of space group m) ≡ Less
keys_less space group n m h = rw (nat_same space, nat_same group, key_less n m h) refl

pub head_is : (t : Spread) (first : ℕ) (spreads : List Spread) → GoUp first (t ∷ spreads) → t.number ≡ first
head_is t first spreads e = cc

pub tail_is : (t : Spread) (first : ℕ) (spreads : List Spread) → GoUp first (t ∷ spreads) → GoUp (first + 1) spreads
tail_is t first spreads e = cc

-- ---- the rows of the tables

abbrev pub tables : Path
tables = path.Whole (dictionary_space tables_space)

abbrev row_if : Option Table → ℕ → List Stored
row_if o n = unwrap_or (option_map (λ u. at_place tables_space 0 n (table_row u) ∷ []) o) []

one_under : (o : Option Table) (n : ℕ) → rows_under tables (row_if o n) ≡ row_if o n
one_under None n = refl
one_under (Some u) n = refl

all_under : (s : State) (ss : List Spread) → rows_under tables (flat_map (table_rows s) ss) ≡ flat_map (table_rows s) ss
all_under s [] = refl
all_under s (p ∷ ss) = under_append tables (table_rows s p) (flat_map (table_rows s) ss) ∙ rw (one_under (table_named s p.name) p.number, all_under s ss) refl

above : (s : State) (m first : ℕ) (ss : List Spread) → m < first → GoUp first ss → Each (λ r. place_cmp (place_of tables_space 0 m) r.place ≡ Less) (flat_map (table_rows s) ss)
above s m first [] h e = tt
above s m first (t ∷ ss) h e =
    Each-append _ (table_rows s t) (flat_map (table_rows s) ss) (one (table_named s t.name)) (above s m (first + 1) ss (omega (arith, h)) (tail_is t first ss e))
  where
    one : (o : Option Table) → Each (λ r. place_cmp (place_of tables_space 0 m) r.place ≡ Less) (row_if o t.number)
    one None = tt
    one (Some u) = (keys_less tables_space 0 m t.number (omega (arith, h, head_is t first ss e)), tt)

table_first : (o : Option Table) (n : ℕ) (rows : List Stored) → Each (λ r. place_cmp (place_of tables_space 0 n) r.place ≡ Less) rows → AreAscending rows → AreAscending (row_if o n ++ rows)
table_first None n rows e a = a
table_first (Some u) n rows e a = cons_ascends (at_place tables_space 0 n (table_row u)) rows e a

tables_ascend : (s : State) (first : ℕ) (ss : List Spread) → GoUp first ss → AreAscending (flat_map (table_rows s) ss)
tables_ascend s first [] e = tt
tables_ascend s first (t ∷ ss) e =
    table_first (table_named s t.name) t.number (flat_map (table_rows s) ss) (above s t.number (first + 1) ss (omega (arith, head_is t first ss e)) (tail_is t first ss e))
    (tables_ascend s (first + 1) ss (tail_is t first ss e))

-- ---- the entries of a table

abbrev pub entries_of : ℕ → Path
entries_of n = path.Group (dictionary_space entries_space) n

abbrev listed : ℕ → ℕ → List Entry → List Stored
listed n first es = map_from (λ g e. at_place entries_space n g (entry_row e)) first es

mine_under : (n first : ℕ) (es : List Entry) → rows_under (entries_of n) (listed n first es) ≡ listed n first es
mine_under n first [] = refl
mine_under n first (e ∷ es) = rw ((Decides-eqb n n).1 refl) (ap (λ zs. at_place entries_space n first (entry_row e) ∷ zs) (mine_under n (first + 1) es))

none_under : (n m first : ℕ) (es : List Entry) → (n == m) ≡ false → rows_under (entries_of n) (listed m first es) ≡ []
none_under n m first [] e = refl
none_under n m first (x ∷ es) e = rw e (none_under n m (first + 1) es e)

entries_ascend : (n first : ℕ) (es : List Entry) → AreAscending (listed n first es)
entries_ascend n first [] = tt
entries_ascend n first (e ∷ []) = tt
entries_ascend n first (e ∷ f ∷ es) = (keys_less entries_space n first (first + 1) (omega arith), entries_ascend n (first + 1) (f ∷ es))

later_under : (n first : ℕ) (ss : List Spread) → n < first → GoUp first ss → rows_under (entries_of n) (flat_map entry_rows ss) ≡ []
later_under n first [] h e = refl
later_under n first (t ∷ ss) h e =
    under_append (entries_of n) (entry_rows t) (flat_map entry_rows ss)
    ∙ rw (none_under n t.number 0 t.entries (not_true (n == t.number) (λ y. omega (arith, h, (Decides-eqb n t.number).0 y, head_is t first ss e))), later_under n (first + 1) ss (omega (arith, h)) (tail_is t first ss e)) refl

append_none : (xs : List Stored) → xs ++ [] ≡ xs
append_none [] = refl
append_none (x ∷ xs) = ap (λ ys. x ∷ ys) (append_none xs)

-- numbers behind this one are not below it
pub not_below : (first : ℕ) (ss : List Spread) (t : Spread) → GoUp first ss → IsIn t ss → first < t.number + 1
not_below first [] t e i = absurd i
not_below first (u ∷ ss) t e (inl is) = omega (arith, head_is u first ss e, ap (λ (x : Spread). x.number) is)
not_below first (u ∷ ss) t e (inr i) = let l = not_below (first + 1) ss t (tail_is u first ss e) i in omega (arith, l)

entries_under : (first : ℕ) (ss : List Spread) (t : Spread) → GoUp first ss → IsIn t ss → rows_under (entries_of t.number) (flat_map entry_rows ss) ≡ entry_rows t
entries_under first [] t e i = absurd i
entries_under first (u ∷ ss) t e (inl is) =
    subst (λ (x : Spread). rows_under (entries_of x.number) (flat_map entry_rows (u ∷ ss)) ≡ entry_rows x) is
    (under_append (entries_of u.number) (entry_rows u) (flat_map entry_rows ss)
    ∙ rw (mine_under u.number 0 u.entries, later_under u.number (first + 1) ss (omega (arith, head_is u first ss e)) (tail_is u first ss e)) (append_none (entry_rows u)))
entries_under first (u ∷ ss) t e (inr i) =
    let l = not_below (first + 1) ss t (tail_is u first ss e) i in
    under_append (entries_of t.number) (entry_rows u) (flat_map entry_rows ss)
    ∙ rw (none_under t.number u.number 0 u.entries (not_true (t.number == u.number) (λ y. omega (arith, l, (Decides-eqb t.number u.number).0 y, head_is u first ss e)))) (entries_under (first + 1) ss t (tail_is u first ss e) i)

-- ---- of a system

left_true : (a b : Bool) → (a && b) ≡ true → a ≡ true
left_true true b e = refl
left_true false b e = e

module _ (back_ends : ℕ) (family : Family) (s : State) (sys : Sys back_ends family s) where
  pub ds_ascends : (fs : Family) → Each AreAscending fs → AreAscending (rows_of ds fs)
  ds_ascends [] e = tt
  ds_ascends (rows ∷ more) e = e.0

  pub of_space : (space : ℕ) (x : Place) → same_space (dictionary_space space) x.space ≡ true → lookup x (rows_of ds family) ≡ lookup x (rows_in_space s space)
  of_space space x t =
      let e : space ≡ x.space.table = ap (λ (z : Space). z.table) (same_space-eq (dictionary_space space) x.space t) in
      sys.dictionary_rows x ∙ by_space s x ∙ ap (λ n. lookup x (rows_in_space s n)) (sym e)

  pub tables_scanned : rows_under tables (rows_of ds family) ≡ flat_map (table_rows s) s.layout.spreads
  tables_scanned =
      under_same tables (rows_of ds family) (flat_map (table_rows s) s.layout.spreads) (ds_ascends family sys.ascending)
      (subst AreAscending (sym (all_under s s.layout.spreads)) (tables_ascend s 1 s.layout.spreads sys.state.spreads_numbered))
      (λ x t. of_space tables_space x t)
      ∙ all_under s s.layout.spreads

  pub entries_scanned : (t : Spread) → IsIn t s.layout.spreads → rows_under (entries_of t.number) (rows_of ds family) ≡ entry_rows t
  entries_scanned t i =
      let whole : rows_under (entries_of t.number) (flat_map entry_rows s.layout.spreads) ≡ entry_rows t = entries_under 1 s.layout.spreads t sys.state.spreads_numbered i in
      under_same (entries_of t.number) (rows_of ds family) (flat_map entry_rows s.layout.spreads) (ds_ascends family sys.ascending)
      (subst AreAscending (sym whole) (entries_ascend t.number 0 t.entries))
      (λ x h. of_space entries_space x (left_true _ _ h))
      ∙ whole
