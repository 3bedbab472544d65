-- Rows of tables.
use Rattle.std.proofs.Common.{◌≡◌, ℕ, zero, suc, ◌*◌, ◌≤◌, ◌<◌, List, [], ◌∷◌, length, pos, Some, Result, Ok, Err, IfOk, MatchOption, refl, sym, ◌∙◌, ap, subst, arith}
use Rattle.std.specs.Prelude.{IsTrue, slice_get}
use Rattle.std.specs.List.{AllByRecursion}
use Rattle.std.proofs.lemmas.Int.{ints}
use Rattle.std.proofs.lemmas.List.Elements.{All-from_recursion}
use Rattle.hb_types.specs.declared.memory.NoMemory.{NoMemory}
use Rattle.hb_types.specs.declared.value.Value.{Value}
use Rattle.hb_types.specs.declared.value.Value.TheVariants.{Text}
use Rattle.hb_types.specs.declared.value.Column.{Column}
use Rattle.hb_types.specs.Lists.{Each}
use Rattle.hb_types.specs.Numbers.{is_integer}
use Rattle.hb_types.specs.Rows.{HasBytes, HaveRow, IsRowOf, row_bytes}
use Rattle.hb_model.specs.Dictionary.{columns_in}
use Rattle.hb_dict.specs.declared.table.TableDef.{TableDef}
use Rattle.hb_dict.specs.DictionaryRows.{IsTaken, IsTableRow, AreTable, AreColumns, column_values, table_values}
use Rattle.hb_dict.proofs.Tells.{columns_back, one_row}

small_integer : (k : ℕ) → k ≤ 65535 → IsTrue (is_integer (pos k))
small_integer k le = grind (arith, ints)

-- ---- written

key_below : (cs : List Column) (k : ℕ) → MatchOption (slice_get cs k) ⊥ (λ (c : Column). c.size ≡ 0) → k < length cs
key_below [] k is = absurd is
key_below (c ∷ cs) zero is = omega arith
key_below (c ∷ cs) (suc k) is = let lt = key_below cs k is in omega (arith, lt)

columns_have : (cs : List Column) → Each (λ (c : Column). length c.name ≤ 30) cs → Each (λ (c : Column). c.size ≤ 255) cs → AllByRecursion HasBytes (column_values cs)
columns_have [] named sizes = tt
columns_have (c ∷ cs) named sizes = (omega (arith, named.0), (small_integer c.size (omega (arith, sizes.0)), columns_have cs named.1 sizes.1))

length_columns : (cs : List Column) → length (column_values cs) ≡ 2 * length cs
length_columns [] = refl
length_columns (c ∷ cs) = let e = length_columns cs in omega (arith, e)

key_small : (d : TableDef) → IsTaken d → d.key ≤ 255
key_small d taken = omega (arith, key_below d.columns d.key taken.key, taken.few)

pub table_has_row : (d : TableDef) → IsTaken d → length d.name ≤ 30 → Each (λ (c : Column). length c.name ≤ 30) d.columns → HaveRow (table_values d)
table_has_row d taken named columns = record {
  few = omega (arith, length_columns d.columns, taken.few);
  fit =
      All-from_recursion HasBytes (table_values d)
      (omega (arith, named), (small_integer d.hash (omega (arith, taken.hash)), (small_integer d.key (omega (arith, key_small d taken)), columns_have d.columns columns taken.sizes)));
}

pub table_written : (d : TableDef) (values : List Value) (r : Result (List ℕ) NoMemory) → values ≡ table_values d → IfOk r (λ b. b ≡ row_bytes values) → IsTaken d → HaveRow (table_values d) → IfOk r (λ b. IsTableRow b d)
table_written d values (Ok b) are is taken have = record { taken = taken; spelled = record { values_fit = have; spelled = is ∙ ap row_bytes are } }
table_written d values (Err e) are is taken have = tt

-- ---- read

pub are_table : (bytes : List ℕ) (values : List Value) (d : TableDef) → IsRowOf bytes values → IsTableRow bytes d → AreTable values d
are_table bytes values d row is = record {
  hash = omega (arith, is.taken.hash);
  key = key_small d is.taken;
  sizes = is.taken.sizes;
  spelled = one_row bytes values (table_values d) row is.spelled;
}

-- what stands behind the first three values
pub columns_behind : (name : List ℕ) (hash key : Value) (rest : List Value) (d : TableDef) → AreTable (Text name ∷ hash ∷ key ∷ rest) d → AreColumns rest d.columns
columns_behind name hash key rest d are = record { sizes = are.sizes; spelled = let e : Text name ∷ hash ∷ key ∷ rest ≡ table_values d = are.spelled in cc }

same_columns : (cs ds : List Column) → column_values cs ≡ column_values ds → cs ≡ ds
same_columns cs ds e = let f : Some cs ≡ Some ds = sym (columns_back cs) ∙ ap columns_in e ∙ columns_back ds in cc

pub same_table : (d e : TableDef) → table_values d ≡ table_values e → d ≡ e
same_table d e is =
    let name : d.name ≡ e.name = cc in
    let hash : d.hash ≡ e.hash = cc in
    let key : d.key ≡ e.key = cc in
    let values : column_values d.columns ≡ column_values e.columns = cc in
    let columns : d.columns ≡ e.columns = same_columns d.columns e.columns values in
    λ i. record { name = name i; hash = hash i; key = key i; columns = columns i }

pub other_is_taken : (bytes : List ℕ) (values : List Value) (d e : TableDef) → IsRowOf bytes values → AreTable values d → IsTableRow bytes e → IsTaken d
other_is_taken bytes values d e row are is = subst IsTaken (sym (same_table d e (sym are.spelled ∙ one_row bytes values (table_values e) row is.spelled))) is.taken

pub table_row_is : (bytes : List ℕ) (values : List Value) (d : TableDef) → IsRowOf bytes values → AreTable values d → IsTaken d → IsTableRow bytes d
table_row_is bytes values d row are taken = record { taken = taken; spelled = subst (IsRowOf bytes) are.spelled row }
