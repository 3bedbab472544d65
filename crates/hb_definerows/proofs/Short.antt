-- Rows of the dictionary are short enough for a page.
use Rattle.std.proofs.Common.{◌≡◌, ℕ, ◌*◌, ◌≤◌, ℤ, pos, List, [], ◌∷◌, length, map, refl, ap, arith, length-append}
use Rattle.std.specs.Prelude.{IsTrue}
use Rattle.std.specs.List.{AllByRecursion}
use Rattle.std.proofs.lemmas.Int.{ints}
use Rattle.std.proofs.lemmas.List.Elements.{All-from_recursion}
use Rattle.hb_types.specs.declared.entry.Entry.{Entry}
use Rattle.hb_types.specs.declared.entry.Entry.TheVariants.{At, Moving}
use Rattle.hb_types.specs.declared.value.Value.{Value}
use Rattle.hb_types.specs.declared.value.Value.TheVariants.{Int, Text}
use Rattle.hb_types.specs.declared.value.Column.{Column}
use Rattle.hb_types.specs.Lists.{Each, joined}
use Rattle.hb_types.specs.Numbers.{is_integer}
use Rattle.hb_types.specs.Rows.{HasBytes, IsRow, IsRowOf, row_bytes, value_bytes}
use Rattle.hb_model.specs.Dictionary.{entry_row, member_row}
use Rattle.hb_dict.specs.declared.area.AreaDef.{AreaDef}
use Rattle.hb_dict.specs.declared.table.TableDef.{TableDef}
use Rattle.hb_dict.specs.DictionaryRows.{IsAreaRow, IsMemberRow, IsTableRow, column_values, table_values}
use Rattle.hb_definerows.specs.DefineRows.{AreSmall}

integer_length : (n : ℤ) → length (value_bytes (Int n)) ≡ 5
integer_length n = refl

abbrev IsShort : Value → Type 0
IsShort v = length (value_bytes v) ≤ 32

short_values : (vs : List Value) → AllByRecursion IsShort vs → length (joined (map value_bytes vs)) ≤ 32 * length vs
short_values [] short = omega arith
short_values (v ∷ vs) short = omega (arith, length-append (value_bytes v) (joined (map value_bytes vs)), short.0, short_values vs short.1)

short_integer : (n : ℤ) → IsShort (Int n)
short_integer n = omega (arith, integer_length n)

short_text : (t : List ℕ) → length t ≤ 30 → IsShort (Text t)
short_text t le = omega (arith, le)

-- a row of at most 100 short values
short_row : (bytes : List ℕ) (vs : List Value) → length vs ≤ 100 → AllByRecursion IsShort vs → IsRowOf bytes vs → IsRow bytes
short_row bytes vs few short is = (omega (arith, ap length is.spelled, short_values vs short, few), (vs, is))

pub area_is_row : (bytes : List ℕ) (d : AreaDef) → length d.name ≤ 30 → IsAreaRow bytes d → IsRow bytes
area_is_row bytes d named is = short_row bytes (Text d.name ∷ Int (pos d.bes) ∷ []) (omega arith) (short_text d.name named, (short_integer (pos d.bes), tt)) is.spelled

pub member_is_row : (bytes : List ℕ) (area : ℕ) → IsMemberRow bytes area → IsRow bytes
member_is_row bytes area is = short_row bytes (member_row area) (omega arith) (short_integer (pos area), tt) is.spelled

short_columns : (cs : List Column) → Each (λ (c : Column). length c.name ≤ 30) cs → AllByRecursion IsShort (column_values cs)
short_columns [] named = tt
short_columns (c ∷ cs) named = (short_text c.name named.0, (short_integer (pos c.size), short_columns cs named.1))

count_columns : (cs : List Column) → length (column_values cs) ≡ 2 * length cs
count_columns [] = refl
count_columns (c ∷ cs) = let e = count_columns cs in omega (arith, e)

pub table_is_row : (bytes : List ℕ) (d : TableDef) → length d.name ≤ 30 → Each (λ (c : Column). length c.name ≤ 30) d.columns → IsTableRow bytes d → IsRow bytes
table_is_row bytes d named columns is =
    short_row bytes (table_values d) (omega (arith, count_columns d.columns, is.taken.few))
    (short_text d.name named, (short_integer (pos d.hash), (short_integer (pos d.key), short_columns d.columns columns))) is.spelled

-- ---- entries

small_integer : (k : ℕ) → k ≤ 65535 → IsTrue (is_integer (pos k))
small_integer k le = grind (arith, ints)

two_numbers : (a b : ℕ) → a ≤ 65535 → b ≤ 65535 → IsRowOf (row_bytes (Int (pos a) ∷ Int (pos b) ∷ [])) (Int (pos a) ∷ Int (pos b) ∷ [])
two_numbers a b small_a small_b =
    let vs : List Value = Int (pos a) ∷ Int (pos b) ∷ [] in
    record {
      values_fit = record { few = omega arith; fit = All-from_recursion HasBytes vs (small_integer a small_a, (small_integer b small_b, tt)) };
      spelled = refl;
    }

pub entry_row_of : (e : Entry) → AreSmall e → IsRowOf (row_bytes (entry_row e)) (entry_row e)
entry_row_of (At a) small = two_numbers a 0 small (omega arith)
entry_row_of (Moving a b) small = two_numbers a b small.0 small.1

short_entry : (e : Entry) → AllByRecursion IsShort (entry_row e)
short_entry (At a) = (short_integer (pos a), (short_integer (pos 0), tt))
short_entry (Moving a b) = (short_integer (pos a), (short_integer (pos b), tt))

two_values : (e : Entry) → length (entry_row e) ≡ 2
two_values (At a) = refl
two_values (Moving a b) = refl

pub entry_is_row : (bytes : List ℕ) (e : Entry) → AreSmall e → bytes ≡ row_bytes (entry_row e) → IsRow bytes
entry_is_row bytes e small is =
    short_row bytes (entry_row e) (omega (arith, two_values e)) (short_entry e) record { values_fit = (entry_row_of e small).values_fit; spelled = is }
