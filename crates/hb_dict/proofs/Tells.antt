-- What rows of the dictionary tell.
use Rattle.std.proofs.Common.{◌≡◌, ℕ, zero, suc, ◌/◌, arith, List, [], ◌∷◌, Some, None, pos, Result, Ok, Err, IfOk, IsErrOf, refl, sym, ◌∙◌, ap}
use Rattle.std.specs.Prelude.{option_map, option_and_then, if◌then◌else◌}
use Rattle.std.specs.Ordering.{int_eq}
use Rattle.hb_types.specs.declared.entry.Entry.{Entry}
use Rattle.hb_types.specs.declared.entry.Entry.TheVariants.{At, Moving}
use Rattle.hb_types.specs.declared.value.Value.{Value}
use Rattle.hb_types.specs.declared.value.Value.TheVariants.{Int, Text}
use Rattle.hb_types.specs.declared.value.Column.{Column}
use Rattle.hb_types.specs.Rows.{values_in, IsRowOf}
use Rattle.hb_model.specs.Dictionary.{area_in, columns_in, table_in, member_in, member_row, entry_in, entry_row}
use Rattle.hb_model.specs.Told.{entry_of}
use Rattle.hb_dict.specs.declared.area.AreaDef.{AreaDef}
use Rattle.hb_dict.specs.declared.table.TableDef.{TableDef}
use Rattle.hb_dict.specs.declared.fault.DictFault.{DictFault}
use Rattle.hb_dict.specs.DictionaryRows.{IsAreaRow, IsTableRow, IsMemberRow, IsEntryRow, AreAreas, table_told, column_values, table_values}
use Rattle.hb_dict.proofs.ValuesBack.{values_back}

pub columns_back : (cs : List Column) → columns_in (column_values cs) ≡ Some cs
columns_back [] = refl
columns_back (c ∷ cs) = ap (option_map (λ (l : List Column). c ∷ l)) (columns_back cs)

pub table_tells : (bytes : List ℕ) (d : TableDef) → IsTableRow bytes d → option_and_then table_in (values_in bytes) ≡ Some (table_told d)
table_tells bytes d is =
    ap (option_and_then table_in) (values_back bytes (table_values d) is.spelled)
    ∙ ap (option_map (λ (cs : List Column). record { name = d.name; columns = cs; key = d.key; rows = [] })) (columns_back d.columns)

pub area_tells : (bytes : List ℕ) (d : AreaDef) (number : ℕ) → IsAreaRow bytes d
    → option_and_then (area_in number) (values_in bytes) ≡ (if int_eq (pos d.bes) (pos (number / 256)) then Some (record { number = number; name = d.name }) else None)
area_tells bytes d number is = ap (option_and_then (area_in number)) (values_back bytes _ is.spelled)

pub member_tells : (bytes : List ℕ) (area : ℕ) → IsMemberRow bytes area → option_and_then member_in (values_in bytes) ≡ Some area
member_tells bytes area is = ap (option_and_then member_in) (values_back bytes (member_row area) is.spelled)

entry_back : (e : Entry) → AreAreas e → entry_in (entry_row e) ≡ Some e
entry_back (At zero) are = absurd (omega (arith, are.0))
entry_back (At (suc a)) are = refl
entry_back (Moving zero b) are = absurd (omega (arith, are.0.0))
entry_back (Moving (suc a) zero) are = absurd (omega (arith, are.1.0))
entry_back (Moving (suc a) (suc b)) are = refl

pub entry_tells : (bytes : List ℕ) (e : Entry) → IsEntryRow bytes e → entry_of (Some bytes) ≡ Some e
entry_tells bytes e is = ap (option_and_then entry_in) (values_back bytes (entry_row e) is.spelled) ∙ entry_back e is.areas

-- a row has one list of values
pub one_row : (bytes : List ℕ) (vs ws : List Value) → IsRowOf bytes vs → IsRowOf bytes ws → vs ≡ ws
one_row bytes vs ws p q = let e : Some vs ≡ Some ws = sym (values_back bytes vs p) ∙ values_back bytes ws q in cc

pub area_told : (bytes : List ℕ) (values : List Value) (r : Result AreaDef DictFault) → IsRowOf bytes values → IfOk r (λ d. values ≡ Text d.name ∷ Int (pos d.bes) ∷ [])
    → IfOk r (λ d. (number : ℕ) → option_and_then (area_in number) (values_in bytes) ≡ (if int_eq (pos d.bes) (pos (number / 256)) then Some (record { number = number; name = d.name }) else None))
area_told bytes values (Ok d) is are = λ number. ap (option_and_then (area_in number)) (values_back bytes values is) ∙ ap (area_in number) are
area_told bytes values (Err e) is are = tt

-- an error handed on at another type
pub same_error : {A B E : Type 0} (x y : E) → IsErrOf {T = A} {E = E} (Err x) y → IsErrOf {T = B} {E = E} (Err x) y
same_error {A} {B} {E} x y is = let e : x ≡ y = cc in ap (λ (z : E). Err z) e
