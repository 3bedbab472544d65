-- Columns, read one after another.
use Rattle.std.proofs.Common.{◌≡◌, ◌≤◌, ◌<◌, List, [], ◌∷◌, ◌++◌, length, pos, refl, sym, ◌∙◌, ap, arith, append_assoc}
use Rattle.std.proofs.lemmas.Grind.{flat_map-append}
use Rattle.std.proofs.lemmas.List.{append-nil}
use Rattle.hb_types.specs.declared.value.Value.{Value}
use Rattle.hb_types.specs.declared.value.Value.TheVariants.{Int, Text}
use Rattle.hb_types.specs.declared.value.Column.{Column}
use Rattle.hb_types.specs.Lists.{Each}
use Rattle.hb_dict.specs.DictionaryRows.{column_values, AreColumns}

-- these columns were read, and what is left is columns where the whole is
pub record HasRead (values : List Value) (columns : List Column) (rest : List Value) : Type 0 where
  pub sizes : Each (λ c. c.size ≤ 255) columns
  pub spelled : values ≡ column_values columns ++ rest
  pub left : (cs : List Column) → AreColumns values cs → (ds : List Column) × AreColumns rest ds

pub read_none : (values : List Value) → HasRead values [] values
read_none values = record { sizes = tt; spelled = refl; left = λ cs are. (cs, are) }

each_more : (cs : List Column) (c : Column) → Each (λ (c : Column). c.size ≤ 255) cs → c.size ≤ 255 → Each (λ (c : Column). c.size ≤ 255) (cs ++ c ∷ [])
each_more [] c all here = (here, tt)
each_more (d ∷ ds) c all here = (all.0, each_more ds c all.1 here)

behind_first : (rest after : List Value) (c : Column) → rest ≡ Text c.name ∷ Int (pos c.size) ∷ after → (ds : List Column) → AreColumns rest ds → (es : List Column) × AreColumns after es
behind_first rest after c is [] are = let e : rest ≡ [] = are.spelled in absurd cc
behind_first rest after c is (d ∷ ds) are = (ds, record { sizes = are.sizes.1; spelled = let e : rest ≡ Text d.name ∷ Int (pos d.size) ∷ column_values ds = are.spelled in cc })

pub read_more : (values : List Value) (columns next : List Column) (rest after : List Value) (c : Column) → HasRead values columns rest → rest ≡ Text c.name ∷ Int (pos c.size) ∷ after → c.size ≤ 255 → next ≡ columns ++ c ∷ [] → HasRead values next after
read_more values columns next rest after c before is small e = record {
  sizes = rw e (each_more columns c before.sizes small);
  spelled =
      before.spelled ∙ ap (λ (l : List Value). column_values columns ++ l) is
      ∙ sym (append_assoc (column_values columns) (Text c.name ∷ Int (pos c.size) ∷ []) after)
      ∙ ap (λ (l : List Value). l ++ after) (sym (flat_map-append (λ (d : Column). Text d.name ∷ Int (pos d.size) ∷ []) columns (c ∷ [])))
      ∙ ap (λ (cs : List Column). column_values cs ++ after) (sym e);
  left = λ cs are. behind_first rest after c is (before.left cs are).0 (before.left cs are).1;
}

pub read_all : (values : List Value) (columns : List Column) (rest : List Value) → HasRead values columns rest → length rest ≤ 0 → AreColumns values columns
read_all values columns [] before le = record { sizes = before.sizes; spelled = before.spelled ∙ append-nil (column_values columns) }
read_all values columns (v ∷ vs) before le = absurd (omega (arith, le))

none_at : (rest : List Value) → 0 < length rest → ((c : Column) (more : List Value) → c.size ≤ 255 → rest ≡ Text c.name ∷ Int (pos c.size) ∷ more → ⊥) → (ds : List Column) → AreColumns rest ds → ⊥
none_at rest lt none [] are = omega (arith, lt, ap length are.spelled)
none_at rest lt none (d ∷ ds) are = none d (column_values ds) are.sizes.0 are.spelled

pub none_left : (values : List Value) (columns : List Column) (rest : List Value) → HasRead values columns rest → 0 < length rest
    → ((c : Column) (more : List Value) → c.size ≤ 255 → rest ≡ Text c.name ∷ Int (pos c.size) ∷ more → ⊥) → (cs : List Column) → AreColumns values cs → ⊥
none_left values columns rest before lt none cs are = none_at rest lt none (before.left cs are).0 (before.left cs are).1
