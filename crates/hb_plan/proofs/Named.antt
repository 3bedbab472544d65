-- The names of a plain statement have at most 30 bytes.
use Rattle.std.proofs.Common.{◌≡◌, ℕ, ◌≤◌, Bool, true, ◌&&◌, nat_le, IsTrue, List, [], ◌∷◌, length, subst, arith}
use Rattle.std.proofs.lemmas.Bool.{and_parts, false≢true, leb-true}
use Rattle.std.specs.List.{list_all}
use Rattle.hb_types.specs.Lists.{Each}
use Rattle.hb_types.specs.declared.value.Column.{Column}
use Rattle.hb_model.specs.Valid.{is_letter, is_name}
use Rattle.hb_model.specs.Plain.{is_plain, has_members}
use Rattle.hb_model.specs.declared.statement.Statement.{Statement}
use Rattle.hb_model.specs.declared.statement.Statement.TheVariants as statement
use Rattle.hb_definerows.specs.Drafts.{IsNamed}

short : (name : List ℕ) → is_name name ≡ true → length name ≤ 30
short [] h = absurd (false≢true h)
short (b ∷ bs) h =
    let below = leb-true (length bs) 29 (and_parts (nat_le (length bs) 29) _ (and_parts (is_letter b) _ h).1).0 in
    omega (arith, below)

each_of : {A : Type 0} (p : A → Bool) (P : A → Type 0) → ((x : A) → p x ≡ true → P x) → (xs : List A) → list_all p xs ≡ true → Each P xs
each_of p P f [] h = tt
each_of p P f (x ∷ xs) h = (f x (and_parts (p x) _ h).0, each_of p P f xs (and_parts (p x) _ h).1)

pub area_named : (st : Statement) (name node : List ℕ) → st ≡ statement.CreateArea name node → IsTrue (is_plain st) → length name ≤ 30
area_named st name node is h = short name (and_parts (is_name name) (is_name node) (subst (λ (s : Statement). IsTrue (is_plain s)) is h)).0

pub table_named : (st : Statement) (name : List ℕ) (columns : List Column) (key : List ℕ) (areas : List (List ℕ)) → st ≡ statement.CreateTable name columns key areas
    → IsTrue (is_plain st) → IsNamed (record { name = name; columns = columns; key = key; areas = areas })
table_named st name columns key areas is h =
    let plain = and_parts (is_name name) _ (subst (λ (s : Statement). IsTrue (is_plain s)) is h) in
    let rest = and_parts (has_members columns && list_all (λ (c : Column). is_name c.name) columns) _ plain.1 in
    let named = and_parts (has_members columns) _ rest.0 in
    let others = and_parts (is_name key) _ rest.1 in
    let some = and_parts (has_members areas) _ others.1 in
    record {
      name = short name plain.0;
      columns = each_of (λ (c : Column). is_name c.name) (λ (c : Column). length c.name ≤ 30) (λ c is. short c.name is) columns named.1;
      areas = leb-true 1 (length areas) (and_parts (nat_le 1 (length areas)) _ some.0).0;
    }
