-- The columns of a new table.
use Rattle.std.specs.Prelude.{ℕ, List, ◌∷◌}
use Rattle.hb_types.specs.declared.value.Column.{Column}
use Rattle.hb_sqltoken.specs.declared.token.Token.{Token}
use Rattle.hb_sqltoken.specs.declared.token.Token.TheVariants as token
use Rattle.hb_sqlsteps.specs.Kept.{column, varchar_size}
use Rattle.hb_sqlparse.specs.Keywords.{INTEGER, VARCHAR}

-- col := name INTEGER | name VARCHAR '(' int ')'. INTEGER is size 0; a VARCHAR's size outside 1 to 255 is kept as 65,535.
pub data IsColumn : Column → List Token → List Token → Type 0 where
  integer : {name : List ℕ} {r : List Token} → IsColumn (column name 0) (token.Name name ∷ INTEGER ∷ r) r
  varchar : {name : List ℕ} {n : ℕ} {r : List Token} → IsColumn (column name (varchar_size n)) (token.Name name ∷ VARCHAR ∷ token.Open ∷ token.Number n ∷ token.Close ∷ r) r
