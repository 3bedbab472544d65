-- What INSERT, SELECT and UPDATE name: values, what is shown, assignments, and the condition on rows.
use Rattle.std.specs.Prelude.{ℕ, pos, List, ◌∷◌, Option, Some, None}
use Rattle.hb_types.specs.declared.value.Value.{Value}
use Rattle.hb_types.specs.declared.value.Value.TheVariants as value
use Rattle.hb_model.specs.declared.expression.Expr.{Expr}
use Rattle.hb_model.specs.declared.condition.Pred.{Pred}
use Rattle.hb_model.specs.declared.statement.Set.{Set}
use Rattle.hb_model.specs.declared.statement.What.{What}
use Rattle.hb_model.specs.declared.statement.What.TheVariants as what
use Rattle.hb_sqlcond.specs.Grammar.{negative, IsExpr, IsPred}
use Rattle.hb_sqltoken.specs.declared.token.Token.{Token}
use Rattle.hb_sqltoken.specs.declared.token.Token.TheVariants as token
use Rattle.hb_sqlsteps.specs.Kept.{set_of}
use Rattle.hb_sqlparse.specs.Keywords.{COUNT, EQUALS, SUM, WHERE}
use Rattle.hb_sqlparse.specs.Listed.{Listed, IsOneName}

-- lit := int | '-' int | text
pub data IsLiteral : Value → List Token → List Token → Type 0 where
  positive : {n : ℕ} {r : List Token} → IsLiteral (value.Int (pos n)) (token.Number n ∷ r) r
  opposite : {n : ℕ} {r : List Token} → IsLiteral (value.Int (negative n)) (token.Minus ∷ token.Number n ∷ r) r
  text : {t : List ℕ} {r : List Token} → IsLiteral (value.Text t) (token.Text t ∷ r) r

-- what := '*' | name {',' name} | COUNT '(' '*' ')' | SUM '(' name ')'
pub data IsWhat : What → List Token → List Token → Type 0 where
  all : {r : List Token} → IsWhat what.All (token.Star ∷ r) r
  some : {names : List (List ℕ)} {s r : List Token} → Listed IsOneName names s r → IsWhat (what.Names names) s r
  count : {r : List Token} → IsWhat what.Count (COUNT ∷ token.Open ∷ token.Star ∷ token.Close ∷ r) r
  sum : {name : List ℕ} {r : List Token} → IsWhat (what.Sum name) (SUM ∷ token.Open ∷ token.Name name ∷ token.Close ∷ r) r

-- name '=' expr
pub data IsSet : Set → List Token → List Token → Type 0 where
  assigned : {name : List ℕ} {e : Expr} {s r : List Token} → IsExpr e s r → IsSet (set_of name e) (token.Name name ∷ EQUALS ∷ s) r

-- [WHERE pred]
pub data IsFilter : Option Pred → List Token → List Token → Type 0 where
  each : {r : List Token} → IsFilter None r r
  where_pred : {p : Pred} {s r : List Token} → IsPred p s r → IsFilter (Some p) (WHERE ∷ s) r
