-- Items with commas between them. `Listed Is xs s r` says that the tokens s are those of the items xs, and then r.
use Rattle.std.specs.Prelude.{List, [], ◌∷◌, ℕ}
use Rattle.hb_sqltoken.specs.declared.token.Token.{Token}
use Rattle.hb_sqltoken.specs.declared.token.Token.TheVariants as token

-- item {',' item}
pub data Listed {A : Type 0} (Is : A → List Token → List Token → Type 0) : List A → List Token → List Token → Type 0 where
  last : {x : A} {s r : List Token} → Is x s r → Listed Is (x ∷ []) s r
  then : {x : A} {xs : List A} {s m r : List Token} → Is x s (token.Comma ∷ m) → Listed Is xs m r → Listed Is (x ∷ xs) s r

-- a name
pub data IsOneName : List ℕ → List Token → List Token → Type 0 where
  one_name : {name : List ℕ} {r : List Token} → IsOneName name (token.Name name ∷ r) r
