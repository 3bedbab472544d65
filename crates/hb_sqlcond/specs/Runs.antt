-- Machines that take tokens one by one, and what it means that one reads a grammar.
use Rattle.std.specs.Prelude.{◌≡◌, Bool, true, false, List, [], ◌∷◌, ◌++◌, Option, Some, None}
use Rattle.hb_sqltoken.specs.declared.token.Token.{Token}
use Rattle.hb_sqltoken.specs.declared.token.Token.TheVariants as token
use Rattle.hb_sqltoken.specs.declared.token.Word.{Word}
use Rattle.hb_sqltoken.specs.declared.token.Word.TheVariants as word

-- By the tokens s, as far as r, a machine goes from c to d.
pub data Leads {S : Type 0} (step : S → Token → Option S) : S → List Token → S → List Token → Type 0 where
  here : {c : S} {s : List Token} → Leads step c s c s
  next : {c m d : S} {t : Token} {s r : List Token} → step c t ≡ Some m → Leads step m s d r → Leads step c (t ∷ s) d r

-- By the tokens s, as far as r, a machine in the state c finds the tree t.
pub record Finds {S T : Type 0} (step : S → Token → Option S) (whole : S → Option T) (c : S) (t : T) (s r : List Token) : Type 0 where
  pub last : S
  pub leads : Leads step c s last r
  pub is : whole last ≡ Some t

-- Some tokens make a machine in the state c find a tree.
pub record Completes {S T : Type 0} (step : S → Token → Option S) (whole : S → Option T) (c : S) : Type 0 where
  pub rest : List Token
  pub tree : T
  pub finds : Finds step whole c tree rest []

-- the first token is one of these
abbrev pub begins_with : (Token → Bool) → List Token → Bool
begins_with takes [] = false
begins_with takes (t ∷ s) = takes t

-- the tokens of expressions
abbrev pub in_expr : Token → Bool
in_expr (token.Number n) = true
in_expr (token.Text t) = true
in_expr (token.Name t) = true
in_expr token.Open = true
in_expr token.Close = true
in_expr token.Star = true
in_expr token.Plus = true
in_expr token.Minus = true
in_expr _ = false

abbrev pub joins : Word → Bool
joins word.Not = true
joins word.And = true
joins word.Or = true
joins _ = false

-- the tokens of conditions
abbrev pub in_pred : Token → Bool
in_pred (token.Word w) = joins w
in_pred (token.Compare op) = true
in_pred t = in_expr t

-- A machine that takes no other tokens reads the trees of a grammar, where `Is t s r` says that the tokens s are those of the tree t, and then r.
pub record Reads {S T : Type 0} (start : S) (step : S → Token → Option S) (whole : S → Option T) (takes : Token → Bool) (Is : T → List Token → List Token → Type 0) : Type 0 where
  pub complete : (t : T) (s r : List Token) → Is t s r → Finds step whole start t s r
  pub sound : (t : T) (s r : List Token) → Finds step whole start t s r → Is t s r
  pub one_tree : (t u : T) (s r : List Token) → Is t s r → Is u s r → t ≡ u
  pub belongs : (c d : S) (k : Token) → step c k ≡ Some d → takes k ≡ true
  -- each state can be completed, so the tokens that were taken begin a tree
  pub completes : (c : S) → Completes step whole c
  pub begins : (c : S) (s : List Token) → Leads step start s c [] → (rest : List Token) × (t : T) × Is t (s ++ rest) []
  -- with a token that is refused they begin none, whatever follows, unless it ends before that token
  pub first_dead : (c : S) (s : List Token) (k : Token) → Leads step start s c [] → step c k ≡ None → takes k ≡ true
      → (t : T) (rest r : List Token) → Is t (s ++ (k ∷ rest)) r → begins_with takes r ≡ false → ⊥
