-- The grammar of a script's line, and how far tokens begin a line.
use Rattle.std.specs.Prelude.{ℕ, ◌+◌, ◌<◌, ◌≤◌, length, take, true, false, List, [], ◌∷◌, ◌++◌}
use Rattle.hb_model.specs.declared.line.Work.{Work}
use Rattle.hb_model.specs.declared.script.Item.{Item}
use Rattle.hb_model.specs.declared.script.Item.TheVariants as item
use Rattle.hb_sqltoken.specs.declared.token.Token.{Token}
use Rattle.hb_sqltoken.specs.declared.token.Token.TheVariants as token
use Rattle.hb_sqlsteps.specs.Kept.{most_steps}
use Rattle.hb_sqlparse.specs.Keywords.{AREA, AT, BARRIER, GIVE, START, STEP, STOP, SYNC}
use Rattle.hb_sqlparse.specs.Works.{IsWork}

-- end := [';']
pub data IsEnd : List Token → Type 0 where
  bare : IsEnd []
  closed : IsEnd (token.Semicolon ∷ [])

-- line := name ':' work end | GIVE name ':' work end | STEP name int
--       | STOP name [AREA] [AT int] | START name | SYNC name | BARRIER, where AREA stands only before AT.
-- The integers of STEP and AT are 1 to 2,147,483,647.
pub data IsLine : Item → List Token → Type 0 where
  given : {session : List ℕ} {work : Work} {s r : List Token} → IsWork work s r → IsEnd r → IsLine (item.Give session work false) (token.Name session ∷ token.Colon ∷ s)
  held : {session : List ℕ} {work : Work} {s r : List Token} → IsWork work s r → IsEnd r → IsLine (item.Give session work true) (GIVE ∷ token.Name session ∷ token.Colon ∷ s)
  step : {session : List ℕ} {n : ℕ} → 1 ≤ n → n ≤ most_steps → IsLine (item.Step session n) (STEP ∷ token.Name session ∷ token.Number n ∷ [])
  stop : {node : List ℕ} → IsLine (item.Stop node) (STOP ∷ token.Name node ∷ [])
  arm_log : {node : List ℕ} {k : ℕ} → 1 ≤ k → k ≤ most_steps → IsLine (item.Arm node false k) (STOP ∷ token.Name node ∷ AT ∷ token.Number k ∷ [])
  arm_area : {node : List ℕ} {k : ℕ} → 1 ≤ k → k ≤ most_steps → IsLine (item.Arm node true k) (STOP ∷ token.Name node ∷ AREA ∷ AT ∷ token.Number k ∷ [])
  start : {node : List ℕ} → IsLine (item.Start node) (START ∷ token.Name node ∷ [])
  sync : {node : List ℕ} → IsLine (item.Sync node) (SYNC ∷ token.Name node ∷ [])
  barrier : IsLine item.Barrier (BARRIER ∷ [])

-- these tokens begin a line
abbrev pub Begins : List Token → Type 0
Begins s = (rest : List Token) × (line : Item) × IsLine line (s ++ rest)

-- The tokens are no line: the first i begin one, and those up to and with the next begin none, or there is no next.
pub record FirstDead (s : List Token) (i : ℕ) : Type 0 where
  pub within : i ≤ length s
  pub begins : Begins (take i s)
  pub dead : i < length s → Begins (take (i + 1) s) → ⊥
  pub no_line : (line : Item) → IsLine line s → ⊥
