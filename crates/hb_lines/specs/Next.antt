-- What the next line of a script says, where its source tells what is left.
use Rattle.std.specs.Prelude.{◌≡◌, ℕ, ◌<◌, ◌≤◌, List, [], ◌∷◌, length, Option, Some, None, is_some, IfSome, IsErrOf, Result, Ok, Err}
use Rattle.hb_edge.specs.Causes.{Rose}
use Rattle.hb_lines.specs.declared.said.Said.{Said}
use Rattle.hb_lines.specs.Lines.{lines_of}
use Rattle.hb_lines.specs.declared.fault.LineFault.{LineFault}
use Rattle.hb_lines.specs.declared.fault.LineFault.TheVariants.{Source, TooLong, NoMemory}
use Rattle.hb_lines.specs.Saying.{Says, most_bytes}

-- the first line of the input says this, and the rest has the other lines
pub record FirstSays (input rest : List ℕ) (said : Said) : Type 0 where
  pub line : List ℕ
  pub lines : lines_of input ≡ line ∷ lines_of rest
  pub says : Says line said

-- what the next line of what was left says, and what is left behind it; none where nothing was left and nothing is
abbrev pub NextLine : Option Said → Option (List ℕ) → Option (List ℕ) → Type 0
NextLine None old new = IfSome old (λ input. (input ≡ []) × (new ≡ Some []))
NextLine (Some said) old new = (is_some new ≡ is_some old) × IfSome old (λ input. IfSome new (λ rest. FirstSays input rest said))

-- the first line of the input has more bytes than a line may have
pub record IsTooLong (input : List ℕ) : Type 0 where
  pub line : List ℕ
  pub others : List (List ℕ)
  pub lines : lines_of input ≡ line ∷ others
  pub long : most_bytes < length line

-- the count never falls, and the source is blamed only where it rose; a line only where it is too long
pub record HasSourceCause {T : Type 0} (before now : ℕ) (input : Option (List ℕ)) (result : Result T LineFault) : Type 0 where
  pub later : before ≤ now
  pub failed : IsErrOf result Source → Rose before now
  pub too_long : IsErrOf result TooLong → IfSome input IsTooLong

-- a line that was taken whole says this; else it is too long, or memory was wanting
abbrev pub SaysOr : List ℕ → Result (Option Said) LineFault → Type 0
SaysOr line (Ok None) = ⊥
SaysOr line (Ok (Some o)) = Says line o
SaysOr line (Err Source) = ⊥
SaysOr line (Err TooLong) = most_bytes < length line
SaysOr line (Err NoMemory) = Unit {0}
