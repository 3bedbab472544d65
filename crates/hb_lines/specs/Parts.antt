-- How a line is taken in parts.
use Rattle.std.specs.Prelude.{◌≡◌, ◌≢◌, ℕ, Bool, true, false, List, [], ◌∷◌, ◌++◌, Option, Some, is_some, IfSome, Result, Ok, Err}
use Rattle.std.specs.List.{AllByRecursion}
use Rattle.hb_edge.specs.Causes.{Rose}
use Rattle.hb_lines.specs.Lines.{lines_of, without_return}
use Rattle.hb_lines.specs.declared.fault.LineFault.{LineFault}
use Rattle.hb_lines.specs.declared.fault.LineFault.TheVariants.{Source, TooLong, NoMemory}
use Rattle.hb_lines.specs.Next.{IsTooLong}

-- no byte is a line feed
abbrev pub NoFeed : List ℕ → Type 0
NoFeed bytes = AllByRecursion (λ b. b ≢ 10) bytes

-- where the line ends, its bytes and a line feed stood before the rest; else they were all
abbrev pub SplitsAt : Bool → List ℕ → List ℕ → List ℕ → Type 0
SplitsAt true old bytes new = old ≡ bytes ++ 10 ∷ new
SplitsAt false old bytes new = (old ≡ bytes) × (new ≡ [])

-- bytes of the line were taken, behind those that were taken before
pub record TakesPart (ends : Bool) (front front' old new : List ℕ) : Type 0 where
  pub bytes : List ℕ
  pub clean : NoFeed bytes
  pub kept : front' ≡ front ++ bytes
  pub split : SplitsAt ends old bytes new

-- nothing was left, and nothing is
abbrev pub NoLine : Option (List ℕ) → Option (List ℕ) → Type 0
NoLine old new = IfSome old (λ input. (input ≡ []) × (new ≡ Some []))

-- the first line of what was left was taken up to its line feed, and what is left has the other lines
abbrev pub TakenLine : List ℕ → Option (List ℕ) → Option (List ℕ) → Type 0
TakenLine taken old new = (is_some new ≡ is_some old) × IfSome old (λ input. IfSome new (λ rest. lines_of input ≡ without_return taken ∷ lines_of rest))

-- whether there was a line; else the source failed, the line is too long, or memory was wanting
abbrev pub TakesLine : Option (List ℕ) → Option (List ℕ) → ℕ → ℕ → List ℕ → Result Bool LineFault → Type 0
TakesLine old new before now taken (Ok true) = TakenLine taken old new
TakesLine old new before now taken (Ok false) = NoLine old new
TakesLine old new before now taken (Err Source) = Rose before now
TakesLine old new before now taken (Err TooLong) = IfSome old IsTooLong
TakesLine old new before now taken (Err NoMemory) = Unit {0}
