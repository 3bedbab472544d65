-- What was shown by a moment.
use Rattle.std.specs.Prelude.{◌≡◌, ℕ, List, ◌∷◌, ◌++◌, map}
use Rattle.hb_types.specs.Lists.{joined}
use Rattle.hb_model.specs.declared.line.Line.{Line}

-- the bytes begin with these
abbrev pub BeginsWith : List ℕ → List ℕ → Type 0
BeginsWith bytes front = (rest : List ℕ) × (bytes ≡ front ++ rest)

-- the longest list of lines, from the first, whose texts together are a prefix of the bytes; `text` is the text of a line
pub record TranscriptIn (text : Line → List ℕ) (lines : List Line) (bytes : List ℕ) (shown : List Line) : Type 0 where
  pub rest : List Line
  pub from_first : lines ≡ shown ++ rest
  pub texts : BeginsWith bytes (joined (map text shown))
  pub longest : (l : Line) (more : List Line) → rest ≡ l ∷ more → ¬ (BeginsWith bytes (joined (map text shown) ++ text l))
