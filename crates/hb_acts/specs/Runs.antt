-- A run of a script: its acts, and what the sink gained.
use Rattle.std.specs.Prelude.{◌≡◌, ◌⊎◌, ℕ, ◌+◌, ◌<◌, List, [], ◌∷◌, ◌++◌, length, Some, IfSome, IfOk, IfErr, Result}
use Rattle.hb_lines.specs.declared.said.Said.{Said}
use Rattle.hb_lines.specs.Lines.{lines_of}
use Rattle.hb_lines.specs.Saying.{SayAll, most_bytes}
use Rattle.hb_stepper.specs.Running.{Running}
use Rattle.hb_acts.specs.declared.stop.Stop.{Stop}
use Rattle.hb_acts.specs.declared.stop.Stop.TheVariants.{Source, Line}
use Rattle.hb_acts.specs.Acts.{Act, does, resumes, closes, ends, Reached, Halted}
use Rattle.hb_acts.specs.Outside.{Outside, GoesOn, MayStop}

-- each line is done, the first of which has this number, and after each the waiting sessions are asked
abbrev pub line_acts : ℕ → List Said → List Act
line_acts number [] = []
line_acts number (said ∷ saids) = does number said ∷ resumes ∷ line_acts (number + 1) saids

-- the acts of a whole script
abbrev pub script_acts : List Said → List Act
script_acts saids = line_acts 1 saids ++ closes ∷ ends (length saids) ∷ []

-- a whole script from its origin to its end: its lines say what was done, the sink gained the text of all its acts, and the source has
-- nothing left
pub record Finishes (origin end : Running) (before after : Outside) (input : List ℕ) : Type 0 where
  pub saids : List Said
  pub says : SayAll (lines_of input) saids
  pub reached : Reached origin (script_acts saids) before.output end after.output
  pub ended : after.input ≡ Some []

-- a line that is too long, and others behind it
abbrev pub BeginsLong : List (List ℕ) → Type 0
BeginsLong lines = (line : List ℕ) × (others : List (List ℕ)) × (lines ≡ line ∷ others) × (most_bytes < length line)

-- A script that stopped at an end: its first lines say what was done, up to some act of theirs, or of the script's end where there are
-- no other lines. The sink gained a front of the text; but all of it where the source failed or the next line is too long.
pub record StopsAt (origin end : Running) (before after : Outside) (stop : Stop) (input : List ℕ) : Type 0 where
  pub read : List (List ℕ)
  pub others : List (List ℕ)
  pub split : lines_of input ≡ read ++ others
  pub saids : List Said
  pub says : SayAll read saids
  pub halted : Halted origin (line_acts 1 saids) before.output end after.output ⊎ ((others ≡ []) × Halted origin (script_acts saids) before.output end after.output)
  pub whole : (stop ≡ Source) ⊎ (stop ≡ Line) → Reached origin (line_acts 1 saids) before.output end after.output
  pub long : stop ≡ Line → BeginsLong others

-- a run of a script, from where its sessions and the nodes stand to where they stand then
pub record Runs (origin end : Running) (before after : Outside) (result : Result (Unit {0}) Stop) : Type 0 where
  pub goes_on : GoesOn before after
  pub cause : IfErr result (MayStop before.input before.faults after.faults)
  pub done : IfOk result (λ _. IfSome before.input (Finishes origin end before after))
  pub stopped : IfErr result (λ stop. IfSome before.input (StopsAt origin end before after stop))
