-- Why a command stops: its code, its word, and when it may come.
use Rattle.std.specs.Prelude.{◌≡◌, ◌⊎◌, ℕ, ◌≤◌, ◌==◌, if◌then◌else◌, List, [], Option, Result, Ok, Err, IfErr, IfSome, codes}
use Rattle.hb_edge.specs.Causes.{Rose}
use Rattle.hb_lines.specs.declared.fault.LineFault.{LineFault}
use Rattle.hb_lines.specs.declared.fault.LineFault.TheVariants.{Source as FromSource, TooLong, NoMemory}
use Rattle.hb_lines.specs.Next.{IsTooLong}
use Rattle.hb_acts.specs.declared.stop.Stop.{Stop}
use Rattle.hb_acts.specs.declared.stop.Stop.TheVariants.{Source, Sink, Memory, Line}

-- the exit status
abbrev pub code_of : Stop → ℕ
code_of Source = 3
code_of Sink = 4
code_of Memory = 7
code_of Line = 8

-- what a fault of the reader is to a command
abbrev pub line_stop : LineFault → Stop
line_stop FromSource = Source
line_stop TooLong = Line
line_stop NoMemory = Memory

-- 0 where the command came to its end
abbrev pub status_of : Result (Unit {0}) Stop → ℕ
status_of (Ok done) = 0
status_of (Err stop) = code_of stop

-- the word of a status on standard error
abbrev pub word_of : ℕ → List ℕ
word_of status =
    if status == 1 then codes "usage" else
    if status == 3 then codes "source" else
    if status == 4 then codes "sink" else
    if status == 5 then codes "disk" else
    if status == 6 then codes "damaged" else
    if status == 7 then codes "memory" else
    if status == 8 then codes "line" else
    []

-- a call that uses one device: its count of faults never falls, and the call stops by the device only where the count
-- rose, and else for want of memory
pub record StopsBy {T : Type 0} (device : Stop) (before now : ℕ) (result : Result T Stop) : Type 0 where
  pub later : before ≤ now
  pub cause : IfErr result (λ stop. ((stop ≡ device) × Rose before now) ⊎ (stop ≡ Memory))

-- a reading of the next line: it stops by the source only where its count rose, by a line only where the next one is too
-- long, and else for want of memory
pub record StopsReading {T : Type 0} (before now : ℕ) (input : Option (List ℕ)) (result : Result T Stop) : Type 0 where
  pub later : before ≤ now
  pub cause : IfErr result (λ stop. ((stop ≡ Source) × Rose before now) ⊎ (((stop ≡ Line) × IfSome input IsTooLong) ⊎ (stop ≡ Memory)))
