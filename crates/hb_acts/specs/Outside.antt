-- What is told of a source and a sink at one moment.
use Rattle.std.specs.Prelude.{◌≡◌, ℕ, ◌<◌, ◌≤◌, List, ◌∷◌, ◌++◌, length, Option, is_some, IfSome}
use Rattle.hb_edge.specs.Causes.{Rose}
use Rattle.hb_lines.specs.Lines.{lines_of}
use Rattle.hb_lines.specs.Saying.{most_bytes}
use Rattle.hb_acts.specs.declared.stop.Stop.{Stop}
use Rattle.hb_acts.specs.declared.stop.Stop.TheVariants.{Source, Sink, Memory, Line}

-- how often each has failed
pub record Faults : Type 0 where
  pub source : ℕ
  pub sink : ℕ

-- the input that is left, and the output so far
pub record Outside : Type 0 where
  pub input : Option (List ℕ)
  pub output : Option (List ℕ)
  pub faults : Faults

-- by the meanings of the two traits
abbrev pub seen : {S O : Type 0} → (S → Option (List ℕ)) → (S → ℕ) → (O → Option (List ℕ)) → (O → ℕ) → S → O → Outside
seen input source_faults output sink_faults source sink = record {
  input = input source;
  output = output sink;
  faults = record { source = source_faults source; sink = sink_faults sink };
}

-- no count fell, and a sink that told its bytes goes on to tell them
pub record GoesOn (before after : Outside) : Type 0 where
  pub source : before.faults.source ≤ after.faults.source
  pub sink : before.faults.sink ≤ after.faults.sink
  pub output : is_some after.output ≡ is_some before.output

-- a line of the input has more bytes than a line may have
pub record HasLongLine (input : List ℕ) : Type 0 where
  pub before : List (List ℕ)
  pub line : List ℕ
  pub others : List (List ℕ)
  pub lines : lines_of input ≡ before ++ line ∷ others
  pub long : most_bytes < length line

-- why a run of a script may stop: by a device only where its count rose, by a line only where one is too long
abbrev pub MayStop : Option (List ℕ) → Faults → Faults → Stop → Type 0
MayStop input before after Source = Rose before.source after.source
MayStop input before after Sink = Rose before.sink after.sink
MayStop input before after Memory = Unit {0}
MayStop input before after Line = IfSome input HasLongLine
