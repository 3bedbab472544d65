-- Why a run stops.
use Rattle.std.proofs.Common.{◌≡◌, ◌≢◌, ◌⊎◌, inl, inr, ℕ, ◌≤◌, List, refl, sym, ◌∙◌, ap, subst, arith}
use Rattle.std.specs.Prelude.{Some, None, is_some, Result, Ok, Err, IfErr, IfSome, OnOk, OnErr}
use Rattle.std.specs.declared.option.Option.{Option}
use Rattle.hb_edge.specs.Causes.{Rose}
use Rattle.hb_edge.specs.Streams.{with_end}
use Rattle.hb_lines.specs.Next.{IsTooLong}
use Rattle.hb_stepper.specs.Running.{Running}
use Rattle.hb_acts.specs.declared.stop.Stop.{Stop}
use Rattle.hb_acts.specs.declared.stop.Stop.TheVariants.{Source, Sink, Memory, Line}
use Rattle.hb_acts.specs.Acts.{Act, Reached, Halted}
use Rattle.hb_acts.specs.Outside.{Outside, Faults, GoesOn, MayStop, HasLongLine}
use Rattle.hb_acts.specs.Runs.{Runs, StopsAt}
use Rattle.hb_acts.specs.Stops.{StopsBy}
use Rattle.hb_acts.proofs.Running.{IsWithin}

pub goes_nowhere : (outside : Outside) → GoesOn outside outside
goes_nowhere outside = record { source = omega arith; sink = omega arith; output = refl }

-- a count that rose since a later moment
pub rose_since : (before mid now : ℕ) → before ≤ mid → Rose mid now → Rose before now
rose_since before mid now later rose = omega arith

-- a stop by the sink
pub by_sink : (input : Option (List ℕ)) (before after : Faults) (stop : Stop) (was now : ℕ) → (((stop ≡ Sink) × Rose was now) ⊎ (stop ≡ Memory)) → (Rose was now → Rose before.sink after.sink) → MayStop input before after stop
by_sink input before after stop was now (inl cause) rose = subst (MayStop input before after) (sym cause.0) (rose cause.1)
by_sink input before after stop was now (inr memory) rose = subst (MayStop input before after) (sym memory) tt

-- a stop while the next line was read
pub by_reading : (input rest : Option (List ℕ)) (before after : Faults) (stop : Stop) (was now : ℕ) → (((stop ≡ Source) × Rose was now) ⊎ (((stop ≡ Line) × IfSome rest IsTooLong) ⊎ (stop ≡ Memory))) → (Rose was now → Rose before.source after.source)
    → (IfSome rest IsTooLong → IfSome input HasLongLine) → MayStop input before after stop
by_reading input rest before after stop was now (inl cause) rose long = subst (MayStop input before after) (sym cause.0) (rose cause.1)
by_reading input rest before after stop was now (inr (inl line)) rose long = subst (MayStop input before after) (sym line.0) (long line.1)
by_reading input rest before after stop was now (inr (inr memory)) rose long = subst (MayStop input before after) (sym memory) tt

-- a stop at a line that is too long
pub is_long : (rest : Option (List ℕ)) (stop : Stop) (was now : ℕ) → (((stop ≡ Source) × Rose was now) ⊎ (((stop ≡ Line) × IfSome rest IsTooLong) ⊎ (stop ≡ Memory))) → stop ≡ Line → IfSome rest IsTooLong
is_long rest stop was now (inl cause) is = let wrong : Source ≡ Line = sym cause.0 ∙ is in absurd (cc)
is_long rest stop was now (inr (inl line)) is = line.1
is_long rest stop was now (inr (inr memory)) is = let wrong : Memory ≡ Line = sym memory ∙ is in absurd (cc)

-- a stop by the sink, or for want of memory, isn't between two lines
pub within_sink : (stop : Stop) (was now : ℕ) → (((stop ≡ Sink) × Rose was now) ⊎ (stop ≡ Memory)) → IsWithin stop
within_sink stop was now (inl cause) = (λ is. let wrong : Sink ≡ Source = sym cause.0 ∙ is in absurd (cc), λ is. let wrong : Sink ≡ Line = sym cause.0 ∙ is in absurd (cc))
within_sink stop was now (inr memory) = (λ is. let wrong : Memory ≡ Source = sym memory ∙ is in absurd (cc), λ is. let wrong : Memory ≡ Line = sym memory ∙ is in absurd (cc))

pub within_last : (was now : ℕ) (result : Result (Unit {0}) Stop) → StopsBy Sink was now result → IfErr result IsWithin
within_last was now (Ok x) by = tt
within_last was now (Err stop) by = within_sink stop was now by.cause

pub cause_last : (input : Option (List ℕ)) (before after : Faults) (was now : ℕ) (result : Result (Unit {0}) Stop) → StopsBy Sink was now result → (Rose was now → Rose before.sink after.sink) → IfErr result (MayStop input before after)
cause_last input first then was now (Ok x) by rose = tt
cause_last input first then was now (Err stop) by rose = by_sink input first then stop was now by.cause rose

-- a run that stopped
pub runs_stopped : (origin end : Running) (before after : Outside) (stop : Stop) → GoesOn before after → MayStop before.input before.faults after.faults stop → IfSome before.input (StopsAt origin end before after stop)
    → (e : Stop) → e ≡ stop → (result : Result (Unit {0}) Stop) → result ≡ Err e → Runs origin end before after result
runs_stopped origin end before after stop goes_on cause halts e same result is =
    subst (λ (r : Result (Unit {0}) Stop). Runs origin end before after r) (sym (is ∙ ap (λ (s : Stop). Err s) same)) (record { goes_on = goes_on; cause = cause; done = tt; stopped = halts })

-- ---- a sink that told its bytes goes on to tell them

pub told_on : (old new : Option (List ℕ)) (text : List ℕ) → new ≡ with_end text old → is_some new ≡ is_some old
told_on None new text gained = ap (λ (o : Option (List ℕ)). is_some o) gained
told_on (Some held) new text gained = ap (λ (o : Option (List ℕ)). is_some o) gained

pub output_all : (from to : Running) (acts : List Act) (held now : Option (List ℕ)) → Reached from acts held to now → is_some now ≡ is_some held
output_all from to acts held now reached = told_on held now reached.text reached.gained

pub output_part : (from end : Running) (acts : List Act) (held now : Option (List ℕ)) → Halted from acts held end now → is_some now ≡ is_some held
output_part from end acts held now halted = told_on held now halted.puts.shown halted.puts.gained

pub output_last : (from to : Running) (acts : List Act) (held now : Option (List ℕ)) (result : Result (Unit {0}) Stop) → OnOk result (Reached from acts held to now) → OnErr result (Halted from acts held to now) → is_some now ≡ is_some held
output_last from to acts held now (Ok x) reached halted = output_all from to acts held now reached
output_last from to acts held now (Err stop) reached halted = output_part from to acts held now halted
