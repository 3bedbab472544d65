-- What the line of a refusal gives.
use Rattle.std.proofs.Common.{◌≡◌, ◌⊎◌, inl, inr, ℕ, List, refl}
use Rattle.std.specs.Prelude.{Result, Ok, Err, IfErr, OnOk, OnErr}
use Rattle.std.specs.declared.option.Option.{Option}
use Rattle.hb_edge.specs.Causes.{Rose}
use Rattle.hb_edge.specs.Streams.{with_end}
use Rattle.hb_acts.specs.declared.stop.Stop.{Stop}
use Rattle.hb_acts.specs.declared.stop.Stop.TheVariants.{Source, Sink, Memory, Line as Long}
use Rattle.hb_acts.specs.Putting.{PutsFront}
use Rattle.hb_acts.specs.Stops.{StopsBy}
use Rattle.hb_console.specs.Telling.{TellsLine, behind}
use Rattle.hb_acts.proofs.PutTexts.{puts_all}

module _ (text : List ℕ) (held now : Option (List ℕ)) (was is status : ℕ) where
  by_sink : PutsFront held now text → ((Sink ≡ Sink) × Rose was is) ⊎ (Sink ≡ Memory) → TellsLine text held now was is status status
  by_sink part (inl cause) = inl (refl, part, inr cause.1)
  by_sink part (inr wrong) = absurd (cc)

  never : (stop : Stop) {X : Type 0} → (stop ≡ Sink → ⊥) → (stop ≡ Memory → ⊥) → ((stop ≡ Sink) × Rose was is) ⊎ (stop ≡ Memory) → X
  never stop sink memory (inl cause) = absurd (sink cause.0)
  never stop sink memory (inr cause) = absurd (memory cause)

  pub tells_put : (r : Result (Unit {0}) Stop) → OnOk r (now ≡ with_end text held) → OnErr r (PutsFront held now text) → IfErr r (λ stop. stop ≡ Memory → now ≡ held) → StopsBy Sink was is r
      → TellsLine text held now was is status (behind r status)
  tells_put (Ok x) all part memory by = inl (refl, puts_all held now text all, inl all)
  tells_put (Err Source) all part memory by = never Source (λ e. cc) (λ e. cc) by.cause
  tells_put (Err Sink) all part memory by = by_sink part by.cause
  tells_put (Err Memory) all part memory by = inr (refl, memory refl)
  tells_put (Err Long) all part memory by = never Long (λ e. cc) (λ e. cc) by.cause
