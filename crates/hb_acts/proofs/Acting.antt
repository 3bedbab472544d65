-- One act: what is put for it, whole or in part.
use Rattle.std.proofs.Common.{◌≡◌, ◌⊎◌, inl, inr, ℕ, ◌≤◌, List, [], ◌∷◌, ◌++◌, refl, sym, ◌∙◌, subst, arith}
use Rattle.std.specs.Prelude.{Result, Ok, Err, IfErr, OnOk, OnErr}
use Rattle.std.specs.declared.option.Option.{Option}
use Rattle.hb_edge.specs.Causes.{Rose}
use Rattle.hb_edge.specs.Streams.{with_end}
use Rattle.hb_lines.specs.declared.said.Said.{Said}
use Rattle.hb_serve.specs.declared.own.Own.{Own}
use Rattle.hb_serve.specs.Doing.{Does}
use Rattle.hb_stepper.specs.Running.{Running}
use Rattle.hb_acts.specs.declared.stop.Stop.{Stop}
use Rattle.hb_acts.specs.declared.stop.Stop.TheVariants.{Sink, Memory}
use Rattle.hb_acts.specs.Acts.{Act, does, DoesLine, Prints, own_text, Reached, Halted}
use Rattle.hb_acts.specs.Putting.{PutsFront}
use Rattle.hb_acts.specs.Stops.{StopsBy}
use Rattle.hb_acts.proofs.Chains.{halted_act, reached_act}
use Rattle.hb_acts.proofs.PutTexts.{all_behind, puts_before, puts_behind}

-- ---- results

pub on_err : {T E : Type 0} (r : Result T E) (P : Type 0) → P → OnErr r P
on_err (Ok x) P p = tt
on_err (Err e) P p = p

pub on_err_map : {T E : Type 0} (r : Result T E) (P Q : Type 0) → (P → Q) → OnErr r P → OnErr r Q
on_err_map (Ok x) P Q f p = tt
on_err_map (Err e) P Q f p = f p

pub on_ok_map : {T E : Type 0} (r : Result T E) (P Q : Type 0) → (P → Q) → OnOk r P → OnOk r Q
on_ok_map (Ok x) P Q f p = f p
on_ok_map (Err e) P Q f p = tt

-- ---- causes

pub stops_memory : {T : Type 0} (was now : ℕ) → was ≤ now → (e : Stop) → e ≡ Memory → (result : Result T Stop) → result ≡ Err e → StopsBy Sink was now result
stops_memory {T} was now later e memory result is = subst (λ (r : Result T Stop). StopsBy Sink was now r) (sym is) (record { later = later; cause = inr memory })

cause_later : (was mid now : ℕ) (stop : Stop) → was ≤ mid → (((stop ≡ Sink) × Rose mid now) ⊎ (stop ≡ Memory)) → (((stop ≡ Sink) × Rose was now) ⊎ (stop ≡ Memory))
cause_later was mid now stop later (inl cause) = let rose : Rose was now = omega (arith, cause.1, later) in inl (cause.0, rose)
cause_later was mid now stop later (inr memory) = inr memory

-- a later call stopped
pub stops_error : {T : Type 0} (was mid now : ℕ) (stop : Stop) → was ≤ mid → mid ≤ now → (((stop ≡ Sink) × Rose mid now) ⊎ (stop ≡ Memory)) → (e : Stop) → e ≡ stop → (result : Result T Stop) → result ≡ Err e → StopsBy Sink was now result
stops_error {T} was mid now stop first next cause e same result is =
    subst (λ (r : Result T Stop). StopsBy Sink was now r) (sym is) (record { later = omega (arith, first, next); cause = subst (λ (s : Stop). ((s ≡ Sink) × Rose was now) ⊎ (s ≡ Memory)) (sym same) (cause_later was mid now stop first cause) })

pub stops_later : {T : Type 0} (was mid now : ℕ) (result : Result T Stop) → was ≤ mid → StopsBy Sink mid now result → StopsBy Sink was now result
stops_later was mid now (Ok x) first by = record { later = omega (arith, first, by.later); cause = tt }
stops_later was mid now (Err stop) first by = record { later = omega (arith, first, by.later); cause = cause_later was mid now stop first by.cause }

-- ---- a line of a script

module _ (number : ℕ) (said : Said) (old new : Running) (own : Own) (front : List ℕ) (done : Does number said old own new) (prints : Prints old new front) (held : Option (List ℕ)) where
  abbrev whole : List ℕ
  whole = front ++ own_text new.names number own

  does_line : DoesLine number said old whole new
  does_line = record { own = own; front = front; done = done; prints = prints; text_is = refl }

  -- its sessions' lines were put in part
  pub halted_front : (now : Option (List ℕ)) → PutsFront held now front → Halted old (does number said ∷ []) held new now
  halted_front now puts = halted_act old new (does number said) whole held now does_line (puts_before held now front (own_text new.names number own) puts)

  -- its own text was put in part
  pub halted_own : (mid now : Option (List ℕ)) → mid ≡ with_end front held → PutsFront mid now (own_text new.names number own) → Halted old (does number said ∷ []) held new now
  halted_own mid now all puts = halted_act old new (does number said) whole held now does_line (puts_behind held mid now front (own_text new.names number own) all puts)

  pub reached_line : (mid now : Option (List ℕ)) → mid ≡ with_end front held → now ≡ with_end (own_text new.names number own) mid → Reached old (does number said ∷ []) held new now
  reached_line mid now all next = reached_act old new (does number said) whole held now does_line (all_behind held mid now front (own_text new.names number own) all next)
