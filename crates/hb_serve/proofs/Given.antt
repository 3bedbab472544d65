-- What was given and went on, or was refused.
use Rattle.std.proofs.Common.{◌≡◌, ℕ, Bool, false, List, sym, subst}
use Rattle.std.specs.Prelude.{not, ◌&&◌, Result, Ok, Err}
use Rattle.hb_model.specs.declared.line.Work.{Work}
use Rattle.hb_stepper.specs.declared.fault.StepFault.{StepFault}
use Rattle.hb_stepper.specs.declared.fault.StepFault.TheVariants as fault
use Rattle.hb_stepper.specs.Giving.{Given}
use Rattle.hb_stepper.specs.Running.{Running}
use Rattle.hb_serve.specs.Doing.{Gave, taken, refused, GoesOn, IsTaken}

module _ (old mid new : Running) (name : List ℕ) (w : Work) (held : Bool) where
  was_refused : (f : StepFault) (b : Bool) → (f ≡ fault.NoMemory → ⊥) → b ≡ false → Given old name w held (Err f) mid → GoesOn (b && not held) name mid new → Gave old name w held new
  was_refused f b other is_not given on =
      let same : new ≡ mid = subst (λ (x : Bool). GoesOn (x && not held) name mid new) is_not on in
      subst (λ (r : Running). Gave old name w held r) (sym same) (refused f mid other given)

  pub gave : (b : Bool) (given : Result (Unit {0}) StepFault) → IsTaken b given → Given old name w held given mid → GoesOn (b && not held) name mid new → Gave old name w held new
  gave b (Ok x) is given on = taken mid new given (subst (λ (y : Bool). GoesOn (y && not held) name mid new) is on)
  gave b (Err fault.NoMemory) is given on = absurd is
  gave b (Err fault.Full) is given on = was_refused fault.Full b (λ e. absurd (cc)) is given on
  gave b (Err fault.Busy) is given on = was_refused fault.Busy b (λ e. absurd (cc)) is given on
  gave b (Err fault.InTransaction) is given on = was_refused fault.InTransaction b (λ e. absurd (cc)) is given on
  gave b (Err fault.NoTransaction) is given on = was_refused fault.NoTransaction b (λ e. absurd (cc)) is given on
