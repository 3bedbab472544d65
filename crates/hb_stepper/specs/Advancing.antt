-- What STEP makes of a run.
use Rattle.std.specs.Prelude.{◌≡◌, ◌⊎◌, ℕ, ◌<◌, ◌≤◌, true, false, List}
use Rattle.hb_stepper.specs.Names.{Named}
use Rattle.hb_stepper.specs.Running.{Running, seat_is, busy, going}
use Rattle.hb_stepper.specs.Steps.{Made, Ran}

-- The session of this name made so many steps, and fewer only where its statement or line ended or waits. It makes none exactly where
-- nothing is in progress.
pub record Advanced (old : Running) (name : List ℕ) (most count : ℕ) (new : Running) : Type 0 where
  pub place : ℕ
  pub mid : Running
  pub named : Named old name place mid
  pub ran : Ran place mid count new
  pub no_more : count ≤ most
  pub fewer : count < most → seat_is going new.seats place ≡ false
  pub idle : seat_is busy mid.seats place ≡ false → count ≡ 0
  pub some : seat_is busy mid.seats place ≡ true → 0 < most → 0 < count

-- as far as there was memory
abbrev pub AdvancedInPart : Running → List ℕ → Running → Type 0
AdvancedInPart old name new = (new ≡ old) ⊎ ((place : ℕ) × (mid : Running) × Named old name place mid × Made mid new)
