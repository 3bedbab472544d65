-- A statement or a line of pdrbal that runs to its end or to a wait.
use Rattle.std.specs.Prelude.{◌≡◌, ℕ, false, List}
use Rattle.hb_stepper.specs.Names.{Named}
use Rattle.hb_stepper.specs.Running.{Running, seat_is, going}
use Rattle.hb_stepper.specs.Steps.{Ran}

-- the session at a place ran until it couldn't go on; nothing was done where it couldn't
pub record RanOut (old : Running) (place : ℕ) (new : Running) : Type 0 where
  pub count : ℕ
  pub ran : Ran place old count new
  pub idle : seat_is going old.seats place ≡ false → count ≡ 0
  pub stopped : seat_is going new.seats place ≡ false

-- the name got its place, and the session there ran out
pub record Finished (old : Running) (name : List ℕ) (new : Running) : Type 0 where
  pub place : ℕ
  pub mid : Running
  pub named : Named old name place mid
  pub ran : RanOut mid place new
