-- Why the next line couldn't be had.
use Rattle.std.proofs.Common.{◌≡◌, ℕ, ◌<◌, ◌≤◌, List, Bool, true, false, length, refl, sym, ◌∙◌, arith}
use Rattle.std.specs.Prelude.{Option, IfSome, Ok, Err, nat_lt}
use Rattle.std.proofs.lemmas.Bool.Decides.{nat_tests}
use Rattle.hb_edge.specs.Causes.{Rose}
use Rattle.hb_lines.specs.declared.said.Said.{Said}
use Rattle.hb_lines.specs.declared.fault.LineFault.{LineFault}
use Rattle.hb_lines.specs.declared.fault.LineFault.TheVariants as fault
use Rattle.hb_lines.specs.Saying.{most_bytes}
use Rattle.hb_lines.specs.Next.{SaysOr, HasSourceCause, IsTooLong}

-- a test that says more than so many
pub past : (m n : ℕ) (b : Bool) → b ≡ nat_lt m n → b ≡ true → m < n
past m n b is so = let test : nat_lt m n ≡ true = sym is ∙ so in grind (arith, nat_tests)

pub not_past : (m n : ℕ) (b : Bool) → b ≡ nat_lt m n → b ≡ false → n ≤ m
not_past m n b is so = let test : nat_lt m n ≡ false = sym is ∙ so in grind (arith, nat_tests)

pub no_memory : (before now : ℕ) (input : Option (List ℕ)) → before ≤ now → HasSourceCause {T = Option Said} before now input (Err fault.NoMemory)
no_memory before now input later = record { later = later; failed = λ e. absurd (cc); too_long = λ e. absurd (cc) }

pub too_long : (before now : ℕ) (input : Option (List ℕ)) → before ≤ now → IfSome input IsTooLong → HasSourceCause {T = Option Said} before now input (Err fault.TooLong)
too_long before now input later long = record { later = later; failed = λ e. absurd (cc); too_long = λ e. long }

pub source_failed : (before now : ℕ) (input : Option (List ℕ)) → before ≤ now → Rose before now → HasSourceCause {T = Option Said} before now input (Err fault.Source)
source_failed before now input later rose = record { later = later; failed = λ e. rose; too_long = λ e. absurd (cc) }

pub done_well : (before now : ℕ) (input : Option (List ℕ)) (o : Option Said) → before ≤ now → HasSourceCause before now input (Ok o)
done_well before now input o later = record { later = later; failed = λ e. absurd (cc); too_long = λ e. absurd (cc) }

-- a line that was taken whole and says nothing
pub says_err : (line : List ℕ) (e : LineFault) → (e ≡ fault.Source → ⊥) → (e ≡ fault.TooLong → most_bytes < length line) → SaysOr line (Err e)
says_err line fault.Source other long = other refl
says_err line fault.TooLong other long = long refl
says_err line fault.NoMemory other long = tt
