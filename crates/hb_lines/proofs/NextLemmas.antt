-- What the next line says, from the line that was taken.
use Rattle.std.proofs.Common.{◌≡◌, ℕ, ◌<◌, ◌≤◌, List, length, sym, ◌∙◌, ap, subst}
use Rattle.std.specs.Prelude.{Some, None, Option, IfSome, IfOk, OnSome, Result, Ok, Err}
use Rattle.hb_lines.specs.declared.said.Said.{Said}
use Rattle.hb_lines.specs.Lines.{lines_of, without_return}
use Rattle.hb_lines.specs.declared.fault.LineFault.{LineFault}
use Rattle.hb_lines.specs.declared.fault.LineFault.TheVariants as fault
use Rattle.hb_lines.specs.Saying.{Says, most_bytes}
use Rattle.hb_lines.specs.Parts.{TakenLine, TakesLine}
use Rattle.hb_lines.specs.Next.{SaysOr, HasSourceCause, NextLine, IsTooLong}
use Rattle.hb_lines.proofs.Causes.{done_well, no_memory, too_long, source_failed}

is_said : (taken : List ℕ) (old new : Option (List ℕ)) (o : Said) → TakenLine taken old new → Says (without_return taken) o → NextLine (Some o) old new
is_said taken None new o line says = (line.0, tt)
is_said taken (Some input) None o line says = (line.0, tt)
is_said taken (Some input) (Some rest) o line says = (line.0, record { line = without_return taken; lines = line.1; says = says })

long_line : (taken : List ℕ) (old new : Option (List ℕ)) → TakenLine taken old new → most_bytes < length (without_return taken) → IfSome old IsTooLong
long_line taken None new line long = tt
long_line taken (Some input) None line long = absurd (cc (line.0))
long_line taken (Some input) (Some rest) line long = record { line = without_return taken; others = lines_of rest; lines = line.1; long = long }

module _ (taken : List ℕ) (old new : Option (List ℕ)) (line : TakenLine taken old new) where
  pub some_next : (result : Result (Option Said) LineFault) → SaysOr (without_return taken) result → IfOk result (λ o. NextLine o old new)
  some_next (Ok None) says = absurd says
  some_next (Ok (Some o)) says = is_said taken old new o line says
  some_next (Err e) says = tt

  pub some_cause : (before now : ℕ) → before ≤ now → (result : Result (Option Said) LineFault) → SaysOr (without_return taken) result → HasSourceCause before now old result
  some_cause before now later (Ok o) says = done_well before now old o later
  some_cause before now later (Err fault.Source) says = absurd says
  some_cause before now later (Err fault.TooLong) says = too_long before now old later (long_line taken old new line says)
  some_cause before now later (Err fault.NoMemory) says = no_memory before now old later

-- the bound falls where there was a line
pub some_bound : (taken : List ℕ) (less most : ℕ) → less < most → (result : Result (Option Said) LineFault) → SaysOr taken result → IfOk result (λ o. OnSome o (less < most))
some_bound taken less most fewer (Ok None) says = absurd says
some_bound taken less most fewer (Ok (Some o)) says = fewer
some_bound taken less most fewer (Err e) says = tt

-- no line was taken
no_line : (e : LineFault) (old new : Option (List ℕ)) (before now : ℕ) (taken : List ℕ) → before ≤ now → TakesLine old new before now taken (Err e) → HasSourceCause {T = Option Said} before now old (Err e)
no_line fault.Source old new before now taken later cause = source_failed before now old later cause
no_line fault.TooLong old new before now taken later cause = too_long before now old later cause
no_line fault.NoMemory old new before now taken later cause = no_memory before now old later

pub none_cause : (result : Result (Option Said) LineFault) (given e : LineFault) → result ≡ Err given → given ≡ e → (old new : Option (List ℕ)) (before now : ℕ) (taken : List ℕ) → before ≤ now → TakesLine old new before now taken (Err e) → HasSourceCause before now old result
none_cause result given e is same old new before now taken later cause = subst (λ (r : Result (Option Said) LineFault). HasSourceCause before now old r) (sym (is ∙ ap (λ (f : LineFault). Err f) same)) (no_line e old new before now taken later cause)
