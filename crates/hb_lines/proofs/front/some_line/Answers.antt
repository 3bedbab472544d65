use Rattle.std.proofs.Common.{ap}
use Rattle.std.specs.Prelude.{Err}
use Rattle.hb_lines.specs.declared.fault.LineFault.{LineFault}
use Rattle.hb_lines.proofs.Causes.{says_err}
use Rattle.hb_lines.proofs.front.some_line.Goals as goal

pub returns-in-Ok-clause-says : goal.returns-in-Ok-clause-says
returns-in-Ok-clause-says c = c.in-Ok.ensures.says

pub returns-in-Ok-clause-plain : goal.returns-in-Ok-clause-plain
returns-in-Ok-clause-plain c = c.in-Ok.ensures.plain

pub returns-in-Err-clause-says : goal.returns-in-Err-clause-says
returns-in-Err-clause-says c = says_err _ c.in-Err.fault (λ is. c.in-Err.ensures.other (ap (λ (e : LineFault). Err e) is)) (λ is. c.in-Err.ensures.too_long (ap (λ (e : LineFault). Err e) is))
