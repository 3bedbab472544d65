use Rattle.std.proofs.Common.{◌∙◌, refl}
use Rattle.std.proofs.lemmas.Bool.{false≢true}
use Rattle.hb_console.proofs.Commands.{are_disks}
use Rattle.hb_console.proofs.Ending.{ends_as}
use Rattle.hb_console.proofs.console.console_run.Goals as goal

pub returns-then-not-are_disks_of-clause-usage : goal.returns-then-not-are_disks_of-clause-usage
returns-then-not-are_disks_of-clause-usage g c = (
  λ not. absurd (not refl),
  λ command same. absurd (false≢true (c.if-not-are_disks_of.ensures.1 (are_disks c.args.words.now c.len.result c.back_ends-count.result c.back_ends-count.ensures.only (command.0, command.1, c.len.ensures ∙ c.args.disks.ok.0 ∙ command.2)))),
)

pub returns-clause-ends : goal.returns-clause-ends
returns-clause-ends g c = λ n is not. ends_as _ _ _ n (c.back_ends-count.ensures.only n is) _ _ _ _ _ c.run_over.ensures.ends
