use Rattle.std.proofs.Common.{◌∙◌}
use Rattle.hb_print.proofs.Pieces.{print_is}
use Rattle.hb_print.proofs.lines.print.Goals as goal

pub returns : goal.returns
returns c = print_is c.args.names.now c.args.line.now _ _ _ _ (c.as_slice.ensures.value ∙ c.in_ok-session.ensures) (c.as_slice-2.ensures.value ∙ c.in_ok-last.ensures) c.in_ok-out.ensures c.new.ensures
