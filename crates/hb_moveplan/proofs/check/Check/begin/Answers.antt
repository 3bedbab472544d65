use Rattle.std.proofs.Common.{None, ap, sym, ◌∙◌}
use Rattle.hb_access.specs.Accesses.{locked, use_of}
use Rattle.hb_round.specs.Onward.{onward}
use Rattle.hb_moveplan.specs.MovePlans.{from_rows, rows_got}
use Rattle.hb_moveplan.proofs.Plans.{check_begins}
use Rattle.hb_moveplan.proofs.check.Check.begin.Goals as goal

pub returns-clause-talk : goal.returns-clause-talk
returns-clause-talk c =
    let u = use_of c.args.usage in
    ap (onward (λ g. from_rows c.args.name None (rows_got g))) (c.lock-access.ensures.talk ∙ ap (λ g. locked g u) c.names_goal.ensures) ∙ sym (check_begins c.args.name u)
