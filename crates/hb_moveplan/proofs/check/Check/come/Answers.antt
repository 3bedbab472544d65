use Rattle.std.proofs.Common.{ap, sym, ◌∙◌}
use Rattle.hb_moveplan.specs.MovePlans.{rows_got}
use Rattle.hb_moveplan.proofs.Steps.{rows_came}
use Rattle.hb_moveplan.proofs.check.Check.come.Goals as goal

pub returns-in-Rows-clause-goes : goal.returns-in-Rows-clause-goes
returns-in-Rows-clause-goes c =
    rows_came c.args.self.now c.read.new.self c.args.got _ c.read.result (ap rows_got c.in-Rows.is ∙ sym c.as_slice.ensures) c.read.ensures.goes

pub returns-in-Row-clause-goes : goal.returns-in-Row-clause-goes
returns-in-Row-clause-goes c =
    rows_came c.args.self.now c.read-in-Row.new.self c.args.got _ c.read-in-Row.result (ap rows_got c.in-Row.is) c.read-in-Row.ensures.goes

pub returns-in-Nothing-clause-goes : goal.returns-in-Nothing-clause-goes
returns-in-Nothing-clause-goes c =
    rows_came c.args.self.now c.read-in-Nothing.new.self c.args.got _ c.read-in-Nothing.result (ap rows_got c.in-Nothing.is) c.read-in-Nothing.ensures.goes
