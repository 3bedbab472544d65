use Rattle.std.proofs.Common.{ap, sym, ◌∙◌}
use Rattle.hb_moveplan.specs.Parts.{Checking}
use Rattle.hb_moveplan.proofs.Steps.{entries_came, tables_came}
use Rattle.hb_moveplan.proofs.check.Check.read.Goals as goal

pub returns-in-Some-clause-goes : goal.returns-in-Some-clause-goes
returns-in-Some-clause-goes c =
    entries_came c.args.self.now c.find.new.self c.in-Some.table c.args.rows.now c.find.result (ap (λ (o : Checking). o.table) (sym c.self.view_is) ∙ c.in-Some.is)
    c.find.ensures.goes

pub returns-in-None-clause-goes : goal.returns-in-None-clause-goes
returns-in-None-clause-goes c =
    tables_came c.args.self.now c.enter.new.self c.args.rows.now c.enter.result (ap (λ (o : Checking). o.table) (sym c.self.view_is) ∙ c.in-None.is) c.enter.ensures.goes
