use Rattle.std.proofs.Common.{List, sym, subst}
use Rattle.hb_types.specs.declared.value.Value.{Value}
use Rattle.hb_model.specs.Valid.{FitsAll}
use Rattle.hb_endings.proofs.Assigned.{assigned_fits}
use Rattle.hb_endings.proofs.changes.update.Goals as goal

pub encoded-requires-clause-fit : goal.encoded-requires-clause-fit
encoded-requires-clause-fit c =
    subst (λ (row : List Value). FitsAll c.args.table.now.columns row) (sym c.in_ok-row.ensures.row)
    (assigned_fits c.args.table.now c.args.sets.now c.args.l.now.1 c.requires.fit.1.1 c.requires.assignable c.in_ok-row.ensures.accepted)
