use Rattle.std.proofs.Common.{List, IfOk, subst}
use Rattle.hb_model.specs.State.{Area}
use Rattle.hb_access.specs.Accesses.{use_of}
use Rattle.hb_plandefine.specs.Defines.{Goes, table_in_areas}
use Rattle.hb_plandefine.proofs.create_table.table_areas_came.Goals as goal

pub returns-clause-goes : goal.returns-clause-goes
returns-clause-goes c = λ tell.
    subst (λ (areas : List Area). IfOk c.in_read_areas.result (Goes (table_in_areas c.args.draft c.args.tables.items areas (use_of c.args.usage)))) (c.in_ok-areas.ensures tell)
    c.in_read_areas.ensures.goes
