use Rattle.std.proofs.Common.{List, subst}
use Rattle.hb_model.specs.Told.{Found}
use Rattle.hb_access.specs.Accesses.{use_of}
use Rattle.hb_plandefine.specs.Defines.{Goes, table_beside}
use Rattle.hb_plandefine.proofs.create_table.table_rows_came.Goals as goal

pub returns-clause-goes : goal.returns-clause-goes
returns-clause-goes c = λ tell.
    subst (λ (tables : List Found). Goes (table_beside c.args.draft tables (use_of c.args.usage)) c.beside.result) (c.in_ok-tables.ensures tell) c.beside.ensures.goes
