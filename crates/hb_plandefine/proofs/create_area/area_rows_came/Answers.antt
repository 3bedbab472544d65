use Rattle.std.proofs.Common.{List, IfOk, subst, ◌∙◌}
use Rattle.hb_model.specs.State.{Area}
use Rattle.hb_access.specs.Accesses.{use_of}
use Rattle.hb_plandefine.specs.Defines.{Goes, area_beside}
use Rattle.hb_plandefine.proofs.create_area.area_rows_came.Goals as goal

pub returns-clause-goes : goal.returns-clause-goes
returns-clause-goes c = λ tell.
    subst (λ (others : List Area). IfOk c.beside.result (Goes (area_beside c.args.back_ends c.args.name c.args.node others (use_of c.args.usage))))
    (c.as_slice.ensures.value ∙ c.in_ok-areas.ensures tell) c.beside.ensures.goes
