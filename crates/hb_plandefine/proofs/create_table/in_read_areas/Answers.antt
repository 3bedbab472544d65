use Rattle.std.proofs.Common.{List, IfOk, subst}
use Rattle.hb_model.specs.State.{Area}
use Rattle.hb_model.specs.Told.{Found}
use Rattle.hb_access.specs.Accesses.{use_of}
use Rattle.hb_plandefine.specs.Defines.{Goes, table_in_areas}
use Rattle.hb_plandefine.proofs.create_table.in_read_areas.Goals as goal

pub returns-clause-goes : goal.returns-clause-goes
returns-clause-goes c =
    let leads : List Found → List Area → Type 0 = λ tables areas. IfOk c.in_areas.result (Goes (table_in_areas c.args.draft tables areas (use_of c.args.usage))) in
    subst (λ (areas : List Area). leads c.args.tables.items areas) c.as_slice-2.ensures.value
    (subst (λ (tables : List Found). leads tables c.as_slice-2.result.now) c.as_slice.ensures.value c.in_areas.ensures.goes)
