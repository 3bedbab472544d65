use Rattle.std.proofs.Common.{◌≡◌, List, None, true, IfOk, subst}
use Rattle.hb_types.specs.declared.entry.Entry.{Entry}
use Rattle.hb_model.specs.Refusals.{first_refusal}
use Rattle.hb_access.specs.Accesses.{use_of}
use Rattle.hb_definerows.specs.DefineRows.{added_refusals, can_spread}
use Rattle.hb_plandefine.specs.Defines.{Goes, spread_over}
use Rattle.hb_plandefine.proofs.add_area.over_all.Goals as goal

pub returns-clause-goes : goal.returns-clause-goes
returns-clause-goes c = λ fits.
    let ms = c.args.members.now in
    let area = c.args.area in
    let leads : List Entry → Type 0 = λ es.
    (first_refusal (added_refusals ms es area) ≡ None → can_spread ms es ≡ true) → IfOk c.over.result (Goes (spread_over c.args.number area ms es (use_of c.args.usage))) in
    subst leads c.as_mut_slice.ensures.value c.over.ensures.goes fits
