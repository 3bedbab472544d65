use Rattle.std.proofs.Common.{ap, ◌∙◌, inl}
use Rattle.std.specs.Prelude.{List, [], option_map}
use Rattle.hb_model.specs.State.{Area, area_named}
use Rattle.hb_access.specs.Accesses.{use_of}
use Rattle.hb_definerows.specs.DefineRows.{state_told}
use Rattle.hb_plandefine.proofs.Adding.{asks_members, no_area}
use Rattle.hb_plandefine.proofs.add_area.area_came.Goals as goal

pub returns-in-Some-clause-goes : goal.returns-in-Some-clause-goes
returns-in-Some-clause-goes c = λ tell.
    let found = c.area_named.ensures.found ∙ ap (λ (l : List Area). option_map (λ (a : Area). a.number) (area_named (state_told [] l) c.args.area)) (c.in_ok-areas.ensures tell) in
    asks_members c.args.number c.args.area c.args.rows.now (use_of c.args.usage) _ c.area_named.result found c.in-Some.is _ _ c.group_of.ensures c.lock-access.ensures.talk

pub returns-clause-goes : goal.returns-clause-goes
returns-clause-goes c = λ tell.
    let found = c.area_named.ensures.found ∙ ap (λ (l : List Area). option_map (λ (a : Area). a.number) (area_named (state_told [] l) c.args.area)) (c.in_ok-areas.ensures tell) in
    inl (no_area c.args.number c.args.area c.args.rows.now (use_of c.args.usage) c.area_named.result found c.in-None.is)
