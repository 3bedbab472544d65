use Rattle.std.proofs.Common.{refl}
use Rattle.hb_types.specs.declared.lock.Mode.TheVariants as mode
use Rattle.hb_access.specs.Accesses.{use_of}
use Rattle.hb_plandefine.specs.Defines.{area_found, numbered, follows}
use Rattle.hb_plandefine.specs.declared.stage.Then.TheVariants as then
use Rattle.hb_plandefine.proofs.Asking.{asks_part}
use Rattle.hb_plandefine.proofs.add_area.ask_areas.Goals as goal

pub returns-clause-goes : goal.returns-clause-goes
returns-clause-goes c =
    asks_part 1 mode.S (area_found (numbered c.args.number) c.args.area) (follows (then.AreaOf c.args.number c.args.area)) (λ rows v. refl) _ (use_of c.args.usage) _ c.rows_of.ensures c.lock-access.ensures.talk
