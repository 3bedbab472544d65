use Rattle.std.proofs.Common.{refl, sym}
use Rattle.hb_types.specs.declared.lock.Mode.TheVariants as mode
use Rattle.hb_access.specs.Accesses.{use_of}
use Rattle.hb_plandefine.specs.declared.stage.Then.TheVariants as then
use Rattle.hb_plandefine.specs.Defines.{area_created, follows}
use Rattle.hb_plandefine.proofs.Asking.{asks_part}
use Rattle.hb_plandefine.proofs.defining.Defining.create_area.Goals as goal

pub returns-clause-talk : goal.returns-clause-talk
returns-clause-talk c =
    let b = c.args.back_ends in
    sym (asks_part 1 mode.X (area_created b c.args.name c.args.node) (follows (then.NewArea b c.args.name c.args.node)) (λ rows v. refl) _ (use_of c.args.usage) _ c.rows_of.ensures c.lock-access.ensures.talk)
