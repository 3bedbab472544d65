use Rattle.std.proofs.Common.{refl, sym}
use Rattle.hb_types.specs.declared.lock.Mode.TheVariants as mode
use Rattle.hb_access.specs.Accesses.{use_of}
use Rattle.hb_plandefine.specs.declared.stage.Then.TheVariants as then
use Rattle.hb_plandefine.specs.Defines.{table_checked, follows}
use Rattle.hb_plandefine.proofs.Asking.{asks_rows}
use Rattle.hb_plandefine.proofs.defining.Defining.create_table.Goals as goal

pub returns-clause-talk : goal.returns-clause-talk
returns-clause-talk c =
    sym (asks_rows 2 mode.X (table_checked c.args.draft) (follows (then.NewTable c.args.draft)) (λ rows v. refl) _ (use_of c.args.usage) _ c.rows_of.ensures c.lock-access.ensures.talk)
