use Rattle.std.proofs.Common.{sym, ◌∙◌, inl, refl}
use Rattle.hb_types.specs.declared.lock.Mode.TheVariants as mode
use Rattle.hb_access.specs.Accesses.{use_of}
use Rattle.hb_plandefine.specs.Defines.{table_created, follows}
use Rattle.hb_plandefine.specs.declared.stage.Then.TheVariants as then
use Rattle.hb_plandefine.proofs.Asking.{stops, passes, asks_part}
use Rattle.hb_plandefine.proofs.create_table.beside.Goals as goal

pub returns-in-Some-clause-goes : goal.returns-in-Some-clause-goes
returns-in-Some-clause-goes c = inl (stops _ _ _ _ (sym c.early_refusal.ensures ∙ c.in-Some.is))

pub returns-in-None-clause-goes : goal.returns-in-None-clause-goes
returns-in-None-clause-goes c =
    let d = c.args.draft in
    let tables = c.args.tables in
    passes _ _ (use_of c.args.usage) (sym c.early_refusal.ensures ∙ c.in-None.is)
    ∙ asks_part 1 mode.S (table_created d tables.items) (follows (then.TableAreas tables d)) (λ rows v. refl) _ (use_of c.args.usage) _ c.rows_of.ensures c.lock-access.ensures.talk
