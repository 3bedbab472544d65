use Rattle.hb_definerows.proofs.Refusing.{refused_early, refused_late}
use Rattle.hb_definerows.proofs.create_table.full_table_refusal.Goals as goal

pub returns-in-Some : goal.returns-in-Some
returns-in-Some c = refused_early c.args.tables.now c.args.areas.now c.args.draft.now c.early_table_refusal.result _ c.early_table_refusal.ensures c.in-Some.is

pub returns-in-None : goal.returns-in-None
returns-in-None c =
    refused_late c.args.tables.now c.args.areas.now c.args.draft.now c.early_table_refusal.result c.areas_refusal.result c.early_table_refusal.ensures c.in-None.is c.areas_refusal.ensures
