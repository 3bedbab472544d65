use Rattle.hb_definerows.proofs.Refusing.{refused_there, refused_many, refused_columns}
use Rattle.hb_definerows.proofs.create_table.early_table_refusal.Goals as goal

pub returns-then-is_there : goal.returns-then-is_there
returns-then-is_there c = refused_there c.args.tables.now c.args.draft.now c.is_there.result c.is_there.ensures c.if-is_there.true

pub returns-then-are_too_many : goal.returns-then-are_too_many
returns-then-are_too_many c =
    refused_many c.args.tables.now c.args.draft.now c.is_there.result c.are_too_many.result c.is_there.ensures c.if-is_there.false c.are_too_many.ensures c.if-are_too_many.true

pub returns-else-are_too_many : goal.returns-else-are_too_many
returns-else-are_too_many c =
    refused_columns c.args.tables.now c.args.draft.now c.is_there.result c.are_too_many.result c.columns_refused.result c.is_there.ensures c.if-is_there.false c.are_too_many.ensures c.if-are_too_many.false
    c.columns_refused.ensures
