use Rattle.hb_plan.proofs.Named.{area_named, table_named}
use Rattle.hb_plan.proofs.begins.stage_of.Goals as goal

pub new_area-requires-clause-named : goal.new_area-requires-clause-named
new_area-requires-clause-named c = area_named c.args.statement c.in-CreateArea.name c.in-CreateArea.node c.in-CreateArea.is c.requires.plain

pub new_table-requires : goal.new_table-requires
new_table-requires c =
    table_named c.args.statement c.in-CreateTable.name c.in-CreateTable.columns c.in-CreateTable.key c.in-CreateTable.areas c.in-CreateTable.is c.requires.plain
