use Rattle.hb_laws.proofs.ModeLaws.{compatible-table}
use Rattle.hb_laws.proofs.modes.compatible_is_the_table.Goals as goal

pub returns : goal.returns
returns c = compatible-table
