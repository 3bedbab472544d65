use Rattle.hb_sqlrow.proofs.NarrowRows.{fitting_narrow, read_narrow, chosen_narrow}
use Rattle.hb_sqlrow.proofs.laws.rows_are_narrow.Goals as goal

pub returns-clause-fitting : goal.returns-clause-fitting
returns-clause-fitting c = fitting_narrow

pub returns-clause-read : goal.returns-clause-read
returns-clause-read c = read_narrow

pub returns-clause-chosen : goal.returns-clause-chosen
returns-clause-chosen c = chosen_narrow
