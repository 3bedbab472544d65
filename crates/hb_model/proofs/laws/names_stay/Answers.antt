use Rattle.hb_model.proofs.Keeping.{does_stays}
use Rattle.hb_model.proofs.laws.names_stay.Goals as goal

pub returns : goal.returns
returns c = does_stays
