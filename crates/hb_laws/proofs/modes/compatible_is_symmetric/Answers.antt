use Rattle.hb_laws.proofs.ModeLaws.{compatible-symmetric}
use Rattle.hb_laws.proofs.modes.compatible_is_symmetric.Goals as goal

pub returns : goal.returns
returns c = compatible-symmetric
