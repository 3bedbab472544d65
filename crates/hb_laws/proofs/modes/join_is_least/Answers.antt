use Rattle.hb_laws.proofs.ModeLaws.{join-least}
use Rattle.hb_laws.proofs.modes.join_is_least.Goals as goal

pub returns : goal.returns
returns c = join-least
