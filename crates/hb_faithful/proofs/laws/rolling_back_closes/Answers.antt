use Rattle.hb_faithful.proofs.Rolling.{rolling_closes}
use Rattle.hb_faithful.proofs.laws.rolling_back_closes.Goals as goal

pub returns : goal.returns
returns c = rolling_closes
