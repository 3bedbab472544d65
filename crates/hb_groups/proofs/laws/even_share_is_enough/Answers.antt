use Rattle.hb_groups.proofs.Shares.{even-enough}
use Rattle.hb_groups.proofs.laws.even_share_is_enough.Goals as goal

pub returns : goal.returns
returns c = λ count. even-enough c.args.areas c.args.position count c.requires.position c.requires.few
