use Rattle.hb_groups.proofs.Shares.{quota-even}
use Rattle.hb_groups.proofs.laws.quota_is_even.Goals as goal

pub returns : goal.returns
returns c = quota-even c.args.areas c.args.position c.requires.position c.requires.few
