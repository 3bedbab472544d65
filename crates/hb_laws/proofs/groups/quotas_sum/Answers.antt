use Rattle.hb_laws.proofs.GroupLaws.{quotas-all}
use Rattle.hb_laws.proofs.groups.quotas_sum.Goals as goal

pub returns : goal.returns
returns c = quotas-all
