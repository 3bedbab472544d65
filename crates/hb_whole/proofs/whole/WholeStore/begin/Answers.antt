use Rattle.hb_whole.proofs.Making.{stays_begun}
use Rattle.hb_whole.proofs.whole.WholeStore.begin.Goals as goal

pub returns-clause-stays : goal.returns-clause-stays
returns-clause-stays c = stays_begun c.args.self.now c.args.point c.requires
