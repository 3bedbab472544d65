use Rattle.hb_whole.proofs.Making.{stays_changed}
use Rattle.hb_whole.proofs.whole.WholeStore.apply.Goals as goal

pub returns-clause-stays : goal.returns-clause-stays
returns-clause-stays c = stays_changed c.args.self.now c.apply.new.self
