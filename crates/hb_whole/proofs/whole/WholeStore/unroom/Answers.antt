use Rattle.hb_whole.proofs.Making.{stays_slots}
use Rattle.hb_whole.proofs.whole.WholeStore.unroom.Goals as goal

pub returns-clause-stays : goal.returns-clause-stays
returns-clause-stays c = stays_slots c.args.self.now c.unroom.new.self c.unroom.ensures.rows
