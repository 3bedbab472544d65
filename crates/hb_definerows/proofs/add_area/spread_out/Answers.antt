use Rattle.hb_definerows.proofs.Spreading.{spreads, marked}
use Rattle.hb_definerows.proofs.add_area.spread_out.Goals as goal

pub reassign-requires-clause-distinct : goal.reassign-requires-clause-distinct
reassign-requires-clause-distinct c = (spreads c.args.members.now c.args.entries.now c.requires.spread).distinct

pub reassign-requires-clause-placed : goal.reassign-requires-clause-placed
reassign-requires-clause-placed c = (spreads c.args.members.now c.args.entries.now c.requires.spread).placed

pub reassign-requires-clause-enough : goal.reassign-requires-clause-enough
reassign-requires-clause-enough c = (spreads c.args.members.now c.args.entries.now c.requires.spread).enough

pub returns-clause-marked : goal.returns-clause-marked
returns-clause-marked c =
    marked c.args.area c.args.entries.now c.reassign.new.entries c.requires.sited.0 c.reassign.ensures.change
    (spreads c.args.members.now c.args.entries.now c.requires.spread).held
