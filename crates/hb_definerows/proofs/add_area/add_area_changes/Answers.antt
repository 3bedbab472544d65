use Rattle.hb_definerows.proofs.Spreading.{not_member}
use Rattle.hb_definerows.proofs.add_area.add_area_changes.Goals as goal

pub spread_out-requires-clause-new : goal.spread_out-requires-clause-new
spread_out-requires-clause-new c = not_member c.args.members.now c.args.entries.now c.args.area c.requires.accepted
