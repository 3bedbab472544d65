use Rattle.hb_server.proofs.Entering.{told_well}
use Rattle.hb_server.proofs.Rooming.{told_plain}
use Rattle.hb_server.proofs.server.Server.enter.Goals as goal

pub returns-clause-well_formed : goal.returns-clause-well_formed
returns-clause-well_formed g c = told_well c.args.answer c.twice-answer.result.0 c.twice-answer.ensures.told c.requires.well_formed

pub returns-clause-plain : goal.returns-clause-plain
returns-clause-plain g c = λ plain. told_plain c.args.answer c.twice-answer.result.0 c.twice-answer.ensures.told plain
