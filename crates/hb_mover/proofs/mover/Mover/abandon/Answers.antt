use Rattle.std.proofs.Common.{ap, ◌∙◌}
use Rattle.hb_mover.specs.Moving.{is_waiting}
use Rattle.hb_mover.specs.contracts.mover.Mover.{the_view}
use Rattle.hb_mover.proofs.Stepping.{given_up}
use Rattle.hb_mover.proofs.mover.Mover.abandon.Goals as goal

pub returns-clause-abandons : goal.returns-clause-abandons
returns-clause-abandons c = given_up (the_view c.self.inside) c.abandon.new.self (ap is_waiting c.self.view_is ∙ c.requires.waits) c.abandon.ensures.gives_up
