use Rattle.hb_lives.proofs.Systems.{added_of_system}
use Rattle.hb_lives.proofs.laws.added_are_of_system.Goals as goal

pub returns : goal.returns
returns c = added_of_system
