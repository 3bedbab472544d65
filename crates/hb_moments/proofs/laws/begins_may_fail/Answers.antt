use Rattle.hb_moments.proofs.Beginnings.{may_fail}
use Rattle.hb_moments.proofs.laws.begins_may_fail.Goals as goal

pub returns : goal.returns
returns c = λ before after done l owner tx q a ran. may_fail before after done l owner tx q a ran
