use Rattle.std.proofs.Common.{rules}
use Rattle.hb_sqltoken.specs.Words.{word_of, reserved}
use Rattle.hb_sqltoken.proofs.words.word_of.Goals as goal

pub loop-candidate-init : goal.loop-candidate-init
unfolding word_of reserved
loop-candidate-init c = search rules
