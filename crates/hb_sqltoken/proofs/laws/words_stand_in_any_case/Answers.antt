use Rattle.hb_sqltoken.proofs.WordLemmas.{word_lower, lower_word}
use Rattle.hb_sqltoken.proofs.laws.words_stand_in_any_case.Goals as goal

pub returns : goal.returns
returns c = λ name w. (word_lower name w, lower_word name w)
