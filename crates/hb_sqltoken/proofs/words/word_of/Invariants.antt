use Rattle.std.proofs.Common.{◌≡◌, find}
use Rattle.std.specs.Array.Iter.{array_into_iter_items}
use Rattle.std.specs.Str.{str_eq_ignore_ascii_case}
use Rattle.hb_sqltoken.specs.Words.{spelling, word_of}
use Rattle.hb_sqltoken.proofs.words.word_of.Given as goal

abbrev pub invariant-loop-candidate : goal.invariant-loop-candidate
invariant-loop-candidate l =
    find (λ w. str_eq_ignore_ascii_case (spelling w) l.name) (array_into_iter_items l.candidate-iterator) ≡ word_of l.name
