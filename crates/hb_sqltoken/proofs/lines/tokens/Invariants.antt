use Rattle.std.proofs.Common.{◌≡◌, ◌-◌, ◌≤◌, length, drop, ◌++◌}
use Rattle.hb_sqltoken.specs.Tokens.{tokens_from, bounded, tokens_of}
use Rattle.hb_sqltoken.proofs.lines.tokens.Given as goal

abbrev pub invariant-loop-at : goal.invariant-loop-at
invariant-loop-at l = record {
  within : l.at ≤ length l.line;
  few : length l.found ≤ 512;
  goes : l.found ++ bounded (512 - length l.found) (tokens_from 0 l.at (drop l.at l.line)) ≡ tokens_of l.line;
}

abbrev pub decreases-loop-at : goal.decreases-loop-at
decreases-loop-at l = length l.line - l.at
