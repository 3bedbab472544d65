use Rattle.std.proofs.Common.{◌≡◌, ◌-◌, ◌≤◌, length, drop}
use Rattle.hb_sqltoken.specs.Tokens.{quoted, with_front}
use Rattle.hb_sqltoken.proofs.text.text_token.Given as goal

abbrev pub invariant-loop-at : goal.invariant-loop-at
invariant-loop-at l = record {
  within : l.at ≤ length l.behind;
  goes : with_front l.text.items l.at (quoted (drop l.at l.behind)) ≡ quoted l.behind;
}

abbrev pub decreases-loop-at : goal.decreases-loop-at
decreases-loop-at l = length l.behind - l.at
