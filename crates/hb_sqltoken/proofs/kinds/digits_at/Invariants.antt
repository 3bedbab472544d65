use Rattle.std.proofs.Common.{◌≡◌, ◌+◌, ◌-◌, ◌≤◌, length, drop}
use Rattle.hb_sqltoken.specs.Kinds.{is_digit, run_of}
use Rattle.hb_sqltoken.proofs.kinds.digits_at.Given as goal

abbrev pub invariant-loop-end : goal.invariant-loop-end
invariant-loop-end l = record {
  within : l.end ≤ length l.s;
  goes : l.end + run_of is_digit (drop l.end l.s) ≡ run_of is_digit l.s;
}

abbrev pub decreases-loop-end : goal.decreases-loop-end
decreases-loop-end l = length l.s - l.end
