use Rattle.std.proofs.Common.{◌≡◌, ◌+◌, ◌-◌, ◌≤◌, length, drop}
use Rattle.hb_sqltoken.specs.Kinds.{in_name, run_of}
use Rattle.hb_sqltoken.proofs.kinds.name_at.Given as goal

abbrev pub invariant-loop-end : goal.invariant-loop-end
invariant-loop-end l = record {
  within : l.end ≤ length l.s;
  goes : l.end + run_of in_name (drop l.end l.s) ≡ run_of in_name l.s;
}

abbrev pub decreases-loop-end : goal.decreases-loop-end
decreases-loop-end l = length l.s - l.end
