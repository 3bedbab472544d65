use Rattle.std.proofs.Common.{◌≡◌, take}
use Rattle.hb_locks.specs.Locks.{blockers}
use Rattle.hb_locks.proofs.holders.blockers.Given as goal

-- those found so far are the blockers so far
abbrev pub invariant-loop-holder : goal.invariant-loop-holder
invariant-loop-holder l = l.found ≡ blockers l.tx l.wanted (take l.holder-index l.holders)
