use Rattle.std.proofs.Common.{◌≡◌, ◌<◌, ℕ, length, get_or, take, drop, ◌++◌}
use Rattle.hb_types.specs.Groups.{entry_after, map_from}
use Rattle.hb_groups.specs.Counts.{count_at}
use Rattle.hb_groups.proofs.assignment.reassign.Given as goal

-- the entries so far are made anew, and of each area as many groups were seen as there are among them
abbrev pub invariant-loop-entry : goal.invariant-loop-entry
invariant-loop-entry l = record {
  room : length l.seen ≡ 16;
  entries : l.entries ≡ map_from (entry_after l.fn.entries l.areas l.added) 0 (take l.entry-index l.fn.entries) ++ drop l.entry-index l.fn.entries;
  seen : (j : ℕ) → j < length l.areas → get_or l.seen j 0 ≡ count_at (take l.entry-index l.fn.entries) (get_or l.areas j 0);
}
