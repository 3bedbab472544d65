use Rattle.std.proofs.Common.{◌≡◌, ℕ, List, ◌+◌, ◌-◌, ◌≤◌, length, drop}
use Rattle.std.specs.Prelude.{All}
use Rattle.hb_types.specs.Logs.{end_of}
use Rattle.hb_types.specs.Records.{HasRecord}
use Rattle.hb_log.specs.Standing.{StandFrom}
use Rattle.hb_log.proofs.walk.walk.Given as goal

abbrev pub invariant-loop-items : goal.invariant-loop-items
invariant-loop-items l = record {
  stand : (image : List ℕ) → l.bytes ≡ drop l.from image → StandFrom image l.from l.items.items;
  end : l.from + l.at ≡ end_of l.from l.items.items;
  within : l.at ≤ length l.bytes;
  recorded : All (λ p. HasRecord p.item) l.items.items;
}

abbrev pub decreases-loop-items : goal.decreases-loop-items
decreases-loop-items l = length l.bytes - l.at
