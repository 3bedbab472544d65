-- When words and disks are those of a command, by what a reading of the words tells.
use Rattle.std.proofs.Common.{◌≡◌, ℕ, ◌+◌, ◌*◌, ◌≤◌, List, arith}
use Rattle.hb_acts.specs.Words.{IsRun}

module _ (words : List (List ℕ)) (disks count : ℕ) where
  abbrev AreDisks : Type 0
  AreDisks = (1 ≤ count) × (disks ≡ 3 + 2 * count)

  abbrev IsCommand : Type 0
  IsCommand = (n : ℕ) × IsRun words n × (disks ≡ 3 + 2 * n)

  pub are_disks : ((n : ℕ) → IsRun words n → count ≡ n) → IsCommand → AreDisks
  are_disks only command = (omega (arith, only command.0 command.1, command.1.2.least), omega (arith, only command.0 command.1, command.2))
