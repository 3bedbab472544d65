-- Room for the record of a vote.
use Rattle.std.specs.Prelude.{ℕ, ◌+◌, ◌*◌, ◌≤◌, length}
use Rattle.hb_types.specs.declared.change.LogItem.{LogItem}
use Rattle.hb_types.specs.Numbers.{greatest}
use Rattle.hb_types.specs.Records.{body_bytes, record_length}

-- the record, the closed gate and the ends of so many branches and of one more fit behind the end of a log, and the body is not too long
abbrev pub HasPlace : ℕ → ℕ → LogItem → Type 0
HasPlace end votes item = (end + record_length item + 1 + 32 * (votes + 1) ≤ greatest) × (length (body_bytes item) ≤ 8388608)
