-- What stands at the first place of some bytes.
use Rattle.std.specs.Prelude.{◌≡◌, ◌≢◌, ℕ, List}
use Rattle.hb_types.specs.declared.change.LogItem.{LogItem}
use Rattle.hb_types.specs.Logs.{gate, StandsAt}
use Rattle.hb_types.specs.Records.{record_length}
use Rattle.hb_log.specs.declared.walk.Step.{Step}
use Rattle.hb_log.specs.declared.walk.Step.TheVariants.{Shut, Record, Bad}

abbrev pub Steps : List ℕ → Step → Type 0
Steps rest Shut = gate rest 0 ≢ 1
Steps rest (Record item n) = StandsAt rest 0 item × (n ≡ record_length item)
Steps rest Bad = (gate rest 0 ≡ 1) × ((item : LogItem) → StandsAt rest 0 item → ⊥)
