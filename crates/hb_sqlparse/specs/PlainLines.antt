-- Lines with valid names and plain work.
use Rattle.std.specs.Prelude.{ℕ, ◌≤◌}
use Rattle.hb_model.specs.Valid.{IsName}
use Rattle.hb_model.specs.Plain.{IsPlain}
use Rattle.hb_model.specs.declared.script.Item.{Item}
use Rattle.hb_model.specs.declared.script.Item.TheVariants as item
use Rattle.hb_sqlsteps.specs.Kept.{most_steps}

-- from 1 to the most that STEP and AT may say
abbrev pub InCount : ℕ → Type 0
InCount n = (1 ≤ n) × (n ≤ most_steps)

abbrev pub IsPlainItem : Item → Type 0
IsPlainItem item.Blank = Unit {0}
IsPlainItem (item.Give session work held) = IsName session × IsPlain work
IsPlainItem (item.Step session n) = IsName session × InCount n
IsPlainItem (item.Stop node) = IsName node
IsPlainItem (item.Arm node area k) = IsName node × InCount k
IsPlainItem (item.Start node) = IsName node
IsPlainItem (item.Sync node) = IsName node
IsPlainItem item.Barrier = Unit {0}
