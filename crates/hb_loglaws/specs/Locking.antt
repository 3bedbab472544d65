-- What locks of branches exclude.
use Rattle.std.specs.Prelude.{List}
use Rattle.hb_types.specs.declared.lock.Held.{Held}
use Rattle.hb_types.specs.declared.lock.Mode.TheVariants as mode
use Rattle.hb_types.specs.declared.places.Place.{Place}
use Rattle.hb_disks.specs.LogRules.{LocksAgree, AreClosed, Covers}

-- where the locks of two branches are closed and agree, a place that the one may read is none that the other may write
abbrev pub LocksExclude : Type 0
LocksExclude =
    (ls ms : List Held) (x : Place) → AreClosed ls → AreClosed ms → LocksAgree ls ms → Covers ls mode.S x → Covers ms mode.X x → ⊥
