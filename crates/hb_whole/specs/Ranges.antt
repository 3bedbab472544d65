-- The least and the greatest place under a path.
use Rattle.std.specs.Prelude.{◌-◌, ◌^◌, pos, negsuc}
use Rattle.hb_types.specs.declared.places.Path.{Path}
use Rattle.hb_types.specs.declared.places.Path.TheVariants.{Whole, Group, Key}
use Rattle.hb_types.specs.declared.places.Place.{Place}

abbrev pub first_under : Path → Place
first_under (Whole s) = record { space = s; group = 0; key = negsuc (2 ^ 63 - 1) }
first_under (Group s g) = record { space = s; group = g; key = negsuc (2 ^ 63 - 1) }
first_under (Key p) = p

abbrev pub last_under : Path → Place
last_under (Whole s) = record { space = s; group = 65535; key = pos (2 ^ 63 - 1) }
last_under (Group s g) = record { space = s; group = g; key = pos (2 ^ 63 - 1) }
last_under (Key p) = p
