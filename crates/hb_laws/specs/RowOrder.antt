-- Rows by ascending place.
use Rattle.std.specs.Prelude.{List}
use Rattle.hb_types.specs.declared.change.Stored.{Stored}
use Rattle.hb_types.specs.Lists.{Ascends}
use Rattle.hb_types.specs.Places.{place_cmp}

-- rows stand by ascending place, one at each
abbrev pub AreAscending : List Stored → Type 0
AreAscending rows = Ascends (λ a b. place_cmp a.place b.place) rows
