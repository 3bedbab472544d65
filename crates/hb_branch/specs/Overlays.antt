-- A transaction's own changes: the last one at each place.
use Rattle.std.specs.Prelude.{ℕ, zero, suc, Bool, false, if◌then◌else◌, List, [], ◌∷◌, Option, Some, None}
use Rattle.std.specs.Ordering.{is_lt}
use Rattle.std.specs.declared.cmp.Ordering.{Ordering}
use Rattle.hb_types.specs.declared.change.Change.{Change}
use Rattle.hb_types.specs.declared.names.Tx.{Tx}
use Rattle.hb_types.specs.declared.places.Path.{Path}
use Rattle.hb_types.specs.declared.places.Place.{Place}
use Rattle.hb_types.specs.Places.{place_cmp, same_place, is_under}
use Rattle.hb_types.specs.Put.{with_change, without_change}

-- whose changes, and the changes by ascending place
pub record Overlay : Type 0 where
  pub tx : Tx
  pub changes : List Change

abbrev pub change_cmp : Change → Change → Ordering
change_cmp a b = place_cmp a.place b.place

-- the changes with a further one, in place of the one at its place
abbrev pub putting : Change → List Change → List Change
putting c cs = with_change c (without_change c.place cs)

-- how many changes stand in front that are below a place
abbrev pub rank : Place → List Change → ℕ
rank p [] = 0
rank p (c ∷ cs) = if is_lt (place_cmp c.place p) then suc (rank p cs) else 0

-- whether a change is there and lies at a place
abbrev pub stands : Place → Option Change → Bool
stands p None = false
stands p (Some c) = same_place c.place p

-- what a change at a place makes of what stands there
abbrev pub seen : Place → Option (List ℕ) → Option Change → Option (List ℕ)
seen p old None = old
seen p old (Some c) = if same_place c.place p then c.row else old

-- the changes that lie under a path
abbrev pub changes_under : Path → List Change → List Change
changes_under p [] = []
changes_under p (c ∷ cs) = if is_under p c.place then c ∷ changes_under p cs else changes_under p cs
