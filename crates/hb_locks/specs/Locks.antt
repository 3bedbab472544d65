-- Who holds what on each path, in the order of the first grants, and what a grant and a release change.
use Rattle.std.specs.Prelude.{◌≡◌, Bool, true, not, ◌&&◌, if◌then◌else◌, ◌==◌, List, [], ◌∷◌, Option, None, Some, filter, find, unwrap_or, IsSomeAnd}
use Rattle.std.specs.List.{list_all}
use Rattle.std.specs.Option.{option_map}
use Rattle.std.specs.Map.{lookup}
use Rattle.hb_types.specs.declared.lock.Holder.{Holder}
use Rattle.std.specs.declared.cmp.Ordering.{Ordering}
use Rattle.hb_types.specs.declared.lock.Held.{Held}
use Rattle.hb_types.specs.declared.lock.Mode.{Mode}
use Rattle.hb_types.specs.declared.names.Tx.{Tx}
use Rattle.hb_types.specs.declared.places.Path.{Path}
use Rattle.hb_types.specs.Modes.{compatible, covers, join}
use Rattle.hb_types.specs.Places.{same_path, path_cmp, ancestors, intention}
use Rattle.hb_types.specs.Lists.{Each}

-- each path that is held, with its holders in the order of their first grants on it
abbrev pub Locks : Type 0
Locks = List (Path × List Holder)

-- ---- the holders of one path

abbrev pub is_of : Tx → Holder → Bool
is_of tx h = h.tx.0 == tx.0

-- the mode in which one of the holders holds the path
abbrev pub mode_of : Tx → List Holder → Option Mode
mode_of tx holders = option_map (λ h. h.mode) (find (is_of tx) holders)

-- what is wanted where a mode is asked for: what is held already is joined with it
abbrev pub wanted_of : Option Mode → Mode → Mode
wanted_of None asked = asked
wanted_of (Some held) asked = join held asked

abbrev pub blocks : Tx → Mode → Holder → Bool
blocks tx wanted h = not (is_of tx h) && not (compatible h.mode wanted)

-- the others that hold a mode which can't stand beside the wanted one
abbrev pub blockers : Tx → Mode → List Holder → List Holder
blockers tx wanted holders = filter (blocks tx wanted) holders

-- the holders once the mode was granted
abbrev pub granted : Tx → Mode → List Holder → List Holder
granted tx mode [] = record { tx = tx; mode = mode } ∷ []
granted tx mode (h ∷ hs) = if is_of tx h then record { tx = tx; mode = mode } ∷ hs else h ∷ granted tx mode hs

abbrev pub without : Tx → List Holder → List Holder
without tx holders = filter (λ h. not (is_of tx h)) holders

abbrev pub stands_beside : Holder → Holder → Bool
stands_beside g h = not (is_of g.tx h) && compatible g.mode h.mode

-- the holders are different transactions with compatible modes
abbrev pub are_compatible : List Holder → Bool
are_compatible [] = true
are_compatible (h ∷ hs) = list_all (stands_beside h) hs && are_compatible hs

-- ---- the table

abbrev pub holders_at : Locks → Path → List Holder
holders_at locks path = unwrap_or (lookup (same_path path) locks) []

abbrev pub held_at : Locks → Tx → Path → Option Mode
held_at locks tx path = mode_of tx (holders_at locks path)

-- the paths above are held in the intention mode or stronger
abbrev pub HoldsAncestors : Locks → Tx → Path → Mode → Type 0
HoldsAncestors locks tx path mode = Each (λ above. IsSomeAnd (held_at locks tx above) (λ held. covers held (intention mode) ≡ true)) (ancestors path)

-- only this path's holders are others than before
abbrev pub Changes : Locks → Locks → Path → List Holder → Type 0
Changes old new path holders = (q : Path) → holders_at new q ≡ (if same_path path q then holders else holders_at old q)

-- on each path only this transaction is gone
abbrev pub Releases : Locks → Locks → Tx → Type 0
Releases old new tx = (q : Path) → holders_at new q ≡ without tx (holders_at old q)

-- on each path the holders are different transactions with compatible modes
abbrev pub IsCompatible : Locks → Type 0
IsCompatible locks = (q : Path) → are_compatible (holders_at locks q) ≡ true

abbrev pub held_as : Path → Mode → Held
held_as path mode = record { path = path; mode = mode }

-- the mode on a path in a list of locks
abbrev pub mode_at : List Held → Path → Option Mode
mode_at locks q = option_map (λ h. h.mode) (find (λ h. same_path q h.path) locks)

abbrev pub lock_cmp : Held → Held → Ordering
lock_cmp a b = path_cmp a.path b.path
