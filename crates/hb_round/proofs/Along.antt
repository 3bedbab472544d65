-- The parts of plans that go through areas are gatherings.
use Rattle.std.proofs.Common.{◌≡◌, ℕ, ℤ, List, [], ◌∷◌, ◌++◌, refl, sym, ◌∙◌}
use Rattle.hb_types.specs.declared.change.Stored.{Stored}
use Rattle.hb_types.specs.declared.lock.Mode.{Mode}
use Rattle.hb_model.specs.Spots.{space_in, place_in}
use Rattle.hb_types.specs.Places.{node_of_area}
use Rattle.hb_types.specs.declared.places.Path.TheVariants as path
use Rattle.hb_talk.specs.Talk.{Use, Planning, ◌>>=◌, ◌>>◌, lock}
use Rattle.hb_talk.specs.Plans.{walking, scanning, locking, stored_at}
use Rattle.hb_access.specs.Accesses.{locked}
use Rattle.hb_access.proofs.Bridges.{reads_row, reads_space, locks_only}
use Rattle.hb_access.proofs.Sequences.{plans_assoc}
use Rattle.hb_round.specs.declared.sweep.Sweep.{Sweep}
use Rattle.hb_round.specs.declared.sweep.Swept.TheVariants as swept
use Rattle.hb_round.specs.Sweeps.{gathering, goal_in, came_in}

pub walks : (m : Mode) (table : ℕ) (key : ℤ) (areas : List ℕ) (rows : List Stored) (u : Use)
    → walking m table key areas rows u ≡ gathering (record { table = table; mode = m; swept = swept.Row key }) areas rows u
unfolding gathering
walks m table key [] rows u = refl
walks m table key (area ∷ more) rows u =
    let s : Sweep = record { table = table; mode = m; swept = swept.Row key } in
    reads_row (record { 0 = node_of_area area }) (place_in area table key) m
    (λ row. walking m table key more (rows ++ stored_at (place_in area table key) row)) (λ g. gathering s more (rows ++ came_in s area g))
    (λ row v. walks m table key more (rows ++ stored_at (place_in area table key) row) v) u

pub scans : (m : Mode) (table : ℕ) (areas : List ℕ) (rows : List Stored) (u : Use)
    → scanning m table areas rows u ≡ gathering (record { table = table; mode = m; swept = swept.Rows }) areas rows u
unfolding gathering
scans m table [] rows u = refl
scans m table (area ∷ more) rows u =
    let s : Sweep = record { table = table; mode = m; swept = swept.Rows } in
    reads_space (record { 0 = node_of_area area }) (space_in area table) m
    (λ found. scanning m table more (rows ++ found)) (λ g. gathering s more (rows ++ came_in s area g))
    (λ found v. scans m table more (rows ++ found) v) u

-- what follows the locks follows a gathering of nothing
pub locks : {B : Type 0} (m : Mode) (table : ℕ) (areas : List ℕ) (rows : List Stored) (k : Planning B) (u : Use)
    → (locking m table areas >> k) u ≡ (gathering (record { table = table; mode = m; swept = swept.Lock }) areas rows >>= (λ _. k)) u
unfolding gathering
locks m table [] rows k u = refl
locks m table (area ∷ more) rows k u =
    let s : Sweep = record { table = table; mode = m; swept = swept.Lock } in
    plans_assoc (lock (node_of_area area) (path.Whole (space_in area table)) m) (λ _. locking m table more) (λ _. k) u
    ∙ locks_only (record { 0 = node_of_area area }) (path.Whole (space_in area table)) m (locking m table more >> k)
    (λ g. gathering s more (rows ++ came_in s area g) >>= (λ _. k)) (λ v. locks m table more (rows ++ []) k v) u
    ∙ sym (plans_assoc (locked (goal_in s area)) (λ g. gathering s more (rows ++ came_in s area g)) (λ _. k) u)
