-- A lock with a request behind it, inside a longer plan, is an access.
use Rattle.std.proofs.Common.{◌≡◌, ℕ, true, false, List, Option, refl, sym, ◌∙◌}
use Rattle.hb_types.specs.declared.change.Change.{Change}
use Rattle.hb_types.specs.declared.change.Stored.{Stored}
use Rattle.hb_types.specs.declared.lock.Mode.{Mode}
use Rattle.hb_types.specs.declared.names.NodeName.{NodeName}
use Rattle.hb_types.specs.declared.places.Path.{Path}
use Rattle.hb_types.specs.declared.places.Path.TheVariants as path
use Rattle.hb_types.specs.declared.places.Place.{Place}
use Rattle.hb_types.specs.declared.places.Space.{Space}
use Rattle.hb_talk.specs.Talk.{Use, Planning, ◌>>=◌, ◌>>◌, pure, lock, read, scan, scan_group, write}
use Rattle.hb_access.specs.declared.goal.Goal.{Goal}
use Rattle.hb_access.specs.declared.goal.Got.{Got}
use Rattle.hb_access.specs.declared.goal.Got.TheVariants as got
use Rattle.hb_access.specs.Accesses.{locked, behind_lock, under, written}
use Rattle.hb_access.proofs.Sequences.{plans_assoc, then_same}

abbrev pub goal_of : NodeName → Path → Mode → Goal
goal_of node p m = record { node = node; path = p; mode = m; reads = true }

abbrev pub lock_of : NodeName → Path → Mode → Goal
lock_of node p m = record { node = node; path = p; mode = m; reads = false }

-- what follows a goal, behind its lock
behind : {B : Type 0} (g : Goal) (rest : Planning B) (F : Got → Planning B) → ((v : Use) → rest v ≡ (behind_lock g >>= F) v)
    → (u : Use) → (lock g.node.0 g.path g.mode >> rest) u ≡ (locked g >>= F) u
behind g rest F h u =
    then_same (lock g.node.0 g.path g.mode) (λ _. rest) (λ _. behind_lock g >>= F) (λ _ v. h v) u
    ∙ sym (plans_assoc (lock g.node.0 g.path g.mode) (λ _. behind_lock g) F u)

pub reads_row : {B : Type 0} (node : NodeName) (p : Place) (m : Mode) (k : Option (List ℕ) → Planning B) (F : Got → Planning B)
    → ((row : Option (List ℕ)) (v : Use) → k row v ≡ F (got.Row row) v) → (u : Use)
    → (lock node.0 (path.Key p) m >> (read node.0 p >>= k)) u ≡ (locked (goal_of node (path.Key p) m) >>= F) u
reads_row node p m k F h u = behind (goal_of node (path.Key p) m) (read node.0 p >>= k) F
    (λ v. then_same (read node.0 p) k (λ row. pure (got.Row row) >>= F) (λ row w. h row w) v
    ∙ sym (plans_assoc (read node.0 p) (λ row. pure (got.Row row)) F v)) u

pub reads_space : {B : Type 0} (node : NodeName) (s : Space) (m : Mode) (k : List Stored → Planning B) (F : Got → Planning B)
    → ((rows : List Stored) (v : Use) → k rows v ≡ F (got.Rows rows) v) → (u : Use)
    → (lock node.0 (path.Whole s) m >> (scan node.0 s >>= k)) u ≡ (locked (goal_of node (path.Whole s) m) >>= F) u
reads_space node s m k F h u = behind (goal_of node (path.Whole s) m) (scan node.0 s >>= k) F
    (λ v. then_same (scan node.0 s) k (λ rows. pure (got.Rows rows) >>= F) (λ rows w. h rows w) v
    ∙ sym (plans_assoc (scan node.0 s) (λ rows. pure (got.Rows rows)) F v)) u

pub reads_group : {B : Type 0} (node : NodeName) (s : Space) (g : ℕ) (m : Mode) (k : List Stored → Planning B) (F : Got → Planning B)
    → ((rows : List Stored) (v : Use) → k rows v ≡ F (got.Rows rows) v) → (u : Use)
    → (lock node.0 (path.Group s g) m >> (scan_group node.0 s g >>= k)) u ≡ (locked (goal_of node (path.Group s g) m) >>= F) u
reads_group node s g m k F h u = behind (goal_of node (path.Group s g) m) (scan_group node.0 s g >>= k) F
    (λ v. then_same (scan_group node.0 s g) k (λ rows. pure (got.Rows rows) >>= F) (λ rows w. h rows w) v
    ∙ sym (plans_assoc (scan_group node.0 s g) (λ rows. pure (got.Rows rows)) F v)) u

pub locks_only : {B : Type 0} (node : NodeName) (p : Path) (m : Mode) (k : Planning B) (F : Got → Planning B)
    → ((v : Use) → k v ≡ F got.Nothing v) → (u : Use) → (lock node.0 p m >> k) u ≡ (locked (lock_of node p m) >>= F) u
locks_only node p m k F h u = behind (lock_of node p m) k F h u

pub writes_one : {B : Type 0} (node : NodeName) (c : Change) (k : Planning B) (F : Got → Planning B)
    → ((v : Use) → k v ≡ F got.Nothing v) → (u : Use) → (write node.0 c >> k) u ≡ (written node.0 c >>= F) u
writes_one node c k F h u =
    then_same (write node.0 c) (λ _. k) (λ _. pure got.Nothing >>= F) (λ _ v. h v) u
    ∙ sym (plans_assoc (write node.0 c) (λ _. pure got.Nothing) F u)
