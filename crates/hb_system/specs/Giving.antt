-- The disks of nodes, in the order of the nodes.
use Rattle.std.specs.Prelude.{◌≡◌, ◌↔◌, ℕ, ◌+◌, List, [], ◌∷◌, ⊤}
use Rattle.hb_edge.specs.Images.{Image}
use Rattle.hb_system.specs.declared.node.SystemNode.{SystemNode}
use Rattle.hb_system.specs.declared.node.SystemNode.TheVariants.{Front, Server}

-- each front end with its log, each server with its log and its area, one behind another
abbrev pub Seats : {D F S : Type 0} → (F → D → Type 0) → (S → D → D → Type 0) → List (SystemNode F S) → List D → Type 0
Seats P Q [] [] = ⊤
Seats P Q (Front f ∷ nodes) (log ∷ disks) = P f log × Seats P Q nodes disks
Seats P Q (Server s ∷ nodes) (log ∷ area ∷ disks) = Q s log area × Seats P Q nodes disks
Seats P Q _ _ = ⊥

-- a stop leaves on the disk what it leaves on the log of the node
abbrev pub IsLogOf : {D N : Type 0} → (D → ℕ → Image → Type 0) → (N → ℕ → Image → Image → Type 0) → N → D → Type 0
IsLogOf left leaves node log = (at : ℕ) (image : Image) → leaves node at image [] ↔ left log at image

-- a stop leaves on the two disks what it leaves on the log and the area of the node
abbrev pub AreDisksOf : {D N : Type 0} → (D → ℕ → Image → Type 0) → (N → ℕ → Image → Image → Type 0) → N → D → D → Type 0
AreDisksOf left leaves node log area = (at : ℕ) (in_log in_area : Image) → leaves node at in_log in_area ↔ (left log at in_log × left area at in_area)

-- the disks that nodes give back
abbrev pub Gives : {D F S : Type 0} → (D → ℕ → Image → Type 0) → (F → ℕ → Image → Image → Type 0) → (S → ℕ → Image → Image → Type 0) → List (SystemNode F S) → List D → Type 0
Gives left front server nodes disks = Seats (IsLogOf left front) (AreDisksOf left server) nodes disks

-- a node begins with the failures of its disks
abbrev pub Counts : {D F S : Type 0} → (D → ℕ) → (F → ℕ) → (S → ℕ) → List (SystemNode F S) → List D → Type 0
Counts faults front server nodes disks = Seats (λ f log. front f ≡ faults log) (λ s log area. server s ≡ faults log + faults area) nodes disks
