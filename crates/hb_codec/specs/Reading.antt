-- What reading bytes against a grammar gives. A grammar says which bytes spell which value.
use Rattle.std.specs.Prelude.{◌≡◌, ℕ, ◌≤◌, List, ◌++◌, length, take}

-- these bytes begin a spelling
abbrev pub Begins : {X : Type 0} → (X → List ℕ → Type 0) → List ℕ → Type 0
Begins {X} spells front = (x : X) × (rest : List ℕ) × spells x (front ++ rest)

-- the length of the longest front that begins a spelling
pub record IsPlace {X : Type 0} (spells : X → List ℕ → Type 0) (bytes : List ℕ) (place : ℕ) : Type 0 where
  pub within : place ≤ length bytes
  pub begins : Begins spells (take place bytes)
  pub longest : (n : ℕ) → n ≤ length bytes → Begins spells (take n bytes) → n ≤ place

-- the bytes are no spelling, and this is how far they begin one
pub record Misspells {X : Type 0} (spells : X → List ℕ → Type 0) (bytes : List ℕ) (place : ℕ) : Type 0 where
  pub none : (x : X) → spells x bytes → ⊥
  pub at : IsPlace spells bytes place

-- no front of the bytes is a spelling, and this is how far they begin one
pub record Misreads {X : Type 0} (spells : X → List ℕ → Type 0) (bytes : List ℕ) (place : ℕ) : Type 0 where
  pub none : (x : X) (n : ℕ) → n ≤ length bytes → spells x (take n bytes) → ⊥
  pub at : IsPlace spells bytes place

-- a front of this length spells the value
pub record Finds {X : Type 0} (spells : X → List ℕ → Type 0) (bytes : List ℕ) (x : X) (used : ℕ) : Type 0 where
  pub within : used ≤ length bytes
  pub spelled : spells x (take used bytes)

-- no spelling begins another
abbrev pub OneForm : {X : Type 0} → (X → List ℕ → Type 0) → Type 0
OneForm {X} spells = (x y : X) (a b u v : List ℕ) → spells x a → spells y b → a ++ u ≡ b ++ v → (a ≡ b) × (x ≡ y)
