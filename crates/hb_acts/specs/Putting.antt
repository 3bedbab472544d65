-- What is put of a text.
use Rattle.std.specs.Prelude.{◌≡◌, List, ◌++◌, ℕ, Option}
use Rattle.hb_edge.specs.Streams.{with_end}

abbrev pub IsFront : {X : Type 0} → List X → List X → Type 0
IsFront {X} front whole = (rest : List X) × (whole ≡ front ++ rest)

-- the sink gained a front of the text
pub record PutsFront (old new : Option (List ℕ)) (text : List ℕ) : Type 0 where
  pub shown : List ℕ
  pub gained : new ≡ with_end shown old
  pub front : IsFront shown text
